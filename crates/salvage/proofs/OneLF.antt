-- How often LF stands among characters: once in a head, and once in a block.
use Prim.Native.Nat.{ℕ, ◌+◌}
use mathlib.Core.Path.{◌≡◌, refl}
use mathlib.Core.Bool.{Bool, true, false, cond}
use mathlib.Core.List.{List, [], ◌∷◌, ◌++◌}
use native.Mathlib.Omega.{arith}
use lib.Dec.{eqb}
use lib.IntN.{ℤ}
use borrow.Author.Tests.{ne_eqb}
use Rattle.rows.specs.Passes.{Every}
use Rattle.rows.proofs.Every.{every_map, every_append}
use Rattle.speeds.proofs.Answers.{read_short}
use Rattle.shorthand.specs.declared.Kind.{Kind}
use Rattle.shorthand.specs.declared.Item.{Item}
use Rattle.shorthand.specs.declared.Format.{Format}
use Rattle.shorthand.specs.Edition.{letters}
use Rattle.shorthand.specs.Facts.{Fair, more, Facts}
use Rattle.shorthand.specs.Layout.{Way, by_letter, by_both, by_tab, Sign}
use Rattle.words.specs.declared.Value.{Value}
use Rattle.words.specs.declared.Word.{Word}
use Rattle.parts.specs.declared.Begun.{Begun}
use Rattle.reading.specs.declared.Block.{Block}
use Rattle.reading.specs.Relation.{digits, Signed, never, plus, minus, plus_stands, minus_stands, plus_missing, Data, number, speed, dimension, address, Worded, word, tab, Words, done, out, here, End, lf, cr_lf, start_rows, Start, counted, bare, Blocked, block}
use Rattle.reading.proofs.DigitRows.{Digit, digits-digit}
use Rattle.reading.proofs.WordTakes.{reads}
use Rattle.reading.proofs.WordsTake.{fails}

-- how many of some numbers a test takes
abbrev pub count : (ℕ → Bool) → List ℕ → ℕ
count p [] = 0
count p (b ∷ t) = cond (p b) 1 0 + count p t

module _ (p : ℕ → Bool) where
  pub count-append : (a b : List ℕ) → count p (a ++ b) ≡ count p a + count p b
  count-append [] b = omega arith
  count-append (x ∷ a) b = omega (arith, count-append a b)

  pub count_none : (xs : List ℕ) → Every (λ c. p c ≡ false) xs → count p xs ≡ 0
  count_none [] all = refl
  count_none (x ∷ xs) all = rw all.0 (omega (arith, count_none xs all.1))

  pub none-counted : (xs : List ℕ) → count p xs ≡ 0 → Every (λ c. p c ≡ false) xs
  none-counted [] e = tt
  none-counted (x ∷ xs) e = let k = by (p x) e in (k.0, none-counted xs k.1)
    where
      by : (b : Bool) → cond b 1 0 + count p xs ≡ 0 → (b ≡ false) × (count p xs ≡ 0)
      by true h = absurd (omega arith)
      by false h = (refl, omega arith)

-- how many of some characters are LF
abbrev pub tens : List ℕ → ℕ
tens x = count (λ c. eqb c 10) x

-- none of them is
abbrev Other : List ℕ → Type 0
Other x = Every (λ c. eqb c 10 ≡ false) x

both : (x y : List ℕ) → Other x → Other y → Other (x ++ y)
both x y p q = every_append _ x y p q

digits-other : (ds : List ℕ) → Every Digit ds → Other ds
digits-other ds all = every_map (λ c h. ne_eqb c 10 (λ e. omega arith)) ds all

sign-other : {m : ℕ} {s : Sign} {z : ℤ} {x : List ℕ} → Signed m s z x → Other x
sign-other never = tt
sign-other plus = (refl, tt)
sign-other minus = (refl, tt)
sign-other plus_stands = (refl, tt)
sign-other minus_stands = (refl, tt)
sign-other plus_missing = tt

data-other : {k : Kind} {v : Value} {ds : List ℕ} → Data k v ds → Other ds
data-other (number {ds = ds} p) = digits-other ds (reads p).digit
data-other (speed {k = k} c e) = digits-other (digits k c) (digits-digit k c (read_short k c e))
data-other (dimension {s = s} {ds = ds} g p) = both s ds (sign-other g) (digits-other ds (reads p).digit)

address-other : (y : Way) (it : Item) → eqb it.letter 10 ≡ false → Other (address y it)
address-other by_letter it l = (l, tt)
address-other by_both it l = (l, tt)
address-other by_tab it l = tt

word-other : {y : Way} {it : Item} {w : Word} {d : List ℕ} → eqb it.letter 10 ≡ false → Worded y it w d → Other d
word-other {y} {it} l (word {ds = ds} d) = both (address y it) ds (address-other y it l) (data-other d)

tab-other : (y : Way) → Other (tab y)
tab-other by_letter = tt
tab-other by_both = (refl, tt)
tab-other by_tab = (refl, tt)

words-other : {y : Way} {its : List Item} {ws : List Word} {r : List ℕ} → Fair its → Words y its ws r → Other r
words-other fair done = tt
words-other {y} (more l w n fair) (out {r = r} h) = both (tab y) r (tab-other y) (words-other fair h)
words-other {y} (more l w n fair) (here {it = it} {d = d} {r = r} x h) =
    both (tab y) (d ++ r) (tab-other y) (both d r (word-other (fails (λ c. eqb c 10) letters it.letter l refl) x) (words-other fair h))

number-other : (alignment : Bool) (ds : List ℕ) → Every Digit ds → Other (cond alignment 58 78 ∷ ds)
number-other true ds all = (refl, digits-other ds all)
number-other false ds all = (refl, digits-other ds all)

start-other : {f : Format} {s : Begun} → Start f s → Other (start_rows f.sequence s)
start-other {f} (counted {n} true alignment h) = (refl, number-other alignment (digits f.sequence n) (digits-digit f.sequence n h))
start-other {f} (counted {n} false alignment h) = number-other alignment (digits f.sequence n) (digits-digit f.sequence n h)
start-other (bare true h) = (refl, tt)
start-other (bare false h) = tt

-- an end holds one LF
end-one : {e : List ℕ} → End e → tens e ≡ 1
end-one lf = refl
end-one cr_lf = refl

-- and so does a head
pub head-one : {e : List ℕ} → End e → tens (37 ∷ e) ≡ 1
head-one lf = refl
head-one cr_lf = refl

-- and so does a block
pub block_one : {f : Format} {b : Block} {x : List ℕ} → Facts f → Blocked f b x → tens x ≡ 1
block_one {f} facts (block {s} {r = r} {e = e} start some w end) =
    let x = start_rows f.sequence s in
    let q : ℕ → Bool = λ c. eqb c 10 in
    omega (arith, count-append q x (r ++ e), count-append q r e, count_none q x (start-other start), count_none q r (words-other facts.fair w), end-one end)
