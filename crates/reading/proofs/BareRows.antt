-- The characters that a block stands as: each is one of the 50, and neither NUL, DEL, "(" nor ")".
use Prim.Native.Nat.{ℕ}
use mathlib.Core.Bool.{Bool, true, false, ◌&&◌, not, cond}
use mathlib.Core.List.{List, [], ◌∷◌, ◌++◌}
use native.Mathlib.Omega.{arith}
use lib.Dec.{T, ltb}
use lib.IntN.{ℤ}
use Rattle.rows.specs.Row.{characters, among}
use Rattle.rows.specs.Passes.{Every}
use Rattle.rows.proofs.Every.{every_map, every_append}
use Rattle.shorthand.specs.declared.Missing.{Missing}
use Rattle.shorthand.specs.declared.Kind.{Kind}
use Rattle.shorthand.specs.declared.Item.{Item}
use Rattle.shorthand.specs.declared.Format.{Format}
use Rattle.shorthand.specs.Layout.{Way, by_letter, by_both, by_tab, Sign}
use Rattle.shorthand.specs.Facts.{Fair, more, Facts}
use Rattle.shorthand.specs.Edition.{letters}
use Rattle.speeds.proofs.Answers.{read_short}
use Rattle.words.specs.declared.Value.{Value}
use Rattle.words.specs.declared.Word.{Word}
use Rattle.parts.specs.declared.Begun.{Begun}
use Rattle.reading.specs.declared.Block.{Block}
use Rattle.reading.specs.Relation.{digits, Punched, in_full, front, back, Signed, never, plus, minus, plus_stands, minus_stands, plus_missing, Data, number, speed, dimension, address, Worded, word, tab, Words, done, out, here, End, lf, cr_lf, skip_rows, start_rows, Start, counted, Blocked, block}
use Rattle.reading.proofs.DigitRows.{Digit, digits-digit, leading-digit, trailing-digit}
use Rattle.reading.proofs.Ranges.{all_from, in-range, in_list}

-- one of the 50 characters, and neither NUL, DEL, "(" nor ")"
abbrev pub bare : ℕ → Bool
bare c = ltb c 128 && (among c characters && not (among c (0 ∷ 127 ∷ 40 ∷ 41 ∷ [])))

abbrev pub Bare : List ℕ → Type 0
Bare cs = Every (λ c. T (bare c)) cs

joined : (xs ys : List ℕ) → Bare xs → Bare ys → Bare (xs ++ ys)
joined xs ys p q = every_append (λ c. T (bare c)) xs ys p q

pub digits-bare : (ds : List ℕ) → Every Digit ds → Bare ds
unfolding all_from
digits-bare ds all = every_map (λ c h. in-range bare 48 10 c tt h.0 (omega arith)) ds all

figures-digit : {n v : ℕ} {z : Missing} {ds : List ℕ} → Punched n v z ds → Every Digit ds
figures-digit {n} {v} (in_full h) = digits-digit n v h
figures-digit {n} {v} {ds = ds} (front j h e some) = leading-digit n v j ds h e
figures-digit {n} {v} {ds = ds} (back j h e some) = trailing-digit n v j ds h e

sign-bare : {m : ℕ} {s : Sign} {z : ℤ} {x : List ℕ} → Signed m s z x → Bare x
sign-bare never = tt
sign-bare plus = (tt, tt)
sign-bare minus = (tt, tt)
sign-bare plus_stands = (tt, tt)
sign-bare minus_stands = (tt, tt)
sign-bare plus_missing = tt

data-bare : {k : Kind} {v : Value} {ds : List ℕ} → Data k v ds → Bare ds
data-bare (number {ds = ds} p) = digits-bare ds (figures-digit p)
data-bare (speed {k = k} c e) = digits-bare (digits k c) (digits-digit k c (read_short k c e))
data-bare (dimension {s = s} {ds = ds} g p) = joined s ds (sign-bare g) (digits-bare ds (figures-digit p))

address-bare : (y : Way) (it : Item) → T (bare it.letter) → Bare (address y it)
address-bare by_letter it l = (l, tt)
address-bare by_both it l = (l, tt)
address-bare by_tab it l = tt

word-bare : {y : Way} {it : Item} {w : Word} {d : List ℕ} → T (bare it.letter) → Worded y it w d → Bare d
word-bare {y} {it} l (word {ds = ds} d) = joined (address y it) ds (address-bare y it l) (data-bare d)

tab-bare : (y : Way) → Bare (tab y)
tab-bare by_letter = tt
tab-bare by_both = (tt, tt)
tab-bare by_tab = (tt, tt)

words-bare : {y : Way} {its : List Item} {ws : List Word} {r : List ℕ} → Fair its → Words y its ws r → Bare r
words-bare fair done = tt
words-bare {y} (more l w n fair) (out {r = r} h) = joined (tab y) r (tab-bare y) (words-bare fair h)
words-bare {y} (more l w n fair) (here {it = it} {d = d} {r = r} x h) =
    joined (tab y) (d ++ r) (tab-bare y) (joined d r (word-bare (in_list bare letters it.letter tt l) x) (words-bare fair h))

end-bare : {e : List ℕ} → End e → Bare e
end-bare lf = (tt, tt)
end-bare cr_lf = (tt, (tt, tt))

skip-bare : (skip : Bool) → Bare (skip_rows skip)
skip-bare true = (tt, tt)
skip-bare false = tt

letter-bare : (alignment : Bool) → T (bare (cond alignment 58 78))
letter-bare true = tt
letter-bare false = tt

start-bare : {f : Format} {s : Begun} → Start f s → Bare (start_rows f.sequence s)
start-bare {f} (counted {n} skip alignment h) =
    joined (skip_rows skip) _ (skip-bare skip) (letter-bare alignment, digits-bare (digits f.sequence n) (digits-digit f.sequence n h))
start-bare (Start.bare skip h) = joined (skip_rows skip) [] (skip-bare skip) tt

-- each is one of the 50, and neither NUL, DEL, "(" nor ")"
pub block-bare : {f : Format} {b : Block} {r : List ℕ} → Facts f → Blocked f b r → Bare r
block-bare {f} facts (block {s} {r = r} {e = e} start some w x) =
    joined (start_rows f.sequence s) (r ++ e) (start-bare start) (joined r e (words-bare facts.fair w) (end-bare x))
