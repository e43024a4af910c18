-- Words that stand as the items allow are read, in whatever way they are known.
use Prim.Native.Nat.{ℕ}
use mathlib.Core.Path.{◌≡◌, refl, ◌∙◌}
use mathlib.Core.Bool.{Bool, true, false, ◌||◌, not}
use mathlib.Core.List.{List, [], ◌∷◌, ◌++◌, append_assoc, map}
use native.Mathlib.Omega.{arith}
use lib.Dec.{T, eqb}
use lib.Ieee.Bits.{is_false}
use borrow.Author.Tests.{eqb-true, eq-eqb}
use Rattle.rows.specs.Kept.{KeptRow}
use Rattle.shorthand.specs.declared.Item.{Item}
use Rattle.shorthand.specs.Edition.{letters, any_of}
use Rattle.shorthand.specs.Layout.{Way, by_letter, by_both, by_tab}
use Rattle.shorthand.specs.Facts.{Widths, Fair, none, more}
use Rattle.words.specs.declared.Value.{Value}
use Rattle.words.specs.declared.Word.{Word}
use Rattle.reading.specs.Relation.{Data, address, word, tab, Words, done, out, here, End, lf, cr_lf, chars}
use Rattle.words.specs.Figures.{front_place, is_digit, is_figure}
use Rattle.words.specs.Data.{word_at}
use Rattle.parts.specs.Items.{steps, stepped, begins, past_address}
use Rattle.reading.specs.Parse.{words_at}
use Rattle.reading.proofs.RowsAhead.{heads, fronts-heads, figure-heads, behind-chars, Takes}
use Rattle.reading.proofs.WordTakes.{data-front, word-takes}

-- ---- what stands at the front of words

pub neither : (a b : Bool) → (a || b) ≡ false → (a ≡ false) × (b ≡ false)
neither true b e = let z : ◌≡◌ {A = ℕ} 0 1 = cc in absurd (omega arith)
neither false b e = (refl, e)

-- a test that fails on every letter fails on each
pub fails : (p : ℕ → Bool) (ls : List ℕ) (c : ℕ) → T (any_of (λ l. eqb l c) ls) → any_of p ls ≡ false → p c ≡ false
fails p [] c t h = absurd t
fails p (l ∷ ls) c t h = go (eqb l c) refl t (neither (p l) (any_of p ls) h) (fails p ls c)
  where
    go : (x : Bool) → eqb l c ≡ x → T (x || any_of (λ k. eqb k c) ls) → (p l ≡ false) × (any_of p ls ≡ false)
        → (T (any_of (λ k. eqb k c) ls) → any_of p ls ≡ false → p c ≡ false) → p c ≡ false
    go true e t h rest = rw (← (eqb-true l c e)) h.0
    go false e t h rest = rest t h.1

-- and so on the letters of items
pub fair-fails : (p : ℕ → Bool) → any_of p letters ≡ false → {its : List Item} → Fair its → any_of p (map (λ i. i.letter) its) ≡ false
fair-fails p h none = refl
fair-fails p h (more {it} l w d f) = rw (fails p letters it.letter l h) (fair-fails p h f)

-- an end begins with LF or CR
pub data AtEnd : List ℕ → Type 0 where
  at_lf : {s : List ℕ} → AtEnd (10 ∷ s)
  at_cr : {s : List ℕ} → AtEnd (13 ∷ s)

pub end-ahead : {e : List ℕ} → End e → (s : List ℕ) → AtEnd (e ++ s)
end-ahead lf s = at_lf
end-ahead cr_lf s = at_cr

end-front : (p : ℕ → Bool) → p 10 ≡ false → p 13 ≡ false → {z : List ℕ} → AtEnd z → heads p z ≡ false
end-front p l c at_lf = l
end-front p l c at_cr = c

-- what fails on HT and an item's letter fails on the first row of a tab and an address
module _ (p : ℕ → Bool) (ht : p 9 ≡ false) where
  pub tab-front : (y : Way) (r : List ℕ) → heads p r ≡ false → heads p (tab y ++ r) ≡ false
  tab-front by_letter r h = h
  tab-front by_both r h = ht
  tab-front by_tab r h = ht

  pub word-front : (y : Way) (it : Item) (x : List ℕ) → p it.letter ≡ false → heads p (tab y ++ (address y it ++ x)) ≡ false
  word-front by_letter it x h = h
  word-front by_both it x h = ht
  word-front by_tab it x h = ht

-- what fails on HT, LF, CR and the items' letters fails on what stands at the front of words before an end
module _ (p : ℕ → Bool) (ht : p 9 ≡ false) (l : p 10 ≡ false) (c : p 13 ≡ false) {z : List ℕ} (end : AtEnd z) where
  words-front : {y : Way} {its : List Item} {ws : List Word} {r : List ℕ} → Words y its ws r → any_of p (map (λ i. i.letter) its) ≡ false → heads p (r ++ z) ≡ false
  words-front done h = end-front p l c end
  words-front {y} (out {it} {its} {r = r} w) h = rw (append_assoc (tab y) r z) (tab-front p ht y (r ++ z) (words-front w (neither (p it.letter) _ h).1))
  words-front {y} (here {it} {its} {r = r} (word {ds = ds} q) w) h =
      rw (append_assoc (tab y) (address y it ++ ds ++ r) z, append_assoc (address y it) ds r, append_assoc (address y it) (ds ++ r) z)
      (word-front p ht y it (ds ++ r ++ z) (neither (p it.letter) _ h).0)

-- no digit stands there
pub words-apart : {its : List Item} → Fair its → {y : Way} {ws : List Word} {r z : List ℕ} → Words y its ws r → AtEnd z → heads is_digit (r ++ z) ≡ false
words-apart fair w end = words-front is_digit refl refl refl end w (fair-fails is_digit refl fair)

-- ---- with what an item's word begins

abbrev pub beginning : Way → Item → ℕ → Bool
beginning by_letter it c = eqb c it.letter
beginning by_both it c = eqb c it.letter
beginning by_tab it c = is_figure c

pub begins-heads : (y : Way) (it : Item) (rs : List KeptRow) → begins y it.letter rs ≡ heads (beginning y it) (chars rs)
begins-heads by_letter it rs = fronts-heads it.letter rs
begins-heads by_both it rs = fronts-heads it.letter rs
begins-heads by_tab it rs = figure-heads rs

-- the letter of an item is not at the front of the words of the items after it
letter-behind : (it : Item) (its : List Item) → T (any_of (λ c. eqb c it.letter) letters) → T (not (any_of (λ c. eqb c it.letter) (map (λ i. i.letter) its)))
    → {y : Way} {ws : List Word} {r z : List ℕ} → Words y its ws r → AtEnd z → heads (λ c. eqb c it.letter) (r ++ z) ≡ false
letter-behind it its l d w end =
    let other : (c : ℕ) → any_of (λ k. eqb c k) letters ≡ false → eqb c it.letter ≡ false = λ c h. fails (λ k. eqb c k) letters it.letter l h in
    words-front (λ c. eqb c it.letter) (other 9 refl) (other 10 refl) (other 13 refl) end w (is_false _ d)

-- so its word does not begin there
not-ahead : (y : Way) (it : Item) (its : List Item) → Fair (it ∷ its) → {ws : List Word} {r z : List ℕ} → Words y its ws r → AtEnd z → heads (beginning y it) (r ++ z) ≡ false
not-ahead by_letter it its (more l w d f) v end = letter-behind it its l d v end
not-ahead by_both it its (more l w d f) v end = letter-behind it its l d v end
not-ahead by_tab it its (more l w d f) v end = words-front is_figure refl refl refl end v (fair-fails is_figure refl f)

-- but at the front of its own rows, and its data stand behind the address
pub own-front : (y : Way) (it : Item) {x : Value} {d : List ℕ} → Data it.kind x d → Widths it.kind → (u : List ℕ) → heads (beginning y it) (address y it ++ (d ++ u)) ≡ true
own-front by_letter it q w u = eq-eqb it.letter it.letter refl
own-front by_both it q w u = eq-eqb it.letter it.letter refl
own-front by_tab it q w u = data-front q w u

pub past-chars : (y : Way) (it : Item) (u : List ℕ) (rs : List KeptRow) → chars rs ≡ address y it ++ u → chars (past_address y rs) ≡ u
past-chars by_letter it u rs e = behind-chars it.letter u rs e
past-chars by_both it u rs e = behind-chars it.letter u rs e
past-chars by_tab it u rs e = e

-- ---- words

-- where the tab stands, if any, the next item is reached
pub step-takes : (y : Way) (rs : List KeptRow) (x : List ℕ) → chars rs ≡ tab y ++ x → (steps y rs ≡ true) × (chars (stepped y rs) ≡ x)
step-takes by_letter rs x e = (refl, e)
step-takes by_both rs x e = (rw (fronts-heads 9 rs, e), behind-chars 9 x rs e)
step-takes by_tab rs x e = (rw (fronts-heads 9 rs, e), behind-chars 9 x rs e)

module _ (len : ℕ) (y : Way) (it : Item) (its : List Item) (rs : List KeptRow) (x u : List ℕ) (step : steps y rs ≡ true) (q : chars (stepped y rs) ≡ x) where
  -- an item whose word does not begin here is passed by
  pass-item : (ws : List Word) → heads (beginning y it) x ≡ false → Takes (words_at len y its (stepped y rs)) ws u → Takes (words_at len y (it ∷ its) rs) ws u
  unfolding words_at
  pass-item ws h t = rw (step, begins-heads y it (stepped y rs), q, h) t

  -- an item's word is taken, and then the words behind it
  take-item : (w : Word) (ws : List Word) (v : List ℕ) → heads (beginning y it) x ≡ true → Takes (word_at len it (front_place (stepped y rs)) (past_address y (stepped y rs))) w v
      → ((rs' : List KeptRow) → chars rs' ≡ v → Takes (words_at len y its rs') ws u) → Takes (words_at len y (it ∷ its) rs) (w ∷ ws) u
  unfolding words_at
  take-item w ws v h t rest =
      let k = rest t.rest t.leaves in
      record { rest = k.rest; takes = rw (step, begins-heads y it (stepped y rs), q, h, t.takes, k.takes); leaves = k.leaves }

-- where no word is left, an end stands at the front
none-take : (len : ℕ) (y : Way) {z : List ℕ} → AtEnd z → {its : List Item} → Fair its → (rs : List KeptRow) → chars rs ≡ z → Takes (words_at len y its rs) [] z
unfolding words_at
none-take len y end none rs q = record { rest = rs; takes = refl; leaves = q }
none-take len by_letter end (more {it} {its} l w d f) rs q =
    pass-item len by_letter it its rs _ _ refl q [] (not-ahead by_letter it its (more l w d f) done end) (none-take len by_letter end f rs q)
none-take len by_both end (more l w d f) rs q = record { rest = rs; takes = rw (fronts-heads 9 rs, q, end-front (λ c. eqb c 9) refl refl end); leaves = q }
none-take len by_tab end (more l w d f) rs q = record { rest = rs; takes = rw (fronts-heads 9 rs, q, end-front (λ c. eqb c 9) refl refl end); leaves = q }

pub words_take : (len : ℕ) (y : Way) {z : List ℕ} → AtEnd z → {its : List Item} {ws : List Word} {r : List ℕ} → Words y its ws r → Fair its → (rs : List KeptRow) → chars rs ≡ r ++ z
    → Takes (words_at len y its rs) ws z
words_take len y end done fair rs q = none-take len y end fair rs q
words_take len y {z} end (out {it} {its} {ws} {r} v) (more l w d f) rs q =
    let st = step-takes y rs (r ++ z) (q ∙ append_assoc (tab y) r z) in
    pass-item len y it its rs _ _ st.0 st.1 ws (not-ahead y it its (more l w d f) v end) (words_take len y end v f (stepped y rs) st.1)
words_take len y {z} end (here {it} {its} {w} {ws} {r = r} (word {x} {ds} p) v) (more l k u f) rs q =
    let st = step-takes y rs (address y it ++ (ds ++ (r ++ z))) (q ∙ simp append_assoc) in
    let t = word-takes it p k len (front_place (stepped y rs)) (past_address y (stepped y rs)) (r ++ z) (past-chars y it _ (stepped y rs) st.1) (words-apart f v end) in
    take-item len y it its rs _ _ st.0 st.1 w ws _ (own-front y it p k _) t (λ rs' h. words_take len y end v f rs' h)
