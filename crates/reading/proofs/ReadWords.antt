-- What the parsers of words read, in whatever way they are known.
use Prim.Native.Nat.{ℕ}
use mathlib.Core.Path.{◌≡◌, refl}
use mathlib.Core.Bool.{Bool, true, false, cond, false≢true}
use mathlib.Core.List.{List, [], ◌∷◌, ◌++◌, append-nil, append_assoc}
use borrow.Author.Tests.{eqb-true}
use Rattle.rows.specs.Kept.{KeptRow}
use Rattle.rows.specs.Passes.{Every}
use Rattle.shorthand.specs.declared.Item.{Item}
use Rattle.shorthand.specs.Layout.{Way, by_letter, by_both, by_tab}
use Rattle.reading.specs.Relation.{address, Worded, word, tab, Words, done, out, here, chars}
use Rattle.words.specs.Figures.{fronts, behind, front_place, figure_next}
use Rattle.words.specs.Data.{word_at}
use Rattle.parts.specs.Items.{steps, stepped, begins, past_address, stops, out, at}
use Rattle.reading.specs.Parse.{resumed, words_at}
use Rattle.rows.proofs.Outcomes.{Holds}
use Rattle.reading.proofs.Outcomes.{Reads, Table, Placed, next_row, chars-append, reads-done, reads-map, reads-after, reads_then}
use Rattle.reading.proofs.ReadData.{Sayable, data-read}

-- the row c at the front, and the rows behind it
pub record Fronted (P : ℕ → Type 0) (c : ℕ) (rs : List KeptRow) : Type 0 where
  pub row : KeptRow
  pub split : rs ≡ (row ∷ []) ++ behind rs
  pub is : row.char ≡ c
  pub first : P (front_place rs)
  pub after : Placed P (behind rs)

pub fronted : {P : ℕ → Type 0} (c : ℕ) (rs : List KeptRow) → Placed P rs → fronts c rs ≡ true → Fronted P c rs
fronted c [] all e = absurd (false≢true e)
fronted c (r ∷ rs) (next_row h all) e = record { row = r; split = refl; is = eqb-true r.char c e; first = h; after = all }

-- the rows by which the next item is reached
pub record Stepped (P : ℕ → Type 0) (y : Way) (rs : List KeptRow) : Type 0 where
  pub took : List KeptRow
  pub split : rs ≡ took ++ stepped y rs
  pub is : chars took ≡ tab y
  pub after : Placed P (stepped y rs)

tab-over : {P : ℕ → Type 0} (rs : List KeptRow) → Placed P rs → fronts 9 rs ≡ true → Stepped P by_both rs
tab-over rs all e = let f = fronted 9 rs all e in record { took = f.row ∷ []; split = f.split; is = rw f.is; after = f.after }

pub steps-over : {P : ℕ → Type 0} (y : Way) (rs : List KeptRow) → Placed P rs → steps y rs ≡ true → Stepped P y rs
steps-over by_letter rs all e = record { took = []; split = refl; is = refl; after = all }
steps-over by_both rs all e = tab-over rs all e
steps-over by_tab rs all e = let t = tab-over rs all e in record { took = t.took; split = t.split; is = t.is; after = t.after }

-- the rows of an item's address where its word begins
pub record Addressed (P : ℕ → Type 0) (y : Way) (it : Item) (rs : List KeptRow) : Type 0 where
  pub took : List KeptRow
  pub split : rs ≡ took ++ past_address y rs
  pub is : chars took ≡ address y it
  pub first : P (front_place rs)
  pub after : Placed P (past_address y rs)

letter-over : {P : ℕ → Type 0} (it : Item) (rs : List KeptRow) → Placed P rs → fronts it.letter rs ≡ true → Addressed P by_both it rs
letter-over it rs all e = let f = fronted it.letter rs all e in record { took = f.row ∷ []; split = f.split; is = rw f.is; first = f.first; after = f.after }

figure-over : {P : ℕ → Type 0} (it : Item) (rs : List KeptRow) → Placed P rs → figure_next rs ≡ true → Addressed P by_tab it rs
figure-over it [] all e = absurd (false≢true e)
figure-over it (r ∷ rs) (next_row h all) e = record { took = []; split = refl; is = refl; first = h; after = next_row h all }

pub address-over : {P : ℕ → Type 0} (y : Way) (it : Item) (rs : List KeptRow) → Placed P rs → begins y it.letter rs ≡ true → Addressed P y it rs
address-over by_letter it rs all e = let b = letter-over it rs all e in record { took = b.took; split = b.split; is = b.is; first = b.first; after = b.after }
address-over by_both it rs all e = letter-over it rs all e
address-over by_tab it rs all e = figure-over it rs all e

module _ {Q : ℕ → ℕ → Type 0} {P : ℕ → Type 0} {len : ℕ} (t : Table Q P len) where
  -- a word's data, for an item that begins at a row
  pub word_read : (it : Item) → Sayable Q P it.kind → (a : ℕ) → P a → (rs : List KeptRow) → Placed P rs
      → Holds Q (Reads (λ w s. (y : Way) → Worded y it w (address y it ++ chars s)) rs) (word_at len it a rs)
  word_read it says a first rs all =
      reads_then all (data-read t a first it.kind says rs all) λ x s all₁ d. reads-done (λ y. rw (append-nil s) (word d))

  pub words-read : (y : Way) (its : List Item) → Every (λ it. Sayable Q P it.kind) its → (rs : List KeptRow) → Placed P rs
      → Holds Q (Reads (λ ws s. Words y its ws (chars s)) rs) (words_at len y its rs)
  unfolding words_at
  words-read y [] says rs all = reads-done done
  words-read y (it ∷ its) says rs all = by (λ u h. words-read y its says.1 u h) (steps y rs) refl (begins y it.letter (stepped y rs)) refl
    where
      after : List KeptRow
      after = stepped y rs

      by : ((u : List KeptRow) → Placed P u → Holds Q (Reads (λ ws s. Words y its ws (chars s)) u) (words_at len y its u)) → (x : Bool) → steps y rs ≡ x → (z : Bool) → begins y it.letter (stepped y rs) ≡ z
          → Holds Q (Reads (λ ws s. Words y (it ∷ its) ws (chars s)) rs) (resumed len it rs (words_at len y its) (cond x (cond z (at (front_place after) (past_address y after)) (out after)) stops))
      by others false p z q = reads-done done
      by others true p false q =
          let st = steps-over y rs all p in
          reads-after st.took st.split (reads-map (λ ws u h. rw (chars-append, st.is) (out h)) (others after st.after))
      by others true p true q =
          let st = steps-over y rs all p in
          let b = address-over y it after st.after q in
          reads-after st.took st.split
          (reads-after b.took b.split
          (reads_then b.after (word_read it says.0 (front_place after) b.first (past_address y after) b.after) λ w s all₁ d.
          reads_then all₁ (others w.rest all₁) λ ws u all₂ h.
          reads-done (rw (append-nil u, chars-append st.took _, chars-append b.took _, chars-append s u, st.is, b.is, ← append_assoc (address y it) (chars s) (chars u)) (here (d y) h))))
