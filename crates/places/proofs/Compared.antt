-- What CR and the digits of a speed leave no room for.
use Prim.Native.Nat.{ℕ, ◌≤◌, ◌<◌}
use mathlib.Core.Path.{◌≡◌, refl, sym, ap, ◌∙◌, subst}
use mathlib.Core.Logic.{◌⊎◌, inl, inr}
use mathlib.Core.Bool.{true, cond, false≢true}
use mathlib.Core.List.{List, [], ◌∷◌, ◌++◌, append_assoc, append-nil}
use native.Mathlib.Nat.{zero-lt-suc}
use native.Mathlib.Omega.{arith}
use lib.Dec.{lit<}
use lib.ListN.{length, length-append}
use lib.IntN.{ℤ}
use Rattle.rows.specs.Kept.{KeptRow}
use Rattle.rows.specs.Passes.{Every}
use Rattle.shorthand.specs.declared.Kind.{Kind}
use Rattle.shorthand.specs.declared.Item.{Item}
use Rattle.shorthand.specs.declared.Format.{Format}
use Rattle.shorthand.specs.Layout.{way_of, width, missing_of, fewest, barred, sign_of}
use Rattle.shorthand.specs.Facts.{Facts}
use Rattle.reading.specs.declared.Block.{Block}
use Rattle.reading.specs.Relation.{Signed, address, End, lf, cr_lf, skip_rows, Program, program, chars}
use Rattle.reading.proofs.ReadData.{barred-none}
use Rattle.reading.proofs.BlockTakes.{end-some}
use Rattle.places.specs.Begins.{Digit, Begins, Closes, Due}
use Rattle.places.specs.Faults.{Miscounted, too_few, too_many, SignFault, GoesOn, last_of, EndDue, of_head, of_block, Cut, in_head, in_block, SpeedDue}
use Rattle.places.proofs.DigitLists.{last-behind}
use Rattle.places.proofs.Behind.{every-digit}
use Rattle.places.proofs.Splits.{Split, same, sooner, later, compare}
use Rattle.places.proofs.Called.{stem-called, called_same}
use Rattle.places.proofs.Stems.{stem, Figure, digit-figure, stem-at, is_in_head, is_in_number, InWord, head-word, number_word, stem-number, stem-start, figures-all}
use Rattle.places.proofs.Marks.{cr-follows}
use Rattle.places.proofs.Empties.{InEmpty, empty-last, low-stops, idle-word}
use Rattle.places.proofs.EndsAlone.{not-head, right-behind, not-many}
use Rattle.places.proofs.OneNumber.{Spot, percent, head_end, block_end, start, empty, tabbed, number, figures, sign}

pub begins-front : {f : Format} (a b : List ℕ) → Begins f (a ++ b) → Begins f a
begins-front {f} a b (bs, o, p) = (bs, b ++ o, subst (λ x. Program f bs x) (append_assoc a b o) p)

-- ---- behind a CR nothing is out of place

module _ {f : Format} (facts : Facts f) where
  -- rows by their last character, and by their last that is no figure
  data Stem (x : List ℕ) : Type 0 where
    closes : Closes f x → Stem x
    in-empty : InEmpty (last_of x) → Stem x
    in_start : (is_in_head (stem x) ≡ true) ⊎ (is_in_number (stem x) ≡ true) → Stem x
    in_words : InWord (stem x) → Stem x

  stem-spot : {x : List ℕ} {c n : ℕ} → Spot f x c n → Stem x
  unfolding stem
  stem-spot (percent e) = in_start (inl (rw e))
  stem-spot (head_end e) = in_start (inl (rw e))
  stem-spot (block_end k d) = closes k
  stem-spot (start h skip p e cr) = in_start (inr (rw e (stem-start facts h skip p)))
  stem-spot (empty e q) = in-empty (empty-last e)
  stem-spot (tabbed e some a b d) = in-empty (empty-last e)
  stem-spot (number h skip alignment ds e all m) =
      in_start (inr (rw (e ∙ sym (append_assoc h (skip_rows skip) (cond alignment 58 78 ∷ ds))) (stem-number facts (h ++ skip_rows skip) alignment ds all)))
  stem-spot {x} (figures it y s ds due e g all m none) = in_words (stem-called facts due (s ++ ds) (figures-all facts s ds g all) x e)
  stem-spot {x} (sign it y due e h) = in_words (stem-called facts due [] tt x (e ∙ sym (append-nil (y ++ address (way_of f) it))))

  pub behind-cr : (y : List ℕ) {c n : ℕ} → Spot f (y ++ (13 ∷ [])) c n → ⊥
  behind-cr y h = go (stem-spot h)
    where
      at : stem (y ++ (13 ∷ [])) ≡ 13
      at = stem-at y 13 [] refl (λ e. omega arith) tt

      go : Stem (y ++ (13 ∷ [])) → ⊥
      go (closes k) =
          let q = k (13 ∷ 10 ∷ []) cr_lf in
          let p = cr-follows f facts q.2 y (13 ∷ 10 ∷ []) (append_assoc y (13 ∷ []) (13 ∷ 10 ∷ [])) in
          let z : ◌≡◌ {A = ℕ} 13 10 = cc p.1 in
          omega arith
      go (in-empty k) = subst InEmpty (last-behind y (13 ∷ []) (zero-lt-suc 0)) k
      go (in_start (inl k)) = false≢true (ap is_in_head (sym at) ∙ k)
      go (in_start (inr k)) = false≢true (ap is_in_number (sym at) ∙ k)
      go (in_words k) = subst InWord at k

-- ---- in a speed's word

module _ {f : Format} (facts : Facts f) {k : ℕ} {it : Item} {y : List ℕ} (due : SpeedDue f it k y) (u : List ℕ) (all : Every Digit u) where
  -- the rows up to its data
  abbrev X : List ℕ
  X = y ++ address (way_of f) it

  figured : Every Figure u
  figured = every-digit digit-figure refl refl u all

  in_word : InWord (stem (X ++ u))
  in_word = stem-called facts due.due u figured (X ++ u) refl

  -- the item whose data stand there
  same_word : (jt : Item) (w z : List ℕ) → Due f jt w → Every Figure z → X ++ u ≡ w ++ address (way_of f) jt ++ z → (jt.kind ≡ Kind.Speed k) × (u ≡ z)
  same_word jt w z h p e = let q = called_same facts due.due h u z figured p e in (q.1 ∙ due.speed, q.2)

  -- right behind fewer digits than it has, a digit is never out of place
  pub inside-word : {c n : ℕ} → length u < k → Digit c → Spot f (X ++ u) c n → ⊥
  unfolding stem
  inside-word {c} few d (percent e) = head-word (stem (X ++ u)) (rw e) in_word
  inside-word {c} few d (head_end e) = head-word (stem (X ++ u)) (rw e) in_word
  inside-word {c} few d (block_end q h) = go u refl
    where
      go : (v : List ℕ) → u ≡ v → ⊥
      go [] n =
          let e : X ++ u ≡ X = ap (λ z. X ++ z) n ∙ append-nil X in
          right-behind facts due.due c d (subst (Closes f) e q) (λ o. h (subst (λ z. GoesOn (way_of f) (last_of z) c) (sym e) o))
      go (x ∷ v) n = not-many facts (X ++ u) c X u refl all (subst (λ z. 0 < length z) (sym n) (zero-lt-suc _)) d (q, h)
  inside-word {c} few d (empty e q) = omega arith
  inside-word {c} few d (tabbed e some a b h) = idle-word facts (record { block = e; firm = h }) y u due.due figured refl (λ n t. inl d)
  inside-word {c} few d (start h skip p e cr) = number_word (stem (X ++ u)) (rw e (stem-start facts h skip p)) in_word
  inside-word {c} few d (number h skip alignment ds e each m) =
      number_word (stem (X ++ u)) (rw (e ∙ sym (append_assoc h (skip_rows skip) (cond alignment 58 78 ∷ ds))) (stem-number facts (h ++ skip_rows skip) alignment ds each)) in_word
  inside-word {c} few d (figures jt w s ds h e g each (too_few l n) none) = n d
  inside-word {c} few d (figures jt w s ds h e g each (too_many l n) none) =
      let q = same_word jt w (s ++ ds) h (figures-all facts s ds g each) e in
      let m : width jt.kind ≡ k = ap width q.0 in
      omega (arith, length-append s ds, ap length q.1)
  inside-word {c} few d (sign jt w h e fault) =
      barred-digit (subst (λ i. SignFault (way_of f) (sign_of i) c) (same_word jt w [] h tt (e ∙ sym (append-nil (w ++ address (way_of f) jt)))).0 fault)
    where
      barred-digit : SignFault (way_of f) barred c → ⊥
      barred-digit (SignFault.barred_sign (inl h)) = omega arith
      barred-digit (SignFault.barred_sign (inr h)) = omega arith

  -- the count of its digits, where they are out of place
  pub speed-miscount : {c : ℕ} → Spot f (X ++ u) c 11 → Miscounted k k u c
  speed-miscount {c} (figures jt w s ds h e g each m none) =
      let q = same_word jt w (s ++ ds) h (figures-all facts s ds g each) e in
      let t : u ≡ ds = q.1 ∙ ap (λ z. z ++ ds) (go jt.kind q.0 g) in
      subst (λ v. Miscounted k k v c) (sym t) (subst (λ i. Miscounted (fewest (missing_of i) (width i)) (width i) ds c) q.0 m)
    where
      go : {m : ℕ} {z : ℤ} {s : List ℕ} (i : Kind) → i ≡ Kind.Speed k → Signed m (sign_of i) z s → s ≡ []
      go {m} {z} {s} i e g = barred-none (subst (λ j. Signed m (sign_of j) z s) e g)

-- ---- two ends, and two tapes that end too soon

ends-one : {f : Format} → Facts f → {n m : ℕ} {x : List ℕ} → EndDue f n x → EndDue f m x → n ≡ m
ends-one facts of_head of_head = refl
ends-one facts of_head (of_block k) = absurd (not-head facts (37 ∷ []) 0 refl (k, low-stops (lit< tt)))
ends-one facts (of_block k) of_head = absurd (not-head facts (37 ∷ []) 0 refl (k, low-stops (lit< tt)))
ends-one facts (of_block k) (of_block h) = refl

pub cr-cr : {f : Format} → Facts f → {n m : ℕ} (b h : List KeptRow) (c e : KeptRow) → b ++ (c ∷ []) ≡ h ++ (e ∷ []) → EndDue f n (chars b) → EndDue f m (chars h) → (n ≡ m) × (c.place ≡ e.place)
cr-cr {f} facts {n} {m} b h c e q i j = go (compare b h c [] e [] q)
  where
    go : Split b h c [] e [] → (n ≡ m) × (c.place ≡ e.place)
    go (same x y z) = (ends-one facts i (subst (λ l. EndDue f m (chars l)) (sym x) j), ap (λ r. r.place) y)
    go (sooner u x y) = let z = ap length y in absurd (omega (arith, length-append u (e ∷ [])))
    go (later u x y) = let z = ap length y in absurd (omega (arith, length-append u (c ∷ [])))

end-most : {e : List ℕ} → End e → length e ≤ 2
end-most lf = omega arith
end-most cr_lf = omega arith

program-most : {f : Format} {bs : List Block} {x : List ℕ} → Program f bs x → 2 ≤ length x
program-most (program {e = e} {r = r} end h) = omega (arith, length-append e r, end-some end)

cut-size : {f : Format} {n : ℕ} {x : List ℕ} → Cut f n x → ((n ≡ 8) × (length x ≤ 2)) ⊎ ((n ≡ 14) × (3 ≤ length x))
cut-size {x = x} (in_head o end e some) = inl (refl, omega (arith, length-append x o, ap length e, end-most end))
cut-size (in_block {h = h} s p some nay) = inr (refl, omega (arith, length-append h s, program-most p))

pub cut-one : {f : Format} {n m : ℕ} {x : List ℕ} → Cut f n x → Cut f m x → n ≡ m
cut-one {n = n} {m} {x} a b = go (cut-size a) (cut-size b)
  where
    go : ((n ≡ 8) × (length x ≤ 2)) ⊎ ((n ≡ 14) × (3 ≤ length x)) → ((m ≡ 8) × (length x ≤ 2)) ⊎ ((m ≡ 14) × (3 ≤ length x)) → n ≡ m
    go (inl p) (inl q) = p.0 ∙ sym q.0
    go (inl p) (inr q) = absurd (omega arith)
    go (inr p) (inl q) = absurd (omega arith)
    go (inr p) (inr q) = p.0 ∙ sym q.0
