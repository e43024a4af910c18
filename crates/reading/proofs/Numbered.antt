-- What the entry points answer, by what the shorthand, the profile and the four stages answered.
use mathlib.Core.Path.{◌≡◌, refl, sym, ap, ◌∙◌}
use mathlib.Core.Bool.{Bool, true, false, cond}
use mathlib.Core.List.{List}
use Prim.Native.Nat.{ℕ, ◌-◌, ◌≤◌}
use native.Mathlib.Omega.{arith}
use lib.Dec.{ltb}
use lib.ListN.{length, get_or, take, drop}
use borrow.Author.Tests.{ltb-true}
use Rattle.rows.specs.Answer.{Answer, taken, refused, void, value_or, ◌>>=◌, ◌>>◌}
use Rattle.shorthand.specs.declared.Format.{Format}
use Rattle.shorthand.specs.Facts.{Facts}
use Rattle.profile.specs.Answers.{agreed}
use Rattle.profile.proofs.Settling.{agreed-facts}
use Rattle.reading.specs.declared.Part.{Part}
use Rattle.reading.specs.declared.Entry.{Entry}
use Rattle.reading.specs.Answers.{nowhere, nth, read, read_under, entry_numbered, entry_rows, rows_numbered, size_of}
use Rattle.reading.specs.Front.{part_of, part_in, nth_part, has_block}
use Rattle.reading.proofs.Places.{places}
use Rattle.reading.proofs.Accepted.{read_taken}

-- ---- the shorthand first

pub taken-value : {A : Type 0} (d : A) (a : Answer A) → void a ≡ taken tt → a ≡ taken (value_or d a)
taken-value d (taken x) e = refl
taken-value d (refused n p) e = let z : ◌≡◌ {A = ℕ} 0 1 = cc in absurd (omega arith)

module _ (e : ℕ) (s p : List ℕ) (f : Format) (q : taken f ≡ agreed e s p) where
  pub settled-facts : Facts f
  settled-facts = agreed-facts e s p f (sym q)

  pub under : (t : List ℕ) → read_under e s p t ≡ read f t
  unfolding read_under
  under t = rw (sym q)

-- ---- where the rows of block n stand

module _ (n : ℕ) where
  -- what is counted and found tells of block n whether it is there, and where
  pub part-found : (a : Answer (List Entry)) (count : ℕ) (part : Part) → taken count ≡ size_of a → taken part ≡ part_in n a → (has_block n (taken count) >> taken part) ≡ nth_part n a
  part-found (refused m p) count part s q = let z : ◌≡◌ {A = ℕ} 0 1 = cc in absurd (omega arith)
  part-found (taken es) count part s q =
      let i : count ≡ length es = cc in
      let j : part ≡ part_of (get_or es n nowhere) = cc in
      rw (i, j) (by (ltb n (length es)))
    where
      by : (x : Bool)
          → ◌≡◌ {A = Answer Part} (◌>>◌ {A = Unit {0}} (cond x (taken tt) (refused 15 (length es))) (taken (part_of (get_or es n nowhere))))
          (cond x (taken (get_or es n nowhere)) (refused 15 (length es)) >>= λ y. taken (part_of y))
      by true = refl
      by false = refl

  pub part-refused : (a : Answer (List Entry)) (m p : ℕ) → refused m p ≡ size_of a → refused m p ≡ nth_part n a
  part-refused (taken es) m p q = let z : ◌≡◌ {A = ℕ} 0 1 = cc in absurd (omega arith)
  part-refused (refused i j) m p q = let x : m ≡ i = cc in let y : p ≡ j = cc in rw (x, y)

-- the rows of a part of a tape
abbrev pub rows_in : List ℕ → Part → Answer (List ℕ)
rows_in t p = taken (take (p.to - p.from) (drop p.from t))

part-rows : (t : List ℕ) (a : Answer Entry) → ((a >>= λ x. taken (part_of x)) >>= rows_in t) ≡ (a >>= λ x. taken (entry_rows t x))
part-rows t (taken x) = refl
part-rows t (refused m p) = refl

-- the rows where block n stands are its rows
pub rows-found : (e : ℕ) (s p : List ℕ) (f : Format) → taken f ≡ agreed e s p → (t : List ℕ) (n : ℕ) → (nth_part n (read f t) >>= rows_in t) ≡ rows_numbered e s p t n
rows-found e s p f q t n =
    part-rows t (read f t >>= nth n) ∙ sym (ap (λ (a : Answer (List Entry)). (a >>= nth n) >>= λ x. taken (entry_rows t x)) (under e s p f q t))

-- ---- the rows of block n stand within the tape

abbrev Within : List ℕ → Entry → Type 0
Within t x = (x.from ≤ x.to) × (x.to ≤ length t)

read-within : (t : List ℕ) (f : Format) (n : ℕ) (a : Answer (List Entry)) → read f t ≡ a → Within t (value_or nowhere (a >>= nth n))
read-within t f n (refused m p) r = (omega arith, omega arith)
read-within t f n (taken es) r = by (ltb n (length es)) refl
  where
    by : (x : Bool) → ltb n (length es) ≡ x → Within t (value_or nowhere (cond x (taken (get_or es n nowhere)) (refused 15 (length es))))
    by true q = let w = (places f t es (read_taken f t r).1 nowhere).within n (ltb-true n (length es) q) in (omega (arith, w.0), w.1)
    by false q = (omega arith, omega arith)

pub entry-within : (e : ℕ) (s p t : List ℕ) (n : ℕ) → Within t (value_or nowhere (entry_numbered e s p t n))
unfolding read_under
entry-within e s p t n = by (agreed e s p)
  where
    by : (a : Answer Format) → Within t (value_or nowhere ((a >>= λ f. read f t) >>= nth n))
    by (refused m p) = (omega arith, omega arith)
    by (taken f) = read-within t f n (read f t) refl

pub part-within : (t : List ℕ) (f : Format) (n : ℕ) (part : Part) → taken part ≡ nth_part n (read f t) → (part.from ≤ part.to) × (part.to ≤ length t)
part-within t f n part q = by (read f t >>= nth n) (read-within t f n (read f t) refl) q
  where
    by : (a : Answer Entry) → Within t (value_or nowhere a) → taken part ≡ (a >>= λ x. taken (part_of x)) → (part.from ≤ part.to) × (part.to ≤ length t)
    by (refused m p) w e = let z : ◌≡◌ {A = ℕ} 0 1 = cc in absurd (omega arith)
    by (taken x) w e = let z : part ≡ part_of x = cc in rw z w
