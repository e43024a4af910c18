-- What holds of every answer of a parser: the rows that it takes stand before its rest, and it refuses at a row that it was given or where they end.
use Prim.Native.Nat.{ℕ, ◌≤◌}
use mathlib.Core.Path.{◌≡◌, refl, sym, ◌∙◌, subst}
use mathlib.Core.List.{List, [], ◌∷◌, ◌++◌, append_assoc, map-append}
use lib.Dec.{lit≤}
use native.Mathlib.Omega.{arith}
use Rattle.rows.specs.Answer.{Answer, taken, refused, ◌>>=◌}
use Rattle.rows.specs.Kept.{KeptRow}
use Rattle.rows.proofs.Outcomes.{Holds, refusal, value, holds-map, holds-bind}
use Rattle.reading.specs.Relation.{chars}
use Rattle.words.specs.declared.Wanted.{Wanted}
use Rattle.words.specs.Figures.{Behind, taking, wrong_by, cut_by, wrong}

-- nothing is both refused and taken
pub never : {A B : Type 0} {n p : ℕ} {a : A} → refused n p ≡ taken a → B
never e = let z : ◌≡◌ {A = ℕ} 0 1 = cc in absurd (omega arith)

-- the rows that a parser takes stand before its rest, and R is of them and of its value
pub record Reads {A : Type 0} (R : A → List KeptRow → Type 0) (rs : List KeptRow) (x : Behind A) : Type 0 where
  pub took : List KeptRow
  pub split : rs ≡ took ++ x.rest
  pub stands : R x.value took

-- Q has the refusals of the fourth stage's table, with P for places of rows: 8 to 13 at a row, 8 and 14 where the tape ends
pub record Table (Q : ℕ → ℕ → Type 0) (P : ℕ → Type 0) (len : ℕ) : Type 0 where
  pub at_row : (n : ℕ) → 8 ≤ n → n ≤ 13 → (p : ℕ) → P p → Q n p
  pub no_head : Q 8 len
  pub cut : Q 14 len

-- every row's place is among P
pub data Placed (P : ℕ → Type 0) : List KeptRow → Type 0 where
  no_row : Placed P []
  next_row : {r : KeptRow} {rs : List KeptRow} → P r.place → Placed P rs → Placed P (r ∷ rs)

pub chars-append : (s u : List KeptRow) → chars (s ++ u) ≡ chars s ++ chars u
chars-append s u = map-append (λ r. r.char) s u

placed-rest : {P : ℕ → Type 0} (s rest : List KeptRow) → Placed P (s ++ rest) → Placed P rest
placed-rest [] rest all = all
placed-rest (r ∷ s) rest (next_row h all) = placed-rest s rest all

pub placed-behind : {P : ℕ → Type 0} {rs rest : List KeptRow} (s : List KeptRow) → rs ≡ s ++ rest → Placed P rs → Placed P rest
placed-behind {P = P} {rest = rest} s e all = placed-rest s rest (subst (λ l. Placed P l) e all)

module _ {Q : ℕ → ℕ → Type 0} {A : Type 0} {R : A → List KeptRow → Type 0} where
  pub reads-done : {a : A} {rs : List KeptRow} → R a [] → Holds Q (Reads R rs) (taking a rs)
  reads-done h = value (record { took = []; split = refl; stands = h })

  -- the rows s stand before what is read next
  pub reads-after : {x : Answer (Behind A)} {rs rest : List KeptRow} (s : List KeptRow) → rs ≡ s ++ rest → Holds Q (Reads (λ b u. R b (s ++ u)) rest) x → Holds Q (Reads R rs) x
  reads-after s e h = holds-map (λ b k. record { took = s ++ k.took; split = e ∙ rw k.split (sym (append_assoc s k.took b.rest)); stands = k.stands }) h

pub reads-map : {Q : ℕ → ℕ → Type 0} {A : Type 0} {R S : A → List KeptRow → Type 0} {x : Answer (Behind A)} {rs : List KeptRow}
    → ((a : A) (s : List KeptRow) → R a s → S a s) → Holds Q (Reads R rs) x → Holds Q (Reads S rs) x
reads-map f h = holds-map (λ b k. record { took = k.took; split = k.split; stands = f b.value k.took k.stands }) h

module _ {Q : ℕ → ℕ → Type 0} {A B : Type 0} {R : A → List KeptRow → Type 0} {S : B → List KeptRow → Type 0} where
  pub reads_then : {P : ℕ → Type 0} {x : Answer (Behind A)} {f : Behind A → Answer (Behind B)} {rs : List KeptRow} → Placed P rs → Holds Q (Reads R rs) x
      → ((a : Behind A) (s : List KeptRow) → Placed P a.rest → R a.value s → Holds Q (Reads (λ b u. S b (s ++ u)) a.rest) (f a))
      → Holds Q (Reads S rs) (x >>= f)
  reads_then all h g =
      holds-bind h (λ a k. reads-after k.took k.split (g a k.took (placed-behind k.took k.split all) k.stands))

-- what is wanted and missing is refused as the table says, at the row found there or where the tape ends
module _ {Q : ℕ → ℕ → Type 0} {P : ℕ → Type 0} {len : ℕ} (t : Table Q P len) where
  pub cut-told : (w : Wanted) → Q (cut_by w) len
  cut-told Wanted.Head = t.no_head
  cut-told Wanted.Start = t.cut
  cut-told Wanted.End = t.cut
  cut-told Wanted.Digits = t.cut

  pub row_told : (w : Wanted) (p : ℕ) → P p → Q (wrong_by w) p
  row_told Wanted.Head = t.at_row 8 (lit≤ tt) (lit≤ tt)
  row_told Wanted.Start = t.at_row 9 (lit≤ tt) (lit≤ tt)
  row_told Wanted.End = t.at_row 10 (lit≤ tt) (lit≤ tt)
  row_told Wanted.Digits = t.at_row 11 (lit≤ tt) (lit≤ tt)

  pub wrong-told : {A : Type 0} {S : A → Type 0} (w : Wanted) (rs : List KeptRow) → Placed P rs → Holds Q S (wrong len w rs)
  wrong-told w [] all = refusal (cut-told w)
  wrong-told w (r ∷ rs) (next_row h all) = refusal (row_told w r.place h)
