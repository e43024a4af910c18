-- How a parser goes on rows and on all rows that it cannot tell from them, as a family over its answer; and how that goes through `>>=` and `cond`.
use Prim.Native.Nat.{ℕ, ◌<◌}
use mathlib.Core.Path.{◌≡◌, refl, sym, ap, ◌∙◌, subst}
use mathlib.Core.Logic.{◌⊎◌, inl, inr}
use mathlib.Core.Bool.{Bool, true, false, cond}
use mathlib.Core.List.{List, [], ◌∷◌, ◌++◌, append_assoc}
use native.Mathlib.Omega.{arith}
use lib.ListN.{length}
use Rattle.rows.specs.Answer.{Answer, taken, refused, ◌>>=◌}
use Rattle.rows.specs.Kept.{KeptRow}
use Rattle.rows.specs.Passes.{Every}
use Rattle.reading.specs.Relation.{chars}
use Rattle.words.specs.Figures.{Behind, taking, front_place, digit_next}
use Rattle.reading.proofs.Outcomes.{chars-append}
use Rattle.places.specs.Begins.{Digit}

-- ---- rows that begin alike

-- the same character, or digits both
abbrev pub Alike : ℕ → ℕ → Type 0
Alike c d = (c ≡ d) ⊎ (Digit c × Digit d)

-- no row in either, or first rows alike; no parser looks further past what it takes
pub data Like : List KeptRow → List KeptRow → Type 0 where
  no_row : Like [] []
  first_row : {r s : KeptRow} {x y : List KeptRow} → Alike r.char s.char → Like (r ∷ x) (s ∷ y)

pub like-after : (u : List KeptRow) {x y : List KeptRow} → Like x y → Like (u ++ x) (u ++ y)
like-after [] h = h
like-after (r ∷ u) h = first_row (inl refl)

like-digits : (ds es x y : List KeptRow) (r : KeptRow) → Every Digit (chars ds) → Every Digit (chars es) → length es ≡ length ds → Like (ds ++ (r ∷ x)) (es ++ (r ∷ y))
like-digits [] [] x y r p q e = first_row (inl refl)
like-digits [] (s ∷ es) x y r p q e = absurd (omega arith)
like-digits (d ∷ ds) [] x y r p q e = absurd (omega arith)
like-digits (d ∷ ds) (s ∷ es) x y r p q e = first_row (inr (p.0, q.0))

-- P of the row at the front, where there is one
abbrev pub Next : (ℕ → Type 0) → List KeptRow → Type 0
Next P [] = Unit {0}
Next P (r ∷ rs) = P r.char

pub next-any : {P : ℕ → Type 0} → ((c : ℕ) → P c) → (rs : List KeptRow) → Next P rs
next-any h [] = tt
next-any h (r ∷ rs) = h r.char

-- ---- a refusal

abbrev pub Refuses : {A : Type 0} → Answer A → Type 0
Refuses (taken a) = ⊥
Refuses (refused n p) = Unit {0}

pub refuses-bind : {A B : Type 0} (x : Answer A) (f : A → Answer B) → Refuses x → Refuses (x >>= f)
refuses-bind (taken a) f h = absurd h
refuses-bind (refused n p) f h = tt

-- what holds of a refusal of the rows rs: Q of its number, the rows before its place, the digits last of these apart, and the rows that decide;
-- No holds whatever stands behind those, and whatever the digits are; behind those of a 13 stands no further digit
pub data Held (No : List KeptRow → Type 0) (len : ℕ) (Q : ℕ → List ℕ → List ℕ → List ℕ → Type 0) (rs : List KeptRow) : ℕ → ℕ → Type 0 where
  at_row : {n : ℕ} (b ds w a : List KeptRow) (r : KeptRow) → rs ≡ b ++ (ds ++ (r ∷ (w ++ a))) → Every Digit (chars ds) → Q n (chars b) (chars ds) (chars (r ∷ w)) → (n ≡ 13 → digit_next a ≡ false)
      → ((es l : List KeptRow) → Every Digit (chars es) → length es ≡ length ds → No (b ++ (es ++ (r ∷ (w ++ l))))) → Held No len Q rs n r.place
  at_end : {n : ℕ} (b ds : List KeptRow) → rs ≡ b ++ ds → Every Digit (chars ds) → Q n (chars b) (chars ds) [] → Held No len Q rs n len

-- the rows u stand before those of a refusal
pub held_after : {No Nay : List KeptRow → Type 0} {len : ℕ} {Q S : ℕ → List ℕ → List ℕ → List ℕ → Type 0} {rs rest : List KeptRow} {n q : ℕ} (u : List KeptRow) → rs ≡ u ++ rest
    → ((l : List KeptRow) → Like rest l → No l → Nay (u ++ l)) → ((n : ℕ) (b ds w : List ℕ) → Q n b ds w → S n (chars u ++ b) ds w) → Held No len Q rest n q → Held Nay len S rs n q
held_after {Nay = Nay} {S = S} {rs = rs} u e f g (at_row {n} b ds w a r split all is lone nay) =
    at_row {n = n} (u ++ b) ds w a r (e ∙ ap (λ l. u ++ l) split ∙ sym (append_assoc u b _)) all (rw (chars-append u b) (g n (chars b) (chars ds) (chars (r ∷ w)) is)) lone
    (λ es l h k. let o = b ++ (es ++ (r ∷ (w ++ l))) in
    subst Nay (sym (append_assoc u b (es ++ (r ∷ (w ++ l)))))
    (f o (subst (λ x. Like x o) (sym split) (like-after b (like-digits ds es (w ++ a) (w ++ l) r all h k))) (nay es l h k)))
held_after {S = S} u e f g (at_end {n} b ds split all is) =
    at_end {n = n} (u ++ b) ds (e ∙ ap (λ l. u ++ l) split ∙ sym (append_assoc u b ds)) all (rw (chars-append u b) (g n (chars b) (chars ds) [] is))

-- ---- a parser's answer

-- taken: R of the rows that it took and of those behind, and it takes them so before all rows like those behind; or refused
pub data Goes {A : Type 0} (p : List KeptRow → Answer (Behind A)) (len : ℕ) (R : A → List ℕ → List KeptRow → Type 0) (Q : ℕ → List ℕ → List ℕ → List ℕ → Type 0) (rs : List KeptRow)
    : Answer (Behind A) → Type 0 where
  took : {a : A} {rest : List KeptRow} (u : List KeptRow) → rs ≡ u ++ rest → R a (chars u) rest → ((l : List KeptRow) → Like rest l → p (u ++ l) ≡ taking a l)
      → Goes p len R Q rs (taking a rest)
  held : {n q : ℕ} → Held (λ l. Refuses (p l)) len Q rs n q → Goes p len R Q rs (refused n q)

module _ {A : Type 0} {len : ℕ} {R : A → List ℕ → List KeptRow → Type 0} {Q : ℕ → List ℕ → List ℕ → List ℕ → Type 0} where
  -- where the parser goes as o does behind the rows u
  pub goes_after : {o p : List KeptRow → Answer (Behind A)} {rs rest : List KeptRow} {x : Answer (Behind A)} (u : List KeptRow) → rs ≡ u ++ rest
      → ((l : List KeptRow) → Like rest l → p (u ++ l) ≡ o l) → Goes o len (λ a v l. R a (chars u ++ v) l) (λ n b ds w. Q n (chars u ++ b) ds w) rest x → Goes p len R Q rs x
  goes_after {p = p} u e same (took {a} {rest} v split is t) =
      took {a = a} (u ++ v) (e ∙ ap (λ l. u ++ l) split ∙ sym (append_assoc u v rest)) (rw (chars-append u v) is)
      (λ l h. ap p (append_assoc u v l) ∙ same (v ++ l) (subst (λ x. Like x (v ++ l)) (sym split) (like-after v h)) ∙ t l h)
  goes_after u e same (held h) = held (held_after u e (λ l k no. subst Refuses (sym (same l k)) no) (λ n b ds w q. q) h)

  -- where the parser goes as o does
  pub goes-as : {o p : List KeptRow → Answer (Behind A)} (rs : List KeptRow) → ((l : List KeptRow) → p l ≡ o l) → Goes o len R Q rs (o rs) → Goes p len R Q rs (p rs)
  goes-as {o} rs same h = goes_after [] refl (λ l k. same l) (subst (λ x. Goes o len R Q rs x) (sym (same rs)) h)

  -- refused at the first of the rows s, whatever stands behind them
  pub goes-alone : {p : List KeptRow → Answer (Behind A)} {rs : List KeptRow} (n : ℕ) (s a : List KeptRow) → 0 < length s → rs ≡ s ++ a → Q n [] [] (chars s) → (n ≡ 13 → digit_next a ≡ false)
      → ((l : List KeptRow) → Refuses (p (s ++ l))) → Goes p len R Q rs (refused n (front_place rs))
  goes-alone n [] a some e is lone nay = absurd (omega arith)
  goes-alone {p} n (r ∷ w) a some e is lone nay =
      subst (λ l. Goes p len R Q l (refused n (front_place l))) (sym e) (held (at_row [] [] w a r refl tt is lone (λ es l h k. alone es l k)))
    where
      alone : (es l : List KeptRow) → length es ≡ 0 → Refuses (p (es ++ (r ∷ (w ++ l))))
      alone [] l k = nay l
      alone (d ∷ es) l k = absurd (omega arith)

  -- a test that goes by the first row
  pub goes-if : (t : List KeptRow → Bool) → ((x y : List KeptRow) → Like x y → t x ≡ t y) → {o p : List KeptRow → Answer (Behind A)} (rs : List KeptRow)
      → (t rs ≡ true → Goes o len R Q rs (o rs)) → (t rs ≡ false → Goes p len R Q rs (p rs)) → Goes (λ l. cond (t l) (o l) (p l)) len R Q rs (cond (t rs) (o rs) (p rs))
  goes-if t st {o} {p} rs f g = go (t rs) refl
    where
      go : (b : Bool) → t rs ≡ b → Goes (λ l. cond (t l) (o l) (p l)) len R Q rs (cond b (o rs) (p rs))
      go true e = goes_after [] refl (λ l h. ap (λ b. cond b (o l) (p l)) (sym (st rs l h) ∙ e)) (f e)
      go false e = goes_after [] refl (λ l h. ap (λ b. cond b (o l) (p l)) (sym (st rs l h) ∙ e)) (g e)

pub goes_map : {A : Type 0} {p : List KeptRow → Answer (Behind A)} {len : ℕ} {R T : A → List ℕ → List KeptRow → Type 0} {Q S : ℕ → List ℕ → List ℕ → List ℕ → Type 0} {rs : List KeptRow}
    {x : Answer (Behind A)} → ((a : A) (u : List ℕ) (l : List KeptRow) → R a u l → T a u l) → ((n : ℕ) (b ds w : List ℕ) → Q n b ds w → S n b ds w) → Goes p len R Q rs x → Goes p len T S rs x
goes_map f g (took {a} {rest} u e is t) = took u e (f a (chars u) rest is) t
goes_map f g (held h) = held (held_after [] refl (λ l k no. no) g h)

pub goes_bind : {A B : Type 0} {p : List KeptRow → Answer (Behind A)} {f : A → List KeptRow → Answer (Behind B)} {len : ℕ} {R : A → List ℕ → List KeptRow → Type 0} {T : B → List ℕ → List KeptRow → Type 0}
    {Q : ℕ → List ℕ → List ℕ → List ℕ → Type 0} {rs : List KeptRow} {x : Answer (Behind A)} → Goes p len R Q rs x
    → ((a : A) (u rest : List KeptRow) → rs ≡ u ++ rest → R a (chars u) rest → Goes (λ l. f a l) len (λ b v l. T b (chars u ++ v) l) (λ n b ds w. Q n (chars u ++ b) ds w) rest (f a rest))
    → Goes (λ l. p l >>= λ y. f y.value y.rest) len T Q rs (x >>= λ y. f y.value y.rest)
goes_bind {f = f} (took {a} {rest} u e is t) g = goes_after u e (λ l h. ap (λ x. x >>= λ y. f y.value y.rest) (t l h)) (g a u rest e is)
goes_bind {p = p} {f = f} (held h) g = held (held_after [] refl (λ l k no. refuses-bind (p l) (λ y. f y.value y.rest) no) (λ n b ds w q. q) h)
