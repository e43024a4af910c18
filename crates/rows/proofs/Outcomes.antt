-- What holds of every answer, taken or refused, as a family over the answer; and how it goes through `>>=`, `>>` and `cond`.
use Prim.Native.Nat.{ℕ}
use mathlib.Core.Path.{◌≡◌, refl, subst}
use mathlib.Core.Bool.{Bool, true, false, cond}
use native.Mathlib.Omega.{arith}
use Rattle.rows.specs.Answer.{Answer, taken, refused, ◌>>=◌, ◌>>◌}

-- a refusal has what Q says of its number and place, and what is taken has what P says
pub data Holds {A : Type 0} (Q : ℕ → ℕ → Type 0) (P : A → Type 0) : Answer A → Type 0 where
  refusal : {n p : ℕ} → Q n p → Holds Q P (refused n p)
  value : {a : A} → P a → Holds Q P (taken a)

module _ {Q : ℕ → ℕ → Type 0} where
  pub holds-map : {A : Type 0} {P R : A → Type 0} {x : Answer A} → ((a : A) → P a → R a) → Holds Q P x → Holds Q R x
  holds-map f (refusal h) = refusal h
  holds-map f (value {a = a} h) = value (f a h)

  pub holds-bind : {A B : Type 0} {P : A → Type 0} {R : B → Type 0} {x : Answer A} {f : A → Answer B} → Holds Q P x → ((a : A) → P a → Holds Q R (f a)) → Holds Q R (x >>= f)
  holds-bind (refusal h) g = refusal h
  holds-bind (value {a = a} h) g = g a h

  -- one stage, and then the next
  pub holds_then : {A : Type 0} {R : A → Type 0} {x : Answer (Unit {0})} {y : Answer A} → Holds Q (λ u. Unit {0}) x → Holds Q R y → Holds Q R (x >> y)
  holds_then (refusal h) k = refusal h
  holds_then (value h) k = k

  pub holds-cond : {A : Type 0} {P : A → Type 0} {x y : Answer A} (b : Bool) → (b ≡ true → Holds Q P x) → (b ≡ false → Holds Q P y) → Holds Q P (cond b x y)
  holds-cond true f g = f refl
  holds-cond false f g = g refl

  -- what is taken is also what the answer takes
  pub holds-with : {A : Type 0} {P : A → Type 0} {x : Answer A} → Holds Q P x → Holds Q (λ a. (x ≡ taken a) × P a) x
  holds-with (refusal h) = refusal h
  holds-with (value h) = value (refl, h)

  pub of-taken : {A : Type 0} {P : A → Type 0} {x : Answer A} {a : A} → Holds Q P x → x ≡ taken a → P a
  of-taken (refusal h) e = let z : ◌≡◌ {A = ℕ} 0 1 = cc in absurd (omega arith)
  of-taken {P = P} {a = a} (value {a = b} h) e = let q : b ≡ a = cc in subst P q h

  pub of-refused : {A : Type 0} {P : A → Type 0} {x : Answer A} {n p : ℕ} → Holds Q P x → x ≡ refused n p → Q n p
  of-refused {n = n} {p = p} (refusal {n = m} {p = q} h) e = let en : m ≡ n = cc in let ep : q ≡ p = cc in rw (← en, ← ep) h
  of-refused (value h) e = let z : ◌≡◌ {A = ℕ} 0 1 = cc in absurd (omega arith)

-- another table that has every row of the first
pub wider : {A : Type 0} {P Q : ℕ → ℕ → Type 0} {R : A → Type 0} {a : Answer A} → ((n p : ℕ) → P n p → Q n p) → Holds P R a → Holds Q R a
wider f (refusal {n = n} {p = p} h) = refusal (f n p h)
wider f (value h) = value h
