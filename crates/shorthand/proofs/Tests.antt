-- Tests taken apart and put together.
use mathlib.Core.Path.{◌≡◌, refl}
use mathlib.Core.Bool.{Bool, true, false, ◌&&◌, ◌||◌, not, cond, beq}
use mathlib.Core.Logic.{◌⊎◌, inl, inr}
use lib.Dec.{T}

pub both : (a b : Bool) → T a → T b → T (a && b)
both true b p q = q
both false b p q = p

pub first : (a b : Bool) → T (a && b) → T a
first true b h = tt
first false b h = h

pub second : (a b : Bool) → T (a && b) → T b
second true b h = h
second false b h = absurd h

pub left : (a b : Bool) → T a → T (a || b)
left true b h = tt
left false b h = absurd h

pub right : (a b : Bool) → T b → T (a || b)
right true b h = tt
right false b h = h

pub either : (a b : Bool) → T (a || b) → T a ⊎ T b
either true b h = inl tt
either false b h = inr h

pub holds : (b : Bool) → T b → b ≡ true
holds true h = refl
holds false h = absurd h

pub fails : (b : Bool) → T (not b) → b ≡ false
fails true h = absurd h
fails false h = refl

pub and-false : (b : Bool) → T (not (b && false))
and-false true = tt
and-false false = tt

pub not-not : (b : Bool) → T (not (not b)) → T b
not-not true h = h
not-not false h = h

pub beq-refl : (b : Bool) → T (beq b b)
beq-refl true = tt
beq-refl false = tt

pub beq→eq : (a b : Bool) → T (beq a b) → a ≡ b
beq→eq true true h = refl
beq→eq true false h = absurd h
beq→eq false true h = absurd h
beq→eq false false h = refl

-- what holds of both answers of a test, each where it is given, holds of the answer
pub by-test : {A : Type 0} (P : A → Type 0) (b : Bool) {x y : A} → (T b → P x) → (T (not b) → P y) → P (cond b x y)
by-test P true f g = f tt
by-test P false f g = g tt

pub nor : (a b : Bool) → T (not a) → T (not b) → T (not (a || b))
nor true b p q = p
nor false b p q = q

pub neither : (a b : Bool) → T (not (a || b)) → T (not a) × T (not b)
neither true b h = absurd h
neither false b h = (tt, h)
