-- What a row's table entry tells: 133 exactly where the row is odd, 134 exactly where it is even and not one of the 50, and else the character.
use mathlib.Core.Path.{◌≡◌, refl}
use mathlib.Core.Logic.{◌↔◌}
use mathlib.Core.Bool.{Bool, true, false, cond}
use Prim.Native.Nat.{ℕ, ◌≤◌, ◌<◌}
use native.Mathlib.Nat.{mod-lt}
use native.Mathlib.Omega.{arith}
use lib.Dec.{T, eqb, lit<}
use borrow.Author.Tests.{ne_eqb}
use Rattle.rows.specs.Row.{character, even, characters, among, entry}

-- the entry by the outcomes of its two tests: even, and one of the 50
abbrev by : Bool → Bool → ℕ → ℕ
by e k c = cond e (cond k c 134) 133

odd-by : (e k : Bool) (c : ℕ) → c < 128 → (eqb (by e k c) 133 ≡ false) ↔ T e
odd-by true true c h = (λ _. tt, λ _. ne_eqb c 133 (λ q. omega arith))
odd-by true false c h = (λ _. tt, λ _. refl)
odd-by false k c h = (λ q. let z : ◌≡◌ {A = ℕ} 0 1 = cc in omega arith, λ t. absurd t)

foreign-by : (e k : Bool) (c : ℕ) → c < 128 → T e → (eqb (by e k c) 134 ≡ false) ↔ T k
foreign-by true true c h t = (λ _. tt, λ _. ne_eqb c 134 (λ q. omega arith))
foreign-by true false c h t = (λ q. let z : ◌≡◌ {A = ℕ} 0 1 = cc in omega arith, λ x. absurd x)
foreign-by false k c h t = absurd t

highest-by : (e k : Bool) (c : ℕ) → c < 128 → by e k c ≤ 134
highest-by true true c h = omega arith
highest-by true false c h = omega arith
highest-by false k c h = omega arith

character-by : (e k : Bool) (c : ℕ) → by e k c < 133 → by e k c ≡ c
character-by true true c h = refl
character-by true false c h = omega arith
character-by false k c h = omega arith

pub even-entry : (b : ℕ) → (eqb (entry b) 133 ≡ false) ↔ T (even b)
unfolding entry
even-entry b = odd-by (even b) (among (character b) characters) (character b) (mod-lt b (lit< tt))

pub known-entry : (b : ℕ) → T (even b) → (eqb (entry b) 134 ≡ false) ↔ T (among (character b) characters)
unfolding entry
known-entry b = foreign-by (even b) (among (character b) characters) (character b) (mod-lt b (lit< tt))

-- no entry is above 134
pub entry-highest : (b : ℕ) → entry b ≤ 134
unfolding entry
entry-highest b = highest-by (even b) (among (character b) characters) (character b) (mod-lt b (lit< tt))

-- one below 133 is the character
pub entry-character : (b : ℕ) → entry b < 133 → entry b ≡ character b
unfolding entry
entry-character b = character-by (even b) (among (character b) characters) (character b)
