-- The code that means a speed exactly: there is one just where a code means the speed.
use Prim.Native.Nat.{ℕ}
use mathlib.Core.Path.{◌≡◌, refl, sym, ap, ◌∙◌}
use mathlib.Core.Bool.{Bool, true, false, cond}
use borrow.Author.Tests.{eqb-true, eq-eqb}
use Rattle.rows.specs.Answer.{Answer, taken, refused}
use Rattle.speeds.specs.declared.Speed.{Speed}
use Rattle.speeds.specs.declared.Speed.TheVariants.{Stop, Rapid, Rate}
use Rattle.speeds.specs.Meaning.{speed_for}
use Rattle.speeds.specs.Coding.{code_for, same_speed, reads, if_means, exact_for}
use Rattle.std.specs.Prelude.{None, Some}
use Rattle.speeds.proofs.RoundTrip.{code-again}

same_self : (s : Speed) → same_speed s s ≡ true
same_self Stop = refl
same_self Rapid = refl
same_self (Rate v) = eq-eqb v v refl

same-is : (s t : Speed) → same_speed s t ≡ true → s ≡ t
same-is Stop Stop e = refl
same-is Stop Rapid e = cc
same-is Stop (Rate w) e = cc
same-is Rapid Stop e = cc
same-is Rapid Rapid e = refl
same-is Rapid (Rate w) e = cc
same-is (Rate v) Stop e = cc
same-is (Rate v) Rapid e = cc
same-is (Rate v) (Rate w) e = ap Rate (eqb-true v w e)

reads-is : (s : Speed) (a : Answer Speed) → reads s a ≡ true → a ≡ taken s
reads-is s (taken t) e = ap taken (same-is t s e)
reads-is s (refused n p) e = cc

chosen : (t : Bool) (b c : ℕ) → cond t (Some b) None ≡ Some c → (t ≡ true) × (b ≡ c)
chosen true b c e = (refl, cc)
chosen false b c e = (cc, cc)

means-read : (k : ℕ) (s : Speed) (a : Answer ℕ) (c : ℕ) → if_means k s a ≡ Some c → speed_for k c ≡ taken s
means-read k s (taken b) c e =
    let t = chosen (reads s (speed_for k b)) b c e in
    rw t.1 at (reads-is s (speed_for k b) t.0)
means-read k s (refused n p) c e = cc

pub exact-means : (k : ℕ) (s : Speed) (c : ℕ) → exact_for k s ≡ Some c → speed_for k c ≡ taken s
unfolding exact_for
exact-means k s c e = means-read k s (code_for k s) c e

pub means-exact : (k : ℕ) (s : Speed) (c : ℕ) → speed_for k c ≡ taken s → exact_for k s ≡ Some c
unfolding exact_for
means-exact k s c e = rw (code-again k c s e, e, same_self s)

-- it is the code that the speed is given
pub exact-coded : (k : ℕ) (s : Speed) (c : ℕ) → exact_for k s ≡ Some c → code_for k s ≡ taken c
exact-coded k s c e = code-again k c s (exact-means k s c e)

-- how coding the speed, and then reading the code, decides it
module _ (k : ℕ) (s : Speed) where
  pub exact_none : {n p : ℕ} → refused n p ≡ code_for k s → None ≡ exact_for k s
  unfolding exact_for
  exact_none e = rw (← e)

  module _ {c : ℕ} (e : taken c ≡ code_for k s) where
    pub exact-unread : {n p : ℕ} → refused n p ≡ speed_for k c → None ≡ exact_for k s
    unfolding exact_for
    exact-unread f = rw (← e, ← f)

    -- the code means a speed, which is the one that was asked for or not
    pub exact_same : {t : Speed} → taken t ≡ speed_for k c → t ≡ s → Some c ≡ exact_for k s
    exact_same f g = sym (means-exact k s c (sym f ∙ ap taken g))

    pub exact_other : {t : Speed} → taken t ≡ speed_for k c → (t ≡ s → ⊥) → None ≡ exact_for k s
    unfolding exact_for
    exact_other {t} f g = rw (← e, ← f, no t g)
      where
        no : (t : Speed) → (t ≡ s → ⊥) → same_speed t s ≡ false
        no t g = by (same_speed t s) refl
          where
            by : (b : Bool) → same_speed t s ≡ b → b ≡ false
            by true h = absurd (g (same-is t s h))
            by false h = refl
