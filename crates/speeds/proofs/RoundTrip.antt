-- From a code to its speed and back, and from a speed to its code and back.
use Prim.Native.Nat.{ℕ, ◌-◌, ◌≤◌}
use mathlib.Core.Path.{◌≡◌, sym, ◌∙◌}
use mathlib.Core.Bool.{◌&&◌}
use lib.Dec.{leb}
use Rattle.rows.specs.Answer.{taken}
use Rattle.speeds.specs.declared.Speed.{Speed}
use Rattle.speeds.specs.declared.Speed.TheVariants.{Rate}
use Rattle.speeds.specs.Meaning.{speed_for}
use Rattle.speeds.specs.Rounding.{rounded}
use Rattle.speeds.specs.Preferred.{nearest_code, NearestCode, least_rate, most_rate}
use Rattle.speeds.specs.Coding.{code_for}
use Rattle.speeds.proofs.PreferredRates.{nearest-code}
use Rattle.speeds.proofs.Answers.{passed, code-preferred}
use Rattle.speeds.proofs.Coded.{coded-reads, coded-codes, read-coded, magic-coded}

-- a code that is taken reads to a speed whose code is that code again
pub code-again : (k c : ℕ) (s : Speed) → speed_for k c ≡ taken s → code_for k s ≡ taken c
code-again k c s e = coded-codes (read-coded k c e)

-- by magic three the code of a rate reads to that rate rounded
pub reads-rounded : (k v c : ℕ) → 3 ≤ k → code_for k (Rate v) ≡ taken c → speed_for k c ≡ taken (Rate (rounded (k - 1) v))
reads-rounded k v c three e = coded-reads (magic-coded k v c three e)

-- in two digits it is the code of the nearest rate
pub reads-nearest : (v c : ℕ) → code_for 2 (Rate v) ≡ taken c → NearestCode v c
reads-nearest v c e =
    let t = (passed (leb least_rate v && leb v most_rate) (taken (nearest_code v)) 20 (sym (code-preferred (Rate v)) ∙ e)).1 in
    let q : nearest_code v ≡ c = cc in
    rw (← q) (nearest-code v)

-- no two codes mean one speed
pub one_code : (k c d : ℕ) (s : Speed) → speed_for k c ≡ taken s → speed_for k d ≡ taken s → c ≡ d
one_code k c d s e f = cc (code-again k c s e, code-again k d s f)
