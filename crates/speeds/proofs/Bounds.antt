-- How large a code and a rate can be.
use Prim.Native.Nat.{ℕ, ◌^◌, ◌≤◌, ◌<◌}
use mathlib.Core.Path.{◌≡◌}
use Rattle.rows.specs.Answer.{taken}
use Rattle.speeds.specs.declared.Speed.{Speed}
use Rattle.speeds.specs.declared.Speed.TheVariants.{Rate}
use Rattle.speeds.specs.Meaning.{speed_for}
use Rattle.speeds.specs.Coding.{code_for, exact_for}
use Rattle.std.specs.Prelude.{Some}
use Rattle.speeds.proofs.Answers.{read_short}
use Rattle.speeds.proofs.Coded.{coded-rate-under, coded-code-under, read-coded, magic-coded}
use Rattle.speeds.proofs.ExactCode.{exact-means}

pub rate-under : (k c v : ℕ) → 3 ≤ k → speed_for k c ≡ taken (Rate v) → v < 10 ^ 13
rate-under k c v three e = coded-rate-under three (read-coded k c e)

pub code-under : (k v c : ℕ) → 3 ≤ k → code_for k (Rate v) ≡ taken c → c < 10 ^ k
code-under k v c three e = coded-code-under (magic-coded k v c three e)

pub exact-code-under : (k : ℕ) (s : Speed) (c : ℕ) → exact_for k s ≡ Some c → c < 10 ^ k
exact-code-under k s c e = read_short k c (exact-means k s c e)
