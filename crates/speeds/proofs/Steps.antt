-- What the code computes step by step, with powers of ten that it looked up, is what the definitions say.
use Prim.Native.Nat.{ℕ, ◌+◌, ◌-◌, ◌*◌, ◌/◌, ◌%◌, ◌^◌, ◌≤◌, ◌<◌}
use mathlib.Core.Path.{◌≡◌, ap, ◌∙◌}
use Rattle.rows.specs.Answer.{taken, refused}
use Rattle.speeds.specs.declared.Speed.TheVariants.{Rate}
use Rattle.speeds.specs.Meaning.{meaning, speed_for}
use Rattle.speeds.specs.Rounding.{past, rounded}
use Rattle.speeds.specs.Coding.{written, code_for}
use Rattle.speeds.proofs.Answers.{speed-second-zero, speed-taken, code-taken}
use Rattle.speeds.proofs.Coded.{first_under}

-- of a code: its unit u, and the power of ten t that its first digit asks for
module _ (k code : ℕ) (three : 3 ≤ k) (five : k ≤ 5) (l : code < 10 ^ k) {u : ℕ} (e : u ≡ 10 ^ (k - 1)) where
  pub first-digit : code / u < 10
  first-digit = rw e (first_under k code three l)

  pub second_zero : code % u < 10 ^ (k - 2) → 0 < code → speed_for k code ≡ refused 13 0
  second_zero z n = speed-second-zero k code three five l (rw e at z) n

  pub speed-is : {t : ℕ} → 10 ^ (k - 2) ≤ code % u → t ≡ 10 ^ (code / u + 5 - k) → speed_for k code ≡ taken (Rate (code % u * t))
  unfolding meaning
  speed-is z f = speed-taken k code three five l (rw e at z) ∙ ap (λ n. taken (Rate n)) (rw (f, e))

-- of a rate v: rounded r, its first digit d, the unit u, and the power of ten t that d asks for
module _ (k v : ℕ) (three : 3 ≤ k) (five : k ≤ 5) (n : 0 < v) {r d u t : ℕ} where
  pub code_is : r ≡ rounded (k - 1) v → 1_000 ≤ r → r < 10 ^ 13 → d ≡ past 4 r → u ≡ 10 ^ (k - 1) → t ≡ 10 ^ (d + 5 - k) → code_for k (Rate v) ≡ taken (d * u + r / t)
  unfolding written
  code_is e l m f g h = code-taken k v three five n (rw e at l) (rw e at m) ∙ ap taken (rw (h, g, f, e))
