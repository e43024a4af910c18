-- The number of each refusal in the refusal table (document 01, "Refusal numbers").
use Rattle.std.specs.Prelude.{ℕ, ◌≡◌}
use Rattle.rows.specs.declared.refusals.Cause.{Cause}

abbrev pub numbered : Cause → ℕ
numbered Cause.Edition = 1
numbered Cause.ShorthandForm = 2
numbered Cause.BeyondEdition = 3
numbered Cause.Length = 4
numbered Cause.Parity = 5
numbered Cause.Character = 6
numbered Cause.ControlOut = 7
numbered Cause.Head = 8
numbered Cause.Start = 9
numbered Cause.Misplaced = 10
numbered Cause.Figures = 11
numbered Cause.Sign = 12
numbered Cause.SecondZero = 13
numbered Cause.CutShort = 14
numbered Cause.NoBlock = 15
numbered Cause.Record = 16
numbered Cause.Unfit = 17
numbered Cause.InexactSpeed = 18
numbered Cause.Room = 19
numbered Cause.Uncodable = 20
numbered Cause.CodeLength = 21
numbered Cause.ProfileForm = 22
numbered Cause.Disagreement = 23
numbered Cause.IndexRoom = 24
numbered Cause.NoNumber = 25
numbered Cause.Travel = 26
numbered Cause.Outside = 27

abbrev pub Numbers : Cause → ℕ → Type 0
Numbers c n = n ≡ numbered c
