-- The last line of a listing.
use Rattle.std.specs.Prelude.{ℕ, ◌≡◌, List, Result, Ok, Err}
use Rattle.rows.specs.declared.refusals.Refusal.{Refusal}
use Rattle.rows.specs.Refusals.{numbered}
use Rattle.lines.specs.declared.Said.{Said}
use Rattle.lines.specs.Lines.{count_line, refusal_line}

-- what is said of a refusal: its number and its place
abbrev pub Tells : Refusal → Said → Type 0
Tells r s = s ≡ record { number = numbered r.cause; place = r.place }

-- the last line: the count, or the refusal
abbrev pub closing : Result ℕ Said → List ℕ
closing (Ok n) = count_line n
closing (Err s) = refusal_line s.number s.place
