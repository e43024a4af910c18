-- The small parsers: the row at the front, digits, a sign (document 01, refusal table and its paragraph on order).
use Rattle.std.specs.Prelude.{ℕ, zero, suc, ◌+◌, ◌-◌, ◌*◌, ◌^◌, Bool, true, false, ◌&&◌, ◌||◌, not, cond, List, [], ◌∷◌, eqb, leb}
use Rattle.rows.specs.Answer.{Answer, taken, refused}
use Rattle.rows.specs.Kept.{KeptRow}
use Rattle.shorthand.specs.declared.Missing.{Missing}
use Rattle.shorthand.specs.declared.Missing.TheVariants.{Nothing, Leading, Trailing}
use Rattle.shorthand.specs.Layout.{fewest, Sign, barred, required, optional}
use Rattle.words.specs.declared.Wanted.{Wanted}

-- what a parser takes and the kept rows behind it
pub record Behind (A : Type 0) : Type 0 where
  pub value : A
  pub rest : List KeptRow

abbrev pub taking : {A : Type 0} → A → List KeptRow → Answer (Behind A)
taking a rs = taken (record { value = a; rest = rs })

-- the refusal where another row stands: 8 no "%" and an end, 9 no N or ":" or a wrong count of its digits, 10 no word, tab or end, 11 a wrong count of digits in a word
abbrev pub wrong_by : Wanted → ℕ
wrong_by Wanted.Head = 8
wrong_by Wanted.Start = 9
wrong_by Wanted.End = 10
wrong_by Wanted.Digits = 11

-- the refusal where the tape has ended: 8 within the head, 14 inside a block
abbrev pub cut_by : Wanted → ℕ
cut_by Wanted.Head = 8
cut_by Wanted.Start = 14
cut_by Wanted.End = 14
cut_by Wanted.Digits = 14

-- what is wanted is not there: refused at the row found at the front, or at the length where the tape has ended
abbrev pub wrong : {A : Type 0} → ℕ → Wanted → List KeptRow → Answer A
wrong len w [] = refused (cut_by w) len
wrong len w (r ∷ rs) = refused (wrong_by w) r.place

abbrev pub fronts : ℕ → List KeptRow → Bool
fronts c [] = false
fronts c (r ∷ rs) = eqb r.char c

abbrev pub behind : List KeptRow → List KeptRow
behind [] = []
behind (r ∷ rs) = rs

abbrev pub front_place : List KeptRow → ℕ
front_place [] = 0
front_place (r ∷ rs) = r.place

abbrev pub is_digit : ℕ → Bool
is_digit c = leb 48 c && leb c 57

abbrev pub digit_next : List KeptRow → Bool
digit_next [] = false
digit_next (r ∷ rs) = is_digit r.char

abbrev pub front_digit : List KeptRow → ℕ
front_digit [] = 0
front_digit (r ∷ rs) = r.char - 48

-- ---- digits

-- a number, how many digits it had, and what is behind them
pub record Run : Type 0 where
  pub number : ℕ
  pub count : ℕ
  pub rest : List KeptRow

-- at most n digits behind the number v, of which k stood before
unfoldable pub run : ℕ → ℕ → ℕ → List KeptRow → Run
run zero v k rs = record { number = v; count = k; rest = rs }
run (suc n) v k rs = cond (digit_next rs) (run n (v * 10 + front_digit rs) (suc k) (behind rs)) (record { number = v; count = k; rest = rs })

-- missing zeros are at the end that the item names
abbrev pub restored : Missing → ℕ → Run → ℕ
restored Nothing n q = q.number
restored Leading n q = q.number
restored Trailing n q = q.number * 10 ^ (n - q.count)

-- the digits of a number of n, a block's or a word's as is wanted; too few or one too many is refused at the first wrong row
unfoldable pub figures : ℕ → Wanted → Missing → ℕ → List KeptRow → Answer (Behind ℕ)
figures len w z n rs =
    let q = run n 0 0 rs in
    cond (leb (fewest z n) q.count && not (digit_next q.rest)) (taking (restored z n q) q.rest) (wrong len w q.rest)

-- ---- the sign before a word's digits

abbrev pub is_sign : ℕ → Bool
is_sign c = eqb c 43 || eqb c 45

-- what the data of a word begin with
abbrev pub is_figure : ℕ → Bool
is_figure c = is_digit c || is_sign c

abbrev pub figure_next : List KeptRow → Bool
figure_next [] = false
figure_next (r ∷ rs) = is_figure r.char

abbrev pub may_stand : Sign → Bool
may_stand barred = false
may_stand required = true
may_stand optional = true

abbrev pub may_miss : Sign → Bool
may_miss barred = true
may_miss required = false
may_miss optional = true

-- whether it is a minus; a sign that the item bars, or none where one must stand, is 12 at the row found there
abbrev pub signed : ℕ → Sign → List KeptRow → Answer (Behind Bool)
signed len s [] = refused 14 len
signed len s (r ∷ rs) =
    cond (is_sign r.char) (cond (may_stand s) (taking (eqb r.char 45) rs) (refused 12 r.place))
    (cond (may_miss s) (taking false (r ∷ rs)) (refused 12 r.place))
