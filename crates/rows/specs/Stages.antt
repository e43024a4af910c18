-- The first three stages of reading as one answer, in document 01's order ("Four stages", refusals 4 to 7).
use Rattle.std.specs.Prelude.{ℕ, suc, ◌+◌, Bool, ◌||◌, cond, List, [], ◌∷◌, length, eqb, ltb}
use Rattle.rows.specs.Row.{character, entry}
use Rattle.rows.specs.Answer.{Answer, taken, refused, ◌>>◌}
use Rattle.std.specs.Prelude.{Option}
use Rattle.std.specs.Prelude.{None, Some}
use Rattle.rows.specs.declared.Side.{Side}
use Rattle.rows.specs.declared.Side.TheVariants.{Outside, Inside, Spoilt}
use Rattle.std.specs.Prelude.{Result}
use Rattle.std.specs.Prelude.{Ok, Err}

abbrev pub limit : ℕ
limit = 1_000_000

-- the lowest row, counted from i, that a test takes
unfoldable pub lowest : (ℕ → Bool) → ℕ → List ℕ → Option ℕ
lowest f i [] = None
lowest f i (b ∷ t) = cond (f b) (Some i) (lowest f (suc i) t)

-- the lowest row, counted from i, whose table entry is the refusal n
abbrev pub barred : ℕ → ℕ → List ℕ → Option ℕ
barred n i t = lowest (λ b. eqb (entry b) (128 + n)) i t

-- "(" opens; ")" outside is a fault
abbrev pub outside : ℕ → ℕ → Result Side ℕ
outside i c = cond (eqb c 40) (Ok (Inside i)) (cond (eqb c 41) (Err i) (Ok Outside))

-- the first ")" closes what row o opened; ":" or "%" spoils it
abbrev pub inside : ℕ → ℕ → ℕ → Result Side ℕ
inside o i c = cond (eqb c 41) (Ok Outside) (cond (eqb c 58 || eqb c 37) (Ok (Spoilt o i)) (Ok (Inside o)))

-- spoilt at row p, and closed: p is the lowest fault
abbrev pub spoilt : ℕ → ℕ → ℕ → Result Side ℕ
spoilt o p c = cond (eqb c 41) (Err p) (Ok (Spoilt o p))

-- the character c at row i
abbrev pub step : Side → ℕ → ℕ → Result Side ℕ
step Outside i c = outside i c
step (Inside o) i c = inside o i c
step (Spoilt o p) i c = spoilt o p c

-- at the end of the tape a "(" that was never closed is a fault at its own row, below any inside it
abbrev pub unclosed : Side → Option ℕ
unclosed Outside = None
unclosed (Inside o) = Some o
unclosed (Spoilt o p) = Some o

abbrev pub go_on : Result Side ℕ → (Side → Option ℕ) → Option ℕ
go_on (Ok m) rest = rest m
go_on (Err p) rest = Some p

-- the lowest fault of the control-outs, from row i on
unfoldable pub scan : Side → ℕ → List ℕ → Option ℕ
scan m i [] = unclosed m
scan m i (b ∷ t) = go_on (step m i (character b)) (λ n. scan n (suc i) t)

abbrev pub refuse_at : ℕ → Option ℕ → Answer (Unit {0})
refuse_at n (Some p) = refused n p
refuse_at n None = taken tt

-- at most 1,000,000 rows
abbrev pub in_limit : List ℕ → Answer (Unit {0})
in_limit t = cond (ltb limit (length t)) (refused 4 limit) (taken tt)

-- 4, then 5, then 6, then 7; a stage starts only when the one before has passed the whole tape
unfoldable pub judged : List ℕ → Answer (Unit {0})
judged t = in_limit t >> refuse_at 5 (barred 5 0 t) >> refuse_at 6 (barred 6 0 t) >> refuse_at 7 (scan Outside 0 t)
