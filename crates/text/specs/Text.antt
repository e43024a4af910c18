-- The text of numbers, words and a block's start in a listing (documents 01, "The listing program", and 02, 4/12 and 5/12): fields with one space between them.
use Rattle.std.specs.Prelude.{ℕ, zero, suc, ◌+◌, ◌-◌, ◌/◌, ◌%◌, cond, List, [], ◌∷◌, ◌++◌, ltb, nat_abs, length}
use Prim.Native.Char.{code}
use Prim.Native.String.{String, [] as end, ◌∷◌ as ◌then◌}
use Rattle.speeds.specs.declared.Speed.{Speed}
use Rattle.speeds.specs.declared.Speed.TheVariants.{Stop, Rapid, Rate}
use Rattle.words.specs.declared.Value.{Value}
use Rattle.words.specs.declared.Value.TheVariants.{Number, Dimension}
use Rattle.words.specs.declared.Word.{Word}
use Rattle.parts.specs.declared.Begun.{Begun}
use Rattle.reading.specs.Relation.{zeros}
use Rattle.punching.specs.Rows.{minus}

-- ASCII
abbrev pub text : String → List ℕ
text end = []
text (c then s) = code c ∷ text s

-- a number in plain decimal, no zero in front, by its last n digits at most
unfoldable pub decimal_in : ℕ → ℕ → List ℕ
decimal_in zero v = []
decimal_in (suc n) v = cond (ltb v 10) ((48 + v) ∷ []) (decimal_in n (v / 10) ++ ((48 + v % 10) ∷ []))

-- 20 digits hold every number of 64 bits
abbrev pub decimal : ℕ → List ℕ
decimal v = decimal_in 20 v

-- at full length: zeros in front up to n digits
abbrev pub full : ℕ → ℕ → List ℕ
full n v = zeros (n - length (decimal v)) ++ decimal v

-- a speed's own word, or its units
abbrev pub speed_text : Speed → List ℕ
speed_text Stop = text "stop"
speed_text Rapid = text "rapid"
speed_text (Rate v) = decimal v

-- plain decimal, a minus before a negative dimension
abbrev pub value_text : Value → List ℕ
value_text (Number v) = decimal v
value_text (Dimension z) = cond (minus z) (45 ∷ []) [] ++ decimal (nat_abs z)
value_text (Value.Speed s) = speed_text s

-- a space, the letter, the value
abbrev pub word_text : Word → List ℕ
word_text w = 32 ∷ w.letter ∷ value_text w.value

abbrev pub words_text : List Word → List ℕ
words_text [] = []
words_text (w ∷ ws) = word_text w ++ words_text ws

-- the sequence number at its full n digits, or "-" where there is none
abbrev pub sequence_text : ℕ → Begun → List ℕ
sequence_text n s = cond s.numbered (full n s.sequence) (45 ∷ [])

-- N or ":", the sequence number, "/" or "-"
abbrev pub start_text : ℕ → Begun → List ℕ
start_text n s = (cond s.alignment 58 78 ∷ 32 ∷ []) ++ (sequence_text n s ++ (32 ∷ cond s.skip 47 45 ∷ []))
