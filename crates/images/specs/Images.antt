-- A block appended to an image and the last one taken off, with the index of the image's blocks (document 02, 7/12). The image is the first rows of a lent buffer.
use Rattle.std.specs.Prelude.{ℕ, suc, ◌+◌, ◌-◌, Bool, ◌||◌, cond, List, [], ◌∷◌, ◌++◌, eqb, leb, ltb, length, take, drop, set, replicate}
use Rattle.rows.specs.Answer.{Answer, taken, refused, ◌>>=◌, ◌>>◌}
use Rattle.rows.specs.Stages.{limit}
use Rattle.shorthand.specs.declared.Format.{Format}
use Rattle.profile.specs.Answers.{agreed}
use Rattle.reading.specs.declared.Block.{Block}
use Rattle.reading.specs.declared.Part.{Part}
use Rattle.reading.specs.Survey.{Surveyed, surveyed}
use Rattle.punching.specs.Rows.{rows_of}
use Rattle.punching.specs.Fits.{unless}
use Rattle.punching.specs.Answers.{measured_for}
use Rattle.index.specs.Index.{number_in, index_room}
use Rattle.images.specs.declared.Image.{Image}
use Rattle.images.specs.declared.Site.{Site}

-- ---- where a block's rows go

-- NUL or DEL
abbrev pub is_blank : ℕ → Bool
is_blank b = eqb b 0 || eqb b 255

-- how many rows from the first on are blank
unfoldable pub blanks : List ℕ → ℕ
blanks [] = 0
blanks (b ∷ t) = cond (is_blank b) (suc (blanks t)) 0

-- n rows after the image's last row: 4 past the row limit, then 19 at the rows that the image needs
abbrev pub sited_after : List ℕ → ℕ → ℕ → Answer Site
sited_after t capacity n =
    unless (leb (length t + n) limit) 4 limit >> unless (leb (length t + n) capacity) 19 (length t + n) >> taken (record { at = length t; rows = length t + n })

-- n rows into the blank ones from a row on, where they fit, and the image stays as long; else after its last row
abbrev pub sited : List ℕ → ℕ → ℕ → ℕ → Answer Site
sited t from capacity n = cond (leb n (blanks (drop from t))) (taken (record { at = from; rows = length t })) (sited_after t capacity n)

-- ---- a block appended

-- what is to be done: the blocks so far, the first row of the new one, where its rows go, how many they are, and how many rows the image has then
pub record Plan : Type 0 where
  pub blocks : ℕ
  pub first : ℕ
  pub at : ℕ
  pub size : ℕ
  pub rows : ℕ

-- what is to be done, and the rows that are punched
pub record Append : Type 0 where
  pub plan : Plan
  pub punched : List ℕ

-- the tape, the record, 24 at the entries needed, then 4 and 19: under a Format, for a buffer and arrays of so many places
unfoldable pub append_for : Format → List ℕ → ℕ → ℕ → ℕ → Block → Answer Append
append_for f t capacity firsts numbers b =
    surveyed f t >>= λ x. measured_for f b >>= λ n. index_room (suc (length x.entries)) firsts numbers >> sited t x.last.to capacity n
    >>= λ s. taken (record { plan = record { blocks = length x.entries; first = x.last.to; at = s.at; size = n; rows = s.rows }; punched = rows_of f b })

unfoldable pub appended : ℕ → List ℕ → List ℕ → List ℕ → ℕ → ℕ → ℕ → Block → Answer Append
appended e s p t capacity firsts numbers b = agreed e s p >>= λ f. append_for f t capacity firsts numbers b

-- the same for the first rows of a buffer, and for arrays that are lent
abbrev pub append_in : Format → List ℕ → ℕ → List ℕ → List ℕ → Block → Answer Append
append_in f buffer rows firsts numbers b = append_for f (take rows buffer) (length buffer) (length firsts) (length numbers) b

abbrev pub appended_in : ℕ → List ℕ → List ℕ → List ℕ → ℕ → List ℕ → List ℕ → Block → Answer Append
appended_in e s p buffer rows firsts numbers b = appended e s p (take rows buffer) (length buffer) (length firsts) (length numbers) b

-- the rows and blocks of the image then
abbrev pub grown : Answer Append → Answer Image
grown a = a >>= λ x. taken (record { rows = x.plan.rows; blocks = suc x.plan.blocks })

-- rows put into a buffer from a row on
abbrev pub pasted : List ℕ → ℕ → List ℕ → List ℕ
pasted buffer at rows = take at buffer ++ (rows ++ drop (length rows) (drop at buffer))

-- the buffer and the arrays after; of a refusal each is as it was
abbrev pub buffer_grown : List ℕ → Answer Append → List ℕ
buffer_grown buffer (taken x) = pasted buffer x.plan.at x.punched
buffer_grown buffer (refused n p) = buffer

abbrev pub firsts_grown : List ℕ → Answer Append → List ℕ
firsts_grown firsts (taken x) = set firsts x.plan.blocks x.plan.first
firsts_grown firsts (refused n p) = firsts

abbrev pub numbers_grown : List ℕ → Block → Answer Append → List ℕ
numbers_grown numbers b (taken x) = set numbers x.plan.blocks (number_in b)
numbers_grown numbers b (refused n p) = numbers

-- ---- the last block taken off

-- the blocks of the tape and where the last stands; 15 at 0 where there is none
unfoldable pub last_for : Format → List ℕ → Answer Surveyed
last_for f t = surveyed f t >>= λ x. cond (ltb 0 (length x.entries)) (taken x) (refused 15 0)

unfoldable pub last_taken : ℕ → List ℕ → List ℕ → List ℕ → Answer Surveyed
last_taken e s p t = agreed e s p >>= λ f. last_for f t

-- the rows and blocks of the image then: it stays as long
abbrev pub shrunk : List ℕ → Answer Surveyed → Answer Image
shrunk t a = a >>= λ x. taken (record { rows = length t; blocks = length x.entries - 1 })

-- the rows of a part overpunched to DEL
abbrev pub overpunched : List ℕ → Part → List ℕ
overpunched buffer x = pasted buffer x.from (replicate (x.to - x.from) 255)

abbrev pub buffer_shrunk : List ℕ → Answer Surveyed → List ℕ
buffer_shrunk buffer (taken x) = overpunched buffer x.last
buffer_shrunk buffer (refused n p) = buffer
