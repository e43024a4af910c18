-- What each entry point answers: the tape's refusals, 15, 26, 27 (document 02, 11/12).
use Rattle.std.specs.Prelude.{ℕ, suc, Bool, List, map, take}
use Rattle.rows.specs.Answer.{Answer, ◌>>=◌, ◌>>◌}
use Rattle.shorthand.specs.declared.Format.{Format}
use Rattle.profile.specs.Answers.{agreed}
use Rattle.reading.specs.declared.Block.{Block}
use Rattle.reading.specs.declared.Entry.{Entry}
use Rattle.reading.specs.Answers.{nth, read}
use Rattle.index.specs.Finding.{entry_by}
use Rattle.slides.specs.declared.Travel.{Travel}
use Rattle.slides.specs.declared.Slides.{Slides}
use Rattle.slides.specs.declared.Rule.{Rule}
use Rattle.slides.specs.Axes.{sound}
use Rattle.slides.specs.Moves.{rule_of, block_tried, start, followed}

-- blocks 0 to n of some
abbrev pub blocks_to : ℕ → List Entry → List Block
blocks_to n es = map (λ x. x.block) (take (suc n) es)

-- some blocks from zero: 26, and then 27 at the first that leaves its travel
abbrev pub from_zero : Rule → List Block → Answer Slides
from_zero r bs = sound r.travel start.places >> followed r 0 bs start

-- behind block n of some blocks: 15, 26, and then 27 at the first block that leaves its travel; nothing behind block n is looked at
abbrev pub after : Rule → ℕ → List Entry → Answer Slides
after r n es = nth n es >> from_zero r (blocks_to n es)

unfoldable pub followed_in : Format → Rule → List ℕ → ℕ → Answer Slides
followed_in f r t n = read f t >>= after r n

-- where each axis stands behind block n: an edition, a shorthand, a profile and a tape, the travel and the operator's switch
unfoldable pub slides_after : ℕ → List ℕ → List ℕ → List ℕ → ℕ → Travel → Bool → Answer Slides
slides_after e s p t n tr slashed = agreed e s p >>= λ f. followed_in f (rule_of f p tr slashed) t n

-- block n alone, found by the first rows of all blocks, from where the axes stood before it: 26 of what is handed in as well
unfoldable pub stepped_in : Format → Rule → List ℕ → List ℕ → ℕ → Slides → Answer Slides
stepped_in f r t firsts n sl = entry_by f t firsts n >>= λ x. sound r.travel sl.places >> block_tried r n x.block sl

unfoldable pub slides_stepped : ℕ → List ℕ → List ℕ → List ℕ → List ℕ → ℕ → Slides → Travel → Bool → Answer Slides
slides_stepped e s p t firsts n sl tr slashed = agreed e s p >>= λ f. stepped_in f (rule_of f p tr slashed) t firsts n sl
