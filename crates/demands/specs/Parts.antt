-- The parts of a tape: its head, the rows of each block, and what stands behind the last LF (document 01, "The record").
use Rattle.std.specs.Prelude.{ℕ, ◌≤◌, ◌<◌, ◌≡◌, List, [], ◌∷◌, ◌++◌, length, get_or}
use Rattle.rows.specs.Answer.{taken}
use Rattle.rows.specs.Row.{character}
use Rattle.rows.specs.Stages.{limit}
use Rattle.rows.specs.Kept.{kept}
use Rattle.reading.specs.declared.Block.{Block}
use Rattle.reading.specs.Relation.{TapeOf}
use Rattle.reading.specs.Answers.{rows_numbered}

-- the last of these rows is LF
pub record Fed (u : List ℕ) : Type 0 where
  pub front : List ℕ
  pub feed : ℕ
  pub rows : u ≡ front ++ (feed ∷ [])
  pub ends : character feed ≡ 10

-- behind any accepted tape, within the limit, the rows u add just the block b: behind a head they are a tape of b alone
abbrev pub Alone : ℕ → List ℕ → List ℕ → Block → List ℕ → Type 0
Alone e s p b u = (cs : List Block) (g : List ℕ) → TapeOf e s p cs g → length (g ++ u) ≤ limit → TapeOf e s p (cs ++ (b ∷ [])) (g ++ u)

-- a part for each block, to its own LF
pub data Each (e : ℕ) (s p : List ℕ) : List Block → List (List ℕ) → Type 0 where
  none : Each e s p [] []
  more : {b : Block} {bs : List Block} {u : List ℕ} {us : List (List ℕ)} → Fed u → Alone e s p b u → Each e s p bs us → Each e s p (b ∷ bs) (u ∷ us)

-- rows one behind the other
abbrev pub in_row : List (List ℕ) → List ℕ
in_row [] = []
in_row (u ∷ us) = u ++ in_row us

-- the head to its LF, the parts of the blocks without gap, and behind the last LF nothing that is kept; part n is what is handed back as the rows of block n
pub record Parts (e : ℕ) (s p : List ℕ) (bs : List Block) (t : List ℕ) : Type 0 where
  pub head : List ℕ
  pub parts : List (List ℕ)
  pub after : List ℕ
  pub joined : t ≡ head ++ (in_row parts ++ after)
  pub heads : TapeOf e s p [] head
  pub fed : Fed head
  pub each : Each e s p bs parts
  pub blank : kept after ≡ []
  pub handed : (n : ℕ) → n < length bs → rows_numbered e s p t n ≡ taken (get_or parts n [])
