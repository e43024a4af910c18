-- Dressing: NUL, DEL and control-outs put into a tape (document 02, 10/12).
use Rattle.std.specs.Prelude.{ℕ, ◌≡◌, ◌⊎◌, List, [], ◌∷◌, ◌++◌, T}
use Rattle.rows.specs.Row.{character, characters, among, even}
use Rattle.rows.specs.ControlOut.{Remark, WellFormed}
use Rattle.rows.specs.Passes.{Every}

-- an even row with one of the 50 characters
abbrev pub Sound : ℕ → Type 0
Sound b = T (even b) × T (among (character b) characters)

-- NUL or DEL
abbrev pub Blank : ℕ → Type 0
Blank b = (b ≡ 0) ⊎ (b ≡ 255)

-- one thing put in: NUL or DEL anywhere; a complete control-out, with its own brackets, anywhere outside another
pub data Dressed : List ℕ → List ℕ → Type 0 where
  blank : (a z : List ℕ) (b : ℕ) → Blank b → Dressed (a ++ z) (a ++ (b ∷ z))
  remark : (a z : List ℕ) (o : ℕ) (r : List ℕ) (c : ℕ) → WellFormed a → character o ≡ 40 → Remark r → character c ≡ 41 → Every Sound (o ∷ (r ++ (c ∷ [])))
      → Dressed (a ++ z) (a ++ (o ∷ (r ++ (c ∷ z))))

-- any number of them, one after another
pub data Dressing (t : List ℕ) : List ℕ → Type 0 where
  bare : Dressing t t
  more : {u v : List ℕ} → Dressing t u → Dressed u v → Dressing t v
