-- The two editions, the letters of items, and what one edition alone allows (document 01, "The shorthand").
use Rattle.std.specs.Prelude.{ℕ, Bool, true, false, ◌&&◌, ◌||◌, not, cond, List, [], ◌∷◌, eqb}
use Rattle.shorthand.specs.declared.Edition.{Edition}
use Rattle.shorthand.specs.declared.Edition.TheVariants.{Iso1057, Iso2539}

-- the number by which an edition is asked for
abbrev pub number_of : Edition → ℕ
number_of Iso1057 = 1057
number_of Iso2539 = 2539

-- what only 2539 has: N4 to N9, items without dots, I J K, three digits, a missing sign that means plus, F2 and S2, blocks without number
abbrev pub later : Edition → Bool
later Iso1057 = false
later Iso2539 = true

-- N has one digit: 3 in 1057, 3 to 9 in 2539
abbrev pub sequence_most : Edition → ℕ
sequence_most e = cond (later e) 9 3

-- a coded speed has one digit: 3, 4 or 5; of F and S in 2539 also 2 (document 02, 4/12)
abbrev pub speed_least : Edition → ℕ → ℕ
speed_least e c = cond (later e && (eqb c 70 || eqb c 83)) 2 3

abbrev pub speed_most : ℕ
speed_most = 5

-- the letters of the items in their order: G; X Y Z U V W P Q R; I J K; A B C D E; F; S; T; M
abbrev pub letters : List ℕ
letters =
    71 ∷ 88 ∷ 89 ∷ 90 ∷ 85 ∷ 86 ∷ 87 ∷ 80 ∷ 81 ∷ 82 ∷ 73 ∷ 74 ∷ 75 ∷ 65 ∷ 66 ∷ 67 ∷ 68 ∷ 69 ∷ 70 ∷ 83 ∷ 84 ∷ 77 ∷ []

-- I, J and K are for 2539 only
abbrev pub allowed : Edition → ℕ → Bool
allowed e c = later e || not (eqb c 73 || eqb c 74 || eqb c 75)

abbrev pub any_of : (ℕ → Bool) → List ℕ → Bool
any_of f [] = false
any_of f (c ∷ cs) = f c || any_of f cs
