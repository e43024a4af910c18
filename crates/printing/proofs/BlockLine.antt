-- Some words and LF, one behind another: what is to come behind the first of them.
use Prim.Native.Nat.{ℕ, suc, ◌+◌, ◌≤◌, ◌<◌, min}
use mathlib.Core.Path.{◌≡◌}
use mathlib.Core.List.{List, [], ◌∷◌, ◌++◌, append_assoc}
use native.Mathlib.Numerals.{add-one}
use native.Mathlib.Omega.{arith}
use lib.ListN.{length, get_or, take, drop, drop_of_length-le}
use lib.Seq.{drop-cons, take_all}
use Rattle.words.specs.declared.Word.{Word}
use Rattle.text.specs.Text.{word_text, words_text}
use Rattle.text.specs.Line.{Put}
use Rattle.text.proofs.Puts.{Coming, coming-turn, coming-over, coming-as}

module _ (l₀ : List ℕ) (start : ℕ) (ws : List Word) where
  -- the words from the i-th on, and LF
  abbrev pub left : ℕ → List ℕ
  left i = words_text (drop i ws) ++ (10 ∷ [])

  abbrev pub Comes : List ℕ → ℕ → ℕ → Type 0
  Comes l at i = Coming l₀ start (left 0) l at (left i)

  pub word-put : (l : List ℕ) (at i : ℕ) (d : Word) → Comes l at i → i < length ws → (l₂ : List ℕ) (m : ℕ) → Put l at (word_text (get_or ws i d)) l₂ m → Comes l₂ m (i + 1)
  word-put l at i d h some l₂ m p =
      let split : left i ≡ word_text (get_or ws i d) ++ left (suc i) = rw (drop-cons ws i d some) (append_assoc (word_text (get_or ws i d)) (words_text (drop (suc i) ws)) (10 ∷ [])) in
      rw (add-one i) (coming-turn (coming-as split h) p)

  pub words-put : (l : List ℕ) (at i : ℕ) → Comes l at i → length ws ≤ i → (l₂ : List ℕ) (m : ℕ) → Put l at (10 ∷ []) l₂ m → Put l₀ start (left 0) l₂ m
  words-put l at i h over l₂ m p =
      let none : left i ≡ (10 ∷ []) ++ [] = rw (drop_of_length-le ws {i = i} over) in
      coming-over (coming-turn (coming-as none h) p)

-- no more are taken than there are
pub few_taken : (n k : ℕ) (ws : List Word) → length ws ≡ k → take (min n k) ws ≡ take n ws
few_taken n k ws h = grind (arith, take_all)
