-- What a block without number may begin with: an item's turn, its tab or its letter, or an end.
use Prim.Native.Nat.{ℕ}
use mathlib.Core.Path.{◌≡◌, refl, sym, ap, ◌∙◌}
use mathlib.Core.Bool.{Bool, true, false, ◌&&◌, ◌||◌, false≢true}
use mathlib.Core.List.{List, [], ◌∷◌, ◌++◌, append_assoc}
use lib.Dec.{eqb}
use borrow.Author.Tests.{eq-eqb, eqb-true}
use Rattle.rows.specs.Kept.{KeptRow}
use Rattle.shorthand.specs.declared.Item.{Item}
use Rattle.shorthand.specs.declared.Format.{Format}
use Rattle.shorthand.specs.Edition.{letters, any_of}
use Rattle.shorthand.specs.Layout.{items_of, Way, by_letter, by_both, by_tab, way_of}
use Rattle.shorthand.specs.Facts.{Fair, none, more, Facts}
use Rattle.words.specs.declared.Word.{Word}
use Rattle.parts.specs.declared.Begun.{Begun}
use Rattle.parts.specs.Items.{turn, any_turn, bare_in}
use Rattle.reading.specs.Record.{is_empty}
use Rattle.reading.specs.Relation.{address, word, tab, Words, out, here, chars}
use Rattle.reading.proofs.RowsAhead.{heads}
use Rattle.reading.proofs.WordsTake.{fails}

-- the turn of one of the items begins with this character
abbrev pub turns : Way → List Item → ℕ → Bool
turns y [] c = false
turns y (it ∷ its) c = eqb c (turn y it) || turns y its c

abbrev pub opener : Format → ℕ → Bool
opener f c = turns (way_of f) (items_of f) c || (eqb c 10 || eqb c 13)

-- ---- of rows, by their characters

any-heads : (y : Way) (its : List Item) (rs : List KeptRow) → any_turn y its rs ≡ heads (turns y its) (chars rs)
any-heads y [] [] = refl
any-heads y [] (r ∷ rs) = refl
any-heads y (it ∷ its) [] = any-heads y its []
any-heads y (it ∷ its) (r ∷ rs) = ap (λ b. eqb r.char (turn y it) || b) (any-heads y its (r ∷ rs))

pub bare-heads : (f : Format) (rs : List KeptRow) → bare_in f rs ≡ (f.unnumbered && heads (opener f) (chars rs))
bare-heads f [] = rw (any-heads (way_of f) (items_of f) [])
bare-heads f (r ∷ rs) = rw (any-heads (way_of f) (items_of f) (r ∷ rs))

-- ---- no other character

or-true : (a : Bool) → (a || true) ≡ true
or-true true = refl
or-true false = refl

no-turn : (c : ℕ) → any_of (λ l. eqb c l) letters ≡ false → eqb c 9 ≡ false → {its : List Item} → Fair its → (y : Way) → turns y its c ≡ false
no-turn c h t none y = refl
no-turn c h t (more {it} l w d f) by_letter = rw (fails (λ l. eqb c l) letters it.letter l h) (no-turn c h t f by_letter)
no-turn c h t (more l w d f) by_both = rw t (no-turn c h t f by_both)
no-turn c h t (more l w d f) by_tab = rw t (no-turn c h t f by_tab)

-- neither an item's letter, nor HT, LF or CR
pub no-opener : (f : Format) → Facts f → (c : ℕ) → any_of (λ l. eqb c l) (9 ∷ 10 ∷ 13 ∷ letters) ≡ false → opener f c ≡ false
no-opener f facts c h = by (eqb c 9) refl (eqb c 10) refl (eqb c 13) refl h
  where
    by : (x : Bool) → eqb c 9 ≡ x → (y : Bool) → eqb c 10 ≡ y → (z : Bool) → eqb c 13 ≡ z → (x || (y || (z || any_of (λ l. eqb c l) letters))) ≡ false → opener f c ≡ false
    by true p y q z r e = absurd (false≢true (sym e))
    by false p true q z r e = absurd (false≢true (sym e))
    by false p false q true r e = absurd (false≢true (sym e))
    by false p false q false r e = rw (no-turn c e p facts.fair (way_of f), q, r)

-- so it does not stand where a block without number begins
pub not-opening : (f : Format) → Facts f → (c : ℕ) → any_of (λ l. eqb c l) (9 ∷ 10 ∷ 13 ∷ letters) ≡ false → (u : List ℕ) → heads (opener f) u ≡ true → heads (λ d. eqb d c) u ≡ false
not-opening f facts c h [] q = absurd (false≢true q)
not-opening f facts c h (d ∷ u) q = by (eqb d c) refl
  where
    by : (x : Bool) → eqb d c ≡ x → x ≡ false
    by true e = absurd (false≢true (sym (no-opener f facts c h) ∙ rw (← (eqb-true d c e)) q))
    by false e = refl

-- ---- words begin with a turn

pub tab-turns : (y : Way) (it : Item) (its : List Item) (u : List ℕ) → heads (turns y its) u ≡ true → heads (turns y (it ∷ its)) (tab y ++ u) ≡ true
tab-turns by_letter it its [] h = h
tab-turns by_letter it its (c ∷ u) h = rw h (or-true (eqb c it.letter))
tab-turns by_both it its u h = refl
tab-turns by_tab it its u h = refl

pub word-turns : (y : Way) (it : Item) (its : List Item) (x : List ℕ) → heads (turns y (it ∷ its)) (tab y ++ (address y it ++ x)) ≡ true
word-turns by_letter it its x = rw (eq-eqb it.letter it.letter refl)
word-turns by_both it its x = refl
word-turns by_tab it its x = refl

words-turns : {y : Way} {its : List Item} {w : Word} {ws : List Word} {r : List ℕ} → Words y its (w ∷ ws) r → (z : List ℕ) → heads (turns y its) (r ++ z) ≡ true
words-turns {y} (out {it} {its} {r = r} h) z = rw (append_assoc (tab y) r z) (tab-turns y it its (r ++ z) (words-turns h z))
words-turns {y} (here {it} {its} {r = r} (word {ds = ds} q) h) z =
    rw (append_assoc (tab y) (address y it ++ ds ++ r) z, append_assoc (address y it) ds r, append_assoc (address y it) (ds ++ r) z) (word-turns y it its (ds ++ r ++ z))

pub turn-opens : (f : Format) (u : List ℕ) → heads (turns (way_of f) (items_of f)) u ≡ true → heads (opener f) u ≡ true
turn-opens f [] h = h
turn-opens f (c ∷ u) h = rw h

-- a block without number has a word, and so begins with a turn
pub words_open : (f : Format) (s : Begun) {ws : List Word} {r : List ℕ} → is_empty s ws ≡ false → Words (way_of f) (items_of f) ws r → (z : List ℕ) → s.numbered ≡ false → heads (opener f) (r ++ z) ≡ true
words_open f s {ws = []} some w z n = absurd (false≢true (sym some ∙ rw n))
words_open f s {ws = v ∷ ws} {r} some w z n = turn-opens f (r ++ z) (words-turns w z)
