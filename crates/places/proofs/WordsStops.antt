-- How the words of a block go, in whatever way they are known.
use Prim.Native.Nat.{ℕ}
use mathlib.Core.Path.{◌≡◌, refl, sym, ap, ◌∙◌, subst}
use mathlib.Core.Logic.{inl, inr}
use mathlib.Core.Bool.{Bool, true, false, cond, false≢true}
use mathlib.Core.List.{List, [], ◌∷◌, ◌++◌, append-nil, append_assoc}
use native.Mathlib.Nat.{zero-lt-suc}
use native.Mathlib.Omega.{arith}
use lib.ListN.{length}
use Rattle.rows.specs.Answer.{Answer, ◌>>=◌}
use Rattle.rows.specs.Kept.{KeptRow}
use Rattle.shorthand.specs.declared.Item.{Item}
use Rattle.shorthand.specs.Edition.{letters}
use Rattle.shorthand.specs.Layout.{Way, by_letter, by_both, by_tab}
use Rattle.shorthand.specs.Facts.{Fair, none, more}
use Rattle.words.specs.declared.Word.{Word}
use Rattle.reading.specs.Relation.{tab, Words, done, here, chars}
use Rattle.words.specs.Figures.{Behind, taking, behind, front_place, is_digit, is_figure, figure_next}
use Rattle.parts.specs.declared.Begun.{Begun}
use Rattle.parts.specs.Items.{steps, stepped, begins, past_address, stops, out, at, any_turn}
use Rattle.reading.specs.Record.{is_empty}
use Rattle.reading.specs.Parse.{cons_word, resumed, words_at}
use Rattle.reading.proofs.RowsAhead.{is_digit_lem}
use Rattle.reading.proofs.WordsTake.{fails}
use Rattle.places.specs.Begins.{Reached, first}
use Rattle.places.specs.Faults.{Enters, GoesOn, digit_behind, data_behind, last_of}
use Rattle.places.proofs.Steady.{Like, Goes, took, goes-as, goes_after, goes-if, goes_map, goes_bind}
use Rattle.places.proofs.DigitLists.{last-behind}
use Rattle.places.proofs.Dues.{Some}
use Rattle.places.proofs.FigureStops.{fronts-like, figure-like, Firm}
use Rattle.places.proofs.WordStops.{Passed, pass-none, pass-row, word_here, WordStop, word-goes}

-- ---- a stop in a word

pub data WordsStop (y : Way) (its : List Item) : ℕ → List ℕ → List ℕ → List ℕ → Type 0 where
  in_word : {n : ℕ} {b ds w : List ℕ} (j : Item) (r : List ℕ) → Reached y its j r → WordStop y j n b ds w → WordsStop y its n (r ++ b) ds w

module _ {y : Way} {it : Item} {its : List Item} (n : ℕ) where
  later-out : (b ds w : List ℕ) → WordsStop y its n b ds w → WordsStop y (it ∷ its) n (tab y ++ b) ds w
  later-out b ds w (in_word {b = c} j r h q) = subst (λ x. WordsStop y (it ∷ its) n x ds w) (append_assoc (tab y) r c) (in_word j (tab y ++ r) (Reached.out h) q)

  later-here : (s : List ℕ) → Some y it s → (b ds w : List ℕ) → WordsStop y its n b ds w → WordsStop y (it ∷ its) n (tab y ++ (s ++ b)) ds w
  later-here s v b ds w (in_word {b = c} j r h q) =
      subst (λ x. WordsStop y (it ∷ its) n x ds w) (append_assoc (tab y) (s ++ r) c ∙ ap (λ x. tab y ++ x) (append_assoc s r c))
      (in_word j (tab y ++ (s ++ r)) (Reached.here v.1 h) q)

-- ---- tests of the first row

pass-tab : (y : Way) (rs : List KeptRow) → steps y rs ≡ true → Passed (stepped y) (tab y) rs
pass-tab by_letter rs e = pass-none rs
pass-tab by_both rs e = pass-row 9 rs e
pass-tab by_tab rs e = pass-row 9 rs e

steps-like : (y : Way) (x z : List KeptRow) → Like x z → steps y x ≡ steps y z
steps-like by_letter x z h = refl
steps-like by_both x z h = fronts-like 9 refl x z h
steps-like by_tab x z h = fronts-like 9 refl x z h

begins-like : (y : Way) (c : ℕ) → is_digit c ≡ false → (x z : List KeptRow) → Like x z → begins y c x ≡ begins y c z
begins-like by_letter c n x z h = fronts-like c n x z h
begins-like by_both c n x z h = fronts-like c n x z h
begins-like by_tab c n x z h = figure-like x z h

-- ---- nothing goes on with what stands before it

is-figure : (c : ℕ) → Enters by_tab c → is_figure c ≡ true
is-figure c (inl h) = rw (is_digit_lem c h)
is-figure c (inr (inl e)) = rw e
is-figure c (inr (inr e)) = rw e

-- behind an HT nothing does but data, where words have no address
firm-ht : (y : Way) (x : List ℕ) (rs : List KeptRow) → (y ≡ by_tab → figure_next rs ≡ false) → Firm y (x ++ (9 ∷ [])) rs
firm-ht y x [] e = tt
firm-ht y x (r ∷ rs) e = go
  where
    go : GoesOn y (last_of (x ++ (9 ∷ []))) r.char → ⊥
    go (digit_behind l d) = omega (arith, last-behind x (9 ∷ []) (zero-lt-suc 0))
    go (data_behind t l d) = false≢true (sym (e t) ∙ is-figure r.char d)

-- behind a tab nothing does where the item's word does not begin
firm-tab : (y : Way) (c : ℕ) (x : List ℕ) (rs : List KeptRow) → begins y c (stepped y rs) ≡ false → Firm y x rs → Firm y (x ++ tab y) (stepped y rs)
firm-tab by_letter c x rs e f = rw (append-nil x) f
firm-tab by_both c x rs e f = firm-ht by_both x (behind rs) (λ q. let z : ◌≡◌ {A = ℕ} 0 1 = cc in absurd (omega arith))
firm-tab by_tab c x rs e f = firm-ht by_tab x (behind rs) (λ q. e)

-- ---- all words

-- where no tab stands, no item's turn begins
no-tab : (y : Way) (its : List Item) (rs : List KeptRow) → steps y rs ≡ false → any_turn y its rs ≡ false
no-tab y [] rs e = refl
no-tab by_letter (it ∷ its) rs e = absurd (false≢true (sym e))
no-tab by_both (it ∷ its) rs e = rw e (no-tab by_both its rs e)
no-tab by_tab (it ∷ its) rs e = rw e (no-tab by_tab its rs e)

-- nor does one where the first item's word does not, and no row is taken for the others
no-turn : (y : Way) (it : Item) (its : List Item) (rs : List KeptRow) (u : List ℕ) → begins y it.letter (stepped y rs) ≡ false → (u ≡ [] → any_turn y its (stepped y rs) ≡ false) → tab y ++ u ≡ []
    → any_turn y (it ∷ its) rs ≡ false
no-turn by_letter it its rs u e h n = rw e (h n)
no-turn by_both it its rs u e h n = let z = ap length n in absurd (omega arith)
no-turn by_tab it its rs u e h n = let z = ap length n in absurd (omega arith)

-- words of the items, none where none was taken; where nothing goes on with what stands before them, nothing does with what stands before the rest;
-- and where there is neither word nor row, no item's turn begins
pub record WordsTaken (y : Way) (its : List Item) (rs : List KeptRow) (ws : List Word) (u : List ℕ) (rest : List KeptRow) : Type 0 where
  pub words : List Word
  pub stand : Words y its words u
  pub alike : (s : Begun) → is_empty s words ≡ is_empty s ws
  pub firm : (x : List ℕ) → Firm y x rs → Firm y (x ++ u) rest
  pub turnless : (s : Begun) → is_empty s ws ≡ true → u ≡ [] → any_turn y its rs ≡ false

-- an item that is reached, and those after it
abbrev reached : ℕ → Way → Item → List Item → List KeptRow → Answer (Behind (List Word))
reached len y it its l = cond (begins y it.letter l) (word_here len y it l >>= λ w. cons_word w.value (words_at len y its w.rest)) (words_at len y its l)

words_are : (len : ℕ) (y : Way) (it : Item) (its : List Item) (l : List KeptRow) → words_at len y (it ∷ its) l ≡ cond (steps y l) (reached len y it its (stepped y l)) (taking [] l)
unfolding words_at
words_are len y it its l = go (steps y l) (begins y it.letter (stepped y l))
  where
    after : List KeptRow
    after = stepped y l

    go : (a b : Bool) → resumed len it l (words_at len y its) (cond a (cond b (at (front_place after) (past_address y after)) (out after)) stops)
        ≡ cond a (cond b (word_here len y it after >>= λ w. cons_word w.value (words_at len y its w.rest)) (words_at len y its after)) (taking [] l)
    go true true = refl
    go true false = refl
    go false b = refl

pub words-go : (len : ℕ) (y : Way) {its : List Item} → Fair its → (rs : List KeptRow)
    → Goes (words_at len y its) len (WordsTaken y its rs) (WordsStop y its) rs (words_at len y its rs)
unfolding words_at
words-go len y none rs = took [] refl (record { words = []; stand = done; alike = λ s. refl; firm = λ x f. rw (append-nil x) f; turnless = λ s e n. refl }) (λ l h. refl)
words-go len y (more {it} {its} known widths once fair) rs =
    goes-as rs (words_are len y it its)
    (goes-if (steps y) (steps-like y) rs
    (λ e. let st = pass-tab y rs e in
    goes_after {o = reached len y it its} st.rows st.split (λ l h. ap (reached len y it its) (st.over l))
    (rw st.is
    (goes-if (begins y it.letter) (begins-like y it.letter (fails is_digit letters it.letter known refl)) (stepped y rs)
    (λ f. goes_bind (goes_map (λ a u l h. h) (λ n b ds w h. in_word it (tab y) first h) (word-goes len y it widths (stepped y rs) f)) λ v s rest e h.
    goes_bind (goes_map (λ a u l k. k) (λ n. later-here n (chars s) h.0) (words-go len y fair rest)) λ ws u rest₂ e k.
    took [] refl
    (rw (append-nil (chars u))
    (record {
      words = h.0.0 ∷ k.words;
      stand = here h.0.1 k.stand;
      alike = λ s. refl;
      firm = λ x f. subst (λ l. Firm y l rest₂) (append_assoc (x ++ tab y) (chars s) (chars u) ∙ append_assoc x (tab y) (chars s ++ chars u)) (k.firm (x ++ tab y ++ chars s) (h.1 (x ++ tab y)));
      turnless = λ s e n. absurd (false≢true e);
    }))
    (λ l e. refl))
    (λ f. goes_map
    (λ ws u l h. record {
      words = h.words;
      stand = Words.out h.stand;
      alike = h.alike;
      firm = λ x g. subst (λ v. Firm y v l) (append_assoc x (tab y) u) (h.firm (x ++ tab y) (firm-tab y it.letter x rs f g));
      turnless = λ s e n. no-turn y it its rs u f (h.turnless s e) n;
    })
    (λ n. later-out n) (words-go len y fair (stepped y rs))))))
    (λ e. took [] refl (record { words = []; stand = done; alike = λ s. refl; firm = λ x f. rw (append-nil x) f; turnless = λ s z n. no-tab y (it ∷ its) rs e }) (λ l h. refl)))
