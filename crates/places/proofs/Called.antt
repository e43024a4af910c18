-- The rows behind which an item's data stand: those with which it is due, and its address. They end in its letter or in its tab, and tell its kind.
use Prim.Native.Nat.{ℕ, suc, ◌+◌, ◌^◌, ◌<◌}
use native.Mathlib.Omega.{arith}
use mathlib.Core.Path.{◌≡◌, refl, sym, ap, ◌∙◌, subst}
use mathlib.Core.Bool.{Bool, true, false, ◌||◌, cond, false≢true}
use mathlib.Core.List.{List, [], ◌∷◌, ◌++◌, append_assoc, append-nil, Memᴰ}
use lib.Dec.{T, eqb}
use lib.ListN.{length, get_or}
use borrow.Author.Tests.{ne_eqb}
use Rattle.rows.specs.Passes.{Every}
use Rattle.shorthand.specs.declared.Item.{Item}
use Rattle.shorthand.specs.declared.Format.{Format}
use Rattle.shorthand.specs.Edition.{letters, any_of}
use Rattle.shorthand.specs.Layout.{blank, items_of, Way, by_letter, by_both, by_tab, way_of}
use Rattle.shorthand.specs.Facts.{Fair, more, Facts}
use Rattle.shorthand.proofs.OneItem.{none_other}
use Rattle.words.specs.Figures.{is_figure}
use Rattle.parts.specs.declared.Begun.{Begun}
use Rattle.reading.specs.Relation.{digits, address, Worded, tab, start_rows, Start, counted, bare}
use Rattle.reading.proofs.DigitRows.{digits-digit}
use Rattle.reading.proofs.WordsTake.{fails}
use Rattle.places.specs.Begins.{Digit, Reached, first, out, here, Due}
use Rattle.places.proofs.Behind.{every-digit, every-word}
use Rattle.places.proofs.Splits.{Split, same, sooner, later, compare}
use Rattle.places.proofs.Stems.{stem, Figure, InWord, word_marks, stem-word, program-lf}
use Rattle.places.proofs.Dues.{due-item, item-letter}

-- ---- one item to a letter

pub every-item : (P : Item → Type 0) {it : Item} {its : List Item} → Memᴰ it its → Every P its → P it
every-item P (Memᴰ.head e) all = subst P (sym e) all.0
every-item P (Memᴰ.tail m) all = every-item P m all.1

-- another item with the same letter has the same kind
abbrev Same : Item → Item → Type 0
Same it i = i.letter ≡ it.letter → i.kind ≡ it.kind

same-letter : {its : List Item} {it : Item} → Fair its → Memᴰ it its → Every (Same it) its
same-letter Fair.none m = elim m [ ]
same-letter {it = it} (more {it = a} {its = its} l w d f) (Memᴰ.head e) = ((λ h. ap (λ i. i.kind) (sym e)), others its (none_other a.letter its d))
  where
    others : (is : List Item) → Every (λ i. i.letter ≡ a.letter → ⊥) is → Every (Same it) is
    others [] all = tt
    others (i ∷ is) all = ((λ h. absurd (all.0 (h ∙ ap (λ i. i.letter) e))), others is all.1)
same-letter {it = it} (more {it = a} {its = its} l w d f) (Memᴰ.tail m) =
    ((λ h. absurd (every-item (λ i. i.letter ≡ a.letter → ⊥) m (none_other a.letter its d) (sym h))), same-letter f m)

-- ---- one item to a tab

-- how many tabs stand behind the last LF, where k stood before
unfoldable level : ℕ → List ℕ → ℕ
level k [] = k
level k (c ∷ x) = level (cond (eqb c 10) 0 (cond (eqb c 9) (suc k) k)) x

level-append : (k : ℕ) (a b : List ℕ) → level k (a ++ b) ≡ level (level k a) b
unfolding level
level-append k [] b = refl
level-append k (c ∷ a) b = level-append (cond (eqb c 10) 0 (cond (eqb c 9) (suc k) k)) a b

-- neither LF nor HT
abbrev Level : ℕ → Type 0
Level c = (eqb c 10 ≡ false) × (eqb c 9 ≡ false)

level-kept : (k : ℕ) (x : List ℕ) → Every Level x → level k x ≡ k
unfolding level
level-kept k [] all = refl
level-kept k (c ∷ x) all = rw (all.0.0, all.0.1) (level-kept k x all.1)

digit-level : (c : ℕ) → Digit c → Level c
digit-level c h = (ne_eqb c 10 (λ e. omega arith), ne_eqb c 9 (λ e. omega arith))

word-level : {y : Way} {it : Item} → T (any_of (λ c. eqb c it.letter) letters) → {w : _} {d : List ℕ} → Worded y it w d → Every Level d
word-level {y} {it} known q =
    every-word digit-level (refl, refl) (refl, refl) y it (fails (λ d. eqb d 10) letters it.letter known refl, fails (λ d. eqb d 9) letters it.letter known refl) q

mark-level : (alignment : Bool) → Level (cond alignment 58 78)
mark-level true = (refl, refl)
mark-level false = (refl, refl)

number-level : (alignment : Bool) (d n : ℕ) → n < 10 ^ d → Every Level (cond alignment 58 78 ∷ digits d n)
number-level alignment d n h = (mark-level alignment, every-digit digit-level (refl, refl) (refl, refl) (digits d n) (digits-digit d n h))

start-level : {f : Format} {s : Begun} → Start f s → Every Level (start_rows f.sequence s)
start-level {f} (counted {n} true alignment h) = ((refl, refl), number-level alignment f.sequence n h)
start-level {f} (counted {n} false alignment h) = number-level alignment f.sequence n h
start-level (bare true allowed) = ((refl, refl), tt)
start-level (bare false allowed) = tt

-- the tabs that reach an item count it
reached-level : {its : List Item} {it : Item} {r : List ℕ} → Reached by_tab its it r → Fair its → (k : ℕ) → (i : ℕ) × (level k r ≡ k + suc i) × (get_or its i blank ≡ it)
unfolding level
reached-level first fair k = (0, omega arith, refl)
reached-level (out h) (more l w d f) k = let q = reached-level h f (suc k) in (suc q.0, omega (arith, q.1), q.2)
reached-level (here {d = d} {r = r} p h) (more l w _ f) k =
    let q = reached-level h f (suc k) in
    (suc q.0, (level-append (suc k) d r ∙ ap (λ j. level j r) (level-kept (suc k) d (word-level l p)) ∙ omega (arith, q.1)), q.2)

due-level : {f : Format} → Facts f → way_of f ≡ by_tab → {it : Item} {x : List ℕ} → Due f it x → (i : ℕ) × (level 0 x ≡ suc i) × (get_or (items_of f) i blank ≡ it)
unfolding level
due-level {f} facts y {it} h =
    let s = start_rows f.sequence h.start in
    let q = reached-level (subst (λ v. Reached v (items_of f) it h.passed) y h.reached) facts.fair 0 in
    let e = program-lf h.program in
    let ended : level 0 h.ended ≡ 0 = ap (level 0) e.1 ∙ level-append 0 e.0 (10 ∷ []) in
    let started : level 0 s ≡ 0 = level-kept 0 s (start-level h.starts) in (
      q.0,
      ap (level 0) h.rows ∙ level-append 0 h.ended (s ++ h.passed) ∙ ap (λ k. level k (s ++ h.passed)) ended ∙ level-append 0 s h.passed ∙ ap (λ k. level k h.passed) started
          ∙ omega (arith, q.1),
      q.2,
    )

-- ---- what the rows end in

reached-ends : {y : Way} {its : List Item} {it : Item} {r : List ℕ} → Reached y its it r → (u : List ℕ) × (r ≡ u ++ tab y)
reached-ends first = ([], refl)
reached-ends {y} (out {r = r} h) = let q = reached-ends h in (tab y ++ q.0, ap (λ l. tab y ++ l) q.1 ∙ sym (append_assoc (tab y) q.0 (tab y)))
reached-ends {y} (here {d = d} {r = r} p h) =
    let q = reached-ends h in (tab y ++ (d ++ q.0), ap (λ l. tab y ++ (d ++ l)) q.1 ∙ sym (append_assoc (tab y) (d ++ q.0) (tab y) ∙ ap (λ l. tab y ++ l) (append_assoc d q.0 (tab y))))

due-ends : {f : Format} {it : Item} {x : List ℕ} → Due f it x → (u : List ℕ) × (x ≡ u ++ tab (way_of f))
due-ends {f} h =
    let q = reached-ends h.reached in
    let s = start_rows f.sequence h.start in
    (h.ended ++ (s ++ q.0), h.rows ∙ ap (λ l. h.ended ++ (s ++ l)) q.1 ∙ sym (append_assoc h.ended (s ++ q.0) (tab (way_of f)) ∙ ap (λ l. h.ended ++ l) (append_assoc s q.0 (tab (way_of f)))))

-- the last row before an item's data is its letter, or its tab
pub record Called (y : Way) (it : Item) (x : List ℕ) : Type 0 where
  pub before : List ℕ
  pub mark : ℕ
  pub rows : x ++ address y it ≡ before ++ (mark ∷ [])
  pub known : InWord mark
  -- behind addresses it is the letter, behind tabs alone HT
  pub letter : (y ≡ by_tab → ⊥) → mark ≡ it.letter
  pub tab : y ≡ by_tab → mark ≡ 9

letter-known : (l : ℕ) → T (any_of (λ c. eqb c l) letters) → InWord l
letter-known l h = go (eqb 9 l)
  where
    go : (b : Bool) → T (b || any_of (λ c. eqb c l) letters)
    go true = tt
    go false = h

pub by-letter-tab : {A : Type 0} → ◌≡◌ {A = Way} by_letter by_tab → A
by-letter-tab e = let z : ◌≡◌ {A = ℕ} 0 1 = cc in absurd (omega arith)

pub by-both-tab : {A : Type 0} → ◌≡◌ {A = Way} by_both by_tab → A
by-both-tab e = let z : ◌≡◌ {A = ℕ} 0 1 = cc in absurd (omega arith)

called-by : (y : Way) (it : Item) → T (any_of (λ c. eqb c it.letter) letters) → (u x : List ℕ) → x ≡ u ++ tab y → Called y it x
called-by by_letter it known u x e =
    record { before = x; mark = it.letter; rows = refl; known = letter-known it.letter known; letter = λ n. refl; tab = λ q. by-letter-tab q }
called-by by_both it known u x e =
    record { before = x; mark = it.letter; rows = refl; known = letter-known it.letter known; letter = λ n. refl; tab = λ q. by-both-tab q }
called-by by_tab it known u x e = record { before = u; mark = 9; rows = append-nil x ∙ e; known = tt; letter = λ n. absurd (n refl); tab = λ q. refl }

pub called : {f : Format} → Facts f → {it : Item} {x : List ℕ} → Due f it x → Called (way_of f) it x
called {f} facts {it} {x} h = let q = due-ends h in called-by (way_of f) it (item-letter facts.fair (due-item h)) q.0 x q.1

-- what they end in, figures behind them left out
pub stem-called : {f : Format} → Facts f → {it : Item} {y : List ℕ} → Due f it y → (z : List ℕ) → Every Figure z → (x : List ℕ) → x ≡ y ++ address (way_of f) it ++ z → InWord (stem x)
stem-called facts due z all x e =
    let m = called facts due in
    subst InWord (sym (ap stem (e ∙ ap (λ l. l ++ z) m.rows ∙ append_assoc m.before (m.mark ∷ []) z) ∙ stem-word facts m.before m.mark z m.known all)) m.known

pub address-size : (y : Way) (it jt : Item) → length (address y it) ≡ length (address y jt)
address-size by_letter it jt = refl
address-size by_both it jt = refl
address-size by_tab it jt = refl

pub mark-figure : (l : ℕ) → InWord l → is_figure l ≡ false
mark-figure l known = fails is_figure word_marks l known refl

-- ---- and so tell its kind

every-at : (y : List ℕ) (l : ℕ) (z : List ℕ) → Every Figure (y ++ (l ∷ z)) → Figure l
every-at [] l z all = all.0
every-at (c ∷ y) l z all = every-at y l z all.1

-- the last character that is no figure splits rows in one way
pub figures-same : (y w : List ℕ) (k l : ℕ) (z v : List ℕ) → is_figure k ≡ false → is_figure l ≡ false → Every Figure z → Every Figure v → y ++ (k ∷ z) ≡ w ++ (l ∷ v)
    → (y ≡ w) × (k ≡ l) × (z ≡ v)
figures-same y w k l z v n o p q e = go (compare y w k z l v e)
  where
    go : Split y w k z l v → (y ≡ w) × (k ≡ l) × (z ≡ v)
    go (same a b c) = (a, b, c)
    go (sooner u a b) = absurd (false≢true (sym o ∙ every-at u l v (subst (Every Figure) b p)))
    go (later u a b) = absurd (false≢true (sym n ∙ every-at u k z (subst (Every Figure) b q)))

module _ {f : Format} (facts : Facts f) {it jt : Item} {x w : List ℕ} (h : Due f it x) (k : Due f jt w) where
  -- items of one letter have one kind
  by_name : (way_of f ≡ by_tab → ⊥) → (called facts k).mark ≡ (called facts h).mark → jt.kind ≡ it.kind
  by_name n m = every-item (Same it) (due-item k) (same-letter facts.fair (due-item h)) (sym ((called facts k).letter n) ∙ m ∙ (called facts h).letter n)

  -- and so have two items that are due behind the same rows, with their addresses
  kinds : (y : Way) → way_of f ≡ y → x ++ address y it ≡ w ++ address y jt → (called facts k).mark ≡ (called facts h).mark → jt.kind ≡ it.kind
  kinds by_letter e r m = by_name (λ q. by-letter-tab (sym e ∙ q)) m
  kinds by_both e r m = by_name (λ q. by-both-tab (sym e ∙ q)) m
  kinds by_tab e r m =
      let a = due-level facts e h in
      let b = due-level facts e k in
      let i : b.0 ≡ a.0 = omega (arith, a.1, b.1, ap (level 0) (sym (append-nil x) ∙ r ∙ append-nil w)) in
      ap (λ j. j.kind) (sym b.2 ∙ ap (λ j. get_or (items_of f) j blank) i ∙ a.2)

  -- the same rows with figures behind them have one kind and one split
  pub called_same : (u v : List ℕ) → Every Figure u → Every Figure v → x ++ address (way_of f) it ++ u ≡ w ++ address (way_of f) jt ++ v
      → (x ++ address (way_of f) it ≡ w ++ address (way_of f) jt) × (jt.kind ≡ it.kind) × (u ≡ v)
  called_same u v p q e =
      let a = called facts h in
      let b = called facts k in
      let rows : a.before ++ (a.mark ∷ u) ≡ b.before ++ (b.mark ∷ v) =
      sym (append_assoc a.before (a.mark ∷ []) u) ∙ ap (λ l. l ++ u) (sym a.rows) ∙ e ∙ ap (λ l. l ++ v) b.rows ∙ append_assoc b.before (b.mark ∷ []) v in
      let s = figures-same a.before b.before a.mark b.mark u v (mark-figure a.mark a.known) (mark-figure b.mark b.known) p q rows in
      let r : x ++ address (way_of f) it ≡ w ++ address (way_of f) jt = a.rows ∙ ap (λ l. l ++ (a.mark ∷ [])) s.0 ∙ ap (λ l. b.before ++ (l ∷ [])) s.1 ∙ sym b.rows in
      (r, kinds (way_of f) refl r (sym s.1), s.2)
