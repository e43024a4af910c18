-- How an end and a block go.
use Prim.Native.Nat.{ℕ, ◌<◌}
use mathlib.Core.Path.{◌≡◌, refl, sym, ap, ◌∙◌, subst}
use mathlib.Core.Logic.{inl}
use mathlib.Core.Bool.{Bool, true, false, ◌||◌, cond, and-eq-true_iff, false≢true}
use mathlib.Core.List.{List, [], ◌∷◌, ◌++◌, append-nil, append_assoc}
use native.Mathlib.Nat.{zero-lt-suc}
use native.Mathlib.Omega.{arith}
use lib.ListN.{length}
use lib.Dec.{eqb}
use borrow.Author.Tests.{eqb-true, eqb-false, ne_eqb, not-true}
use Rattle.rows.specs.Answer.{Answer, taken, refused, ◌>>=◌}
use Rattle.rows.specs.Kept.{KeptRow}
use Rattle.rows.specs.Passes.{Every}
use Rattle.shorthand.specs.declared.Missing.TheVariants.{Nothing}
use Rattle.shorthand.specs.declared.Item.{Item}
use Rattle.shorthand.specs.declared.Format.{Format}
use Rattle.shorthand.specs.Edition.{letters}
use Rattle.shorthand.specs.Layout.{items_of, Way, by_letter, by_both, by_tab, way_of}
use Rattle.shorthand.specs.Facts.{Fair, none, more, Facts}
use Rattle.words.specs.declared.Word.{Word}
use Rattle.reading.specs.Record.{is_empty}
use Rattle.reading.specs.Relation.{Words, End, lf, cr_lf, skip_rows, counted, bare, chars}
use Rattle.words.specs.declared.Wanted.{Wanted}
use Rattle.words.specs.Figures.{Behind, taking, wrong_by, cut_by, fronts, behind, is_digit}
use Rattle.parts.specs.Ends.{after_cr, ended}
use Rattle.parts.specs.declared.Begun.{Begun}
use Rattle.parts.specs.Starts.{unnumbered, digits_at, bare_at, number_at, start_at}
use Rattle.parts.specs.Items.{turn, any_turn, end_next, bare_in}
use Rattle.parts.proofs.BareFronts.{bare-none}
use Rattle.reading.specs.Parse.{words_and_end, block_at}
use Rattle.reading.proofs.WordsTake.{neither, fails}
use Rattle.places.specs.Faults.{number_rows, Turn, NoTurn, NoStart, GoesOn, last_of}
use Rattle.places.proofs.Steady.{Like, first_row, Next, next-any, at_end, Goes, took, held, goes-as, goes_after, goes-alone, goes-if, goes_map, goes_bind}
use Rattle.places.proofs.Dues.{Opened, opened, SomeBlock}
use Rattle.places.proofs.FigureStops.{fronts-like, Figured, still, Firm, figured-firm, FigureStop, not-thirteen, figures-go}
use Rattle.places.proofs.WordStops.{full-digits}
use Rattle.places.proofs.WordsStops.{WordsStop, WordsTaken, words-go}
use Rattle.places.proofs.Ahead.{opened-block}

-- ---- an end

-- refused as the end that is wanted, at a row or where the tape ends, and P is of the first row; or as the end of an empty block, by 9 at its LF
pub data EndStop (P : ℕ → Type 0) (w : Wanted) (empty : Bool) : ℕ → List ℕ → List ℕ → List ℕ → Type 0 where
  no_end : {c : ℕ} → (c ≡ 10 → ⊥) → (c ≡ 13 → ⊥) → P c → EndStop P w empty (wrong_by w) [] [] (c ∷ [])
  no_lf : {c : ℕ} → (c ≡ 10 → ⊥) → EndStop P w empty (wrong_by w) [] [] (13 ∷ c ∷ [])
  cut_end : EndStop P w empty (cut_by w) [] [] []
  cut_lf : EndStop P w empty (cut_by w) (13 ∷ []) [] []
  empty_lf : empty ≡ true → EndStop P w empty 9 [] [] (10 ∷ [])
  empty_cr_lf : empty ≡ true → EndStop P w empty 9 (13 ∷ []) [] (10 ∷ [])

module _ (len : ℕ) (w : Wanted) (P : ℕ → Type 0) (empty : Bool) where
  -- at its LF an end closes a block, or finds it empty
  abbrev close : Behind ℕ → Answer (Behind ℕ)
  close e = cond empty (refused 9 e.value) (taken e)

  abbrev Closed : List KeptRow → Answer (Behind ℕ) → Type 0
  Closed rs x = Goes (λ l. ended len w l >>= close) len (λ p u l. End u × (empty ≡ false)) (EndStop P w empty) rs x

  lf-goes : (r : KeptRow) → eqb r.char 10 ≡ true → (rs : List KeptRow) → Closed (r ∷ rs) (close (record { value = r.place; rest = rs }))
  lf-goes r x rs = go empty refl
    where
      go : (b : Bool) → empty ≡ b → Closed (r ∷ rs) (cond b (refused 9 r.place) (taking r.place rs))
      go true e = goes-alone 9 (r ∷ []) rs (zero-lt-suc 0) refl (rw (eqb-true r.char 10 x) (empty_lf e)) (λ h. absurd (omega arith)) (λ l. rw (x, e) tt)
      go false e = took {a = r.place} (r ∷ []) refl (rw (eqb-true r.char 10 x) (lf, e)) (λ l h. rw (x, e))

  cr-goes : (r : KeptRow) → eqb r.char 10 ≡ false → eqb r.char 13 ≡ true → (rs : List KeptRow) → Closed (r ∷ rs) (after_cr len w r rs >>= close)
  cr-goes r x y [] = held (at_end (r ∷ []) [] refl tt (subst (λ c. EndStop P w empty (cut_by w) (c ∷ []) [] []) (sym (eqb-true r.char 13 y)) cut_lf))
  cr-goes r x y (s ∷ rs) = go (eqb s.char 10) refl empty refl
    where
      go : (b : Bool) → eqb s.char 10 ≡ b → (c : Bool) → empty ≡ c
          → Closed (r ∷ s ∷ rs) (cond b (taking s.place rs) (refused (wrong_by w) r.place) >>= λ e. cond c (refused 9 e.value) (taken e))
      go true z true e =
          goes_after {o = λ l. after_cr len w r l >>= close} (r ∷ []) refl (λ l h. rw (x, y))
          (goes-alone 9 (s ∷ []) rs (zero-lt-suc 0) refl (rw (eqb-true r.char 13 y, eqb-true s.char 10 z) (empty_cr_lf e)) (λ h. absurd (omega arith)) (λ l. rw (z, e) tt))
      go true z false e = took {a = s.place} (r ∷ s ∷ []) refl (rw (eqb-true r.char 13 y, eqb-true s.char 10 z) (cr_lf, e)) (λ l h. rw (x, y, z, e))
      go false z c e =
          goes-alone (wrong_by w) (r ∷ s ∷ []) rs (zero-lt-suc 1) refl (subst (λ c. EndStop P w empty (wrong_by w) [] [] (c ∷ s.char ∷ [])) (sym (eqb-true r.char 13 y)) (no_lf (eqb-false s.char 10 z)))
          (λ h. absurd (not-thirteen w h)) (λ l. rw (x, y, z) tt)

  pub close-goes : (rs : List KeptRow) → Next P rs → Closed rs (ended len w rs >>= close)
  close-goes [] h = held (at_end [] [] refl tt cut_end)
  close-goes (r ∷ rs) h = go (eqb r.char 10) refl (eqb r.char 13) refl
    where
      go : (b : Bool) → eqb r.char 10 ≡ b → (c : Bool) → eqb r.char 13 ≡ c → Closed (r ∷ rs) (ended len w (r ∷ rs) >>= close)
      go true x c y = rw x (lf-goes r x rs)
      go false x true y = rw (x, y) (cr-goes r x y rs)
      go false x false y =
          rw (x, y)
          (goes-alone (wrong_by w) (r ∷ []) rs (zero-lt-suc 0) refl (no_end (eqb-false r.char 10 x) (eqb-false r.char 13 y) h) (λ h. absurd (not-thirteen w h)) (λ l. rw (x, y) tt))

-- an end that finds nothing empty
pub ended-goes : (len : ℕ) (w : Wanted) (P : ℕ → Type 0) (rs : List KeptRow) → Next P rs → Goes (ended len w) len (λ p u l. End u) (EndStop P w false) rs (ended len w rs)
ended-goes len w P rs h =
    goes-as {o = λ l. ended len w l >>= taken} rs (λ l. alone (ended len w l)) (goes_map (λ p u l k. k.0) (λ n b ds w k. k) (close-goes len w P false rs h))
  where
    alone : (x : Answer (Behind ℕ)) → x ≡ x >>= taken
    alone (taken e) = refl
    alone (refused n p) = refl

-- ---- a block

-- what stands behind its words does not go on with them; and where it is empty it is an end's, or stands behind a tab
pub record Halts (f : Format) (s : Begun) (ws : List Word) (u r : List ℕ) (c : ℕ) : Type 0 where
  pub firm : GoesOn (way_of f) (last_of (u ++ r)) c → ⊥
  pub tabbed : is_empty s ws ≡ true → (c ≡ 10 → ⊥) → (c ≡ 13 → ⊥) → 0 < length r

pub data BlockStop (f : Format) : ℕ → List ℕ → List ℕ → List ℕ → Type 0 where
  no_start : {c : ℕ} (skip : Bool) → NoStart f skip c → BlockStop f 9 (skip_rows skip) [] (c ∷ [])
  cut_start : (skip : Bool) → BlockStop f 14 (skip_rows skip) [] []
  in_number : {n : ℕ} {b ds w : List ℕ} (skip alignment : Bool) → FigureStop (λ c. Unit {0}) Wanted.Start Nothing f.sequence n b ds w → BlockStop f n (number_rows skip alignment b) ds w
  in_words : {n : ℕ} {s : Begun} {b ds w u : List ℕ} → Opened f s u → WordsStop (way_of f) (items_of f) n b ds w → BlockStop f n (u ++ b) ds w
  in_end : {n : ℕ} {s : Begun} {ws : List Word} {b ds w u r : List ℕ} → Opened f s u → Words (way_of f) (items_of f) ws r → EndStop (Halts f s ws u r) Wanted.End (is_empty s ws) n b ds w
      → BlockStop f n (u ++ (r ++ b)) ds w

mark-is : (c : ℕ) → (eqb c 78 || eqb c 58) ≡ true → c ≡ cond (eqb c 58) 58 78
mark-is c e = go (eqb c 78) refl (eqb c 58) refl e
  where
    go : (a : Bool) → eqb c 78 ≡ a → (b : Bool) → eqb c 58 ≡ b → (a || b) ≡ true → c ≡ cond b 58 78
    go a x true y e = eqb-true c 58 y
    go true x false y e = eqb-true c 78 x
    go false x false y e = absurd (false≢true e)

not-marked : (c : ℕ) → (eqb c 78 || eqb c 58) ≡ false → (c ≡ 78 → ⊥) × (c ≡ 58 → ⊥)
not-marked c e = let n = neither (eqb c 78) (eqb c 58) e in (eqb-false c 78 n.0, eqb-false c 58 n.1)

-- ---- a start with no number

-- whether an item's turn begins goes by the first row
turns-like : {its : List Item} → Fair its → (y : Way) (x z : List KeptRow) → Like x z → any_turn y its x ≡ any_turn y its z
turns-like none y x z h = refl
turns-like (more {it} l w d f) by_letter x z h = rw (fronts-like it.letter (fails is_digit letters it.letter l refl) x z h, turns-like f by_letter x z h)
turns-like (more l w d f) by_both x z h = rw (fronts-like 9 refl x z h, turns-like f by_both x z h)
turns-like (more l w d f) by_tab x z h = rw (fronts-like 9 refl x z h, turns-like f by_tab x z h)

bare-like : (f : Format) → Facts f → (x z : List KeptRow) → Like x z → bare_in f x ≡ bare_in f z
bare-like f facts x z h = rw (turns-like facts.fair (way_of f) x z h, fronts-like 10 refl x z h, fronts-like 13 refl x z h)

turn_is : (y : Way) (it : Item) (c : ℕ) → Turn y it c → c ≡ turn y it
turn_is by_letter it c h = h
turn_is by_both it c h = h
turn_is by_tab it c h = h

no-turns : (y : Way) (its : List Item) (r : KeptRow) (rs : List KeptRow) → any_turn y its (r ∷ rs) ≡ false → Every (λ it. Turn y it r.char → ⊥) its
no-turns y [] r rs e = tt
no-turns y (it ∷ its) r rs e =
    let n = neither (eqb r.char (turn y it)) (any_turn y its (r ∷ rs)) e in
    ((λ h. eqb-false r.char (turn y it) n.0 (turn_is y it r.char h)), no-turns y its r rs n.1)

-- where no block without number may begin, none does
not-bare : (f : Format) (r : KeptRow) (rs : List KeptRow) → bare_in f (r ∷ rs) ≡ false → f.unnumbered ≡ true → NoTurn f r.char
not-bare f r rs e a =
    let n = neither (any_turn (way_of f) (items_of f) (r ∷ rs)) (end_next (r ∷ rs)) (rw a at e) in
    (no-turns (way_of f) (items_of f) r rs n.0, eqb-false r.char 13 (neither (eqb r.char 10) (eqb r.char 13) n.1).1)

-- an empty block has no number
empty-bare : (s : Begun) (ws : List Word) → is_empty s ws ≡ true → s.numbered ≡ false
empty-bare s [] e = not-true s.numbered e
empty-bare s (w ∷ ws) e = absurd (false≢true e)

-- ---- any start, and the whole block

module _ (f : Format) (facts : Facts f) (len : ℕ) where
  -- a start, and nothing behind it goes on with it; one with no number stands where it may
  record Begins (s : Begun) (u : List ℕ) (rest : List KeptRow) : Type 0 where
    rows : Opened f s u
    firm : Firm (way_of f) u rest
    may : s.numbered ≡ false → bare_in f rest ≡ true

  module _ (skip : Bool) where
    opens : (alignment : Bool) (m : ℕ) (ds : List ℕ) {rest : List KeptRow} → Figured Nothing f.sequence m ds rest
        → Begins (record { skip = skip; alignment = alignment; numbered = true; sequence = m }) (number_rows skip alignment ds) rest
    opens alignment m ds {rest} h =
        let d = full-digits f.sequence m ds h in
        record {
          rows = rw d.1 (opened (counted skip alignment d.0));
          firm = subst (λ u. Firm (way_of f) u rest) (append_assoc (skip_rows skip) _ ds) (figured-firm (way_of f) (number_rows skip alignment []) h (omega (arith, facts.sequence.0)));
          may = λ e. absurd (false≢true (sym e));
        }

    digits-go : (alignment : Bool) (rs : List KeptRow)
        → Goes (digits_at len f.sequence skip alignment) len (λ b v l. Begins b (number_rows skip alignment v) l) (λ n b ds w. BlockStop f n (number_rows skip alignment b) ds w) rs (digits_at len f.sequence skip alignment rs)
    digits-go alignment rs =
        goes_bind (goes_map (λ a u l h. h) (λ n b ds w h. in_number skip alignment h) (figures-go len Wanted.Start Nothing f.sequence (λ c. Unit {0}) rs (next-any (λ c. tt) rs))) λ m ds rest e h.
        took [] refl (rw (append-nil (chars ds)) (opens alignment m (chars ds) h)) (λ l e. refl)

    -- from the sequence word on, where "/" stood before it or doesn't stand here
    abbrev Sequences : List KeptRow → Answer (Behind Begun) → Type 0
    Sequences rs x = Goes (number_at len f.sequence (bare_in f) skip) len (λ b v l. Begins b (skip_rows skip ++ v) l) (λ n b ds w. BlockStop f n (skip_rows skip ++ b) ds w) rs x

    -- nothing goes on with "/" or no row
    skip-firm : (y : Way) (rs : List KeptRow) → Firm y (skip_rows skip ++ []) rs
    skip-firm y rs = next-any (go skip) rs
      where
        go : (b : Bool) (c : ℕ) → GoesOn y (last_of (skip_rows b ++ [])) c → ⊥
        go true c = still (λ d. omega arith) (λ e. omega arith)
        go false c = still (λ d. omega arith) (λ e. omega arith)

    -- where neither N nor ":" stands
    bare-goes : (r : KeptRow) (rs : List KeptRow) → (eqb r.char 78 || eqb r.char 58) ≡ false → (eqb r.char 47 ≡ true → skip ≡ true) → Sequences (r ∷ rs) (bare_at len (bare_in f) skip (r ∷ rs))
    bare-goes r rs e s = go (bare_in f (r ∷ rs)) refl
      where
        go : (b : Bool) → bare_in f (r ∷ rs) ≡ b → Sequences (r ∷ rs) (cond b (taking (unnumbered skip) (r ∷ rs)) (refused 9 r.place))
        go true h =
            took {a = unnumbered skip} [] refl
            (record { rows = opened (bare skip ((and-eq-true_iff f.unnumbered _).0 h).0); firm = skip-firm (way_of f) (r ∷ rs); may = λ n. h })
            (λ l k. rw (← (fronts-like 78 refl (r ∷ rs) l k), ← (fronts-like 58 refl (r ∷ rs) l k), e, ← (bare-like f facts (r ∷ rs) l k), h))
        go false h =
            let n = not-marked r.char e in
            goes-alone 9 (r ∷ []) rs (zero-lt-suc 0) refl (rw (append-nil (skip_rows skip)) (no_start skip (n.0, n.1, (λ h. s (rw h)), not-bare f r rs h))) (λ h. absurd (omega arith))
            (λ l. rw (e, ← (bare-like f facts (r ∷ rs) (r ∷ l) (first_row (inl refl))), h) tt)

    number-goes : (rs : List KeptRow) → (fronts 47 rs ≡ true → skip ≡ true) → Sequences rs (number_at len f.sequence (bare_in f) skip rs)
    number-goes [] s = rw (bare-none f) (held (at_end {n = 14} [] [] refl tt (rw (append-nil (skip_rows skip)) (cut_start skip))))
    number-goes (r ∷ rs) s = go (eqb r.char 78 || eqb r.char 58) refl
      where
        go : (b : Bool) → (eqb r.char 78 || eqb r.char 58) ≡ b → Sequences (r ∷ rs) (cond b (digits_at len f.sequence skip (eqb r.char 58) rs) (bare_at len (bare_in f) skip (r ∷ rs)))
        go true e =
            let m = mark-is r.char e in
            goes_after {o = digits_at len f.sequence skip (eqb r.char 58)} (r ∷ []) refl
            (λ l h. ap (λ b. cond b (digits_at len f.sequence skip (eqb r.char 58) l) (bare_at len (bare_in f) skip (r ∷ l))) e)
            (goes_map (λ a v l h. subst (λ c. Begins a (skip_rows skip ++ (c ∷ v)) l) (sym m) h) (λ n b ds w h. subst (λ c. BlockStop f n (skip_rows skip ++ (c ∷ b)) ds w) (sym m) h)
            (digits-go (eqb r.char 58) rs))
        go false e = bare-goes r rs e s

  start-goes : (rs : List KeptRow) → Goes (start_at len f.sequence (bare_in f)) len Begins (BlockStop f) rs (start_at len f.sequence (bare_in f) rs)
  unfolding start_at
  start-goes rs =
      goes-if (fronts 47) (fronts-like 47 refl) rs (λ e. skipped rs e) (λ e. number-goes false rs (λ h. absurd (false≢true (sym e ∙ h))))
    where
      skipped : (rs : List KeptRow) → fronts 47 rs ≡ true
          → Goes (λ l. number_at len f.sequence (bare_in f) true (behind l)) len Begins (BlockStop f) rs (number_at len f.sequence (bare_in f) true (behind rs))
      skipped [] e = absurd (false≢true e)
      skipped (r ∷ rs) e =
          let m = eqb-true r.char 47 e in
          goes_after {o = number_at len f.sequence (bare_in f) true} (r ∷ []) refl (λ l h. refl)
          (goes_map (λ a v l h. subst (λ c. Begins a (c ∷ v) l) (sym m) h) (λ n b ds w h. subst (λ c. BlockStop f n (c ∷ b) ds w) (sym m) h) (number-goes true rs (λ h. refl)))

  -- behind the words of a block
  halts : {s : Begun} {ws : List Word} (b u rest l : List KeptRow) → rest ≡ u ++ l → Begins s (chars b) rest → (k : WordsTaken (way_of f) (items_of f) rest ws (chars u) l)
      → Next (Halts f s k.words (chars b) (chars u)) l
  halts b u rest [] e h k = tt
  halts {s} {ws} b u rest (r ∷ l) e h k = record { firm = k.firm (chars b) h.firm; tabbed = λ z. tabs u e (k.turnless s (sym (k.alike s) ∙ z)) (h.may (empty-bare s k.words z)) }
    where
      tabs : (u : List KeptRow) → rest ≡ u ++ (r ∷ l) → (chars u ≡ [] → any_turn (way_of f) (items_of f) rest ≡ false) → bare_in f rest ≡ true → (r.char ≡ 10 → ⊥) → (r.char ≡ 13 → ⊥) → 0 < length (chars u)
      tabs (c ∷ u) e t m a b = zero-lt-suc _
      tabs [] e t m a b =
          let ends = ((and-eq-true_iff f.unnumbered _).0 m).1 in
          let next : end_next (r ∷ l) ≡ true = subst (λ x. end_next x ≡ true) e (rw (t refl) at ends) in
          absurd (false≢true (sym (rw (ne_eqb r.char 10 a, ne_eqb r.char 13 b)) ∙ next))

  pub block_goes : (rs : List KeptRow) → Goes (block_at len f) len (λ b u l. SomeBlock f u) (BlockStop f) rs (block_at len f rs)
  unfolding block_at
  block_goes rs =
      goes_bind {f = λ b l. words_and_end len f (record { value = b; rest = l })} (start-goes rs) λ s b rest e h.
      goes_bind (goes_map (λ a u l k. k) (λ n b es w q. in_words h.rows q) (words-go len (way_of f) facts.fair rest)) λ ws u rest₂ e k.
      goes_bind (goes_map (λ a v l z. z) (λ n b es w q. in_end h.rows k.stand (rw (k.alike s) q)) (close-goes len Wanted.End (Halts f s k.words (chars b) (chars u)) (is_empty s ws) rest₂ (halts b u rest rest₂ e h k))) λ p v rest₃ e z.
      took [] refl (rw (append-nil (chars v)) (opened-block h.rows (k.words, k.alike s ∙ z.1, k.stand) z.0)) (λ l e. refl)
