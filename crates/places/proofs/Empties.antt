-- A block with neither number nor word so far: no end stands behind it, and no row is out of place there for another reason than 9's and 10's.
use Prim.Native.Nat.{ℕ, ◌<◌}
use mathlib.Core.Path.{◌≡◌, refl, sym, ap, ◌∙◌, subst}
use mathlib.Core.Logic.{◌⊎◌, inl, inr}
use mathlib.Core.Bool.{Bool, true, false, ◌||◌, or-true, cond, false≢true}
use mathlib.Core.List.{List, [], ◌∷◌, ◌++◌, append_assoc, append-nil}
use native.Mathlib.Nat.{zero-lt-suc}
use native.Mathlib.Omega.{arith}
use lib.ListN.{length, length-append}
use lib.Dec.{T, eqb}
use Rattle.rows.specs.Answer.{Answer, taken, refused, ◌>>=◌}
use Rattle.rows.specs.Kept.{KeptRow}
use Rattle.rows.specs.Passes.{Every}
use Rattle.rows.proofs.Every.{every_append}
use Rattle.shorthand.specs.declared.Item.{Item}
use Rattle.shorthand.specs.declared.Format.{Format}
use Rattle.shorthand.specs.Edition.{letters, any_of}
use Rattle.shorthand.specs.Layout.{items_of, Way, by_letter, by_both, by_tab, way_of}
use Rattle.shorthand.specs.Facts.{Facts}
use Rattle.words.specs.declared.Wanted.{Wanted}
use Rattle.words.specs.Figures.{Behind, wrong, behind, is_digit, is_figure}
use Rattle.parts.specs.Starts.{start_at}
use Rattle.parts.specs.Ends.{ended, close_at}
use Rattle.reading.specs.declared.Block.{Block}
use Rattle.reading.specs.Relation.{address, tab, Words, done, out, skip_rows, bare, Program, chars}
use Rattle.reading.specs.Parse.{block_at}
use Rattle.reading.proofs.RowsAhead.{heads, fronts-heads, behind-chars}
use Rattle.reading.proofs.WordsTake.{AtEnd, at_lf, at_cr, fails, words-apart, words_take}
use Rattle.reading.proofs.BareStarts.{turns, opener, tab-turns, turn-opens}
use Rattle.reading.proofs.BlockTakes.{start-takes}
use Rattle.reading.proofs.Complete.{complete}
use Rattle.places.specs.Begins.{Digit, Begins, Due, Empty}
use Rattle.places.specs.Faults.{number_rows, FigureRow, GoesOn, digit_behind, data_behind, last_of}
use Rattle.places.proofs.Steady.{Refuses, refuses-bind}
use Rattle.places.proofs.DigitLists.{no_digit, last-behind, last-every, last-digit}
use Rattle.places.proofs.Dues.{due-item, item-letter, rows_of, chars-of}
use Rattle.places.proofs.WordStops.{refuses-wrong}
use Rattle.places.proofs.Follows.{program-through}
use Rattle.places.proofs.Stems.{Figure, program-lf}
use Rattle.places.proofs.Called.{by-letter-tab, by-both-tab, called}

-- ---- no end stands behind it

-- tabs begin with an item's turn
tabs-turn : {y : Way} {its : List Item} {r : List ℕ} → Words y its [] r → (z : List ℕ) → (heads (turns y its) (r ++ z) ≡ true) ⊎ (r ≡ [])
tabs-turn done z = inr refl
tabs-turn {y} (out {it} {its} {r = r} w) z = go y (tabs-turn w z)
  where
    go : (v : Way) → (heads (turns v its) (r ++ z) ≡ true) ⊎ (r ≡ []) → (heads (turns v (it ∷ its)) (tab v ++ r ++ z) ≡ true) ⊎ (tab v ++ r ≡ [])
    go by_letter (inl h) = inl (tab-turns by_letter it its (r ++ z) h)
    go by_letter (inr e) = inr e
    go by_both h = inl refl
    go by_tab h = inl refl

end-opens : (f : Format) {z : List ℕ} → AtEnd z → heads (opener f) z ≡ true
end-opens f at_lf = or-true (turns (way_of f) (items_of f) 10)
end-opens f at_cr = or-true (turns (way_of f) (items_of f) 13)

-- whatever end stands there, the block is refused
never-closed : (len : ℕ) (rs : List KeptRow) → Refuses (close_at len true rs)
never-closed len rs = go (ended len Wanted.End rs)
  where
    go : (x : Answer (Behind ℕ)) → Refuses {A = Behind ℕ} (x >>= λ e. refused 9 e.value)
    go (taken e) = tt
    go (refused n p) = tt

module _ (f : Format) (facts : Facts f) where
  -- behind a program's rows stands no block that is refused
  refused-behind : {bs cs : List Block} {h : List ℕ} → Program f bs h → (z : List ℕ) → 0 < length z → ((rs : List KeptRow) → chars rs ≡ z → Refuses (block_at 0 f rs)) → Program f cs (h ++ z) → ⊥
  refused-behind {cs = cs} {h} p z some nay q =
      let rs = rows_of (h ++ z) in
      let k = program-through f facts 0 p z some rs (chars-of (h ++ z)) in
      subst Refuses (complete f facts cs 0 rs (rw (chars-of (h ++ z)) q)).1 (k.2 (nay k.0 k.1))

  empty-refused : (skip : Bool) → f.unnumbered ≡ true → {r z : List ℕ} → Words (way_of f) (items_of f) [] r → AtEnd z → (rs : List KeptRow) → chars rs ≡ skip_rows skip ++ [] ++ (r ++ z) → Refuses (block_at 0 f rs)
  unfolding block_at
  empty-refused skip allowed {r} {z} w end rs q =
      let a = start-takes f facts 0 (bare skip allowed) (r ++ z) (words-apart facts.fair w end) (λ n. opens (tabs-turn w z)) rs q in
      let b = words_take 0 (way_of f) end w facts.fair a.rest a.leaves in
      rw (a.takes, b.takes) (refuses-bind (close_at 0 true b.rest) _ (never-closed 0 b.rest))
    where
      opens : (heads (turns (way_of f) (items_of f)) (r ++ z) ≡ true) ⊎ (r ≡ []) → heads (opener f) (r ++ z) ≡ true
      opens (inl h) = turn-opens f (r ++ z) h
      opens (inr e) = rw e (end-opens f end)

  pub empty-ends : {x : List ℕ} → Empty f x → {z : List ℕ} → AtEnd z → {cs : List Block} → Program f cs (x ++ z) → ⊥
  empty-ends {x} e {z} end {cs} p =
      let s = skip_rows e.skip ++ [] ++ (e.passed ++ z) in
      let at : x ++ z ≡ e.ended ++ s = ap (λ l. l ++ z) e.rows ∙ simp (append_assoc, append-nil) in
      refused-behind e.program s (omega (arith, length-append (skip_rows e.skip ++ []) (e.passed ++ z), length-append e.passed z, end-some end)) (empty-refused e.skip e.allowed e.left_out end)
      (subst (Program f cs) at p)
    where
      end-some : {z : List ℕ} → AtEnd z → 0 < length z
      end-some at_lf = zero-lt-suc _
      end-some at_cr = zero-lt-suc _

  pub empty_cr : {x : List ℕ} → Empty f x → Begins f (x ++ (13 ∷ [])) → ⊥
  empty_cr {x} e (bs, o, p) = empty-ends e at_cr (subst (Program f bs) (append_assoc x (13 ∷ []) o) p)

  -- where a block must have a number, it has not begun
  unbegun : (skip : Bool) → f.unnumbered ≡ false → (rs : List KeptRow) → chars rs ≡ skip_rows skip ++ (10 ∷ []) → Refuses (block_at 0 f rs)
  unfolding block_at start_at
  unbegun true n rs q =
      rw (fronts-heads 47 rs, q, fronts-heads 78 (behind rs), fronts-heads 58 (behind rs), behind-chars 47 (10 ∷ []) rs q, n) (refuses-bind (wrong 0 Wanted.Start (behind rs)) _ (refuses-wrong _ 0 Wanted.Start (behind rs)))
  unbegun false n rs q =
      rw (fronts-heads 47 rs, fronts-heads 78 rs, fronts-heads 58 rs, q, n) (refuses-bind (wrong 0 Wanted.Start rs) _ (refuses-wrong _ 0 Wanted.Start rs))

  -- no end stands behind a program's rows, "/" between them or not
  pub no-second-end : {bs cs : List Block} {h : List ℕ} → Program f bs h → (skip : Bool) → Program f cs (h ++ skip_rows skip ++ (10 ∷ [])) → ⊥
  no-second-end {bs} {cs} {h} p skip q = go f.unnumbered refl
    where
      go : (b : Bool) → f.unnumbered ≡ b → ⊥
      go true a = empty-ends (record { blocks = bs; ended = h; skip = skip; passed = []; program = p; allowed = a; left_out = done; rows = ap (λ l. h ++ l) (sym (append-nil (skip_rows skip))) }) at_lf q
      go false a =
          refused-behind p (skip_rows skip ++ (10 ∷ [])) (omega (arith, length-append (skip_rows skip) (10 ∷ []))) (unbegun skip a) (subst (Program f cs) (append_assoc h (skip_rows skip) (10 ∷ [])) q)

-- ---- what its rows end in

-- HT, LF or "/"
abbrev pub InEmpty : ℕ → Type 0
InEmpty c = T (any_of (λ d. eqb d c) (9 ∷ 10 ∷ 47 ∷ []))

-- it holds tabs alone
left-tabs : {y : Way} {its : List Item} {r : List ℕ} → Words y its [] r → Every (λ c. c ≡ 9) r
left-tabs done = tt
left-tabs {y} (out {r = r} w) = every_append _ (tab y) r (own y) (left-tabs w)
  where
    own : (v : Way) → Every (λ c. c ≡ 9) (tab v)
    own by_letter = tt
    own by_both = (refl, tt)
    own by_tab = (refl, tt)

pub tabs-last : {f : Format} {x : List ℕ} (e : Empty f x) → 0 < length e.passed → last_of x ≡ 9
tabs-last e some =
    ap last_of (e.rows ∙ sym (append_assoc e.ended (skip_rows e.skip) e.passed)) ∙ last-behind (e.ended ++ skip_rows e.skip) e.passed some ∙ last-every _ e.passed (left-tabs e.left_out) some

-- before a block's start, "/" or not
pub start-last : {f : Format} {bs : List Block} (h : List ℕ) (skip : Bool) → Program f bs h → T (any_of (λ d. eqb d (last_of (h ++ skip_rows skip))) (10 ∷ 47 ∷ []))
start-last h true p = rw (last-behind h (47 ∷ []) (zero-lt-suc 0)) tt
start-last h false p = let q = program-lf p in rw (append-nil h, q.1, last-behind q.0 (10 ∷ []) (zero-lt-suc 0)) tt

pub empty-last : {f : Format} {x : List ℕ} → Empty f x → InEmpty (last_of x)
empty-last {f} {x} e = go e.passed refl
  where
    or : (a b : Bool) → T b → T (a || b)
    or true b h = tt
    or false b h = h

    go : (r : List ℕ) → e.passed ≡ r → InEmpty (last_of x)
    go [] n =
        let at : x ≡ e.ended ++ skip_rows e.skip = e.rows ∙ ap (λ l. e.ended ++ (skip_rows e.skip ++ l)) n ∙ ap (λ l. e.ended ++ l) (append-nil (skip_rows e.skip)) in
        rw at (or (eqb 9 (last_of (e.ended ++ skip_rows e.skip))) _ (start-last e.ended e.skip e.program))
    go (c ∷ r) n = rw (tabs-last e (subst (λ l. 0 < length l) (sym n) (zero-lt-suc _))) tt

-- ---- what is not out of place there

-- a character before all digits and signs goes on with nothing
pub low-stops : {y : Way} {l c : ℕ} → c < 43 → GoesOn y l c → ⊥
low-stops low (digit_behind k d) = omega arith
low-stops low (data_behind t k (inl d)) = omega arith
low-stops low (data_behind t k (inr (inl e))) = omega arith
low-stops low (data_behind t k (inr (inr e))) = omega arith

-- a character behind it that does not go on with it
pub record Idle (f : Format) (x : List ℕ) (c : ℕ) : Type 0 where
  pub block : Empty f x
  pub firm : GoesOn (way_of f) (last_of x) c → ⊥

module _ {f : Format} (facts : Facts f) {x : List ℕ} {c : ℕ} (i : Idle f x c) where
  pub idle-number : (h : List ℕ) (skip alignment : Bool) (ds : List ℕ) → Every Digit ds → x ≡ h ++ number_rows skip alignment ds → ⊥
  idle-number h skip alignment ds all e = go ds refl alignment refl
    where
      last : InEmpty (last_of (cond alignment 58 78 ∷ ds))
      last = subst InEmpty (ap last_of (e ∙ sym (append_assoc h (skip_rows skip) (cond alignment 58 78 ∷ ds))) ∙ last-behind (h ++ skip_rows skip) (cond alignment 58 78 ∷ ds) (zero-lt-suc _)) (empty-last i.block)

      go : (l : List ℕ) → ds ≡ l → (b : Bool) → alignment ≡ b → ⊥
      go [] n true a = rw (n, a) at last
      go [] n false a = rw (n, a) at last
      go (d ∷ l) n b a =
          let some : 0 < length ds = subst (λ v. 0 < length v) (sym n) (zero-lt-suc _) in
          no_digit (last_of ds) (fails is_digit (9 ∷ 10 ∷ 47 ∷ []) (last_of ds) (rw (last-behind (cond alignment 58 78 ∷ []) ds some) at last) refl) (last-digit ds all some)

  -- behind an item's address and figures, or its tab and what may begin them
  pub idle-word : {it : Item} (y z : List ℕ) → Due f it y → Every Figure z → x ≡ y ++ address (way_of f) it ++ z → (z ≡ [] → way_of f ≡ by_tab → FigureRow c) → ⊥
  idle-word {it} y [] due all e figure = by (way_of f) refl
    where
      last : last_of x ≡ (called facts due).mark
      last = let m = called facts due in ap last_of (e ∙ append-nil _ ∙ m.rows) ∙ last-behind m.before (m.mark ∷ []) (zero-lt-suc 0)

      named : (way_of f ≡ by_tab → ⊥) → ⊥
      named n =
          let letter = fails (λ l. any_of (λ d. eqb d l) (9 ∷ 10 ∷ 47 ∷ [])) letters it.letter (item-letter facts.fair (due-item due)) refl in
          subst T letter (subst InEmpty (last ∙ (called facts due).letter n) (empty-last i.block))

      by : (v : Way) → way_of f ≡ v → ⊥
      by by_letter t = named (λ q. by-letter-tab (sym t ∙ q))
      by by_both t = named (λ q. by-both-tab (sym t ∙ q))
      by by_tab t = i.firm (data_behind t (last ∙ (called facts due).tab t) (figure refl t))
  idle-word {it} y (d ∷ z) due all e figure =
      let last : last_of x ≡ last_of (d ∷ z) = ap last_of e ∙ last-behind (y ++ address (way_of f) it) (d ∷ z) (zero-lt-suc _) in
      false≢true (sym (fails is_figure (9 ∷ 10 ∷ 47 ∷ []) (last_of x) (empty-last i.block) refl) ∙ ap is_figure last ∙ last-every Figure (d ∷ z) all (zero-lt-suc _))
