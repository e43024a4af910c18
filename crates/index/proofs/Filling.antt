-- A walk that fills an index: the first rows and the numbers of the blocks done stand in the arrays, and the number of the open one is held.
use mathlib.Core.Path.{◌≡◌, refl, sym, ap, ◌∙◌}
use mathlib.Core.Bool.{false}
use mathlib.Core.List.{List, [], ◌∷◌, ◌++◌, map, map-append, append_assoc}
use Prim.Native.Nat.{ℕ, suc, ◌+◌, ◌≤◌, ◌<◌}
use native.Mathlib.Numerals.{add-one}
use native.Mathlib.Nat.{le_refl}
use native.Mathlib.Omega.{arith}
use lib.ListN.{length, get_or, set, drop, length-append, length-map, length-set}
use lib.Seq.{drop-cons, set-append_seam}
use Rattle.rows.specs.Answer.{Answer, taken, refused, value_or}
use Rattle.rows.specs.Kept.{KeptRow, kept_at}
use Rattle.shorthand.specs.declared.Format.{Format}
use Rattle.words.specs.declared.Word.{Word}
use Rattle.parts.specs.declared.Begun.{Begun}
use Rattle.parts.specs.declared.Rules.{Rules}
use Rattle.parts.specs.Starts.{unnumbered}
use Rattle.parts.specs.Items.{item_at}
use Rattle.steps.specs.declared.Event.{Event}
use Rattle.steps.specs.declared.Event.TheVariants.{Finished, Opened, Out, Read, Closed}
use Rattle.steps.specs.Steps.{Spot, Moved, between, step_at}
use Rattle.reading.specs.declared.Entry.{Entry}
use Rattle.reading.specs.Parse.{blocks_at}
use Rattle.reading.specs.Answers.{nowhere, read}
use Rattle.reading.specs.Front.{Rising}
use Rattle.reading.proofs.Accepted.{read_taken}
use Rattle.reading.proofs.Places.{places}
use Rattle.reading.proofs.OwnRows.{behind-head}
use Rattle.reading.proofs.Remaining.{blocks-enough}
use Rattle.reading.proofs.StepLaws.{more-come, Under, entry_of, open_in, open-most, effort, Walk, walk-starts, walk-rest, Further, Goes, goes, halts}
use Rattle.punching.specs.Answers.{after}
use Rattle.index.specs.Index.{marked, number_in, firsts_of, numbers_of, entries_of}

-- ---- the blocks of an accepted tape, from the first row of the first one

some-taken : (a : Answer (List Entry)) → 0 < length (value_or [] a) → a ≡ taken (value_or [] a)
some-taken (taken es) h = refl
some-taken (refused n p) h = absurd (omega (arith, h))

pub all_come : (f : Format) (t : List ℕ) (first : ℕ) → (0 < length (entries_of f t)) × (first ≡ (get_or (entries_of f t) 0 nowhere).from)
    → blocks_at (length (kept_at t first)) (length t) f first (kept_at t first) ≡ taken (entries_of f t)
all_come f t first h =
    let e = some-taken (read f t) h.0 in
    let p = places f t (entries_of f t) (read_taken f t e).1 nowhere in
    let left = behind-head f t (entries_of f t) e p.head.value p.head.rest p.begins in
    rw (h.1 ∙ p.first h.0) (blocks-enough f (length t) _ left.fuel _ _ (le_refl _) left.enough ∙ left.come)

-- ---- an array

-- one more stands behind the first of an array, before the old rest
one_more : (l₀ vs : List ℕ) (v : ℕ) → length vs < length l₀ → set (after l₀ (taken vs)) (length vs) v ≡ after l₀ (taken (vs ++ (v ∷ [])))
one_more l₀ vs v h =
    let rest = drop (suc (length vs)) l₀ in
    ap (λ r. set (vs ++ r) (length vs) v) (drop-cons l₀ (length vs) 0 h)
    ∙ set-append_seam vs (get_or l₀ (length vs) 0) rest v
    ∙ sym (append_assoc vs (v ∷ []) rest)
    ∙ ap (λ k. (vs ++ (v ∷ [])) ++ drop k l₀) (sym (length-append vs (v ∷ []) ∙ add-one (length vs)))

module _ {A : Type 0} (what : A → ℕ) (l₀ : List ℕ) where
  -- an array, which was l₀, begins with what is held of the things done
  pub record Filled (l : List ℕ) (done : List A) : Type 0 where
    pub holds : l ≡ after l₀ (taken (map what done))
    pub same : length l ≡ length l₀

  -- with one thing more
  pub filled_more : {l : List ℕ} {done : List A} → Filled l done → length done < length l₀ → (n : ℕ) → n ≡ length done → (v : ℕ) (x : A) → v ≡ what x
      → Filled (set l n v) (done ++ (x ∷ []))
  filled_more {l} {done} g h n e v x q =
      let size = length-map done what in
      record {
        holds = rw (g.holds, e ∙ sym size, q, map-append what done (x ∷ [])) (one_more l₀ (map what done) (what x) (omega (arith, size, h)));
        same = length-set l n v ∙ g.same;
      }

-- ---- the walk

module _ (len : ℕ) (f : Format) (first : ℕ) (start : List KeptRow) (firsts₀ numbers₀ : List ℕ) where
  -- the arrays hold the blocks done, of which there are n; the next block, or the open one, is from a row on
  pub record Fills (s : Spot) (firsts numbers : List ℕ) (from number n : ℕ) : Type 0 where
    pub done : List Entry
    pub begun : Begun
    pub words : List Word
    pub fuel : ℕ
    pub walk : Walk len f (length start) first start done begun words fuel from s
    pub counted : n ≡ length done
    pub rows : Filled (λ x. x.from) firsts₀ firsts done
    pub marks : Filled (λ x. number_in x.block) numbers₀ numbers done
    pub held : open_in s.stage ≡ 1 → number ≡ marked begun.numbered begun.sequence

  pub fills-none : (number : ℕ) → Rising len first start → Fills (between start) firsts₀ numbers₀ first number 0
  fills-none number h =
      let b : Begun = unnumbered false in
      record {
        done = [];
        begun = b;
        words = [];
        fuel = length start;
        walk = walk-starts len f (length start) first start b h;
        counted = refl;
        rows = record { holds = refl; same = refl };
        marks = record { holds = refl; same = refl };
        held = λ o. absurd (omega (arith, o));
      }

  abbrev Nearer : ℕ → Spot → ℕ → Spot → Type 0
  Nearer from v was s = effort len from v.stage v.item < effort len was s.stage s.item

  -- the arrays and the open block are the same, and the walk is nearer to the end
  abbrev pub On : Spot → List ℕ → List ℕ → ℕ → ℕ → ℕ → Spot → Type 0
  On s firsts numbers from number n v = Fills v firsts numbers from number n × Nearer from v from s

  -- what a block's end asks of the arrays, and what one entry more leaves
  pub record Ends (s : Spot) (firsts numbers : List ℕ) (from number n : ℕ) (v : Spot) (lf : ℕ) : Type 0 where
    pub lf-within : lf < len
    pub row_room : n < length firsts
    pub mark-room : n < length numbers
    pub filled : Fills v (set firsts n from) (set numbers n number) (lf + 1) number (n + 1)
    pub nearer : Nearer (lf + 1) v from s

  -- what holds behind a step
  abbrev pub Behind : List Entry → Spot → List ℕ → List ℕ → ℕ → ℕ → ℕ → Spot → Event → Type 0
  Behind es s firsts numbers from number n v Finished = (firsts ≡ after firsts₀ (taken (firsts_of es))) × (numbers ≡ after numbers₀ (taken (numbers_of es)))
  Behind es s firsts numbers from number n v (Opened b) =
      ((now : ℕ) → now ≡ marked b.numbered b.sequence → Fills v firsts numbers from now n) × Nearer from v from s
  Behind es s firsts numbers from number n v Out = On s firsts numbers from number n v
  Behind es s firsts numbers from number n v (Read w) = On s firsts numbers from number n v
  Behind es s firsts numbers from number n v (Closed lf) = Ends s firsts numbers from number n v lf

  module _ (es : List Entry) (left : blocks_at (length start) len f first start ≡ taken es) (room : (length es ≤ length firsts₀) × (length es ≤ length numbers₀)) where
    module _ {u : Rules} {leads : List ℕ} (h : Under f u leads) {s : Spot} {firsts numbers : List ℕ} {from number n : ℕ} (g : Fills s firsts numbers from number n) where
      abbrev To : List Entry → Begun → List Word → ℕ → ℕ → Spot → Type 0
      To done b ws fuel next v = Further len f (length start) first start done b ws fuel next from s v

      -- the open block is the same, and is open as before
      still : {ws : List Word} {v : Spot} → To g.done g.begun ws g.fuel from v → On s firsts numbers from number n v
      still {ws} {v} o =
          let same : open_in v.stage ≡ open_in s.stage = omega (arith, g.walk.room, o.walk.room) in (
            record {
              done = g.done;
              begun = g.begun;
              words = ws;
              fuel = g.fuel;
              walk = o.walk;
              counted = g.counted;
              rows = g.rows;
              marks = g.marks;
              held = λ q. g.held (sym same ∙ q);
            },
            o.nearer,
          )

      opens : (v : Spot) (b : Begun) (less : ℕ) → To g.done b [] less from v → Behind es s firsts numbers from number n v (Opened b)
      opens v b less o = (
        (λ now e. record {
          done = g.done;
          begun = b;
          words = [];
          fuel = less;
          walk = o.walk;
          counted = g.counted;
          rows = g.rows;
          marks = g.marks;
          held = λ q. e;
        }),
        o.nearer,
      )

      -- the block done is one of all, so there is room for its entry
      closes : (v : Spot) (lf : ℕ) → To (g.done ++ (entry_of from g.begun g.words lf ∷ [])) g.begun g.words g.fuel (lf + 1) v → lf < len
          → Ends s firsts numbers from number n v lf
      closes v lf o l =
          let x = entry_of from g.begun g.words lf in
          let more = length-append g.done (x ∷ []) in
          let rest = walk-rest len f (length start) first start o.walk left in
          let size : length es ≡ length (g.done ++ (x ∷ [])) + length rest.0 = ap length rest.1 ∙ length-append (g.done ++ (x ∷ [])) rest.0 in
          let opened : open_in s.stage ≡ 1 = omega (arith, more, g.walk.room, o.walk.room, open-most s.stage) in
          record {
            lf-within = l;
            row_room = omega (arith, more, size, room, g.counted, g.rows.same);
            mark-room = omega (arith, more, size, room, g.counted, g.marks.same);
            filled = record {
              done = g.done ++ (x ∷ []);
              begun = g.begun;
              words = g.words;
              fuel = g.fuel;
              walk = o.walk;
              counted = omega (arith, g.counted, more);
              rows = filled_more _ _ g.rows (omega (arith, more, size, room)) n g.counted from x refl;
              marks = filled_more _ _ g.marks (omega (arith, more, size, room)) n g.counted number x (g.held opened);
              held = λ q. g.held opened;
            };
            nearer = o.nearer;
          }

      -- a step of an accepted tape is not refused
      pub fills-halt : (m p : ℕ) → refused m p ≡ step_at len u leads (item_at f s.item) s → ⊥
      fills-halt m p e =
          let z = sym left ∙ halts len f (length start) first start h g.walk (more-come len f (length start) first start g.walk (le_refl _)) m p e in
          let w : ◌≡◌ {A = ℕ} 0 1 = cc in omega (arith, w)

      pub fills-on : (m : Moved) → taken m ≡ step_at len u leads (item_at f s.item) s → (e : Event) → m.event ≡ e → Behind es s firsts numbers from number n m.spot e
      fills-on m q e r = by e (goes len f (length start) first start h g.walk (more-come len f (length start) first start g.walk (le_refl _)) m q e r)
        where
          by : (v : Event) → Goes len f (length start) first start g.done g.begun g.words g.fuel from s m.spot v → Behind es s firsts numbers from number n m.spot v
          by Finished o =
              let is : g.done ≡ es = (let z = sym left ∙ o.0 in cc) in
              (g.rows.holds ∙ ap (λ x. after firsts₀ (taken (firsts_of x))) is, g.marks.holds ∙ ap (λ x. after numbers₀ (taken (numbers_of x))) is)
          by (Opened b) o = opens m.spot b o.0 o.2
          by Out o = still o
          by (Read w) o = still o.0
          by (Closed lf) o = closes m.spot lf o.0 o.2

      -- the events that neither open nor end a block, nor the tape
      pub fills-quiet : (m : Moved) → taken m ≡ step_at len u leads (item_at f s.item) s → (m.event ≡ Finished → ⊥) → ((b : Begun) → m.event ≡ Opened b → ⊥) → ((lf : ℕ) → m.event ≡ Closed lf → ⊥)
          → On s firsts numbers from number n m.spot
      fills-quiet m q unfinished unopened unclosed = by m.event refl (fills-on m q m.event refl)
        where
          by : (v : Event) → m.event ≡ v → Behind es s firsts numbers from number n m.spot v → On s firsts numbers from number n m.spot
          by Finished e o = absurd (unfinished e)
          by (Opened b) e o = absurd (unopened b e)
          by Out e o = o
          by (Read w) e o = o
          by (Closed lf) e o = absurd (unclosed lf e)
