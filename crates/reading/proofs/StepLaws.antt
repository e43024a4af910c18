-- What a step does to the answer, one law for each kind of step. Whoever walks over blocks needs these laws alone.
use mathlib.Core.Path.{◌≡◌, refl, sym, ap, subst, ◌∙◌}
use mathlib.Core.Bool.{Bool, true, false, not, cond}
use mathlib.Core.List.{List, [], ◌∷◌, ◌++◌, append_assoc, append-nil}
use Prim.Native.Nat.{ℕ, zero, suc, ◌+◌, ◌-◌, ◌*◌, ◌≤◌, ◌<◌, zero-le}
use native.Mathlib.Numerals.{add-one}
use native.Mathlib.Omega.{arith}
use lib.Dec.{ltb}
use lib.ListN.{length, drop, length-append, length-map}
use borrow.Author.Tests.{ltb-true, ltb-false}
use Rattle.rows.specs.Answer.{Answer, taken, refused, ◌>>=◌}
use Rattle.rows.specs.Kept.{KeptRow}
use Rattle.shorthand.specs.declared.Item.{Item}
use Rattle.shorthand.specs.declared.Format.{Format}
use Rattle.shorthand.specs.Layout.{items_of, way_of}
use Rattle.shorthand.specs.Facts.{Facts}
use Rattle.shorthand.proofs.FormatItems.{widths-at}
use Rattle.words.specs.declared.Word.{Word}
use Rattle.words.specs.Figures.{Behind, taking, behind, front_place}
use Rattle.words.specs.Data.{word_at}
use Rattle.parts.specs.declared.Begun.{Begun}
use Rattle.parts.specs.declared.Rules.{Rules}
use Rattle.steps.specs.declared.Stage.{Stage}
use Rattle.steps.specs.declared.Stage.TheVariants.{Between, Before, Ending}
use Rattle.steps.specs.declared.Cursor.{Cursor}
use Rattle.steps.specs.declared.Event.{Event}
use Rattle.steps.specs.declared.Event.TheVariants.{Finished, Opened, Out, Read, Closed}
use Rattle.parts.specs.Ends.{close_at}
use Rattle.parts.specs.Starts.{number_at, start_at}
use Rattle.parts.specs.Items.{steps, stepped, begins, past_address, Standing, stops, out, at, standing, item_at, Leads, due_at}
use Rattle.parts.specs.Items.{bare_in, bare_by, rules_of}
use Rattle.steps.specs.Steps.{Spot, Moved, between, ending, going, opens, open_step, reads, takes, closes_by, step_by, step_at, Ready}
use Rattle.steps.specs.Front.{spot_told}
use Rattle.parts.proofs.Leading.{due-on}
use Rattle.parts.proofs.BareFronts.{bare-same}
use Rattle.reading.specs.Record.{block_of, is_empty}
use Rattle.reading.specs.Relation.{End, chars}
use Rattle.reading.specs.declared.Entry.{Entry}
use Rattle.reading.specs.Parse.{cons_word, resumed, words_at, block_at, entry, blocks_at}
use Rattle.reading.specs.Front.{Rising}
use Rattle.reading.proofs.BlockWalk.{before, before_none, before_more}
use Rattle.reading.proofs.DueItems.{from-due}
use Rattle.reading.proofs.ItemSteps.{words-turn, words-over}
use Rattle.reading.proofs.Places.{rising-rest, last-rising}
use Rattle.reading.proofs.BlockTakes.{end-some}
use Rattle.reading.proofs.Sound.{start-rows, step-rows, address-rows, word_rows, end-rows}

-- ---- what is still to come

-- the block that has begun so, with these words, from a row to its LF
abbrev pub entry_of : ℕ → Begun → List Word → ℕ → Entry
entry_of from b ws lf = record { block = block_of b ws; from = from; to = lf + 1 }

module _ (n : ℕ) (f : Format) where
  abbrev words_from : ℕ → List KeptRow → Answer (Behind (List Word))
  words_from k rs = words_at n (way_of f) (drop k (items_of f)) rs

  -- its end, and then at most so many blocks
  abbrev finish : ℕ → ℕ → Begun → List Word → List KeptRow → Answer (List Entry)
  finish fuel from b ws rs = close_at n (is_empty b ws) rs >>= λ e. blocks_at fuel n f (e.value + 1) e.rest >>= λ es. taken (entry_of from b ws e.value ∷ es)

  -- the words from item k on, behind those so far, and then its end
  abbrev further : ℕ → ℕ → Begun → List Word → Behind (List Word) → Answer (List Entry)
  further fuel from b ws x = finish fuel from b (ws ++ x.value) x.rest

  abbrev pub to_come : ℕ → ℕ → Begun → List Word → Stage → ℕ → List KeptRow → Answer (List Entry)
  to_come fuel from b ws Between k rs = blocks_at fuel n f from rs
  to_come fuel from b ws Before k rs = words_from k rs >>= further fuel from b ws
  to_come fuel from b ws Ending k rs = finish fuel from b ws rs

  -- ---- a block is its start and what comes behind

  end_on : (fuel from : ℕ) (b : Begun) (ws : List Word) (a : Answer (Behind ℕ))
      → ((a >>= λ e. taking (record { block = block_of b ws; lf = e.value }) e.rest)
      >>= λ c. blocks_at fuel n f (c.value.lf + 1) c.rest >>= λ es. taken (entry from c.value ∷ es))
      ≡ (a >>= λ e. blocks_at fuel n f (e.value + 1) e.rest >>= λ es. taken (entry_of from b ws e.value ∷ es))
  end_on fuel from b ws (taken e) = refl
  end_on fuel from b ws (refused m p) = refl

  words-on : (fuel from : ℕ) (b : Begun) (a : Answer (Behind (List Word)))
      → ((a >>= λ ws. close_at n (is_empty b ws.value) ws.rest >>= λ e. taking (record { block = block_of b ws.value; lf = e.value }) e.rest)
      >>= λ c. blocks_at fuel n f (c.value.lf + 1) c.rest >>= λ es. taken (entry from c.value ∷ es))
      ≡ (a >>= further fuel from b [])
  words-on fuel from b (taken x) = end_on fuel from b x.value (close_at n (is_empty b x.value) x.rest)
  words-on fuel from b (refused m p) = refl

  -- one block is opened
  blocks-open : (fuel from : ℕ) (r : KeptRow) (u : List KeptRow) (x : Behind Begun) → start_at n f.sequence (bare_in f) (r ∷ u) ≡ taken x
      → blocks_at (suc fuel) n f from (r ∷ u) ≡ to_come fuel from x.value [] Before 0 x.rest
  unfolding blocks_at block_at
  blocks-open fuel from r u x e = rw e (words-on fuel from x.value (words_from 0 x.rest))

  blocks-refused : (fuel from : ℕ) (r : KeptRow) (u : List KeptRow) (m p : ℕ) → start_at n f.sequence (bare_in f) (r ∷ u) ≡ refused m p → blocks_at (suc fuel) n f from (r ∷ u) ≡ refused m p
  unfolding blocks_at block_at
  blocks-refused fuel from r u m p e = rw e

  blocks-none : (fuel from : ℕ) → blocks_at fuel n f from [] ≡ taken []
  unfolding blocks_at
  blocks-none zero from = refl
  blocks-none (suc fuel) from = refl

  word_on : (fuel from : ℕ) (b : Begun) (ws : List Word) (w : Word) (a : Answer (Behind (List Word)))
      → (cons_word w a >>= further fuel from b ws) ≡ (a >>= further fuel from b (ws ++ (w ∷ [])))
  word_on fuel from b ws w (taken x) = rw (append_assoc ws (w ∷ []) x.value)
  word_on fuel from b ws w (refused m p) = refl

end-length : (s : List KeptRow) → End (chars s) → 0 < length s
end-length s e = rw (← (length-map s (λ r. r.char))) (end-some e)

-- a start by what a step knows is the Format's
module _ (n : ℕ) (f : Format) (h : Facts f) (leads : List ℕ) (g : Leads f leads) where
  number_same : (skip : Bool) (rs : List KeptRow) → number_at n f.sequence (bare_by (rules_of f) leads) skip rs ≡ number_at n f.sequence (bare_in f) skip rs
  number_same skip rs = rw (bare-same f h leads g rs)

  start-same : (rs : List KeptRow) → start_at n f.sequence (bare_by (rules_of f) leads) rs ≡ start_at n f.sequence (bare_in f) rs
  unfolding start_at
  start-same rs = rw (number_same true (behind rs), number_same false rs)

-- a block with a word is not empty
word-said : (b : Begun) (ws : List Word) (w : Word) → false ≡ is_empty b (ws ++ (w ∷ []))
word-said b [] w = refl
word-said b (v ∷ ws) w = refl

-- ---- a walk

-- what a walk under a Format hands to each step
pub record Under (f : Format) (u : Rules) (leads : List ℕ) : Type 0 where
  pub facts : Facts f
  pub ruled : u ≡ rules_of f
  pub led : Leads f leads

-- how many blocks are open
abbrev pub open_in : Stage → ℕ
open_in Between = 0
open_in Before = 1
open_in Ending = 1

pub open-most : (g : Stage) → open_in g ≤ 1
open-most Between = omega arith
open-most Before = omega arith
open-most Ending = omega arith

-- how many steps there may be before the next end
abbrev rank : Stage → ℕ → ℕ
rank Between k = 24
rank Before k = 23 - k
rank Ending k = 0

rank_most : (g : Stage) (k : ℕ) → rank g k ≤ 24
rank_most Between k = omega arith
rank_most Before k = omega arith
rank_most Ending k = omega arith

-- how many steps there may be before the end of a tape of n rows, the next block, or the open one, being from a row on
abbrev pub effort : ℕ → ℕ → Stage → ℕ → ℕ
effort n from g k = (n - from) * 25 + rank g k

module _ (n : ℕ) (f : Format) (most first : ℕ) (start : List KeptRow) where
  abbrev all : Answer (List Entry)
  all = blocks_at most n f first start

  abbrev Fits : Stage → ℕ → List Word → Type 0
  Fits Between k ws = Unit {0}
  Fits Before k ws = (length ws ≤ k) × (k < f.count)
  Fits Ending k ws = length ws ≤ f.count

  -- the blocks done, how the open one began, its words so far; at most fuel blocks more, and the next one, or the open one, from a row on
  pub record Walk (done : List Entry) (b : Begun) (ws : List Word) (fuel from : ℕ) (s : Spot) : Type 0 where
    pub come : blocks_at most n f first start ≡ before done (to_come n f fuel from b ws s.stage s.item s.rows)
    pub rising : Rising n from s.rows
    pub within : s.item < 22
    pub fits : Fits s.stage s.item ws
    pub emptied : open_in s.stage ≡ 1 → s.empty ≡ is_empty b ws
    pub room : length done + open_in s.stage + fuel ≡ most
    pub enough : length start ≤ most → length s.rows ≤ fuel + open_in s.stage
    pub below : length done ≤ from

  pub walk-starts : (b : Begun) → Rising n first start → Walk [] b [] most first (between start)
  walk-starts b h = record { come = before_none all; rising = h; within = omega arith; fits = tt; emptied = λ o. absurd (omega (arith, o)); room = omega arith; enough = λ l. omega (arith, l); below = zero-le }

  -- with enough of them, one more may come where a row is left between blocks
  pub more-come : {done : List Entry} {b : Begun} {ws : List Word} {fuel from : ℕ} {s : Spot} → Walk done b ws fuel from s → length start ≤ most → s.stage ≡ Between → 0 < length s.rows → 0 < fuel
  more-come g l z o = omega (arith, o, g.enough l, ap open_in z)

  -- as many blocks are done as there may be
  pub walk-full : {done : List Entry} {b : Begun} {ws : List Word} {fuel from : ℕ} {s : Spot} → Walk done b ws fuel from s → length done ≡ most
      → blocks_at most n f first start ≡ taken done
  unfolding blocks_at
  walk-full {done} {b} {ws} {fuel} {from} {s} g e = g.come ∙ by s.stage fuel (omega (arith, g.room, e)) (omega (arith, g.room, e))
    where
      by : (x : Stage) (k : ℕ) → open_in x ≡ 0 → k ≡ 0 → before done (to_come n f k from b ws x s.item s.rows) ≡ taken done
      by Between zero o z = ap taken (append-nil done)
      by Between (suc k) o z = absurd (omega (arith, z))
      by Before k o z = absurd (omega (arith, o))
      by Ending k o z = absurd (omega (arith, o))

  -- the blocks done are the first of all
  pub walk-rest : {done : List Entry} {b : Begun} {ws : List Word} {fuel from : ℕ} {s : Spot} → Walk done b ws fuel from s → {es : List Entry} → blocks_at most n f first start ≡ taken es
      → (rest : List Entry) × (es ≡ done ++ rest)
  walk-rest {done} {b} {ws} {fuel} {from} {s} g {es} e = by (to_come n f fuel from b ws s.stage s.item s.rows) (sym g.come ∙ e)
    where
      by : (a : Answer (List Entry)) → before done a ≡ taken es → (rest : List Entry) × (es ≡ done ++ rest)
      by (taken x) q = (x, let z : done ++ x ≡ es = cc in sym z)
      by (refused m p) q = let z : ◌≡◌ {A = ℕ} 0 1 = cc in absurd (omega (arith, z))

  -- the item before which a walk stands is one of the Format's
  pub item-due : {done : List Entry} {b : Begun} {ws : List Word} {fuel from : ℕ} {s : Spot} → Walk done b ws fuel from s → s.stage ≡ Before → s.item < f.count
  item-due {ws = ws} {s = s} g e = (subst (λ x. Fits x s.item ws) e g.fits).1

  -- an open block has no more words than the Format items
  pub words-few : {done : List Entry} {b : Begun} {ws : List Word} {fuel from : ℕ} {s : Spot} → Walk done b ws fuel from s → open_in s.stage ≡ 1 → length ws ≤ f.count
  words-few {ws = ws} {s = s} g e = by s.stage e g.fits
    where
      by : (x : Stage) → open_in x ≡ 1 → Fits x s.item ws → length ws ≤ f.count
      by Between o h = absurd (omega (arith, o))
      by Before o h = omega (arith, h)
      by Ending o h = h

  -- what a step asks for holds of the item before which a walk stands
  pub ready : Facts f → {done : List Entry} {b : Begun} {ws : List Word} {fuel from : ℕ} (t : List ℕ) (c : Cursor) → Walk done b ws fuel from (spot_told t c) → Ready (item_at f c.item) c
  ready h t c g = record { within = g.within; widths = λ e. widths-at f h c.item (item-due g e) }

  -- the walk goes on at v, nearer to the end than at s
  pub record Further (done : List Entry) (b : Begun) (ws : List Word) (fuel from was : ℕ) (s v : Spot) : Type 0 where
    pub walk : Walk done b ws fuel from v
    pub nearer : effort n from v.stage v.item < effort n was s.stage s.item

  -- what holds behind a step from s that met an event and left the walk at v
  abbrev pub Goes : List Entry → Begun → List Word → ℕ → ℕ → Spot → Spot → Event → Type 0
  Goes done b ws fuel from s v Finished = (blocks_at most n f first start ≡ taken done) × (open_in s.stage ≡ 0)
  Goes done b ws fuel from s v (Opened a) = (less : ℕ) × (fuel ≡ suc less) × Further done a [] less from from s v
  Goes done b ws fuel from s v Out = Further done b ws fuel from from s v
  Goes done b ws fuel from s v (Read w) = Further done b (ws ++ (w ∷ [])) fuel from from s v × (length ws < f.count) × (open_in s.stage ≡ 1)
  Goes done b ws fuel from s v (Closed lf) = Further (done ++ (entry_of from b ws lf ∷ [])) b ws fuel (lf + 1) from s v × (from ≤ lf) × (lf < n)

  -- before item k of an open block, the walk goes on where the next word may stand
  module _ (h : Facts f) (leads : List ℕ) (ld : Leads f leads) where
    lands : (done : List Entry) (fuel from : ℕ) (b : Begun) (ws : List Word) (empty : Bool) (k : ℕ) (rs : List KeptRow) → empty ≡ is_empty b ws → all ≡ before done (to_come n f fuel from b ws Before k rs)
        → Rising n from rs → k ≤ 22 → length ws ≤ k → length ws ≤ f.count → length done + 1 + fuel ≡ most → (length start ≤ most → length rs ≤ fuel + 1) → length done ≤ from
        → (u : Spot) → u ≡ going (rules_of f) leads empty k rs → Walk done b ws fuel from u × (rank u.stage u.item ≤ 23 - k)
    lands done fuel from b ws empty k rs bare come rising l short fewer room enough below u e = rw e (by (ltb due f.count) refl)
      where
        due : ℕ
        due = due_at leads f.dots k rs

        later : k ≤ due
        later = due-on leads k l f.dots rs due refl

        same : words_from n f k rs ≡ words_from n f due rs
        same = from-due n f h leads ld rs k l due refl

        Landed : Spot → Type 0
        Landed v = Walk done b ws fuel from v × (rank v.stage v.item ≤ 23 - k)

        by : (x : Bool) → ltb due f.count ≡ x → Landed (cond x (record { stage = Before; item = due; empty = empty; rows = rs }) (ending empty rs))
        by true q =
            let m = ltb-true due f.count q in (
              record {
                come = come ∙ ap (λ a. before done (a >>= further n f fuel from b ws)) same;
                rising = rising;
                within = omega (arith, m, h.few);
                fits = (omega (arith, short, later), m);
                emptied = λ o. bare;
                room = room;
                enough = enough;
                below = below;
              },
              omega (arith, later),
            )
        by false q =
            let m = ltb-false due f.count q in (
              record {
                come = come ∙ ap (λ a. before done (a >>= further n f fuel from b ws)) (same ∙ words-over n f h rs due m) ∙ rw append-nil;
                rising = rising;
                within = omega arith;
                fits = fewer;
                emptied = λ o. bare;
                room = room;
                enough = enough;
                below = below;
              },
              zero-le,
            )

    -- ---- the law of each stage

    module _ (done : List Entry) (b : Begun) (ws : List Word) (fuel from k : ℕ) (empty : Bool) (rs : List KeptRow) where
      abbrev From : Stage → Type 0
      From g = Walk done b ws fuel from (record { stage = g; item = k; empty = empty; rows = rs })

      abbrev To : Stage → Answer Moved → Type 0
      To g (taken m) = Goes done b ws fuel from (record { stage = g; item = k; empty = empty; rows = rs }) m.spot m.event
      To g (refused m p) = all ≡ refused m p

      abbrev onward : Bool → ℕ → List KeptRow → Spot
      onward x j u = going (rules_of f) leads x j u

      -- between two blocks; more may come where a row is left
      step-open : From Between → (0 < length rs → 0 < fuel) → To Between (open_step n (rules_of f) leads (record { stage = Between; item = k; empty = empty; rows = rs }) rs)
      step-open g spare = by rs refl
        where
          here : Spot
          here = record { stage = Between; item = k; empty = empty; rows = rs }

          opened : (r : KeptRow) (u : List KeptRow) → rs ≡ r ∷ u → (φ : ℕ) → fuel ≡ suc φ → (a : Answer (Behind Begun)) → start_at n f.sequence (bare_in f) rs ≡ a → To Between (opens onward a)
          opened r u e φ o (taken x) q =
              let t = start-rows n rs f x q in
              let size : length rs ≡ length t.took + length x.rest = ap length t.split ∙ length-append t.took x.rest in
              let w = lands done φ from x.value [] (not x.value.numbered) 0 x.rest refl
              (g.come ∙ rw (e, o) (ap (before done) (blocks-open n f φ from r u x (rw e at q))))
              (rising-rest t.took x.rest (rw t.split at g.rising)) zero-le zero-le zero-le (omega (arith, g.room, o))
              (λ l. omega (arith, g.enough l, size, o)) g.below _ refl in
              (φ, o, record { walk = w.0; nearer = omega (arith, w.1) })
          opened r u e φ o (refused m p) q = g.come ∙ rw (e, o) (ap (before done) (blocks-refused n f φ from r u m p (rw e at q)))

          fuelled : (r : KeptRow) (u : List KeptRow) → rs ≡ r ∷ u → (φ : ℕ) → fuel ≡ φ → 0 < φ → To Between (open_step n (rules_of f) leads here (r ∷ u))
          fuelled r u e zero o l = absurd (omega (arith, l))
          fuelled r u e (suc φ) o l =
              opened r u e φ o (start_at n f.sequence (bare_by (rules_of f) leads) (r ∷ u)) (ap (start_at n f.sequence (bare_in f)) e ∙ sym (start-same n f h leads ld (r ∷ u)))

          by : (u : List KeptRow) → rs ≡ u → To Between (open_step n (rules_of f) leads here u)
          by [] e = (g.come ∙ rw (e, blocks-none n f fuel from) (ap taken (append-nil done)), refl)
          by (r ∷ u) e = fuelled r u e fuel refl (spare (rw e (omega arith)))

      -- before an item, by how it stands
      step-take : From Before → To Before (takes n (item_at f k) onward (record { stage = Before; item = k; empty = empty; rows = rs }) (standing (way_of f) (item_at f k).letter rs))
      step-take g = by (steps (way_of f) rs) refl (begins (way_of f) it.letter (stepped (way_of f) rs)) refl
        where
          it : Item
          it = item_at f k

          here : Spot
          here = record { stage = Before; item = k; empty = empty; rows = rs }

          turn : (s : Standing) → s ≡ standing (way_of f) it.letter rs → all ≡ before done (resumed n it rs (words_at n (way_of f) (drop (k + 1) (items_of f))) s >>= further n f fuel from b ws)
          turn s e = g.come ∙ ap (λ a. before done (a >>= further n f fuel from b ws)) (words-turn n f h rs k g.fits.1 s e)

          -- the rows behind some of these
          rises : (took rest : List KeptRow) → rs ≡ took ++ rest → Rising n from rest
          rises took rest split = rising-rest took rest (rw split at g.rising)

          shorter : (took rest : List KeptRow) → rs ≡ took ++ rest → length start ≤ most → length rest ≤ fuel + 1
          shorter took rest split l = let size : length rs ≡ length took + length rest = ap length split ∙ length-append took rest in omega (arith, g.enough l, size)

          word : (first : ℕ) (u : List KeptRow) (took : List KeptRow) → rs ≡ took ++ u → at first u ≡ standing (way_of f) it.letter rs
              → (a : Answer (Behind Word)) → word_at n it first u ≡ a → To Before (reads onward here a)
          word first u took split e (taken x) q =
              let t = word_rows n u it first x q in
              let all-rows : rs ≡ (took ++ t.took) ++ x.rest = split ∙ ap (λ v. took ++ v) t.split ∙ sym (append_assoc took t.took x.rest) in
              let longer : length (ws ++ (x.value ∷ [])) ≡ length ws + 1 = length-append ws (x.value ∷ []) in
              let w = lands done fuel from b (ws ++ (x.value ∷ [])) false (k + 1) x.rest (word-said b ws x.value)
              (turn (at first u) e ∙ rw q (ap (before done) (word_on n f fuel from b ws x.value (words_from n f (k + 1) x.rest))))
              (rises (took ++ t.took) x.rest all-rows) (omega (arith, g.within)) (omega (arith, longer, g.fits.0)) (omega (arith, longer, g.fits))
              g.room (shorter (took ++ t.took) x.rest all-rows) g.below _ refl in
              (record { walk = w.0; nearer = omega (arith, w.1, g.within) }, omega (arith, g.fits), refl)
          word first u took split e (refused m p) q = turn (at first u) e ∙ rw q

          after : List KeptRow
          after = stepped (way_of f) rs

          by : (x : Bool) → steps (way_of f) rs ≡ x → (y : Bool) → begins (way_of f) it.letter (stepped (way_of f) rs) ≡ y
              → To Before (takes n it onward here (cond x (cond y (at (front_place after) (past_address (way_of f) after)) (out after)) stops))
          by false p y q =
              record {
                walk = record {
                  come = turn stops (rw p) ∙ rw append-nil;
                  rising = g.rising;
                  within = omega arith;
                  fits = omega (arith, g.fits);
                  emptied = g.emptied;
                  room = g.room;
                  enough = g.enough;
                  below = g.below;
                };
                nearer = omega (arith, g.within);
              }
          by true p false q =
              let t = step-rows n rs (way_of f) p in
              let w = lands done fuel from b ws empty (k + 1) (stepped (way_of f) rs) (g.emptied refl) (turn (out (stepped (way_of f) rs)) (rw (p, q)))
              (rises t.took (stepped (way_of f) rs) t.split) (omega (arith, g.within)) (omega (arith, g.fits.0)) (omega (arith, g.fits))
              g.room (shorter t.took (stepped (way_of f) rs) t.split) g.below _ refl in
              record { walk = w.0; nearer = omega (arith, w.1, g.within) }
          by true p true q =
              let t = step-rows n rs (way_of f) p in
              let b = address-rows n after (way_of f) it q in
              let split = t.split ∙ ap (λ v. t.took ++ v) b.split ∙ sym (append_assoc t.took b.took (past_address (way_of f) after)) in
              word (front_place after) (past_address (way_of f) after) (t.took ++ b.took) split (rw (p, q)) (word_at n it (front_place after) (past_address (way_of f) after)) refl

      -- behind the items
      step-close : From Ending → To Ending (closes_by (close_at n empty rs))
      step-close g = by (close_at n empty rs) refl
        where
          same : close_at n empty rs ≡ close_at n (is_empty b ws) rs
          same = ap (λ x. close_at n x rs) (g.emptied refl)

          by : (a : Answer (Behind ℕ)) → close_at n empty rs ≡ a → To Ending (closes_by a)
          by (taken x) q =
              let t = end-rows n rs empty x q in
              let l = last-rising x.rest t.stands.1 (rw t.split at g.rising) in
              let longer : length (done ++ (entry_of from b ws x.value ∷ [])) ≡ length done + 1 = length-append done (entry_of from b ws x.value ∷ []) in
              let size : length rs ≡ length t.took + length x.rest = ap length t.split ∙ length-append t.took x.rest in (
                record {
                  walk = record {
                    come = g.come ∙ rw (sym same ∙ q) (before_more done (entry_of from b ws x.value) (blocks_at fuel n f (x.value + 1) x.rest));
                    rising = rw (add-one x.value) l.2;
                    within = omega arith;
                    fits = tt;
                    emptied = λ o. absurd (omega (arith, o));
                    room = omega (arith, g.room, longer);
                    enough = λ o. omega (arith, g.enough o, size, end-length t.took t.stands.0);
                    below = omega (arith, longer, g.below, l.0);
                  };
                  nearer = omega (arith, l.0, l.1);
                },
                l.0,
                l.1,
              )
          by (refused m p) q = g.come ∙ rw (sym same ∙ q)

      step-goes : (g : Stage) → From g → (g ≡ Between → 0 < length rs → 0 < fuel) → To g (step_by n (rules_of f) leads (item_at f k) (record { stage = g; item = k; empty = empty; rows = rs }) g)
      step-goes Between g spare = step-open g (spare refl)
      step-goes Before g spare = step-take g
      step-goes Ending g spare = step-close g

  -- the law of a step; between blocks another is opened only where one more may come
  module _ {u : Rules} {leads : List ℕ} (h : Under f u leads) {done : List Entry} {b : Begun} {ws : List Word} {fuel from : ℕ} {s : Spot} (g : Walk done b ws fuel from s)
      (spare : s.stage ≡ Between → 0 < length s.rows → 0 < fuel) where
    law : To h.facts leads h.led done b ws fuel from s.item s.empty s.rows s.stage (step_at n u leads (item_at f s.item) s)
    unfolding step_at
    law = rw h.ruled (step-goes h.facts leads h.led done b ws fuel from s.item s.empty s.rows s.stage g spare)

    pub goes : (m : Moved) → taken m ≡ step_at n u leads (item_at f s.item) s → (e : Event) → m.event ≡ e → Goes done b ws fuel from s m.spot e
    goes m e v q = subst (λ x. Goes done b ws fuel from s m.spot x) q (rw (sym e) at law)

    -- a step's refusal is that of all blocks
    pub halts : (m p : ℕ) → refused m p ≡ step_at n u leads (item_at f s.item) s → all ≡ refused m p
    halts m p e = rw (sym e) at law
