-- A walk that counts the blocks and holds where the rows of block w and of the last stand.
use mathlib.Core.Path.{◌≡◌, refl, sym, ap, ◌∙◌}
use mathlib.Core.Bool.{false, cond}
use mathlib.Core.List.{List, [], ◌∷◌, ◌++◌}
use Prim.Native.Nat.{ℕ, ◌+◌, ◌<◌}
use native.Mathlib.Nat.{le_refl}
use native.Mathlib.Omega.{arith}
use lib.Dec.{eqb}
use lib.ListN.{length, get_or, length-append}
use Rattle.rows.specs.Answer.{Answer, taken, refused}
use Rattle.rows.specs.Kept.{KeptRow}
use Rattle.shorthand.specs.declared.Format.{Format}
use Rattle.words.specs.declared.Word.{Word}
use Rattle.parts.specs.declared.Begun.{Begun}
use Rattle.reading.specs.declared.Part.{Part}
use Rattle.parts.specs.declared.Rules.{Rules}
use Rattle.steps.specs.declared.Event.{Event}
use Rattle.steps.specs.declared.Event.TheVariants.{Finished, Opened, Out, Read, Closed}
use Rattle.reading.specs.declared.Entry.{Entry}
use Rattle.reading.specs.Parse.{blocks_at}
use Rattle.reading.specs.Answers.{nowhere, size_of}
use Rattle.reading.specs.Front.{part_of, part_in, Rising}
use Rattle.reading.specs.Survey.{no_rows, last_part, surveyed_from, last_in}
use Rattle.parts.specs.Starts.{unnumbered}
use Rattle.parts.specs.Items.{item_at}
use Rattle.steps.specs.Steps.{Spot, Moved, between, step_at}
use Rattle.reading.proofs.BlockWalk.{nth-more}
use Rattle.reading.proofs.StepLaws.{more-come, Under, entry_of, Walk, walk-starts, Further, Goes, goes, halts, effort}

-- of some blocks and one behind them that one is the last
pub last_more : (p : Part) (es : List Entry) (x : Entry) → last_part p (es ++ (x ∷ [])) ≡ part_of x
last_more p [] x = refl
last_more p (y ∷ es) x = last_more (part_of y) es x

module _ (w n : ℕ) (f : Format) (first : ℕ) (start : List KeptRow) where
  abbrev all : Answer (List Entry)
  all = blocks_at (length start) n f first start

  -- the blocks done are as many as are counted, and the parts are those of block w and of the last among them
  pub record Counts (s : Spot) (count : ℕ) (part last : Part) : Type 0 where
    pub done : List Entry
    pub begun : Begun
    pub words : List Word
    pub fuel : ℕ
    pub walk : Walk n f (length start) first start done begun words fuel last.to s
    pub counted : count ≡ length done
    pub asked : part ≡ part_of (get_or done w nowhere)
    pub ended : last ≡ last_part (no_rows first) done

  abbrev pub Told : Answer ℕ → Answer Part → Answer Part → Type 0
  Told count part last =
      (count ≡ size_of (blocks_at (length start) n f first start))
      × ((part ≡ part_in w (blocks_at (length start) n f first start)) × (last ≡ last_in (surveyed_from first (blocks_at (length start) n f first start))))

  pub counts-none : (part : Part) → part ≡ part_of nowhere → Rising n first start → Counts (between start) 0 part (no_rows first)
  counts-none part e h =
      let b : Begun = unnumbered false in
      record { done = []; begun = b; words = []; fuel = length start; walk = walk-starts n f (length start) first start b h; counted = refl; asked = e; ended = refl }

  -- the walk still counts, nearer to the end
  abbrev On : Spot → ℕ → Part → Part → Spot → Type 0
  On s count part last v = Counts v count part last × (effort n last.to v.stage v.item < effort n last.to s.stage s.item)

  -- what holds behind a step
  abbrev pub Behind : Spot → ℕ → Part → Part → Spot → Event → Type 0
  Behind s count part last v Finished = Told (taken count) (taken part) (taken last)
  Behind s count part last v (Closed lf) =
      ((now : Part) → now ≡ cond (eqb count w) (record { from = last.to; to = lf + 1 }) part → Counts v (count + 1) now (record { from = last.to; to = lf + 1 }))
      × (effort n (lf + 1) v.stage v.item < effort n last.to s.stage s.item) × (count < n) × (lf < n)
  Behind s count part last v (Opened b) = On s count part last v
  Behind s count part last v Out = On s count part last v
  Behind s count part last v (Read x) = On s count part last v

  module _ {u : Rules} {leads : List ℕ} (h : Under f u leads) {s : Spot} {count : ℕ} {part last : Part} (g : Counts s count part last) where
    on : {begun : Begun} {words : List Word} {fuel : ℕ} {v : Spot} → Further n f (length start) first start g.done begun words fuel last.to last.to s v → On s count part last v
    on {begun} {words} {fuel} o = (record { done = g.done; begun = begun; words = words; fuel = fuel; walk = o.walk; counted = g.counted; asked = g.asked; ended = g.ended }, o.nearer)

    -- a step's refusal is that of all blocks
    pub counts-halt : (m p : ℕ) → refused m p ≡ step_at n u leads (item_at f s.item) s → Told (refused m p) (refused m p) (refused m p)
    counts-halt m p e =
        let o = halts n f (length start) first start h g.walk (more-come n f (length start) first start g.walk (le_refl _)) m p e in
        (sym (ap size_of o), (sym (ap (part_in w) o), sym (ap (λ a. last_in (surveyed_from first a)) o)))

    pub counts-on : (m : Moved) → taken m ≡ step_at n u leads (item_at f s.item) s → (e : Event) → m.event ≡ e → Behind s count part last m.spot e
    counts-on m q e r = by e (goes n f (length start) first start h g.walk (more-come n f (length start) first start g.walk (le_refl _)) m q e r)
      where
        by : (v : Event) → Goes n f (length start) first start g.done g.begun g.words g.fuel last.to s m.spot v → Behind s count part last m.spot v
        by Finished o =
            (ap taken g.counted ∙ sym (ap size_of o.0), (ap taken g.asked ∙ sym (ap (part_in w) o.0), ap taken g.ended ∙ sym (ap (λ a. last_in (surveyed_from first a)) o.0)))
        by (Opened b) o = on o.2
        by Out o = on o
        by (Read x) o = on o.0
        by (Closed lf) o =
            let longer = length-append g.done (entry_of last.to g.begun g.words lf ∷ []) in (
              (λ now z. record {
                done = g.done ++ (entry_of last.to g.begun g.words lf ∷ []);
                begun = g.begun;
                words = g.words;
                fuel = g.fuel;
                walk = o.0.walk;
                counted = omega (arith, g.counted, longer);
                asked = z ∙ rw g.counted (nth-more part_of g.done (entry_of last.to g.begun g.words lf) w part g.asked);
                ended = sym (last_more (no_rows first) g.done (entry_of last.to g.begun g.words lf));
              }),
              o.0.nearer,
              omega (arith, g.counted, g.walk.below, o.1, o.2),
              o.2,
            )

    -- the events that end nothing
    pub counts-quiet : (m : Moved) → taken m ≡ step_at n u leads (item_at f s.item) s → (m.event ≡ Finished → ⊥) → ((lf : ℕ) → m.event ≡ Closed lf → ⊥) → On s count part last m.spot
    counts-quiet m q unfinished unclosed = by m.event refl (counts-on m q m.event refl)
      where
        by : (v : Event) → m.event ≡ v → Behind s count part last m.spot v → On s count part last m.spot
        by Finished e o = absurd (unfinished e)
        by (Opened b) e o = o
        by Out e o = o
        by (Read x) e o = o
        by (Closed lf) e o = absurd (unclosed lf e)
