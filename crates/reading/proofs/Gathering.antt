-- A walk over one block that gathers its record.
use mathlib.Core.Path.{◌≡◌, refl, sym, ap, ◌∙◌}
use mathlib.Core.Bool.{false}
use mathlib.Core.List.{List, [], ◌∷◌, ◌++◌}
use Prim.Native.Nat.{ℕ, ◌+◌, ◌<◌}
use native.Mathlib.Omega.{arith}
use lib.ListN.{length, set, length-append}
use Rattle.rows.specs.Answer.{Answer, taken, refused, value_or, ◌>>=◌}
use Rattle.rows.specs.Kept.{KeptRow}
use Rattle.shorthand.specs.declared.Format.{Format}
use Rattle.shorthand.proofs.Padded.{padded-set}
use Rattle.words.specs.declared.Word.{Word}
use Rattle.words.specs.Figures.{Behind}
use Rattle.parts.specs.declared.Begun.{Begun}
use Rattle.parts.specs.declared.Rules.{Rules}
use Rattle.steps.specs.declared.Stage.TheVariants.{Between}
use Rattle.steps.specs.declared.Event.{Event}
use Rattle.steps.specs.declared.Event.TheVariants.{Finished, Opened, Out, Read, Closed}
use Rattle.parts.specs.Starts.{unnumbered, start_at}
use Rattle.parts.specs.Items.{item_at}
use Rattle.steps.specs.Steps.{Spot, Moved, between, step_at}
use Rattle.reading.specs.declared.Block.{Block}
use Rattle.parts.proofs.BareFronts.{bare-none}
use Rattle.reading.specs.Record.{block_of, empty_block}
use Rattle.reading.specs.Record.{blank as no_word}
use Rattle.reading.specs.declared.Entry.{Entry}
use Rattle.reading.specs.Parse.{BlockRead, entry, block_at, blocks_at}
use Rattle.reading.specs.Front.{Rising}
use Rattle.reading.proofs.Outcomes.{never}
use Rattle.reading.proofs.StepLaws.{Under, open_in, Walk, walk-starts, walk-full, Goes, goes, halts, effort}

-- one word more in the block
abbrev pub one_more : Block → Word → Block
one_more b w = record { skip = b.skip; alignment = b.alignment; numbered = b.numbered; sequence = b.sequence; count = b.count + 1; words = set b.words b.count w }

stored-word : (a : Begun) (ws : List Word) (w : Word) (b r : Block) → b ≡ block_of a ws → length ws < 22 → r ≡ one_more b w → r ≡ block_of a (ws ++ (w ∷ []))
stored-word a ws w b r e l s =
    let more : length ws + 1 ≡ length (ws ++ (w ∷ [])) = simp length-append in
    s ∙ rw (e, more, padded-set 22 no_word w ws l)

-- ---- one block, and nothing behind it

module _ (n : ℕ) (f : Format) (from : ℕ) where
  -- the block that begins with these rows
  abbrev pub one_from : List KeptRow → Answer Entry
  one_from rs = block_at n f rs >>= λ b. taken (entry from b.value)

  -- no row is left
  none_from : one_from [] ≡ refused 14 n
  unfolding block_at start_at
  none_from = rw (bare-none f)

  alone : (r : KeptRow) (u : List KeptRow) → blocks_at 1 n f from (r ∷ u) ≡ (one_from (r ∷ u) >>= λ x. taken (x ∷ []))
  unfolding blocks_at
  alone r u = by (block_at n f (r ∷ u))
    where
      by : (a : Answer (Behind BlockRead)) → (a >>= λ b. taken (entry from b.value ∷ [])) ≡ ((a >>= λ b. taken (entry from b.value)) >>= λ x. taken (x ∷ []))
      by (taken b) = refl
      by (refused m p) = refl

  -- what the walk over one block answers is that block, or why there is none
  pub one-taken : (rs : List KeptRow) (x : Entry) → blocks_at 1 n f from rs ≡ taken (x ∷ []) → one_from rs ≡ taken x
  unfolding blocks_at
  one-taken [] x e = absurd (omega (arith, ap (λ a. length (value_or [] a)) e))
  one-taken (r ∷ u) x e = by (one_from (r ∷ u)) (sym (alone r u) ∙ e)
    where
      by : (a : Answer Entry) → (a >>= λ y. taken (y ∷ [])) ≡ taken (x ∷ []) → a ≡ taken x
      by (taken y) q = let z : y ≡ x = cc in ap taken z
      by (refused m p) q = never q

  pub one-refused : (rs : List KeptRow) (m p : ℕ) → blocks_at 1 n f from rs ≡ refused m p → one_from rs ≡ refused m p
  unfolding blocks_at
  one-refused [] m p e = never (sym e)
  one-refused (r ∷ u) m p e = by (one_from (r ∷ u)) (sym (alone r u) ∙ e)
    where
      by : (a : Answer Entry) → (a >>= λ y. taken (y ∷ [])) ≡ refused m p → a ≡ refused m p
      by (taken y) q = never (sym q)
      by (refused i j) q = let z : i ≡ m = cc in let w : j ≡ p = cc in rw (z, w)

  pub one_none : (rs : List KeptRow) → blocks_at 1 n f from rs ≡ taken [] → one_from rs ≡ refused 14 n
  one_none [] e = none_from
  one_none (r ∷ u) e = by (one_from (r ∷ u)) (sym (alone r u) ∙ e)
    where
      by : (a : Answer Entry) → (a >>= λ y. taken (y ∷ [])) ≡ taken [] → a ≡ refused 14 n
      by (taken y) q = absurd (omega (arith, ap (λ a. length (value_or [] a)) q))
      by (refused i j) q = never q

module _ (n : ℕ) (f : Format) (from : ℕ) (start : List KeptRow) where
  pub record Gathers (s : Spot) (block : Block) : Type 0 where
    pub begun : Begun
    pub words : List Word
    pub fuel : ℕ
    pub walk : Walk n f 1 from start [] begun words fuel from s
    pub stored : block ≡ block_of begun words

  pub gathers-none : (block : Block) → block ≡ empty_block → Rising n from start → Gathers (between start) block
  gathers-none block e h =
      let b : Begun = unnumbered false in
      record { begun = b; words = []; fuel = 1; walk = walk-starts n f 1 from start b h; stored = e }

  -- nearer to the end
  abbrev Nearer : Spot → Spot → Type 0
  Nearer v s = effort n from v.stage v.item < effort n from s.stage s.item

  -- what holds behind a step
  abbrev pub After : Spot → Block → Spot → Event → Type 0
  After s block v Finished = one_from n f from start ≡ refused 14 n
  After s block v (Opened b) = ((next : Block) → next ≡ block_of b [] → Gathers v next) × Nearer v s
  After s block v Out = Gathers v block × Nearer v s
  After s block v (Read w) = (block.count < 22) × ((next : Block) → next ≡ one_more block w → Gathers v next) × Nearer v s
  After s block v (Closed lf) = (one_from n f from start ≡ taken (record { block = block; from = from; to = lf + 1 })) × (lf < n)

  module _ {u : Rules} {leads : List ℕ} (h : Under f u leads) {s : Spot} {block : Block} (g : Gathers s block) where
    spare : {b : Begun} {ws : List Word} {fuel : ℕ} → Walk n f 1 from start [] b ws fuel from s → s.stage ≡ Between → 0 < fuel
    spare w z = omega (arith, w.room, ap open_in z)

    -- a step's refusal is that of the block
    pub gathers-halt : (m p : ℕ) → refused m p ≡ step_at n u leads (item_at f s.item) s → one_from n f from start ≡ refused m p
    gathers-halt m p e = one-refused n f from start m p (halts n f 1 from start h g.walk (λ z l. spare g.walk z) m p e)

    pub gathers-on : (m : Moved) → taken m ≡ step_at n u leads (item_at f s.item) s → (e : Event) → m.event ≡ e → After s block m.spot e
    gathers-on m q e r = by e (goes n f 1 from start h g.walk (λ z l. spare g.walk z) m q e r)
      where
        by : (v : Event) → Goes n f 1 from start [] g.begun g.words g.fuel from s m.spot v → After s block m.spot v
        by Finished o = one_none n f from start o.0
        by (Opened b) o = ((λ next z. record { begun = b; words = []; fuel = o.0; walk = o.2.walk; stored = z }), o.2.nearer)
        by Out o = (record { begun = g.begun; words = g.words; fuel = g.fuel; walk = o.walk; stored = g.stored }, o.nearer)
        by (Read w) o = (
          omega (arith, ap (λ x. x.count) g.stored, o.1, h.facts.few),
          (λ next z. record {
            begun = g.begun;
            words = g.words ++ (w ∷ []);
            fuel = g.fuel;
            walk = o.0.walk;
            stored = stored-word g.begun g.words w block next g.stored (omega (arith, o.1, h.facts.few)) z;
          }),
          o.0.nearer,
        )
        by (Closed lf) o = (rw g.stored (one-taken n f from start _ (walk-full n f 1 from start o.0.walk refl)), o.2)
