-- What is left of an accepted tape: the blocks from a row on, whatever bound they are counted by.
use mathlib.Core.Path.{◌≡◌, refl, ap, ◌∙◌}
use mathlib.Core.List.{List, [], ◌∷◌}
use Prim.Native.Nat.{ℕ, zero, suc, ◌+◌, ◌≤◌}
use native.Mathlib.Nat.{le_refl}
use native.Mathlib.Omega.{arith}
use lib.ListN.{length, length-append}
use Rattle.rows.specs.Answer.{Answer, taken, refused, ◌>>=◌}
use Rattle.rows.specs.Kept.{KeptRow, kept_at}
use Rattle.shorthand.specs.declared.Format.{Format}
use Rattle.words.specs.Figures.{Behind}
use Rattle.reading.specs.declared.Entry.{Entry}
use Rattle.reading.specs.Parse.{BlockRead, entry, block_at, blocks_at}
use Rattle.reading.specs.Remains.{Remains, all, later}
use Rattle.reading.proofs.BlockWalk.{entered-head}
use Rattle.reading.proofs.OwnRows.{Left, First, nothing, block, first, behind-head}
use Rattle.reading.proofs.ReadBlocks.{last_some}
use Rattle.reading.proofs.Sound.{block-rows}

module _ (f : Format) (len : ℕ) where
  abbrev Behind-block : ℕ → ℕ → Answer (Behind BlockRead) → Answer (List Entry)
  Behind-block k from a = a >>= λ b. blocks_at k len f (b.value.lf + 1) b.rest >>= λ es. taken (entry from b.value ∷ es)

  -- one block, and then those behind it
  next-block : (k m from : ℕ) (r : KeptRow) (rs : List KeptRow) → length (r ∷ rs) ≤ suc k → length (r ∷ rs) ≤ suc m
      → ((i : ℕ) (u : List KeptRow) → length u ≤ k → length u ≤ m → blocks_at k len f i u ≡ blocks_at m len f i u)
      → (a : Answer (Behind BlockRead)) → block_at len f (r ∷ rs) ≡ a → Behind-block k from a ≡ Behind-block m from a
  next-block k m from r rs h l same (refused n p) e = refl
  next-block k m from r rs h l same (taken b) e =
      let q = block-rows f len (r ∷ rs) b e in
      let some = last_some q.stands.1 in
      let size : length (r ∷ rs) ≡ length q.took + length b.rest = ap length q.split ∙ length-append q.took b.rest in
      ap (λ x. x >>= λ es. taken (entry from b.value ∷ es)) (same (b.value.lf + 1) b.rest (omega (arith, some, size, h)) (omega (arith, some, size, l)))

  -- any two bounds that are enough
  pub blocks-enough : (k m from : ℕ) (rs : List KeptRow) → length rs ≤ k → length rs ≤ m → blocks_at k len f from rs ≡ blocks_at m len f from rs
  unfolding blocks_at
  blocks-enough zero zero from rs h l = refl
  blocks-enough zero (suc m) from [] h l = refl
  blocks-enough (suc k) zero from [] h l = refl
  blocks-enough (suc k) (suc m) from [] h l = refl
  blocks-enough zero (suc m) from (r ∷ rs) h l = absurd (omega (arith, h))
  blocks-enough (suc k) zero from (r ∷ rs) h l = absurd (omega (arith, l))
  blocks-enough (suc k) (suc m) from (r ∷ rs) h l = next-block k m from r rs h l (λ i u. blocks-enough k m i u) (block_at len f (r ∷ rs)) refl

module _ (f : Format) (t : List ℕ) where
  behind-first : {from : ℕ} {e : Entry} {es : List Entry} → First f t from (e ∷ es) → Left f t e.to es
  behind-first (nothing q z) = let w = ap length z in absurd (omega (arith, w))
  behind-first {from} {e} {es} (block r u q b i xs z h) =
      let is : entry from b.value ≡ e = cc in
      let to : b.value.lf + 1 ≡ e.to = ap (λ x. x.to) is in
      let rest : xs ≡ es = cc in
      rw (to, rest) at h

  pub remains-left : {from : ℕ} {es : List Entry} → Remains f t from es → Left f t from es
  remains-left (all {es = es} {lf = lf} {rest = rest} e h) = behind-head f t es e lf rest (entered-head t _ h)
  remains-left (later {from = from} {e = e} {es = es} r) = behind-first (first f t from (e ∷ es) (remains-left r))

  -- the blocks that are left are all that stand from there on
  pub remains-are : {from : ℕ} {es : List Entry} → Remains f t from es → blocks_at (length (kept_at t from)) (length t) f from (kept_at t from) ≡ taken es
  remains-are {from} r = let g = remains-left r in blocks-enough f (length t) (length (kept_at t from)) g.fuel from (kept_at t from) (le_refl _) g.enough ∙ g.come
