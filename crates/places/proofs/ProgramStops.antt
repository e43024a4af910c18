-- How the head and all blocks go: of a refused tape, what stands before the place, and that the rows to there are refused whatever follows.
use Prim.Native.Nat.{ℕ, zero, suc, ◌+◌, ◌≤◌, ◌<◌}
use mathlib.Core.Path.{◌≡◌, refl, sym, ap, ◌∙◌, subst}
use mathlib.Core.Bool.{Bool, true, false, cond}
use mathlib.Core.List.{List, [], ◌∷◌, ◌++◌, append_assoc}
use native.Mathlib.Nat.{le_refl, zero-lt-suc}
use native.Mathlib.Omega.{arith}
use lib.ListN.{length, length-append, length-map}
use lib.Dec.{eqb}
use borrow.Author.Tests.{eqb-true, eqb-false}
use Rattle.rows.specs.Answer.{Answer, taken, refused, ◌>>=◌}
use Rattle.rows.specs.Kept.{KeptRow}
use Rattle.shorthand.specs.declared.Format.{Format}
use Rattle.shorthand.specs.Facts.{Facts}
use Rattle.reading.specs.declared.Block.{Block}
use Rattle.reading.specs.Relation.{End, Blocks, none, more, Program, program}
use Rattle.words.specs.declared.Wanted.{Wanted}
use Rattle.words.specs.Figures.{Behind, wrong, fronts, behind}
use Rattle.parts.specs.Ends.{ended}
use Rattle.reading.specs.Parse.{BlockRead, block_at, entry, blocks_at}
use Rattle.parts.specs.Ends.{head_at}
use Rattle.reading.specs.Answers.{program_at}
use Rattle.reading.proofs.BlockTakes.{block-some}
use Rattle.places.proofs.Steady.{Like, first_row, next-any, Refuses, refuses-bind, Held, at_end, held_after, Goes, took, held, goes_after, goes-alone, goes_map}
use Rattle.places.proofs.Dues.{SomeBlock}
use Rattle.places.proofs.Unread.{Unread, block-unread, behind-unread}
use Rattle.places.proofs.BlockStops.{EndStop, ended-goes, BlockStop, block_goes}

-- ---- the head

pub data HeadStop : ℕ → List ℕ → List ℕ → List ℕ → Type 0 where
  no_percent : {c : ℕ} → (c ≡ 37 → ⊥) → HeadStop 8 [] [] (c ∷ [])
  cut_percent : HeadStop 8 [] [] []
  in_end : {n : ℕ} {b ds w : List ℕ} → EndStop (λ c. Unit {0}) Wanted.Head false n b ds w → HeadStop n (37 ∷ b) ds w

-- "%" and an end
abbrev Headed : List ℕ → Type 0
Headed u = (e : List ℕ) × End e × (u ≡ 37 ∷ e)

head-goes : (len : ℕ) (rs : List KeptRow) → Goes (head_at len) len (λ p u l. Headed u) HeadStop rs (head_at len rs)
unfolding head_at
head-goes len [] = held (at_end [] [] refl tt cut_percent)
head-goes len (r ∷ rs) = go (eqb r.char 37) refl
  where
    go : (b : Bool) → eqb r.char 37 ≡ b → Goes (λ l. cond (fronts 37 l) (ended len Wanted.Head (behind l)) (wrong len Wanted.Head l)) len (λ p u l. Headed u) HeadStop (r ∷ rs) (cond b (ended len Wanted.Head rs) (refused 8 r.place))
    go true e =
        let m = eqb-true r.char 37 e in
        goes_after {o = ended len Wanted.Head} (r ∷ []) refl (λ l h. ap (λ b. cond b (ended len Wanted.Head l) (refused 8 r.place)) e)
        (goes_map (λ a u l h. (u, h, rw m)) (λ n b ds w h. subst (λ c. HeadStop n (c ∷ b) ds w) (sym m) (in_end h)) (ended-goes len Wanted.Head (λ c. Unit {0}) rs (next-any (λ c. tt) rs)))
    go false e =
        goes-alone 8 (r ∷ []) rs (zero-lt-suc 0) refl (no_percent (eqb-false r.char 37 e)) (λ h. absurd (omega arith)) (λ l. rw e tt)

-- ---- all blocks

pub data BlocksStop (f : Format) : ℕ → List ℕ → List ℕ → List ℕ → Type 0 where
  in_block : {n : ℕ} {bs : List Block} {b ds w r : List ℕ} → Blocks f bs r → BlockStop f n b ds w → BlocksStop f n (r ++ b) ds w

behind-block : {f : Format} {s : List ℕ} → SomeBlock f s → (n : ℕ) (b ds w : List ℕ) → BlocksStop f n b ds w → BlocksStop f n (s ++ b) ds w
behind-block {f} {s} h n b ds w (in_block {b = c} {r = r} k q) = subst (λ x. BlocksStop f n x ds w) (append_assoc s r c) (in_block (more h.1 k) q)

-- what was refused behind something taken
from-refused : {A B : Type 0} (x : Answer A) (g : A → B) (n p : ℕ) → (x >>= λ a. taken (g a)) ≡ refused n p → x ≡ refused n p
from-refused (taken a) g n p e = let z : ◌≡◌ {A = ℕ} 0 1 = cc in absurd (omega arith)
from-refused (refused m q) g n p e = let a : m ≡ n = cc in let b : q ≡ p = cc in rw (a, b)

module _ (f : Format) (facts : Facts f) (len : ℕ) where
  -- a refused block behind rows like these
  like-unread : {r : KeptRow} {rs : List KeptRow} (l : List KeptRow) → Like (r ∷ rs) l → Refuses (block_at len f l) → Unread f len l
  like-unread [] a nay = elim a [ ]
  like-unread (s ∷ l) (first_row a) nay = block-unread f len (s ∷ l) (omega arith) nay

  blocks-held : (k from : ℕ) (rs : List KeptRow) (n q : ℕ) → length rs ≤ k → blocks_at k len f from rs ≡ refused n q → Held (Unread f len) len (BlocksStop f) rs n q
  unfolding blocks_at
  blocks-held zero from rs n q few e = let z : ◌≡◌ {A = ℕ} 0 1 = cc in absurd (omega arith)
  blocks-held (suc k) from [] n q few e = let z : ◌≡◌ {A = ℕ} 0 1 = cc in absurd (omega arith)
  blocks-held (suc k) from (r ∷ rs) n q few e = go (block_goes f facts len (r ∷ rs)) e (λ to rest. blocks-held k to rest n q)
    where
      go : {x : Answer (Behind BlockRead)} → Goes (block_at len f) len (λ b u l. SomeBlock f u) (BlockStop f) (r ∷ rs) x
          → (x >>= λ b. blocks_at k len f (b.value.lf + 1) b.rest >>= λ es. taken (entry from b.value ∷ es)) ≡ refused n q
          → ((to : ℕ) (rest : List KeptRow) → length rest ≤ k → blocks_at k len f to rest ≡ refused n q → Held (Unread f len) len (BlocksStop f) rest n q) → Held (Unread f len) len (BlocksStop f) (r ∷ rs) n q
      go (held {n = m} {q = p} h) e ih =
          let a : m ≡ n = cc in
          let b : p ≡ q = cc in
          rw (← a, ← b) (held_after [] refl (λ l k nay. like-unread l k nay) (λ n b ds w z. in_block none z) h)
      go (took {a} {rest} u split is t) e ih =
          let some : 0 < length u = omega (arith, block-some is.1, length-map u (λ s. s.char)) in
          let whole : suc (length rs) ≡ length u + length rest = ap length split ∙ length-append u rest in
          let left : length rest ≤ k = omega arith in
          held_after u split (λ l h nay. behind-unread f len (u ++ l) l a (t l h) (omega (arith, some, length-append u l)) nay) (behind-block is)
          (ih (a.lf + 1) rest left (from-refused (blocks_at k len f (a.lf + 1) rest) (λ es. entry from a ∷ es) n q e))

-- ---- the program

pub data ProgramStop (f : Format) : ℕ → List ℕ → List ℕ → List ℕ → Type 0 where
  in_head : {n : ℕ} {b ds w : List ℕ} → HeadStop n b ds w → ProgramStop f n b ds w
  in_block : {n : ℕ} {bs : List Block} {b ds w h : List ℕ} → Program f bs h → BlockStop f n b ds w → ProgramStop f n (h ++ b) ds w

behind-head : {f : Format} {s : List ℕ} → Headed s → (n : ℕ) (b ds w : List ℕ) → BlocksStop f n b ds w → ProgramStop f n (s ++ b) ds w
behind-head {f} h n b ds w (BlocksStop.in_block {b = c} {r = r} k q) =
    rw h.2 (subst (λ x. ProgramStop f n (37 ∷ x) ds w) (append_assoc h.0 r c) (in_block (program h.1 k) q))

pub program-held : (f : Format) → Facts f → (len : ℕ) (rs : List KeptRow) (n q : ℕ) → program_at len f rs ≡ refused n q → Held (λ l. Refuses (program_at len f l)) len (ProgramStop f) rs n q
unfolding program_at
program-held f facts len rs n q e = go (head-goes len rs) e
  where
    go : {x : Answer (Behind ℕ)} → Goes (head_at len) len (λ p u l. Headed u) HeadStop rs x → (x >>= λ h. blocks_at (length h.rest) len f (h.value + 1) h.rest) ≡ refused n q
        → Held (λ l. Refuses (head_at len l >>= λ h. blocks_at (length h.rest) len f (h.value + 1) h.rest)) len (ProgramStop f) rs n q
    go (held {n = m} {q = p} h) e =
        let a : m ≡ n = cc in
        let b : p ≡ q = cc in
        rw (← a, ← b) (held_after [] refl (λ l k nay. refuses-bind (head_at len l) _ nay) (λ n b ds w z. in_head z) h)
    go (took {a} {rest} u split is t) e =
        held_after u split (λ l h nay. rw (t l h) (nay (length l) (a + 1) (le_refl (length l)))) (behind-head is)
        (blocks-held f facts len (length rest) (a + 1) rest n q (le_refl (length rest)) e)
