-- What is saved is accepted: it passes, and its blocks are those that the staying pieces said by themselves, in order.
use Prim.Native.Nat.{ℕ, ◌≤◌, zero-le}
use mathlib.Core.Path.{◌≡◌, refl, sym, ap, ◌∙◌, subst}
use mathlib.Core.Bool.{Bool, true, false, cond}
use mathlib.Core.List.{List, [], ◌∷◌, ◌++◌, map, flatten}
use native.Mathlib.Omega.{arith}
use lib.Dec.{ltb}
use lib.ListN.{length, length-append}
use borrow.Author.Tests.{ltb-false}
use Rattle.rows.specs.Answer.{Answer, taken, refused, value_or, void, ◌>>◌}
use Rattle.rows.specs.Kept.{kept}
use Rattle.rows.specs.Passes.{Passes}
use Rattle.rows.specs.Stages.{limit, in_limit}
use Rattle.rows.proofs.TapesJoined.{passes_append}
use Rattle.shorthand.specs.declared.Format.{Format}
use Rattle.profile.specs.Answers.{agreed}
use Rattle.profile.specs.Relation.{Settled}
use Rattle.profile.proofs.Settling.{settled-exactly}
use Rattle.reading.specs.declared.Block.{Block}
use Rattle.reading.specs.Relation.{Program, program, chars, TapeOf}
use Rattle.reading.specs.Answers.{read}
use Rattle.reading.proofs.Outcomes.{never}
use Rattle.reading.proofs.Programs.{from-taken}
use Rattle.reading.proofs.BehindHead.{OnlyHead}
use Rattle.reading.proofs.MovedRows.{chars-behind}
use Rattle.salvage.specs.Pieces.{head_of, pieces_of}
use Rattle.salvage.specs.Saving.{saved_rows, saved_of, Saved, list_room, salvaged_for, salvaged}
use Rattle.salvage.proofs.Dividing.{head-whole, parts_last}
use Rattle.salvage.proofs.HeadAlone.{only-head}
use Rattle.salvage.proofs.PieceBlocks.{Left, left-append, over-left, piece-left}

-- the blocks that a piece says by itself: none where it is refused
abbrev pub said : Format → List ℕ → List ℕ → List Block
said f h r = map (λ x. x.block) (value_or [] (read f (h ++ r)))

-- the blocks of the staying pieces, in order
abbrev pub said_all : Format → List ℕ → List (List ℕ) → List Block
said_all f h [] = []
said_all f h (r ∷ rs) = said f h r ++ said_all f h rs

-- what is left of some pieces behind a head
pieces-left : (f : Format) {h : List ℕ} → OnlyHead h → (rs : List (List ℕ)) → length (h ++ flatten rs) ≤ limit → Left f (said_all f h rs) (flatten rs) (saved_rows f h rs)
unfolding flatten
pieces-left f o [] l = over-left f [] zero-le
pieces-left f {h} o (r ∷ rs) l =
    let a = length-append h (r ++ flatten rs) in
    let b = length-append r (flatten rs) in
    let c = length-append h (flatten rs) in
    let d = length-append h r in
    left-append (piece-left f o r (omega arith)) (pieces-left f o rs (omega arith)) (omega arith)

-- the rows that are saved pass, and stand for these blocks
pub saved-stands : (f : Format) (t : List ℕ) → length t ≤ limit → taken tt ≡ void (read f (head_of t))
    → Passes (saved_of f t).rows × Program f (said_all f (head_of t) (pieces_of t)) (chars (kept (saved_of f t).rows))
saved-stands f t l a =
    let h = head_of t in
    let o = (only-head f h (parts_last t).0 a).0 in
    let all = head-whole t in
    let k = pieces-left f o (pieces_of t) (rw all l) in
    let u = saved_rows f h (pieces_of t) in
    let size : length (h ++ u) ≡ length t = length-append h u ∙ rw k.size (sym (length-append h (flatten (pieces_of t)))) ∙ ap length all in (
      passes_append o.passes k.passes (rw size l),
      rw (chars-behind o.passes.formed u, o.heads.rows) (program o.heads.ends k.stands),
    )

-- what was taken came behind something taken
then-taken : {A B : Type 0} (a : Answer A) (b : Answer B) (x : B) → (a >> b) ≡ taken x → (taken tt ≡ void a) × (b ≡ taken x)
then-taken (taken y) b x e = (refl, e)
then-taken (refused n p) b x e = never e

in-limit : (b : Bool) → taken tt ≡ void {A = Unit {0}} (cond b (refused 4 limit) (taken tt)) → b ≡ false
in-limit true e = never (sym e)
in-limit false e = refl

-- a saving that is answered: the tape is within the limit, its head is accepted, and what is saved is what the definition says
pub record Answered (f : Format) (t : List ℕ) (x : Saved) : Type 0 where
  pub short : length t ≤ limit
  pub head : taken tt ≡ void (read f (head_of t))
  pub is : saved_of f t ≡ x

pub answered : (f : Format) (t : List ℕ) (firsts sizes numbers : ℕ) (x : Saved) → salvaged_for f t firsts sizes numbers ≡ taken x → Answered f t x
unfolding salvaged_for
answered f t firsts sizes numbers x q =
    let a = then-taken (in_limit t) _ x q in
    let b = then-taken (read f (head_of t)) _ x a.1 in
    let c = (then-taken (list_room (length (saved_of f t).lost) firsts sizes numbers) _ x b.1).1 in
    record { short = ltb-false limit (length t) (in-limit (ltb limit (length t)) a.0); head = b.0; is = cc }

-- under a settled Format what is saved is a tape of these blocks
pub saved-for : (e : ℕ) (s p t : List ℕ) (f : Format) → Settled e s p f → (firsts sizes numbers : ℕ) (x : Saved) → salvaged_for f t firsts sizes numbers ≡ taken x
    → TapeOf e s p (said_all f (head_of t) (pieces_of t)) x.rows
saved-for e s p t f settled firsts sizes numbers x q =
    let a = answered f t firsts sizes numbers x q in
    let k = saved-stands f t a.short a.head in
    subst (λ (y : Saved). TapeOf e s p (said_all f (head_of t) (pieces_of t)) y.rows) a.is (record { format = f; settled = settled; passes = k.0; stands = k.1 })

-- the result is always accepted, and its blocks are those that the pieces said by themselves under the Format agreed on, in order, and no others
pub saved-tape : (e : ℕ) (s p t : List ℕ) (firsts sizes numbers : ℕ) (x : Saved) → salvaged e s p t firsts sizes numbers ≡ taken x
    → (f : Format) × (agreed e s p ≡ taken f) × TapeOf e s p (said_all f (head_of t) (pieces_of t)) x.rows
unfolding salvaged
saved-tape e s p t firsts sizes numbers x q =
    let a = from-taken (agreed e s p) (λ f. salvaged_for f t firsts sizes numbers) x q in
    (a.0, a.1, saved-for e s p t a.0 ((settled-exactly e s p a.0).0 a.1) firsts sizes numbers x a.2)
