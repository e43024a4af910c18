-- The same said of what the readers answer: the count and every block.
use Prim.Native.Nat.{ℕ, ◌≤◌, ◌<◌}
use mathlib.Core.Path.{◌≡◌, refl, sym, ◌∙◌}
use mathlib.Core.Bool.{Bool, true, false}
use mathlib.Core.List.{List, ◌++◌}
use lib.Dec.{ltb}
use lib.ListN.{length, get_or}
use borrow.Author.Tests.{ltb-true, ltb-false}
use Rattle.rows.specs.Answer.{taken}
use Rattle.rows.specs.Stages.{limit}
use Rattle.reading.specs.declared.Block.{Block}
use Rattle.reading.specs.Record.{empty_block}
use Rattle.reading.specs.Relation.{TapeOf}
use Rattle.reading.specs.Answers.{counted, block_numbered}
use Rattle.demands.proofs.Demand2.{accepted-exactly, count-said, block-said, no_more}
use Rattle.splices.specs.Gluing.{Glued}
use Rattle.splices.specs.Dressing.{Dressing}
use Rattle.splices.proofs.Glue as glue
use Rattle.splices.proofs.Dress as dress

module _ (e : ℕ) (s p : List ℕ) where
  -- a glued tape counts the first one's blocks and the second's,
  pub glued-counted : {bs cs : List Block} {t u g : List ℕ} → TapeOf e s p bs t → TapeOf e s p cs u → Glued t u g → length g ≤ limit → counted e s p g ≡ taken (length (bs ++ cs))
  glued-counted {bs} {cs} {g = g} x y k l = count-said e s p g (bs ++ cs) (glue.blocks e s p x y k l)

  -- and has them in that order
  pub glued-block : {bs cs : List Block} {t u g : List ℕ} → TapeOf e s p bs t → TapeOf e s p cs u → Glued t u g → length g ≤ limit → (n : ℕ) → n < length (bs ++ cs)
      → block_numbered e s p g n ≡ taken (get_or (bs ++ cs) n empty_block)
  glued-block {bs} {cs} {g = g} x y k l = block-said e s p g (bs ++ cs) (glue.blocks e s p x y k l)

  -- an accepted tape that is dressed counts what it counted,
  pub dressed-counted : {bs : List Block} {t d : List ℕ} → TapeOf e s p bs t → Dressing t d → length d ≤ limit → counted e s p d ≡ counted e s p t
  dressed-counted {bs} {t} {d} x k l = count-said e s p d bs (dress.blocks e s p x k l) ∙ sym (count-said e s p t bs x)

  -- and each block, or that there is none, is told as it was
  pub dressed-block : {bs : List Block} {t d : List ℕ} → TapeOf e s p bs t → Dressing t d → length d ≤ limit → (n : ℕ) → block_numbered e s p d n ≡ block_numbered e s p t n
  dressed-block {bs} {t} {d} x k l n =
      let y = dress.blocks e s p x k l in by y (ltb n (length bs)) refl
    where
      by : TapeOf e s p bs d → (z : Bool) → ltb n (length bs) ≡ z → block_numbered e s p d n ≡ block_numbered e s p t n
      by y true q = let m = ltb-true n (length bs) q in block-said e s p d bs y n m ∙ sym (block-said e s p t bs x n m)
      by y false q = let m = ltb-false n (length bs) q in no_more e s p d bs y n m ∙ sym (no_more e s p t bs x n m)

  -- a dressed tape that is accepted was accepted without, with as many blocks
  pub undressed-counted : {t d : List ℕ} {c : ℕ} → counted e s p d ≡ taken c → Dressing t d → counted e s p t ≡ taken c
  undressed-counted {t} {d} {c} q k =
      let h = (accepted-exactly e s p d).0 (c, q) in
      count-said e s p t h.0 (dress.undressed e s p h.1 k) ∙ sym (count-said e s p d h.0 h.1) ∙ q
