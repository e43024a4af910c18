-- Which records are refused, and where (documents 01, refusals 16, 17, 18 and the order of punching, and 02, 5/12).
use Rattle.std.specs.Prelude.{ℕ, suc, ◌^◌, Bool, ◌&&◌, not, cond, Option, Some, None, List, [], ◌∷◌, eqb, leb, ltb, nat_abs}
use Rattle.rows.specs.Answer.{Answer, taken, refused, ◌>>◌}
use Rattle.speeds.specs.Coding.{exact_for}
use Rattle.shorthand.specs.declared.Kind.{Kind}
use Rattle.shorthand.specs.declared.Kind.TheVariants.{Plain}
use Rattle.shorthand.specs.declared.Item.{Item}
use Rattle.shorthand.specs.declared.Format.{Format}
use Rattle.shorthand.specs.Layout.{items_of, width, sign_of}
use Rattle.words.specs.declared.Value.{Value}
use Rattle.words.specs.declared.Value.TheVariants.{Number}
use Rattle.words.specs.declared.Word.{Word}
use Rattle.reading.specs.declared.Block.{Block}
use Rattle.reading.specs.Record.{start_of, is_empty, words_of}
use Rattle.words.specs.Figures.{may_stand}
use Rattle.punching.specs.Rows.{minus}

abbrev pub Fit : Type 0
Fit = Answer (Unit {0})

abbrev pub unless : Bool → ℕ → ℕ → Fit
unless ok n p = cond ok (taken tt) (refused n p)

-- a speed has an exact code, or 18
abbrev pub coded : ℕ → Option ℕ → Fit
coded i (Some c) = taken tt
coded i None = refused 18 i

-- word i by its item's kind: a wrong kind is 16; a number that does not fit, or negative without sign, is 17; a speed without exact code is 18
abbrev pub value_fits : ℕ → Kind → Value → Fit
value_fits i (Plain n) (Number v) = unless (ltb v (10 ^ n)) 17 i
value_fits i (Plain n) (Value.Dimension z) = refused 16 i
value_fits i (Plain n) (Value.Speed s) = refused 16 i
value_fits i (Kind.Speed k) (Number v) = refused 16 i
value_fits i (Kind.Speed k) (Value.Dimension z) = refused 16 i
value_fits i (Kind.Speed k) (Value.Speed s) = coded i (exact_for k s)
value_fits i (Kind.Dimension d) (Number v) = refused 16 i
value_fits i (Kind.Dimension d) (Value.Dimension z) =
    unless (ltb (nat_abs z) (10 ^ width (Kind.Dimension d)) && not (minus z && not (may_stand (sign_of (Kind.Dimension d))))) 17 i
value_fits i (Kind.Dimension d) (Value.Speed s) = refused 16 i

-- words from i on among the items still to come: a letter that none of them has is not an item, or out of order: 16
unfoldable pub words_fit : ℕ → List Item → List Word → Fit
words_fit i its [] = taken tt
words_fit i [] (w ∷ ws) = refused 16 i
words_fit i (it ∷ its) (w ∷ ws) =
    cond (eqb w.letter it.letter) (value_fits i it.kind w.value >> words_fit (suc i) its ws) (words_fit i its (w ∷ ws))

-- all words of a record
abbrev pub all_fit : Format → Block → Fit
all_fit f b = words_fit 1 (items_of f) (words_of b)

-- a number that does not fit its item is 17; without one, an alignment block, an empty one, and any where there must be a number is 16
abbrev pub sequence_fits : Format → Block → Fit
sequence_fits f b = cond b.numbered (unless (ltb b.sequence (10 ^ f.sequence)) 17 0) (unless (f.unnumbered && not b.alignment && not (is_empty (start_of b) (words_of b))) 16 0)

-- count over 22: 16 at 23; then the sequence: 16 or 17 at 0; then the words from the first, counted from 1
unfoldable pub record_fits : Format → Block → Fit
record_fits f b = unless (leb b.count 22) 16 23 >> sequence_fits f b >> words_fit 1 (items_of f) (words_of b)
