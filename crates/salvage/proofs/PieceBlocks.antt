-- One piece behind a head: accepted, its rows pass and stand for its blocks by themselves; refused, it is overpunched and keeps nothing.
use Prim.Native.Nat.{ℕ, ◌≤◌, ◌<◌}
use mathlib.Core.Path.{◌≡◌, refl, ap, ◌∙◌, subst}
use mathlib.Core.Bool.{false}
use mathlib.Core.List.{List, [], ◌∷◌, ◌++◌, map}
use native.Mathlib.Nat.{ne_of_gt}
use native.Mathlib.Omega.{arith}
use lib.Dec.{lit≤}
use lib.ListN.{length, length-append, length-replicate}
use borrow.Author.Tests.{ne_eqb}
use Rattle.rows.specs.Answer.{Answer, taken, refused, number_of, value_or}
use Rattle.rows.specs.Kept.{KeptRow, kept}
use Rattle.rows.specs.Faults.{RowRefusal, long, odd, foreign, fault}
use Rattle.rows.specs.Passes.{Every, Passes}
use Rattle.rows.specs.Stages.{limit}
use Rattle.rows.proofs.Outcomes.{Holds, refusal, value, holds-map, holds_then, of-refused, wider}
use Rattle.rows.proofs.Blanks.{blanks-kept, blanks-pass, dels-blank}
use Rattle.rows.proofs.FormedBehind.{parts-pass}
use Rattle.rows.proofs.Judged.{clean-passes}
use Rattle.rows.proofs.RowRefusals.{row-refusals}
use Rattle.rows.proofs.TapesJoined.{passes_append}
use Rattle.speeds.specs.Meaning.{speed_for}
use Rattle.speeds.proofs.Answers.{Spoken, means, second_zero, wrong_length, speed-answers}
use Rattle.shorthand.specs.declared.Kind.{Kind}
use Rattle.shorthand.specs.declared.Kind.TheVariants.{Plain}
use Rattle.shorthand.specs.declared.Item.{Item}
use Rattle.shorthand.specs.declared.Format.{Format}
use Rattle.shorthand.specs.Layout.{items_of}
use Rattle.reading.specs.declared.Block.{Block}
use Rattle.reading.specs.Relation.{Blocks, none, chars}
use Rattle.reading.specs.declared.Entry.{Entry}
use Rattle.reading.specs.Answers.{program_at, read}
use Rattle.reading.proofs.Outcomes.{Placed, no_row, next_row}
use Rattle.reading.proofs.ReadData.{Sayable}
use Rattle.reading.proofs.ReadBlocks.{program-read}
use Rattle.reading.proofs.Sound.{taken-rows, entries-stand}
use Rattle.reading.proofs.Accepted.{read_taken}
use Rattle.reading.proofs.EntryRows.{head-placed}
use Rattle.reading.proofs.MovedRows.{moved_row, kept-behind, chars-moved, chars-behind}
use Rattle.reading.proofs.BehindHead.{OnlyHead}
use Rattle.reading.proofs.BlocksJoined.{blocks-append}
use Rattle.reading.proofs.Programs.{blocks_of}
use Rattle.salvage.specs.Saving.{piece_number, overpunched, saved_piece}

-- ---- no refusal has the number 0, under any Format

abbrev Some : ℕ → ℕ → Type 0
Some n p = 0 < n

abbrev AnyPlace : ℕ → Type 0
AnyPlace p = Unit {0}

speed-some : (k c : ℕ) → Spoken k c → Holds Some (λ v. Unit {0}) (speed_for k c)
speed-some k c (means s e) = rw e (value tt)
speed-some k c (second_zero h l m e) = rw e (refusal (lit≤ tt))
speed-some k c (wrong_length h e) = rw e (refusal (lit≤ tt))

kind-some : (k : Kind) → Sayable Some AnyPlace k
kind-some (Plain n) = tt
kind-some (Kind.Speed k) = λ c a h q. speed-some k c (speed-answers k c)
kind-some (Kind.Dimension d) = tt

items-some : (its : List Item) → Every (λ it. Sayable Some AnyPlace it.kind) its
items-some [] = tt
items-some (it ∷ its) = (kind-some it.kind, items-some its)

any-rows : (rs : List KeptRow) → Placed AnyPlace rs
any-rows [] = no_row
any-rows (r ∷ rs) = next_row tt (any-rows rs)

row-some : {t : List ℕ} (n p : ℕ) → RowRefusal t n p → Some n p
row-some n p (long l) = lit≤ tt
row-some n p (odd l k) = lit≤ tt
row-some n p (foreign l o k) = lit≤ tt
row-some n p (fault l o f k) = lit≤ tt

pub read_some : (f : Format) (t : List ℕ) → Holds (λ n p. 0 < n) (λ es. Unit {0}) (read f t)
unfolding read
read_some f t =
    holds_then (wider row-some (row-refusals t))
    (holds-map (λ es h. tt)
    (program-read (record { at_row = λ n l h p a. omega arith; no_head = lit≤ tt; cut = lit≤ tt }) f (items-some (items_of f)) (kept t) (any-rows (kept t))))

-- ---- what is left of rows

-- s is left of r, as long as it: it passes, and stands for the blocks bs by itself
pub record Left (f : Format) (bs : List Block) (r s : List ℕ) : Type 0 where
  pub passes : Passes s
  pub stands : Blocks f bs (chars (kept s))
  pub size : length s ≡ length r

pub left-append : {f : Format} {bs cs : List Block} {r s u v : List ℕ} → Left f bs r s → Left f cs u v → length (r ++ u) ≤ limit → Left f (bs ++ cs) (r ++ u) (s ++ v)
left-append {r = r} {s = s} {u = u} {v = v} a b l =
    let size : length (s ++ v) ≡ length (r ++ u) = rw (length-append s v, length-append r u, a.size, b.size) in
    record {
      passes = passes_append a.passes b.passes (rw size l);
      stands = rw (chars-behind a.passes.formed v) (blocks-append a.stands b.stands);
      size = size;
    }

-- of a piece that is overpunched
pub over-left : (f : Format) (r : List ℕ) → length r ≤ limit → Left f [] r (overpunched r)
over-left f r l =
    let size : length (overpunched r) ≡ length r = length-replicate (length r) 255 in
    let blank = dels-blank (length r) in
    record {
      passes = blanks-pass (overpunched r) blank (rw size l);
      stands = rw (blanks-kept false 0 (overpunched r) blank) none;
      size = size;
    }

module _ (f : Format) {h : List ℕ} (o : OnlyHead h) (r : List ℕ) where
  -- of a piece that stays
  stay-left : (es : List Entry) → read f (h ++ r) ≡ taken es → Left f (blocks_of es) r r
  stay-left es e =
      let a = read_taken f (h ++ r) e in
      let n = length (h ++ r) in
      let rest = map (moved_row (length h)) (kept r) in
      let k = taken-rows f n (kept h ++ rest) es (subst (λ rs. program_at n f rs ≡ taken es) (kept-behind o.passes.formed r) a.1) in
      let same : k.head.rest ≡ rest = cc (k.begins, head-placed o.heads n rest) in
      record {
        passes = (parts-pass o.passes.formed (clean-passes (h ++ r) a.0)).1;
        stands = subst (Blocks f (blocks_of es)) (ap chars same ∙ chars-moved (length h) (kept r)) (entries-stand k.blocks);
        size = refl;
      }

  pub piece-left : length (h ++ r) ≤ limit → Left f (blocks_of (value_or [] (read f (h ++ r)))) r (saved_piece (piece_number f h r) r)
  piece-left l = by (read f (h ++ r)) refl
    where
      by : (a : Answer (List Entry)) → read f (h ++ r) ≡ a → Left f (blocks_of (value_or [] a)) r (saved_piece (number_of a) r)
      by (taken es) e = stay-left es e
      by (refused n p) e =
          rw (ne_eqb n 0 (ne_of_gt (of-refused (read_some f (h ++ r)) e))) (over-left f r (omega (arith, l, length-append h r)))
