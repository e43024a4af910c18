-- Every lawful Format has the facts that reading and punching rest on.
use Prim.Native.Nat.{ℕ, zero, suc, ◌+◌, ◌≤◌}
use native.Mathlib.Omega.{arith}
use mathlib.Core.Path.{◌≡◌, sym, ap, ap₂, ◌∙◌}
use mathlib.Core.Bool.{Bool, false, ◌||◌}
use mathlib.Core.List.{List}
use lib.Dec.{T, eqb}
use Rattle.rows.specs.Answer.{taken}
use Rattle.shorthand.specs.declared.Missing.{Missing}
use Rattle.shorthand.specs.declared.Missing.TheVariants.{Nothing, Leading, Trailing}
use Rattle.shorthand.specs.declared.Kind.{Kind}
use Rattle.shorthand.specs.declared.Kind.TheVariants.{Plain, Speed, Dimension}
use Rattle.shorthand.specs.declared.Item.{Item}
use Rattle.shorthand.specs.declared.Format.{Format}
use Rattle.shorthand.specs.declared.Order.{Order}
use Rattle.shorthand.specs.declared.Edition.{Edition}
use Rattle.shorthand.specs.Layout.{format_of, addressed, items_of}
use Rattle.shorthand.specs.Edition.{later, sequence_most}
use Rattle.shorthand.specs.Lawful.{plain_kind, speed_kind, figures_fit, dimension_kind, Distinct, letters_of, Lawful}
use Rattle.shorthand.specs.Order.{start}
use Rattle.shorthand.specs.Parse.{parsed}
use Rattle.shorthand.specs.Facts.{Widths, Fair, none, more, Facts}
use Rattle.shorthand.proofs.Tests.{second}
use Rattle.shorthand.proofs.DigitRuns.{within, speed-within}
use Rattle.shorthand.proofs.MadeKinds.{dimensioned-of}
use Rattle.shorthand.proofs.Roles.{general, speed, tool, function, Role, as_feed, as_dimension, in_turn, role-of, dimension-kind}
use Rattle.shorthand.proofs.Grammar.{Items, done, next, due-letter, items-few, ordered-items}
use Rattle.shorthand.proofs.Standing.{sequence-small}
use Rattle.shorthand.proofs.Accepted.{items-of, sound}

-- ---- widths

some-figure : (e : Edition) (z : Missing) (a b : ℕ) → T (figures_fit e z a b) → 1 ≤ a + b
some-figure e Nothing zero zero h = absurd h
some-figure e Nothing zero (suc b) h = omega arith
some-figure e Nothing (suc a) b h = omega arith
some-figure e Leading a zero h = absurd (second (later e) false h)
some-figure e Leading a (suc b) h = omega arith
some-figure e Trailing zero b h = absurd (second (later e) false h)
some-figure e Trailing (suc a) b h = omega arith

plain-widths : (lo hi : ℕ) (k : Kind) → 1 ≤ lo → hi ≤ 9 → T (plain_kind lo hi k) → Widths k
plain-widths lo hi (Plain n) l m h = let w = within lo hi n h in (omega arith, omega arith)
plain-widths lo hi (Speed n) l m h = absurd h
plain-widths lo hi (Dimension d) l m h = absurd h

speed-widths : (e : Edition) (c : ℕ) (k : Kind) → T (speed_kind e c k) → Widths k
speed-widths e c (Plain n) h = absurd h
speed-widths e c (Speed n) h = speed-within e c n h
speed-widths e c (Dimension d) h = absurd h

dimension-widths : (e : Edition) (k : Kind) → T (dimension_kind e k) → Widths k
dimension-widths e (Plain n) h = absurd h
dimension-widths e (Speed n) h = absurd h
dimension-widths e (Dimension d) h = let l = dimensioned-of e d h in (l.before, l.after, some-figure e d.missing d.before d.after l.fits)

role-widths : {e : Edition} {o : Order} {it : Item} → Role e o it → Widths it.kind
role-widths {e} {it = it} (as_feed h l u) = speed-widths e it.letter it.kind (second (eqb it.letter 70 || eqb it.letter 69 || eqb it.letter 68) (speed_kind e it.letter it.kind) h)
role-widths {e} {it = it} (as_dimension h m l u) = dimension-widths e it.kind (dimension-kind e it.letter it h)
role-widths {it = it} (in_turn general h l) = plain-widths 2 2 it.kind (omega arith) (omega arith) (second (eqb it.letter 71) (plain_kind 2 2 it.kind) h)
role-widths {e} {it = it} (in_turn speed h l) = speed-widths e it.letter it.kind (second (eqb it.letter 83) (speed_kind e it.letter it.kind) h)
role-widths {it = it} (in_turn tool h l) = plain-widths 1 9 it.kind (omega arith) (omega arith) (second (eqb it.letter 84) (plain_kind 1 9 it.kind) h)
role-widths {it = it} (in_turn function h l) = plain-widths 2 2 it.kind (omega arith) (omega arith) (second (eqb it.letter 77) (plain_kind 2 2 it.kind) h)

-- ---- letters

fair : {e : Edition} {o : Order} {its : List Item} → Items e o its → Distinct (letters_of its) → Fair its
fair done d = none
fair {e} {o} (next {it = it} h r) (Distinct.more other d) = more (due-letter e o it h) (role-widths (role-of e o it h)) other (fair r d)

pub lawful-facts : {n : ℕ} {f : Format} → Lawful n f → Facts f
lawful-facts {n} {f} k =
    let e = k.edition in
    let l = k.within in
    let walk : Items e start l.items = ordered-items l.order in
    let spelled : items_of f ≡ l.items = ap items_of l.parts ∙ items-of (later e) f.sequence f.dots l.items in
    record {
      sequence = ((within 3 (sequence_most e) f.sequence l.sequence).0, sequence-small e f.sequence l.sequence);
      few = omega (arith, ap (λ (g : Format). g.count) l.parts, items-few walk);
      fair = rw spelled (fair walk l.order.once);
      parts = rw spelled
          (l.parts ∙ ap₂ (λ (b u : Bool). addressed b (format_of u f.sequence f.dots l.items)) (sym (ap (λ (g : Format). g.addresses) l.parts)) (sym (ap (λ (g : Format). g.unnumbered) l.parts)));
    }

-- whether words have addresses is none of them
pub addressed-facts : {f : Format} (b : Bool) → Facts f → Facts (addressed b f)
addressed-facts b h = record { sequence = h.sequence; few = h.few; fair = h.fair; parts = ap (addressed b) h.parts }

pub accepted-facts : (n : ℕ) (t : List ℕ) (f : Format) → parsed n t ≡ taken f → Facts f
accepted-facts n t f q = lawful-facts (sound n t f q).1
