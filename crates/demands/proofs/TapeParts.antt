-- The parts of an accepted tape: each is well formed by itself and adds just its block to any accepted tape.
use Prim.Native.Nat.{ℕ, ◌+◌, ◌≤◌}
use mathlib.Core.Path.{◌≡◌, refl, sym, ap, ◌∙◌, subst}
use mathlib.Core.Bool.{false}
use mathlib.Core.List.{List, [], ◌∷◌, ◌++◌, append_assoc, append-nil}
use native.Mathlib.Omega.{arith}
use lib.Dec.{T}
use lib.ListN.{length, length-append, length-map}
use borrow.Author.Tests.{lt-ltb}
use Rattle.rows.specs.Answer.{taken}
use Rattle.rows.specs.Kept.{KeptRow, kept}
use Rattle.rows.specs.Stages.{limit}
use Rattle.rows.specs.ControlOut.{WellFormed}
use Rattle.rows.specs.Passes.{Every, Passes}
use Rattle.rows.specs.Row.{character, even, characters, among}
use Rattle.rows.proofs.Every.{every_front, every_back}
use Rattle.rows.proofs.Judged.{passes-clean}
use Rattle.rows.proofs.KeptRows.{kept-chars}
use Rattle.rows.proofs.TapesJoined.{passes_append, kept_append}
use Rattle.shorthand.specs.declared.Format.{Format}
use Rattle.profile.specs.Relation.{Settled}
use Rattle.profile.proofs.Settling.{settled-exactly, one_format}
use Rattle.reading.specs.declared.Block.{Block}
use Rattle.reading.specs.Relation.{Blocked, none, more, Program, program, chars, TapeOf}
use Rattle.reading.specs.declared.Entry.{Entry}
use Rattle.reading.specs.Answers.{program_at, read, read_under}
use Rattle.reading.proofs.Outcomes.{chars-append}
use Rattle.reading.proofs.Programs.{blocks_of, tape-read}
use Rattle.reading.proofs.BlocksJoined.{program-append}
use Rattle.reading.proofs.BlockParts.{PartAs, Parted, over, part, handed, whole}
use Rattle.demands.specs.Parts.{Fed, Alone, Each, in_row, Parts}

-- even rows of the 50 characters
pub record Legible (u : List ℕ) : Type 0 where
  pub evens : Every (λ b. T (even b)) u
  pub knowns : Every (λ b. T (among (character b) characters)) u

legible-front : (u y : List ℕ) → Legible (u ++ y) → Legible u
legible-front u y h = record { evens = every_front _ u y h.evens; knowns = every_front _ u y h.knowns }

legible-back : (u y : List ℕ) → Legible (u ++ y) → Legible y
legible-back u y h = record { evens = every_back _ u y h.evens; knowns = every_back _ u y h.knowns }

passing : {u : List ℕ} → length u ≤ limit → Legible u → WellFormed u → Passes u
passing l h w = record { short = l; even = h.evens; known = h.knowns; formed = w }

fed : {x u : List ℕ} → PartAs x u → Fed u
fed k = record { front = k.front; feed = k.feed; rows = k.rows; ends = k.ends }

module _ {e : ℕ} {s p : List ℕ} {f : Format} (settled : Settled e s p f) where
  -- a part adds its block to any accepted tape
  alone : {b : Block} {x u : List ℕ} → Legible u → Blocked f b x → PartAs x u → Alone e s p b u
  alone {b} {x} {u} q h k cs g a l =
      let same : a.format ≡ f = one_format a.settled settled in
      let rows : chars (kept (g ++ u)) ≡ chars (kept g) ++ x =
      ap chars (kept_append a.passes.formed 0 u) ∙ chars-append (kept g) _ ∙ ap (λ y. chars (kept g) ++ y) (kept-chars u false (0 + length g) 0 ∙ k.keeps) in
      let stood : Program f cs (chars (kept g)) = subst (λ (i : Format). Program i cs (chars (kept g))) same a.stands in
      let stands : Program f (cs ++ (b ∷ [])) (chars (kept g) ++ (x ++ [])) = program-append stood (more h none) in
      record {
        format = f;
        settled = settled;
        passes = passes_append a.passes (passing (omega (arith, l, length-append g u)) q k.formed) l;
        stands = rw rows (rw (append-nil x) at stands);
      }

  each : {from : ℕ} {es : List Entry} {us : List (List ℕ)} {y : List ℕ} → Parted f from es us y → Legible y → Each e s p (blocks_of es) us
  each (over w q) h = Each.none
  each (part {y = y} u b k r) h = Each.more (fed k) (alone (legible-front u y h) b k) (each r (legible-back u y h))

-- behind the last part nothing is kept
nothing-kept : (rs : List KeptRow) → chars rs ≡ [] → rs ≡ []
nothing-kept [] q = refl
nothing-kept (r ∷ rs) q = let n = ap length q in absurd (omega (arith, n))

behind-parts : {f : Format} {from : ℕ} {es : List Entry} {us : List (List ℕ)} {y : List ℕ} → Parted f from es us y → (z : List ℕ) × (y ≡ in_row us ++ z) × (kept z ≡ [])
behind-parts {from = from} (over {y = y} w q) = (y, refl, nothing-kept (kept y) (kept-chars y false 0 from ∙ ap chars q))
behind-parts (part {us = us} u b k r) = let h = behind-parts r in (h.0, ap (λ v. u ++ v) h.1 ∙ sym (append_assoc u (in_row us) h.0), h.2)

module _ (e : ℕ) (s p t : List ℕ) (bs : List Block) (h : TapeOf e s p bs t) where
  program-answers : (es : List Entry) → read_under e s p t ≡ taken es → program_at (length t) h.format (kept t) ≡ taken es
  unfolding read_under read
  program-answers es q =
      rw ((settled-exactly e s p h.format).1 h.settled, passes-clean t h.passes) at q

  pub parts : Parts e s p bs t
  parts =
      let a = tape-read e s p t bs h in
      let w = whole h.format t a.0 h.passes.formed (program-answers a.0 a.1) in
      let z = behind-parts w.parted in
      let all : Legible t = record { evens = h.passes.even; knowns = h.passes.known } in
      let legible : Legible (w.head ++ w.y) = subst Legible w.joined all in
      let short : length w.head ≤ limit = (let l = h.passes.short in omega (arith, l, ap length w.joined, length-append w.head w.y)) in
      let same : length a.0 ≡ length bs = sym (length-map a.0 (λ x. x.block)) ∙ ap length a.2 in
      record {
        head = w.head;
        parts = w.parts;
        after = z.0;
        joined = w.joined ∙ ap (λ v. w.head ++ v) z.1;
        heads =
            record {
              format = h.format;
              settled = h.settled;
              passes = passing short (legible-front w.head w.y legible) w.is.formed;
              stands = rw (w.is.keeps, sym (append-nil w.mark)) (program w.ends none);
            };
        fed = fed w.is;
        each = rw a.2 at (each h.settled w.parted (legible-back w.head w.y legible));
        blank = z.2;
        handed = λ n l. rw (a.1, lt-ltb n (length a.0) (rw same l), handed w.parted t w.head w.joined refl n (rw same l));
      }
