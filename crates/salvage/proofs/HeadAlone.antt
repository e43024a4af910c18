-- An accepted head is a head and nothing else, and a piece behind it is answered as it would be alone.
use Prim.Native.Nat.{ℕ, ◌+◌, ◌≤◌}
use mathlib.Core.Path.{◌≡◌, refl, sym, ap, ◌∙◌, subst}
use mathlib.Core.Bool.{true, false, false≢true}
use mathlib.Core.List.{List, [], ◌∷◌, ◌++◌, map, append_assoc, append-nil}
use native.Mathlib.Omega.{arith}
use lib.Dec.{T}
use lib.ListN.{length, length-append}
use Rattle.rows.specs.Answer.{Answer, taken, refused, number_of, void}
use Rattle.rows.specs.Row.{character, even, entry}
use Rattle.rows.specs.Kept.{KeptRow, kept_from, kept}
use Rattle.rows.specs.Passes.{Every, Passes}
use Rattle.rows.specs.Stages.{limit}
use Rattle.rows.proofs.Every.{every_front, every_back}
use Rattle.rows.proofs.Judged.{clean-passes}
use Rattle.rows.proofs.TapeParts.{divided-at}
use Rattle.shorthand.specs.declared.Format.{Format}
use Rattle.shorthand.proofs.Tests.{holds}
use Rattle.reading.specs.Relation.{End, lf, cr_lf, chars}
use Rattle.reading.specs.declared.Entry.{Entry}
use Rattle.reading.specs.Answers.{read}
use Rattle.reading.specs.Survey.{alone}
use Rattle.reading.proofs.ReadBlocks.{last_some, HeadRows, Entries, ProgramRows}
use Rattle.reading.proofs.Sound.{taken-rows}
use Rattle.reading.proofs.BlockParts.{ending}
use Rattle.reading.proofs.MovedRows.{moved}
use Rattle.reading.proofs.MovedBlocks.{moved_entry}
use Rattle.reading.proofs.BehindHead.{OnlyHead, read_behind}
use Rattle.reading.proofs.Accepted.{read_taken}
use Rattle.reading.proofs.Numbered.{taken-value}
use Rattle.salvage.specs.Pieces.{is_lf}
use Rattle.salvage.specs.Saving.{piece_number}
use Rattle.salvage.proofs.Dividing.{LfLast}

-- ---- the last row of a head is LF

abbrev last_of : ℕ → List ℕ → ℕ
last_of c [] = c
last_of c (d ∷ l) = last_of d l

last-char : (c : ℕ) (b : List KeptRow) (r : KeptRow) → last_of c (chars (b ++ (r ∷ []))) ≡ r.char
last-char c [] r = refl
last-char c (a ∷ b) r = last-char a.char b r

end-last : (c : ℕ) {m : List ℕ} → End m → last_of c m ≡ 10
end-last c lf = refl
end-last c cr_lf = refl

lf-even : (c : ℕ) → T (even c) → character c ≡ 10 → is_lf c ≡ true
unfolding entry
lf-even c h e = rw (holds (even c) h, e)

-- ---- behind it stands nothing

none_behind : (x : List ℕ) (c : ℕ) (y : List ℕ) → is_lf c ≡ true → LfLast (x ++ (c ∷ y)) → y ≡ []
none_behind [] c [] e l = refl
none_behind [] c (d ∷ y) e l = absurd (false≢true (sym l.0 ∙ e))
none_behind (a ∷ []) c y e l = none_behind [] c y e l.1
none_behind (a ∷ b ∷ x) c y e l = none_behind (b ∷ x) c y e l.1

no-entries : {f : Format} {i : ℕ} {es : List Entry} {rs : List KeptRow} → Entries f i es rs → rs ≡ [] → es ≡ []
no-entries Entries.none q = refl
no-entries (Entries.more {s = s} {rest = rest} h l m) q = absurd (omega (arith, last_some l, ap length q, length-append s rest))

no-kept : (i : ℕ) {y : List ℕ} → y ≡ [] → kept_from false i y ≡ []
unfolding kept_from
no-kept i e = rw e

head_rows : {f : Format} {h : List ℕ} {es : List Entry} → LfLast h → Passes h → ProgramRows (length h) f (kept h) es → OnlyHead h × (es ≡ [])
head_rows {h = h} l p k =
    let s = k.front.stands in
    let g = ending s.to in
    let d = divided-at p.formed 0 g.front g.row k.head.rest (k.front.split ∙ ap (λ u. u ++ k.head.rest) g.rows ∙ append_assoc g.front (g.row ∷ []) k.head.rest) in
    let x = d.front ++ (d.c ∷ []) in
    let feed : g.row.char ≡ 10 = sym (last-char 0 g.front g.row) ∙ ap (λ u. last_of 0 (chars u)) (sym g.rows) ∙ ap (last_of 0) s.rows ∙ end-last 37 s.ends in
    let evens : Every (λ b. T (even b)) x = every_front _ x d.y (subst (Every (λ b. T (even b))) d.joined p.even) in
    let is : is_lf d.c ≡ true = lf-even d.c (every_back _ d.front (d.c ∷ []) evens).0 (d.last ∙ feed) in
    let y : d.y ≡ [] = none_behind d.front d.c d.y is (subst LfLast (d.joined ∙ append_assoc d.front (d.c ∷ []) d.y) l) in
    let rest : k.head.rest ≡ [] = sym d.rest ∙ no-kept _ y in
    let rows : kept h ≡ k.front.took = k.front.split ∙ ap (λ u. k.front.took ++ u) rest ∙ append-nil k.front.took in
    let whole : length h ≡ length x + length d.y = ap length d.joined ∙ length-append x d.y in
    let n : length d.y ≡ 0 = ap length y in (
      record { passes = p; lf = k.head.value; heads = subst (HeadRows k.head.value) (sym rows) s; ends = omega (arith, d.place, g.place) },
      no-entries k.blocks rest,
    )

-- accepted rows in which an LF row stands at the end alone are a head: they have no block
pub only-head : (f : Format) (h : List ℕ) → LfLast h → taken tt ≡ void (read f h) → OnlyHead h × (read f h ≡ taken [])
only-head f h l e =
    let es : read f h ≡ taken _ = taken-value [] (read f h) (sym e) in
    let r = read_taken f h es in
    let k = head_rows l (clean-passes h r.0) (taken-rows f (length h) (kept h) _ r.1) in
    (k.0, es ∙ ap taken k.1)

-- a move leaves a refusal its number
moved-number : {A B : Type 0} (d : ℕ) (g : A → B) (a : Answer A) → number_of (moved d g a) ≡ number_of a
moved-number d g (taken a) = refl
moved-number d g (refused n p) = refl

-- a piece is refused by the number by which it would be alone
pub piece-alone : (f : Format) {h : List ℕ} → OnlyHead h → (r : List ℕ) → length (h ++ r) ≤ limit → piece_number f h r ≡ number_of (alone f r)
piece-alone f {h} o r l = ap number_of (read_behind f o r l) ∙ moved-number (length h) (map (moved_entry (length h))) (alone f r)
