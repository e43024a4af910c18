-- An end, a head and a block that stand as a Format allows are read.
use Prim.Native.Nat.{ℕ, ◌^◌, ◌<◌}
use mathlib.Core.Path.{◌≡◌, refl, ap, ◌∙◌}
use mathlib.Core.Bool.{Bool, true, false, ◌||◌, cond}
use mathlib.Core.List.{List, [], ◌∷◌, ◌++◌, append_assoc}
use native.Mathlib.Omega.{arith}
use lib.ListN.{length, length-append}
use Rattle.rows.specs.Kept.{KeptRow}
use Rattle.shorthand.specs.declared.Missing.TheVariants.{Nothing}
use Rattle.shorthand.specs.declared.Format.{Format}
use Rattle.shorthand.specs.Layout.{way_of}
use Rattle.shorthand.specs.Facts.{Facts}
use Rattle.reading.specs.declared.Block.{Block}
use Rattle.reading.specs.Relation.{digits, End, lf, cr_lf, start_rows, Start, counted, bare, Blocked, block, chars}
use Rattle.words.specs.declared.Wanted.{Wanted}
use Rattle.words.specs.Figures.{fronts, behind, is_digit}
use Rattle.parts.specs.Ends.{ended, head_at}
use Rattle.parts.specs.declared.Begun.{Begun}
use Rattle.parts.specs.Starts.{unnumbered, number_at, start_at}
use Rattle.parts.specs.Items.{bare_in}
use Rattle.reading.specs.Parse.{block_at}
use Rattle.reading.proofs.RowsAhead.{heads, fronts-heads, behind-chars, Takes}
use Rattle.reading.proofs.WordTakes.{reads-full, figures-take}
use Rattle.reading.proofs.WordsTake.{end-ahead, words-apart, words_take}
use Rattle.reading.proofs.BareStarts.{opener, bare-heads, not-opening, words_open}

-- an end, and the place of its LF
pub end-takes : {e : List ℕ} → End e → (len : ℕ) (w : Wanted) (rs : List KeptRow) (u : List ℕ) → chars rs ≡ e ++ u → (place : ℕ) × Takes (ended len w rs) place u
end-takes lf len w [] u q = let z = ap length q in absurd (omega arith)
end-takes lf len w (r ∷ rs) u q = let c : r.char ≡ 10 = cc in (r.place, record { rest = rs; takes = rw c; leaves = cc })
end-takes cr_lf len w [] u q = let z = ap length q in absurd (omega arith)
end-takes cr_lf len w (r ∷ []) u q = let z = ap length q in absurd (omega arith)
end-takes cr_lf len w (r ∷ (l ∷ rs)) u q =
    let c : r.char ≡ 13 = cc in
    let d : l.char ≡ 10 = cc in
    (l.place, record { rest = rs; takes = rw (c, d); leaves = cc })

-- "%" and an end, and the place of its LF
pub head-takes : {e : List ℕ} → End e → (len : ℕ) (rs : List KeptRow) (u : List ℕ) → chars rs ≡ 37 ∷ (e ++ u) → (place : ℕ) × Takes (head_at len rs) place u
unfolding head_at
head-takes h len rs u q =
    let t = end-takes h len Wanted.Head (behind rs) u (behind-chars 37 _ rs q) in
    (t.0, record { rest = t.1.rest; takes = rw (fronts-heads 37 rs, q, t.1.takes); leaves = t.1.leaves })

-- N or ":"
marked : (alignment : Bool) (rs : List KeptRow) (x : List ℕ) → chars rs ≡ cond alignment 58 78 ∷ x
    → ((fronts 78 rs || fronts 58 rs) ≡ true) × (fronts 58 rs ≡ alignment) × (fronts 47 rs ≡ false)
marked true rs x e = (rw (fronts-heads 78 rs, fronts-heads 58 rs, e), rw (fronts-heads 58 rs, e), rw (fronts-heads 47 rs, e))
marked false rs x e = (rw (fronts-heads 78 rs, fronts-heads 58 rs, e), rw (fronts-heads 58 rs, e), rw (fronts-heads 47 rs, e))

-- N or ":" and its digits
number-takes : (f : Format) (len : ℕ) (skip alignment : Bool) {n : ℕ} → n < 10 ^ f.sequence → (u : List ℕ) → heads is_digit u ≡ false → (rs : List KeptRow)
    → chars rs ≡ cond alignment 58 78 ∷ digits f.sequence n ++ u → Takes (number_at len f.sequence (bare_in f) skip rs) (record { skip = skip; alignment = alignment; numbered = true; sequence = n }) u
number-takes f len skip alignment {n} small u apart rs q =
    let m = marked alignment rs _ q in
    let a = figures-take len Wanted.Start f.sequence n Nothing _ _ (behind rs) (reads-full f.sequence n small) (behind-chars _ _ rs q) apart in
    record { rest = a.rest; takes = rw (m.0, m.1, a.takes); leaves = a.leaves }

-- no number
bare-takes : (f : Format) → Facts f → (len : ℕ) (skip : Bool) → f.unnumbered ≡ true → (u : List ℕ) → heads (opener f) u ≡ true → (rs : List KeptRow) → chars rs ≡ u
    → Takes (number_at len f.sequence (bare_in f) skip rs) (unnumbered skip) u
bare-takes f facts len skip allowed u ahead rs q =
    record {
      rest = rs;
      takes = rw (fronts-heads 78 rs, fronts-heads 58 rs, bare-heads f rs, q, not-opening f facts 78 refl u ahead, not-opening f facts 58 refl u ahead, allowed, ahead);
      leaves = q;
    }

-- "/" or none before them
pub start-takes : (f : Format) → Facts f → (len : ℕ) {s : Begun} → Start f s → (u : List ℕ) → heads is_digit u ≡ false → (s.numbered ≡ false → heads (opener f) u ≡ true) → (rs : List KeptRow)
    → chars rs ≡ start_rows f.sequence s ++ u → Takes (start_at len f.sequence (bare_in f) rs) s u
unfolding start_at
start-takes f facts len (counted true alignment small) u apart ahead rs q =
    rw (fronts-heads 47 rs, q) (number-takes f len true alignment small u apart (behind rs) (behind-chars _ _ rs q))
start-takes f facts len (counted false alignment small) u apart ahead rs q = rw (marked alignment rs _ q).2 (number-takes f len false alignment small u apart rs q)
start-takes f facts len (bare true allowed) u apart ahead rs q = rw (fronts-heads 47 rs, q) (bare-takes f facts len true allowed u (ahead refl) (behind rs) (behind-chars _ _ rs q))
start-takes f facts len (bare false allowed) u apart ahead rs q =
    rw (fronts-heads 47 rs, q, not-opening f facts 47 refl u (ahead refl)) (bare-takes f facts len false allowed u (ahead refl) rs q)

pub block-takes : (f : Format) → Facts f → {b : Block} {x : List ℕ} → Blocked f b x → (len : ℕ) (u : List ℕ) (rs : List KeptRow) → chars rs ≡ x ++ u
    → (place : ℕ) × Takes (block_at len f rs) (record { block = b; lf = place }) u
unfolding block_at
block-takes f facts (block {s} {ws} {r} {e} start some w end) len u rs q =
    let a = start-takes f facts len start (r ++ (e ++ u)) (words-apart facts.fair w (end-ahead end u)) (words_open f s some w (e ++ u)) rs
    (q ∙ append_assoc (start_rows f.sequence s) (r ++ e) u ∙ ap (λ l. start_rows f.sequence s ++ l) (append_assoc r e u)) in
    let b = words_take len (way_of f) (end-ahead end u) w facts.fair a.rest a.leaves in
    let c = end-takes end len Wanted.End b.rest u b.leaves in
    (c.0, record { rest = c.1.rest; takes = rw (a.takes, b.takes, c.1.takes, some); leaves = c.1.leaves })

-- an end has at least one row, and so has a block
pub end-some : {e : List ℕ} → End e → 0 < length e
end-some lf = omega arith
end-some cr_lf = omega arith

pub block-some : {f : Format} {b : Block} {x : List ℕ} → Blocked f b x → 0 < length x
block-some {f} (block {s} {r = r} {e = e} start some w end) =
    omega (arith, length-append (start_rows f.sequence s) (r ++ e), length-append r e, end-some end)
