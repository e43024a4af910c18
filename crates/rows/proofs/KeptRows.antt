-- Laws of the kept rows: the next of them and what is behind it, and which characters they can be.
use mathlib.Core.Path.{◌≡◌, refl, sym, ap, ◌∙◌}
use mathlib.Core.Logic.{◌⊎◌, inl, inr, ⊎_elim}
use mathlib.Core.Bool.{Bool, true, false, not, ◌||◌, cond}
use mathlib.Core.List.{List, [], ◌∷◌, ◌++◌, map}
use Prim.Native.Nat.{ℕ, zero, suc, ◌+◌, ◌≤◌, ◌<◌, zero-le, suc-le-suc}
use native.Mathlib.Nat.{add-zero, add-suc, suc-add}
use native.Mathlib.Omega.{arith}
use lib.Dec.{eqb}
use lib.ListN.{length, get_or, drop, length-drop}
use lib.Seq.{drop-drop, get_or-drop}
use borrow.Author.Tests.{not-true}
use Rattle.rows.specs.Row.{character, among}
use Rattle.rows.specs.ControlOut.{Remark, empty, more, WellFormed, end, row, remark}
use Rattle.rows.specs.Kept.{KeptRow, within, stays, kept_from, kept_at, kept, first_of}
use Rattle.rows.specs.Passes.{Every, Passes}
use Rattle.std.specs.Prelude.{Option, Some, None}
use Rattle.rows.specs.declared.Kept.{Kept}
use Rattle.rows.proofs.Formed.{not-among}

-- the row after a kept one stands outside
not_last : (a b c : Bool) → not (a || b || c) ≡ true → c ≡ false
not_last true b c e = let z : ◌≡◌ {A = ℕ} 0 1 = cc in absurd (omega arith)
not_last false true c e = let z : ◌≡◌ {A = ℕ} 0 1 = cc in absurd (omega arith)
not_last false false c e = not-true c e

kept-outside : (w : Bool) (c : ℕ) → stays w c ≡ true → within w c ≡ false
kept-outside false c e = not_last (eqb c 0) (eqb c 127) (eqb c 40) e
kept-outside true c e = let z : ◌≡◌ {A = ℕ} 0 1 = cc in absurd (omega arith)

-- the kept rows of u, counted from i, begin with the one at k, and behind it stand those from there on
abbrev Begins : Bool → ℕ → List ℕ → ℕ → Type 0
Begins w i u k =
    (k < length u) × (kept_from w i u ≡ record { place = i + k; char = character (get_or u k 0) } ∷ kept_from false (suc (i + k)) (drop (suc k) u))

first-kept : (u : List ℕ) (w : Bool) (i : ℕ) → (kept_from w i u ≡ []) ⊎ ((k : ℕ) × Begins w i u k)
unfolding kept_from
first-kept [] w i = inl refl
first-kept (b ∷ u) w i = go (stays w (character b)) refl (first-kept u (within w (character b)) (suc i))
  where
    go : (x : Bool) → stays w (character b) ≡ x → (kept_from (within w (character b)) (suc i) u ≡ []) ⊎ ((k : ℕ) × Begins (within w (character b)) (suc i) u k)
        → (kept_from w i (b ∷ u) ≡ []) ⊎ ((k : ℕ) × Begins w i (b ∷ u) k)
    go true q rest = inr (zero, (suc-le-suc zero-le, rw (q, add-zero, kept-outside w (character b) q)))
    go false q (inl e) = inl (rw (q, e))
    go false q (inr s) = inr (suc s.0, (suc-le-suc s.1.0, rw (q, add-suc, ← suc-add) s.1.1))

-- what is known of a next kept row c at r, with n the place after it
pub record Stands (t : List ℕ) (at c r n : ℕ) : Type 0 where
  pub rows : kept_at t at ≡ record { place = r; char = c } ∷ kept_at t n
  pub from : at ≤ r
  pub after : n ≡ r + 1
  pub within : n ≤ length t
  pub character : c ≡ character (get_or t r 0)

end_none : (l : List KeptRow) → first_of l ≡ None → l ≡ []
end_none [] e = refl
end_none (r ∷ l) e = let z : ◌≡◌ {A = ℕ} 0 1 = cc in absurd (omega arith)

module _ (t : List ℕ) (at : ℕ) where
  pub next-end : first_of (kept_at t at) ≡ None → kept_at t at ≡ []
  next-end e = end_none (kept_at t at) e

  -- the next kept row, and the kept rows behind it
  pub next_row : (c r n : ℕ) → first_of (kept_at t at) ≡ Some (record { character = c; place = r; after = n }) → Stands t at c r n
  next_row c r n e = ⊎_elim none some (first-kept (drop at t) false at)
    where
      none : kept_at t at ≡ [] → Stands t at c r n
      none q = let h : ◌≡◌ {A = Option Kept} None (Some (record { character = c; place = r; after = n })) = sym (ap first_of q) ∙ e in let z : ◌≡◌ {A = ℕ} 0 1 = cc in absurd (omega arith)

      some : (k : ℕ) × Begins false at (drop at t) k → Stands t at c r n
      some s =
          let k = s.0 in
          let b : k < length (drop at t) = s.1.0 in
          let h : ◌≡◌ {A = Option Kept} (Some (record { character = character (get_or (drop at t) k 0); place = at + k; after = at + k + 1 })) (Some (record { character = c; place = r; after = n })) = sym (ap first_of s.1.1) ∙ e in
          let same : ◌≡◌ {A = Kept} (record { character = character (get_or (drop at t) k 0); place = at + k; after = at + k + 1 }) (record { character = c; place = r; after = n }) = cc in
          let er : at + k ≡ r = ap (λ (x : Kept). x.place) same in
          let ec : character (get_or (drop at t) k 0) ≡ c = ap (λ (x : Kept). x.character) same in
          let en : at + k + 1 ≡ n = ap (λ (x : Kept). x.after) same in
          let bound = simp length-drop at b in
          let dn : at + suc k ≡ n = omega arith in
          let sn : suc (at + k) ≡ n = omega arith in
          record {
            rows = s.1.1 ∙ rw (drop-drop (suc k) at t, dn, sn, er, ec);
            from = omega arith;
            after = omega arith;
            within = omega arith;
            character = sym ec ∙ ap character (get_or-drop at t k 0 ∙ ap (λ i. get_or t i 0) er);
          }

-- past a remark and its ")" the kept rows are those of what follows
pub past-remark : {r : List ℕ} → Remark r → (c : ℕ) → character c ≡ 41 → (t : List ℕ) (i : ℕ) → kept_from true i (r ++ (c ∷ t)) ≡ kept_from false (i + suc (length r)) t
unfolding kept_from
past-remark empty c e t i = rw (e, add-suc, add-zero)
past-remark (more {b = b} {r = r} h m) c e t i =
    rw ((not-among (character b) 41 (58 ∷ 37 ∷ []) h).0, past-remark m c e t (suc i), add-suc i (suc (length r)), suc-add)

-- the characters that are kept are the same, wherever the rows stand
pub kept-chars : (u : List ℕ) (w : Bool) (i j : ℕ) → map (λ r. r.char) (kept_from w i u) ≡ map (λ r. r.char) (kept_from w j u)
unfolding kept_from
kept-chars [] w i j = refl
kept-chars (b ∷ u) w i j = by (stays w (character b)) _ _ (kept-chars u (within w (character b)) (suc i) (suc j))
  where
    by : (x : Bool) (k l : List KeptRow) → map (λ r. r.char) k ≡ map (λ r. r.char) l
        → map (λ r. r.char) (cond x (record { place = i; char = character b } ∷ k) k) ≡ map (λ r. r.char) (cond x (record { place = j; char = character b } ∷ l) l)
    by true k l e = rw e
    by false k l e = e

-- ---- which characters are kept

-- neither NUL, DEL, "(" nor ")"
abbrev pub Plain : KeptRow → Type 0
Plain r = among r.char (0 ∷ 127 ∷ 40 ∷ 41 ∷ []) ≡ false

-- a row outside, neither "(" nor ")", before plain ones
plain_row : (c i : ℕ) (rest : List KeptRow) → among c (40 ∷ 41 ∷ []) ≡ false → Every Plain rest → (x y : Bool) → eqb c 0 ≡ x → eqb c 127 ≡ y
    → Every Plain (cond (stays false c) (record { place = i; char = c } ∷ rest) rest)
plain_row c i rest h all true y ex ey = rw ex all
plain_row c i rest h all false true ex ey = rw (ex, ey) all
plain_row c i rest h all false false ex ey =
    rw (ex, ey, (not-among c 40 (41 ∷ []) h).0) (rw (ex, ey) h, all)

formed-plain : {t : List ℕ} → WellFormed t → (i : ℕ) → Every Plain (kept_from false i t)
unfolding kept_from
formed-plain end i = tt
formed-plain (row {b = b} {t = t} h w) i =
    plain_row (character b) i _ h (rw (not-among (character b) 40 (41 ∷ []) h).0 (formed-plain w (suc i))) (eqb (character b) 0) (eqb (character b) 127) refl refl
formed-plain (remark {r = r} {t = t} c e m f w) i = rw (e, past-remark m c f t (suc i)) (formed-plain w (suc i + suc (length r)))

-- the kept rows of a tape that passes have neither NUL, DEL, "(" nor ")"
pub kept-plain : {t : List ℕ} → Passes t → Every Plain (kept t)
kept-plain p = formed-plain p.formed 0

-- what holds of every character of a tape holds of the kept ones
kept_row : (P : ℕ → Type 0) (x : Bool) (c i : ℕ) (rest : List KeptRow) → P c → Every (λ r. P r.char) rest → Every (λ r. P r.char) (cond x (record { place = i; char = c } ∷ rest) rest)
kept_row P true c i rest p all = (p, all)
kept_row P false c i rest p all = all

pub kept-every : (P : ℕ → Type 0) (t : List ℕ) (w : Bool) (i : ℕ) → Every (λ b. P (character b)) t → Every (λ r. P r.char) (kept_from w i t)
unfolding kept_from
kept-every P [] w i all = tt
kept-every P (b ∷ t) w i all =
    kept_row P (stays w (character b)) (character b) i _ all.0 (kept-every P t (within w (character b)) (suc i) all.1)
