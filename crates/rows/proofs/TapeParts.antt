-- A tape cut at a kept row: what stands before it and behind it is well formed, and their kept rows are those before and behind that row.
use Prim.Native.Nat.{ℕ, suc, ◌+◌}
use mathlib.Core.Path.{◌≡◌, refl, sym, ap, ◌∙◌, subst}
use mathlib.Core.Bool.{Bool, true, false, cond}
use mathlib.Core.List.{List, [], ◌∷◌, ◌++◌, append_assoc, append_cancel_left}
use native.Mathlib.Nat.{add-zero}
use native.Mathlib.Omega.{arith}
use lib.ListN.{length, length-append}
use Rattle.rows.specs.Row.{character, among}
use Rattle.rows.specs.Kept.{KeptRow, stays, kept_from}
use Rattle.rows.specs.ControlOut.{Remark, WellFormed, end, row, remark}
use Rattle.rows.proofs.Formed.{not-among}
use Rattle.rows.proofs.KeptRows.{past-remark}
use Rattle.rows.proofs.TapesJoined.{formed-append, kept_append}

-- the rows u of t stand before the kept row r, and v behind it
pub record CutAt (t : List ℕ) (i : ℕ) (b : List KeptRow) (r : KeptRow) : Type 0 where
  pub u : List ℕ
  pub c : ℕ
  pub v : List ℕ
  pub split : t ≡ u ++ (c ∷ v)
  pub formed : WellFormed u
  pub behind : WellFormed v
  pub outside : among (character c) (40 ∷ 41 ∷ []) ≡ false
  pub char : character c ≡ r.char
  pub rows : kept_from false i u ≡ b
  pub place : i + length u ≡ r.place
  pub kept : kept_from false (i + length u) (c ∷ []) ≡ r ∷ []

-- a control-out is passed by whole
over-remark : (o : ℕ) {r : List ℕ} → character o ≡ 40 → Remark r → (c : ℕ) → character c ≡ 41 → (t : List ℕ) (i : ℕ)
    → kept_from false i (o ∷ (r ++ (c ∷ t))) ≡ kept_from false (suc i + suc (length r)) t
unfolding kept_from
over-remark o e m c f t i = rw (e, past-remark m c f t (suc i))

module _ (x : ℕ) (outside : among (character x) (40 ∷ 41 ∷ []) ≡ false) (i : ℕ) where
  -- a row outside control-outs is kept or not
  one_kept : (t : List ℕ) → kept_from false i (x ∷ t) ≡ cond (stays false (character x)) (record { place = i; char = character x } ∷ kept_from false (suc i) t) (kept_from false (suc i) t)
  unfolding kept_from
  one_kept t = rw (not-among (character x) 40 (41 ∷ []) outside).0

  no_rows : kept_from false (suc i) [] ≡ []
  unfolding kept_from
  no_rows = refl

module _ (a : List KeptRow) (r : KeptRow) where
  -- one row more before the cut
  cut-row : (x : ℕ) {t : List ℕ} (i : ℕ) (b o : List KeptRow) → among (character x) (40 ∷ 41 ∷ []) ≡ false
      → ((u : List ℕ) → kept_from false (suc i) u ≡ b → kept_from false i (x ∷ u) ≡ o) → CutAt t (suc i) b r → CutAt (x ∷ t) i o r
  cut-row x i b o h f k =
      let e : i + suc (length k.u) ≡ suc i + length k.u = omega arith in
      record {
        u = x ∷ k.u;
        c = k.c;
        v = k.v;
        split = ap (λ l. x ∷ l) k.split;
        formed = row h k.formed;
        behind = k.behind;
        outside = k.outside;
        char = k.char;
        rows = f k.u k.rows;
        place = e ∙ k.place;
        kept = subst (λ j. kept_from false j (k.c ∷ []) ≡ r ∷ []) (sym e) k.kept;
      }

  -- or a whole control-out
  cut-remark : {o : ℕ} {m t : List ℕ} (c i : ℕ) (b : List KeptRow) → character o ≡ 40 → Remark m → character c ≡ 41 → CutAt t (suc i + suc (length m)) b r
      → CutAt (o ∷ (m ++ (c ∷ t))) i b r
  cut-remark {o} {m} c i b e h f k =
      let n : i + suc (length (m ++ (c ∷ k.u))) ≡ suc i + suc (length m) + length k.u = simp length-append (omega arith) in
      record {
        u = o ∷ (m ++ (c ∷ k.u));
        c = k.c;
        v = k.v;
        split = ap (λ l. o ∷ l) (ap (λ l. m ++ (c ∷ l)) k.split ∙ sym (append_assoc m (c ∷ k.u) (k.c ∷ k.v)));
        formed = remark c e h f k.formed;
        behind = k.behind;
        outside = k.outside;
        char = k.char;
        rows = over-remark o e h c f k.u i ∙ k.rows;
        place = n ∙ k.place;
        kept = subst (λ j. kept_from false j (k.c ∷ []) ≡ r ∷ []) (sym n) k.kept;
      }

  cut-here : (x : ℕ) {t : List ℕ} (i : ℕ) → WellFormed t → among (character x) (40 ∷ 41 ∷ []) ≡ false → stays false (character x) ≡ true → ◌≡◌ {A = KeptRow} (record { place = i; char = character x }) r
      → CutAt (x ∷ t) i [] r
  unfolding kept_from
  cut-here x {t} i w h st e =
      record {
        u = [];
        c = x;
        v = t;
        split = refl;
        formed = end;
        behind = w;
        outside = h;
        char = ap (λ k. k.char) e;
        rows = refl;
        place = add-zero i ∙ ap (λ k. k.place) e;
        kept = rw add-zero (one_kept x h i [] ∙ rw (st, no_rows x h i, e));
      }

  nothing-kept : (i : ℕ) (b : List KeptRow) → kept_from false i [] ≡ b ++ (r ∷ a) → CutAt [] i b r
  unfolding kept_from
  nothing-kept i b e = let z = ap length e in absurd (omega (arith, length-append b (r ∷ a)))

  pub cut_at : {t : List ℕ} → WellFormed t → (i : ℕ) (b : List KeptRow) → kept_from false i t ≡ b ++ (r ∷ a) → CutAt t i b r
  cut_at end i b e = nothing-kept i b e
  cut_at (row {b = x} {t = t} h w) i b e = go (stays false (character x)) refl b (sym (one_kept x h i t) ∙ e) (λ o k. cut_at w (suc i) o k)
    where
      go : (s : Bool) → stays false (character x) ≡ s → (b : List KeptRow)
          → cond s (record { place = i; char = character x } ∷ kept_from false (suc i) t) (kept_from false (suc i) t) ≡ b ++ (r ∷ a)
          → ((b : List KeptRow) → kept_from false (suc i) t ≡ b ++ (r ∷ a) → CutAt t (suc i) b r) → CutAt (x ∷ t) i b r
      go true st [] e ih = cut-here x i w h st (cc)
      go true st (q ∷ b) e ih =
          let same : ◌≡◌ {A = KeptRow} (record { place = i; char = character x }) q = cc in
          let rest : kept_from false (suc i) t ≡ b ++ (r ∷ a) = cc in
          cut-row x i b (q ∷ b) h (λ u k. one_kept x h i u ∙ rw (st, k, same)) (ih b rest)
      go false st b e ih = cut-row x i b b h (λ u k. one_kept x h i u ∙ rw (st, k)) (ih b e)
  cut_at (remark {o = o} {t = t} c e m f w) i b q = cut-remark c i b e m f (cut_at w _ b (sym (over-remark o e m c f t i) ∙ q))

-- ---- a tape divided behind a kept row

-- the rows x of t end with the kept row r; those before it are kept as b, and the rows y behind x as a
pub record DividedAt (t : List ℕ) (i : ℕ) (b : List KeptRow) (r : KeptRow) (a : List KeptRow) : Type 0 where
  pub front : List ℕ
  pub c : ℕ
  pub y : List ℕ
  pub joined : t ≡ (front ++ (c ∷ [])) ++ y
  pub last : character c ≡ r.char
  pub formed : WellFormed (front ++ (c ∷ []))
  pub behind : WellFormed y
  pub place : i + length (front ++ (c ∷ [])) ≡ r.place + 1
  pub kept : kept_from false i (front ++ (c ∷ [])) ≡ b ++ (r ∷ [])
  pub rest : kept_from false (r.place + 1) y ≡ a

pub divided-at : {t : List ℕ} → WellFormed t → (i : ℕ) (b : List KeptRow) (r : KeptRow) (a : List KeptRow) → kept_from false i t ≡ b ++ (r ∷ a) → DividedAt t i b r a
divided-at {t} w i b r a e =
    let k = cut_at a r w i b e in
    let x = k.u ++ (k.c ∷ []) in
    let joined : t ≡ x ++ k.v = k.split ∙ sym (append_assoc k.u (k.c ∷ []) k.v) in
    let formed : WellFormed x = formed-append k.formed (row k.outside end) in
    let long : i + length x ≡ r.place + 1 = omega (arith, length-append k.u (k.c ∷ []), k.place) in
    let front : kept_from false i x ≡ b ++ (r ∷ []) = kept_append k.formed i (k.c ∷ []) ∙ rw (k.rows, k.kept) in
    let whole : (b ++ (r ∷ [])) ++ kept_from false (r.place + 1) k.v ≡ (b ++ (r ∷ [])) ++ a =
    sym (ap (kept_from false i) joined ∙ kept_append formed i k.v ∙ rw (front, long)) ∙ e ∙ sym (append_assoc b (r ∷ []) a) in
    record {
      front = k.u;
      c = k.c;
      y = k.v;
      joined = joined;
      last = k.char;
      formed = formed;
      behind = k.behind;
      place = long;
      kept = front;
      rest = append_cancel_left (b ++ (r ∷ [])) _ _ whole;
    }
