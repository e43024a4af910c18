-- How figures go: which digits they take, and where and why they stop.
use Prim.Native.Nat.{ℕ, zero, suc, ◌+◌, ◌-◌, ◌*◌, ◌≤◌, ◌<◌, zero-le, suc-le-suc}
use mathlib.Core.Path.{◌≡◌, refl, sym, ap, ◌∙◌, subst}
use mathlib.Core.Logic.{◌⊎◌, inl, inr}
use mathlib.Core.Bool.{Bool, true, false, ◌&&◌, not, cond, and-eq-true_iff, false≢true}
use mathlib.Core.List.{List, [], ◌∷◌, ◌++◌, append-nil}
use native.Mathlib.Nat.{zero-add, add-zero, add-suc, suc-add}
use native.Mathlib.Omega.{arith}
use lib.ListN.{length, length-map}
use lib.Dec.{eqb, leb}
use borrow.Author.Tests.{leb-true, leb-false, not-true, ne_eqb}
use Rattle.rows.specs.Answer.{refused}
use Rattle.rows.specs.Kept.{KeptRow}
use Rattle.rows.specs.Passes.{Every}
use Rattle.shorthand.specs.declared.Missing.{Missing}
use Rattle.shorthand.specs.declared.Missing.TheVariants.{Nothing, Leading, Trailing}
use Rattle.shorthand.specs.Layout.{Way, fewest}
use Rattle.reading.specs.Relation.{chars}
use Rattle.words.specs.declared.Wanted.{Wanted}
use Rattle.words.specs.Figures.{taking, wrong_by, cut_by, wrong, fronts, is_digit, digit_next, is_figure, figure_next, Run, run, restored, figures}
use Rattle.reading.proofs.DigitRows.{worth}
use Rattle.reading.proofs.RowsAhead.{is_digit_lem}
use Rattle.places.specs.Begins.{Digit}
use Rattle.places.specs.Faults.{GoesOn, digit_behind, data_behind, last_of, Miscounted, too_few, too_many}
use Rattle.places.proofs.Steady.{Like, no_row, first_row, Next, at_row, at_end, Goes, took, held}
use Rattle.places.proofs.DigitLists.{digit-is, no_digit, last-behind, last-digit}

-- ---- tests of the first row

pub digit-like : (x y : List KeptRow) → Like x y → digit_next x ≡ digit_next y
digit-like x y no_row = refl
digit-like x y (first_row (inl e)) = ap is_digit e
digit-like x y (first_row {r} {s} (inr h)) = is_digit_lem r.char h.0 ∙ sym (is_digit_lem s.char h.1)

pub fronts-like : (c : ℕ) → is_digit c ≡ false → (x y : List KeptRow) → Like x y → fronts c x ≡ fronts c y
fronts-like c n x y no_row = refl
fronts-like c n x y (first_row (inl e)) = ap (λ d. eqb d c) e
fronts-like c n x y (first_row {r} {s} (inr h)) =
    let other : (d : ℕ) → Digit d → eqb d c ≡ false = λ d k. ne_eqb d c (λ e. no_digit c n (subst Digit e k)) in
    other r.char h.0 ∙ sym (other s.char h.1)

pub figure-like : (x y : List KeptRow) → Like x y → figure_next x ≡ figure_next y
figure-like x y no_row = refl
figure-like x y (first_row (inl e)) = ap is_figure e
figure-like x y (first_row {r} {s} (inr h)) = rw (is_digit_lem r.char h.0, is_digit_lem s.char h.1)

-- ---- a run of digits

-- the digits at the front, n at most
record Spread (n : ℕ) (rs : List KeptRow) : Type 0 where
  ds : List KeptRow
  rest : List KeptRow
  split : rs ≡ ds ++ rest
  all : Every Digit (chars ds)
  few : length ds ≤ n
  why : (length ds ≡ n) ⊎ (digit_next rest ≡ false)

spread : (n : ℕ) (rs : List KeptRow) → Spread n rs
spread zero rs = record { ds = []; rest = rs; split = refl; all = tt; few = zero-le; why = inl refl }
spread (suc n) [] = record { ds = []; rest = []; split = refl; all = tt; few = zero-le; why = inr refl }
spread (suc n) (r ∷ rs) = go (is_digit r.char) refl (spread n rs)
  where
    longer : {k : ℕ} {b : Bool} → (k ≡ n) ⊎ (b ≡ false) → (suc k ≡ suc n) ⊎ (b ≡ false)
    longer (inl e) = inl (ap suc e)
    longer (inr e) = inr e

    go : (b : Bool) → is_digit r.char ≡ b → Spread n rs → Spread (suc n) (r ∷ rs)
    go true e s =
        record { ds = r ∷ s.ds; rest = s.rest; split = ap (λ l. r ∷ l) s.split; all = (digit-is r.char e, s.all); few = suc-le-suc s.few; why = longer s.why }
    go false e s = record { ds = []; rest = r ∷ rs; split = refl; all = tt; few = zero-le; why = inr e }

run_is : (n v k : ℕ) (ds rest : List KeptRow) → Every Digit (chars ds) → length ds ≤ n → (length ds ≡ n) ⊎ (digit_next rest ≡ false)
    → run n v k (ds ++ rest) ≡ record { number = worth v (chars ds); count = k + length ds; rest = rest }
unfolding run
run_is zero v k [] rest all few why = rw add-zero
run_is (suc n) v k [] rest all few (inl e) = absurd (omega arith)
run_is (suc n) v k [] rest all few (inr e) = rw (e, add-zero)
run_is zero v k (d ∷ ds) rest all few why = absurd (omega arith)
run_is (suc n) v k (d ∷ ds) rest all few why =
    rw (is_digit_lem d.char all.0, add-suc, ← (suc-add k (length ds))) (run_is n (v * 10 + (d.char - 48)) (suc k) ds rest all.1 (omega arith) (shorter why))
  where
    shorter : (suc (length ds) ≡ suc n) ⊎ (digit_next rest ≡ false) → (length ds ≡ n) ⊎ (digit_next rest ≡ false)
    shorter (inl e) = inl (omega arith)
    shorter (inr e) = inr e

-- the run of the digits ds
abbrev pub ran_of : List KeptRow → List KeptRow → Run
ran_of ds rest = record { number = worth 0 (chars ds); count = length ds; rest = rest }

-- whether as many digits as ds are enough before rest
abbrev pub suits : Missing → ℕ → List KeptRow → List KeptRow → Bool
suits z n ds rest = leb (fewest z n) (length ds) && not (digit_next rest)

restored-any : (z : Missing) (n : ℕ) (ds x y : List KeptRow) → restored z n (ran_of ds x) ≡ restored z n (ran_of ds y)
restored-any Nothing n ds x y = refl
restored-any Leading n ds x y = refl
restored-any Trailing n ds x y = refl

-- ---- figures

-- the digits u are enough for a number of n, where none may be missing they are the value, and no further digit stands behind them
pub record Figured (z : Missing) (n a : ℕ) (u : List ℕ) (rest : List KeptRow) : Type 0 where
  pub all : Every Digit u
  pub least : fewest z n ≤ length u
  pub most : length u ≤ n
  pub value : z ≡ Nothing → a ≡ worth 0 u
  pub apart : digit_next rest ≡ false

restored-full : (z : Missing) (n : ℕ) (ds rest : List KeptRow) → z ≡ Nothing → restored z n (ran_of ds rest) ≡ worth 0 (chars ds)
restored-full z n ds rest e = rw e

-- nothing goes on with a row that is neither digit nor HT
pub still : {y : Way} {l c : ℕ} → (Digit l → ⊥) → (l ≡ 9 → ⊥) → GoesOn y l c → ⊥
still n t (digit_behind d e) = n d
still n t (data_behind y h e) = t h

-- nothing at the front goes on with the last of the rows u
abbrev pub Firm : Way → List ℕ → List KeptRow → Type 0
Firm y u rest = Next (λ c. GoesOn y (last_of u) c → ⊥) rest

-- behind digits that are enough nothing does
pub figured-firm : (y : Way) (x : List ℕ) {z : Missing} {n a : ℕ} {u : List ℕ} {rest : List KeptRow} → Figured z n a u rest → 1 ≤ fewest z n → Firm y (x ++ u) rest
figured-firm y x {rest = []} h some = tt
figured-firm y x {u = u} {rest = r ∷ rest} h some = go
  where
    last : Digit (last_of (x ++ u))
    last = let l : 0 < length u = omega (arith, h.least) in subst Digit (sym (last-behind x u l)) (last-digit u h.all l)

    go : GoesOn y (last_of (x ++ u)) r.char → ⊥
    go (digit_behind d c) = no_digit r.char h.apart c
    go (data_behind t e f) = omega (arith, last)

-- refused as digits of what is wanted, at a row or at the end; where no digit stands, P is of the first row
pub data FigureStop (P : ℕ → Type 0) (x : Wanted) (z : Missing) (n : ℕ) : ℕ → List ℕ → List ℕ → List ℕ → Type 0 where
  miscounted : {ds : List ℕ} {c : ℕ} → Every Digit ds → Miscounted (fewest z n) n ds c → (ds ≡ [] → P c) → FigureStop P x z n (wrong_by x) [] ds (c ∷ [])
  cut : {ds : List ℕ} → Every Digit ds → length ds < fewest z n → FigureStop P x z n (cut_by x) [] ds []

first-is : (P : ℕ → Type 0) (rs ds a : List KeptRow) (r : KeptRow) → rs ≡ ds ++ (r ∷ a) → Next P rs → chars ds ≡ [] → P r.char
first-is P rs [] a r e h n = subst (Next P) e h
first-is P rs (d ∷ ds) a r e h n = let z = ap length n in absurd (omega arith)

-- 13 is of no thing that is wanted
pub not-thirteen : (x : Wanted) → wrong_by x ≡ 13 → ⊥
not-thirteen Wanted.Head e = omega arith
not-thirteen Wanted.Start e = omega arith
not-thirteen Wanted.End e = omega arith
not-thirteen Wanted.Digits e = omega arith

module _ (len : ℕ) (x : Wanted) (z : Missing) (n : ℕ) where
  pub figures-are : (ds rest : List KeptRow) → Every Digit (chars ds) → length ds ≤ n → (length ds ≡ n) ⊎ (digit_next rest ≡ false)
      → figures len x z n (ds ++ rest) ≡ cond (suits z n ds rest) (taking (restored z n (ran_of ds rest)) rest) (wrong len x rest)
  unfolding figures
  figures-are ds rest all few why = rw (run_is n 0 0 ds rest all few why, zero-add)

  -- ds digits and then r are refused
  why-wrong : (ds : List KeptRow) (r : KeptRow) → (length ds ≡ n) ⊎ (is_digit r.char ≡ false) → suits z n ds (r ∷ []) ≡ false → Miscounted (fewest z n) n (chars ds) r.char
  why-wrong ds r why e = go (is_digit r.char) refl (leb (fewest z n) (length ds)) refl why e
    where
      go : (d : Bool) → is_digit r.char ≡ d → (b : Bool) → leb (fewest z n) (length ds) ≡ b → (length ds ≡ n) ⊎ (d ≡ false) → (b && not d) ≡ false
          → Miscounted (fewest z n) n (chars ds) r.char
      go true d b e (inl k) h = too_many (length-map ds (λ s. s.char) ∙ k) (digit-is r.char d)
      go true d b e (inr k) h = absurd (false≢true (sym k))
      go false d true e k h = absurd (false≢true (sym h))
      go false d false e k h = too_few (omega (arith, length-map ds (λ s. s.char), leb-false (fewest z n) (length ds) e)) (no_digit r.char d)

  goes_on : (P : ℕ → Type 0) (rs ds rest : List KeptRow) → Next P rs → rs ≡ ds ++ rest → Every Digit (chars ds) → length ds ≤ n → (length ds ≡ n) ⊎ (digit_next rest ≡ false)
      → (b : Bool) → suits z n ds rest ≡ b → Goes (figures len x z n) len (Figured z n) (FigureStop P x z n) rs (cond b (taking (restored z n (ran_of ds rest)) rest) (wrong len x rest))
  goes_on P rs ds rest next split all few why true e =
      let p = (and-eq-true_iff (leb (fewest z n) (length ds)) (not (digit_next rest))).0 e in
      let c = length-map ds (λ s. s.char) in
      took ds split
      (record {
        all = all;
        least = omega (arith, leb-true (fewest z n) (length ds) p.0);
        most = omega arith;
        value = restored-full z n ds rest;
        apart = not-true (digit_next rest) p.1;
      })
      (λ l h. let d : digit_next l ≡ false = sym (digit-like rest l h) ∙ not-true (digit_next rest) p.1 in
      figures-are ds l all few (inr d) ∙ rw (p.0, d, restored-any z n ds l rest))
  goes_on P rs ds [] next split all few why false e =
      let c = length-map ds (λ s. s.char) in
      held (at_end [] ds (split ∙ append-nil ds) all (cut {ds = chars ds} all (omega (arith, leb-false (fewest z n) (length ds) (and-true (leb (fewest z n) (length ds)) e)))))
    where
      and-true : (b : Bool) → (b && true) ≡ false → b ≡ false
      and-true true h = h
      and-true false h = refl
  goes_on P rs ds (r ∷ a) next split all few why false e =
      held (at_row [] ds [] a r split all (miscounted all (why-wrong ds r why e) (first-is P rs ds a r split next)) (λ e. absurd (not-thirteen x e))
      (λ es l h k. let q : figures len x z n (es ++ (r ∷ l)) ≡ refused (wrong_by x) r.place = figures-are es (r ∷ l) h (omega arith) (same es k why) ∙ rw (k, e) in
      rw q tt))
    where
      same : (es : List KeptRow) → length es ≡ length ds → (length ds ≡ n) ⊎ (is_digit r.char ≡ false) → (length es ≡ n) ⊎ (is_digit r.char ≡ false)
      same es k (inl h) = inl (k ∙ h)
      same es k (inr h) = inr h

  pub figures-go : (P : ℕ → Type 0) (rs : List KeptRow) → Next P rs → Goes (figures len x z n) len (Figured z n) (FigureStop P x z n) rs (figures len x z n rs)
  figures-go P rs next =
      let s = spread n rs in
      subst (λ y. Goes (figures len x z n) len (Figured z n) (FigureStop P x z n) rs y) (sym (ap (figures len x z n) s.split ∙ figures-are s.ds s.rest s.all s.few s.why))
      (goes_on P rs s.ds s.rest next s.split s.all s.few s.why (suits z n s.ds s.rest) refl)
