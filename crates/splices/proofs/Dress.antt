-- Dressing: NUL or DEL anywhere, and complete control-outs outside others, leave the blocks as they are; and what is accepted so dressed was accepted without.
use Prim.Native.Nat.{ℕ, ◌+◌, suc, ◌≤◌}
use mathlib.Core.Path.{◌≡◌, refl, sym, ap, ◌∙◌}
use mathlib.Core.Logic.{⊎_elim}
use mathlib.Core.Bool.{Bool, true, false, cond}
use mathlib.Core.List.{List, [], ◌∷◌, ◌++◌, append_assoc}
use native.Mathlib.Omega.{arith}
use lib.ListN.{length, length-append}
use Rattle.rows.specs.Row.{character, among}
use Rattle.rows.specs.Kept.{KeptRow, within, stays, kept_from, kept}
use Rattle.rows.specs.Stages.{limit}
use Rattle.rows.specs.ControlOut.{Remark, empty, WellFormed, end, row}
use Rattle.rows.specs.Passes.{Every, Passes}
use Rattle.rows.proofs.Every.{every_map, every_append, every_front, every_back}
use Rattle.rows.proofs.Blanks.{past-blanks, blanks-even, blanks-known}
use Rattle.rows.proofs.KeptRows.{past-remark, kept-chars}
use Rattle.rows.proofs.TapesJoined.{formed-append}
use Rattle.rows.proofs.FormedBehind.{formed-behind}
use Rattle.reading.specs.declared.Block.{Block}
use Rattle.reading.specs.Relation.{chars, TapeOf}
use Rattle.reading.proofs.MovedRows.{chars-behind}
use Rattle.splices.specs.Dressing.{Sound, Blank, Dressed, blank, remark, Dressing, bare, more}

-- ---- control-outs that are well formed, row by row

-- rows that are well formed from outside a control-out, or from inside one
data Sided : Bool → List ℕ → Type 0 where
  over : Sided false []
  plain : {b : ℕ} {t : List ℕ} → among (character b) (40 ∷ 41 ∷ []) ≡ false → Sided false t → Sided false (b ∷ t)
  opens : {b : ℕ} {t : List ℕ} → character b ≡ 40 → Sided true t → Sided false (b ∷ t)
  stays_in : {b : ℕ} {t : List ℕ} → among (character b) (41 ∷ 58 ∷ 37 ∷ []) ≡ false → Sided true t → Sided true (b ∷ t)
  closes : {b : ℕ} {t : List ℕ} → character b ≡ 41 → Sided false t → Sided true (b ∷ t)

remark-sided : {r t : List ℕ} → Remark r → (c : ℕ) → character c ≡ 41 → Sided false t → Sided true (r ++ (c ∷ t))
remark-sided empty c f s = closes f s
remark-sided (Remark.more h m) c f s = stays_in h (remark-sided m c f s)

formed-sided : {t : List ℕ} → WellFormed t → Sided false t
formed-sided end = over
formed-sided (row h w) = plain h (formed-sided w)
formed-sided (WellFormed.remark c e m f w) = opens e (remark-sided m c f (formed-sided w))

abbrev Told : Bool → List ℕ → Type 0
Told false t = WellFormed t
Told true t = (r : List ℕ) × (c : ℕ) × (u : List ℕ) × (t ≡ r ++ (c ∷ u)) × Remark r × (character c ≡ 41) × WellFormed u

sided-told : {w : Bool} {t : List ℕ} → Sided w t → Told w t
sided-told over = end
sided-told (plain h s) = row h (sided-told s)
sided-told (opens e s) = let f = sided-told s in rw f.3 (WellFormed.remark f.1 e f.4 f.5 f.6)
sided-told (stays_in {b = b} h s) = let f = sided-told s in (b ∷ f.0, f.1, f.2, ap (λ l. b ∷ l) f.3, Remark.more h f.4, f.5, f.6)
sided-told (closes {b = b} {t = t} e s) = ([], b, t, refl, empty, e, sided-told s)

-- behind any rows, what does not matter to either side
behind : {u v : List ℕ} → ((w : Bool) → Sided w u → Sided w v) → (a : List ℕ) (w : Bool) → Sided w (a ++ u) → Sided w (a ++ v)
behind f [] w s = f w s
behind f (x ∷ a) false (plain k s) = plain k (behind f a false s)
behind f (x ∷ a) false (opens k s) = opens k (behind f a true s)
behind f (x ∷ a) true (stays_in k s) = stays_in k (behind f a true s)
behind f (x ∷ a) true (closes k s) = closes k (behind f a false s)

-- ---- NUL or DEL put in

module _ (b : ℕ) (h : Blank b) (z : List ℕ) where
  of-blank : (P : ℕ → Type 0) → P 0 → P 255 → P b
  of-blank P p q = ⊎_elim (λ e. rw e p) (λ e. rw e q) h

  put_in : (w : Bool) → Sided w z → Sided w (b ∷ z)
  put_in false s = plain (of-blank (λ c. among (character c) (40 ∷ 41 ∷ []) ≡ false) refl refl) s
  put_in true s = stays_in (of-blank (λ c. among (character c) (41 ∷ 58 ∷ 37 ∷ []) ≡ false) refl refl) s

  take_out : (w : Bool) → Sided w (b ∷ z) → Sided w z
  take_out false (plain k s) = s
  take_out false (opens k s) = absurd (of-blank (λ c. character c ≡ 40 → ⊥) (λ e. omega arith) (λ e. omega arith) k)
  take_out true (stays_in k s) = s
  take_out true (closes k s) = absurd (of-blank (λ c. character c ≡ 41 → ⊥) (λ e. omega arith) (λ e. omega arith) k)

  -- anywhere, within a control-out or not, the characters kept are the same
  blank-kept : (a : List ℕ) (w : Bool) (i : ℕ) → chars (kept_from w i (a ++ (b ∷ z))) ≡ chars (kept_from w i (a ++ z))
  unfolding kept_from
  blank-kept [] w i = ap chars (past-blanks w i (b ∷ []) z (h, tt)) ∙ kept-chars z w (i + 1) i
  blank-kept (x ∷ a) w i = by (stays w (character x)) _ _ (blank-kept a (within w (character x)) (suc i))
    where
      by : (y : Bool) (k l : List KeptRow) → chars k ≡ chars l
          → chars (cond y (record { place = i; char = character x } ∷ k) k) ≡ chars (cond y (record { place = i; char = character x } ∷ l) l)
      by true k l e = rw e
      by false k l e = e

-- ---- one thing put in

-- sound rows put into t: the control-outs stay well formed or not, and the characters that are kept stay
record Put (t d : List ℕ) : Type 1 where
  longer : length t ≤ length d
  each : (P : ℕ → Type 0) → ((b : ℕ) → Sound b → P b) → Every P t → Every P d
  each_was : (P : ℕ → Type 0) → Every P d → Every P t
  formed : WellFormed t → WellFormed d
  was_formed : WellFormed d → WellFormed t
  same : chars (kept d) ≡ chars (kept t)

module _ (a m z : List ℕ) where
  abbrev whole : List ℕ
  whole = a ++ (m ++ z)

  put : Every Sound m → (WellFormed (a ++ z) → WellFormed whole) → (WellFormed whole → WellFormed (a ++ z)) → chars (kept whole) ≡ chars (kept (a ++ z)) → Put (a ++ z) whole
  put s f g k =
      record {
        longer = omega (arith, length-append a z, length-append a (m ++ z), length-append m z);
        each = λ P q all. every_append P a (m ++ z) (every_front P a z all) (every_append P m z (every_map q m s) (every_back P a z all));
        each_was = λ P all. every_append P a z (every_front P a (m ++ z) all) (every_back P m z (every_back P a (m ++ z) all));
        formed = f;
        was_formed = g;
        same = k;
      }

  -- rows that are well formed and of which none is kept, behind rows that are well formed
  put-apart : WellFormed a → WellFormed m → chars (kept m) ≡ [] → Every Sound m → Put (a ++ z) whole
  put-apart u v e s =
      put s (λ w. formed-append u (formed-append v (formed-behind u w))) (λ w. formed-append u (formed-behind v (formed-behind u w)))
      (chars-behind u (m ++ z) ∙ rw (chars-behind v z, e) (sym (chars-behind u z)))

one-put : {t d : List ℕ} → Dressed t d → Put t d
unfolding kept_from
one-put (blank a z b h) =
    put a (b ∷ []) z (((blanks-even (b ∷ []) (h, tt)).0, (blanks-known (b ∷ []) (h, tt)).0), tt) (λ w. sided-told (behind (put_in b h z) a false (formed-sided w)))
    (λ w. sided-told (behind (take_out b h z) a false (formed-sided w))) (blank-kept b h z a false 0)
one-put (remark a z o r c u e m f s) =
    rw (← append_assoc r (c ∷ []) z) (put-apart a (o ∷ (r ++ (c ∷ []))) z u (WellFormed.remark c e m f end) (rw (e, past-remark m c f [] 1)) s)

-- a dressed tape is longer
pub dressing-longer : {t d : List ℕ} → Dressing t d → length t ≤ length d
dressing-longer bare = omega arith
dressing-longer (more k j) = let m = dressing-longer k in let n = (one-put j).longer in omega arith

-- one thing put in leaves the characters that are kept
pub one_kept : {t d : List ℕ} → Dressed t d → chars (kept d) ≡ chars (kept t)
one_kept k = (one-put k).same

-- and a tape that passes, within the limit; and passes without it where it passed with it
pub one_passes : {t d : List ℕ} → Passes t → Dressed t d → length d ≤ limit → Passes d
one_passes p k l =
    let o = one-put k in
    record { short = l; even = o.each _ (λ b x. x.0) p.even; known = o.each _ (λ b x. x.1) p.known; formed = o.formed p.formed }

pub one-passed : {t d : List ℕ} → Passes d → Dressed t d → Passes t
one-passed p k =
    let o = one-put k in
    let n = o.longer in
    let l = p.short in
    record { short = omega arith; even = o.each_was _ p.even; known = o.each_was _ p.known; formed = o.was_formed p.formed }

module _ (e : ℕ) (s p : List ℕ) where
  -- any number of them leave the blocks unaltered, within the limit
  pub blocks : {bs : List Block} {t d : List ℕ} → TapeOf e s p bs t → Dressing t d → length d ≤ limit → TapeOf e s p bs d
  blocks x bare l = x
  blocks x (more k j) l =
      let n = (one-put j).longer in
      let y = blocks x k (omega arith) in
      record { format = y.format; settled = y.settled; passes = one_passes y.passes j l; stands = rw (one_kept j) y.stands }

  -- a dressed tape that is accepted was accepted without, with the same blocks
  pub undressed : {bs : List Block} {t d : List ℕ} → TapeOf e s p bs d → Dressing t d → TapeOf e s p bs t
  undressed x bare = x
  undressed x (more k j) =
      undressed (record { format = x.format; settled = x.settled; passes = one-passed x.passes j; stands = rw (← one_kept j) x.stands }) k
