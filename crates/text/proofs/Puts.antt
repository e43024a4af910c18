-- Laws of puts: one behind another is the put of both; and a turn of a loop takes the first of what is to come.
use Prim.Native.Nat.{ℕ, suc, ◌+◌, ◌-◌, ◌≤◌}
use mathlib.Core.Path.{◌≡◌, refl, sym, ap, subst, ◌∙◌}
use mathlib.Core.List.{List, [], ◌∷◌, ◌++◌, append_assoc}
use native.Mathlib.Nat.{add-suc, suc-add, add-zero}
use native.Mathlib.Omega.{arith}
use lib.ListN.{length, set, take, drop, length-append}
use lib.Seq.{sets, length-sets, sets-eq}
use borrow.Rule.Slice.PartMut.{put_mid}
use Rattle.std.proofs.lemmas.List.{drop-drop}
use Rattle.text.specs.Line.{Put}

pub sets-append : (xs ys l : List ℕ) (i : ℕ) → sets l i (xs ++ ys) ≡ sets (sets l i xs) (i + length xs) ys
sets-append [] ys l i = ap (λ k. sets l k ys) (sym (add-zero i))
sets-append (x ∷ xs) ys l i = sets-append xs ys (set l i x) (suc i) ∙ ap (λ k. sets (sets (set l i x) (suc i) xs) k ys) (suc-add i (length xs) ∙ sym (add-suc i (length xs)))

pub put-none : (l : List ℕ) (at : ℕ) → Put l at [] l at
put-none l at = record { end = omega arith; bytes = refl }

pub put-more : {l₀ l l₂ : List ℕ} {at n m : ℕ} {xs ys : List ℕ} → Put l₀ at xs l n → Put l n ys l₂ m → Put l₀ at (xs ++ ys) l₂ m
put-more {l₀} {l} {l₂} {at} {n} {m} {xs} {ys} h g =
    record { end = omega (arith, h.end, g.end, length-append xs ys); bytes = rw (g.bytes, h.bytes, h.end) (sym (sets-append xs ys l₀ at)) }

pub put-length : {l₀ l : List ℕ} {at n : ℕ} {xs : List ℕ} → Put l₀ at xs l n → length l ≡ length l₀
put-length {l₀} {at = at} {xs = xs} h = ap length h.bytes ∙ length-sets l₀ at xs

pub put_as : {l₀ l : List ℕ} {at n : ℕ} {xs ys : List ℕ} → xs ≡ ys → Put l₀ at xs l n → Put l₀ at ys l n
put_as {l₀} {l} {at} {n} e h = subst (λ k. Put l₀ at k l n) e h

-- a part of a line overwritten
pub put_part : (l cs ds : List ℕ) (at n : ℕ) → at + length cs ≤ length l → ds ≡ cs → n ≡ at + length cs → Put l at cs (put_mid at (n - at) l ds) n
put_part l cs ds at n h e q =
    let k : n - at ≡ length cs = omega arith in
    record { end = q; bytes = rw (k, e, drop-drop (length cs) at l) (sym (sets-eq cs l at h ∙ append_assoc (take at l) cs (drop (at + length cs) l))) }

-- ---- a loop: what was to be put at first is what is to be put now

pub record Coming (l₀ : List ℕ) (start : ℕ) (all l : List ℕ) (at : ℕ) (rest : List ℕ) : Type 0 where
  pub bytes : sets l₀ start all ≡ sets l at rest
  pub end : at + length rest ≡ start + length all
  pub same : length l ≡ length l₀

pub coming-all : (l : List ℕ) (at : ℕ) (all : List ℕ) → Coming l at all l at all
coming-all l at all = record { bytes = refl; end = refl; same = refl }

pub coming-turn : {l₀ l l₂ : List ℕ} {start at n : ℕ} {all xs ys : List ℕ} → Coming l₀ start all l at (xs ++ ys) → Put l at xs l₂ n → Coming l₀ start all l₂ n ys
coming-turn {l₀} {l} {l₂} {start} {at} {n} {all} {xs} {ys} h g =
    record { bytes = h.bytes ∙ sets-append xs ys l at ∙ ap (λ k. sets (sets l at xs) k ys) (sym g.end) ∙ ap (λ k. sets k n ys) (sym g.bytes); end = omega (arith, h.end, g.end, length-append xs ys); same = put-length g ∙ h.same }

pub coming-over : {l₀ l : List ℕ} {start at : ℕ} {all : List ℕ} → Coming l₀ start all l at [] → Put l₀ start all l at
coming-over h = record { end = omega (arith, h.end); bytes = sym h.bytes }

-- what is still to come has room behind what stands
pub coming-room : {l₀ l : List ℕ} {start at : ℕ} {all rest : List ℕ} → Coming l₀ start all l at rest → start + length all ≤ length l₀ → at + length rest ≤ length l
coming-room h r = omega (arith, h.end, h.same, r)

pub coming-as : {l₀ l : List ℕ} {start at : ℕ} {all xs ys : List ℕ} → xs ≡ ys → Coming l₀ start all l at xs → Coming l₀ start all l at ys
coming-as {l₀} {l} {start} {at} {all} e h = subst (λ k. Coming l₀ start all l at k) e h
