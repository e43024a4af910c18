-- Gluing: the first tape's blocks and then the second's; there is one such tape; and of three either joint may be made first.
use Prim.Native.Nat.{ℕ, suc, ◌+◌, ◌≤◌}
use mathlib.Core.Path.{◌≡◌, refl, sym, ap, ◌∙◌, subst}
use mathlib.Core.Logic.{◌⊎◌, inl, inr}
use mathlib.Core.Bool.{Bool, true, false, cond, false≢true}
use mathlib.Core.List.{List, [], ◌∷◌, ◌++◌, append_assoc, append-nil, append_cancel_left}
use native.Mathlib.Omega.{arith}
use lib.ListN.{length, length-append}
use Rattle.rows.specs.Row.{character, among}
use Rattle.rows.specs.Kept.{stays, kept_from, kept}
use Rattle.rows.specs.ControlOut.{WellFormed, end, row, remark}
use Rattle.rows.specs.Stages.{limit}
use Rattle.rows.specs.Passes.{Passes}
use Rattle.rows.proofs.Formed.{not-among}
use Rattle.rows.proofs.FormedBehind.{formed-behind, parts-pass}
use Rattle.rows.proofs.KeptRows.{past-remark}
use Rattle.rows.proofs.TapesJoined.{passes_append}
use Rattle.shorthand.specs.declared.Format.{Format}
use Rattle.profile.specs.Relation.{Settled}
use Rattle.profile.proofs.Settling.{settled-exactly, settled-facts}
use Rattle.reading.specs.declared.Block.{Block}
use Rattle.reading.specs.Relation.{TapeOf, End, lf, cr_lf, Blocks, Program, program, chars}
use Rattle.reading.proofs.BlockParts.{whole}
use Rattle.reading.proofs.BlocksJoined.{program-append}
use Rattle.reading.proofs.Complete.{complete}
use Rattle.reading.proofs.MovedRows.{chars-behind}
use Rattle.splices.specs.Gluing.{Head, head, Beheaded, Glued, glued}

-- ---- one head

-- of two fronts of the same rows one is the other's front
meet : (a b c d : List ℕ) → a ++ b ≡ c ++ d → ((x : List ℕ) × (c ≡ a ++ x)) ⊎ ((x : List ℕ) × (a ≡ c ++ x))
meet [] b c d e = inl (c, refl)
meet (x ∷ a) b [] d e = inr (x ∷ a, refl)
meet (x ∷ a) b (y ∷ c) d e = go (meet a b c d (cc))
  where
    same : x ≡ y
    same = cc

    go : ((z : List ℕ) × (c ≡ a ++ z)) ⊎ ((z : List ℕ) × (a ≡ c ++ z)) → ((z : List ℕ) × (y ∷ c ≡ (x ∷ a) ++ z)) ⊎ ((z : List ℕ) × (x ∷ a ≡ (y ∷ c) ++ z))
    go (inl k) = inl (k.0, rw (same, k.1))
    go (inr k) = inr (k.0, rw (same, k.1))

-- behind either of two ends at the front of the same characters the same is left
one_end : {c d : List ℕ} → End c → End d → (x y : List ℕ) → c ++ x ≡ d ++ y → x ≡ y
one_end lf lf x y e = cc
one_end lf cr_lf x y e = let z : ◌≡◌ {A = ℕ} 10 13 = cc in absurd (omega arith)
one_end cr_lf lf x y e = let z : ◌≡◌ {A = ℕ} 13 10 = cc in absurd (omega arith)
one_end cr_lf cr_lf x y e = cc

-- no head is a longer one's front
none_more : {a b : List ℕ} → Head a → Head b → (x : List ℕ) → b ≡ a ++ x → x ≡ []
none_more (head {e = c} p) (head {e = d} q) x e = one_end p q x [] (sym (append-nil d ∙ cc))

-- the last row, or c where there is none
abbrev last_of : ℕ → List ℕ → ℕ
last_of c [] = c
last_of c (d ∷ l) = last_of d l

last-behind : (c : ℕ) (x : List ℕ) (d : ℕ) (y : List ℕ) → last_of c (x ++ (d ∷ y)) ≡ last_of d y
last-behind c [] d y = refl
last-behind c (a ∷ x) d y = last-behind a x d y

-- a row outside control-outs is kept or not
one_kept : (b : ℕ) → among (character b) (40 ∷ 41 ∷ []) ≡ false → (i : ℕ) (t : List ℕ)
    → kept_from false i (b ∷ t) ≡ cond (stays false (character b)) (record { place = i; char = character b } ∷ kept_from false (suc i) t) (kept_from false (suc i) t)
unfolding kept_from
one_kept b h i t = rw (not-among (character b) 40 (41 ∷ []) h).0

-- well formed rows that end with LF keep it
ends-kept : {t : List ℕ} → WellFormed t → (a : ℕ) → (character a ≡ 10 → ⊥) → character (last_of a t) ≡ 10 → (i : ℕ) → chars (kept_from false i t) ≡ [] → ⊥
unfolding kept_from
ends-kept end a n e i k = n e
ends-kept (row {b = b} {t = t} h w) a n e i k = by (stays false (character b)) refl (ap chars (sym (one_kept b h i t)) ∙ k) (λ o z. ends-kept w b o e (suc i) z)
  where
    by : (x : Bool) → stays false (character b) ≡ x → chars (cond x (record { place = i; char = character b } ∷ kept_from false (suc i) t) (kept_from false (suc i) t)) ≡ []
        → ((character b ≡ 10 → ⊥) → chars (kept_from false (suc i) t) ≡ [] → ⊥) → ⊥
    by true q z more = let y = ap length z in omega arith
    by false q z more = more (λ o. false≢true (sym q ∙ ap (stays false) o)) z
ends-kept (remark {o = o} {r = r} {t = t} c q m f w) a n e i k =
    ends-kept w c (λ o. omega (arith, o, f)) (ap character (sym (last-behind o r c t)) ∙ e) (suc i + suc (length r)) (rw (q, past-remark m c f t (suc i)) at k)

-- no row stands between two heads' ends
none_between : {u h r k s : List ℕ} → Beheaded u h r → Beheaded u k s → (x : List ℕ) → k ≡ h ++ x → x ≡ []
none_between a b [] e = refl
none_between {h = h} a b (c ∷ x) e =
    let t = c ∷ x in
    let none : chars (kept t) ≡ [] = none_more a.heads b.heads (chars (kept t)) (ap (λ l. chars (kept l)) e ∙ chars-behind a.formed t) in
    let same : last_of 0 t ≡ b.lf = sym (last-behind 0 h c x) ∙ ap (last_of 0) (sym e ∙ b.ends) ∙ last-behind 0 b.front b.lf [] in
    absurd (ends-kept (formed-behind a.formed (subst WellFormed e b.formed)) 0 (λ o. omega (arith, o)) (ap character same ∙ b.feeds) 0 none)

-- a tape has one head
pub one-head : {u h r k s : List ℕ} → Beheaded u h r → Beheaded u k s → (h ≡ k) × (r ≡ s)
one-head {h = h} {r = r} {k = k} {s = s} x y = (same, append_cancel_left k r s (ap (λ l. l ++ r) (sym same) ∙ sym x.split ∙ y.split))
  where
    by : ((z : List ℕ) × (k ≡ h ++ z)) ⊎ ((z : List ℕ) × (h ≡ k ++ z)) → h ≡ k
    by (inl m) = sym (m.1 ∙ ap (λ l. h ++ l) (none_between x y m.0 m.1) ∙ append-nil h)
    by (inr m) = m.1 ∙ ap (λ l. k ++ l) (none_between y x m.0 m.1) ∙ append-nil k

    same : h ≡ k
    same = by (meet h r k s (sym x.split ∙ y.split))

-- so there is at most one tape that is glued of two
pub one : {t u g k : List ℕ} → Glued t u g → Glued t u k → g ≡ k
one {t} (glued x) (glued y) = ap (λ l. t ++ l) (one-head x y).1

-- ---- the blocks

-- behind the head stand the blocks
head-blocks : {f : Format} {cs : List Block} {a l : List ℕ} → Head a → Program f cs l → (x : List ℕ) → l ≡ a ++ x → Blocks f cs x
head-blocks {f} {cs} (head p) (program {r = r} q b) x e = subst (Blocks f cs) (one_end q p r x (cc)) b

module _ (e : ℕ) (s p : List ℕ) where
  -- and of an accepted one there is one
  pub some : {cs : List Block} {u : List ℕ} → TapeOf e s p cs u → (t : List ℕ) → (g : List ℕ) × Glued t u g
  some {cs} {u} h t =
      let c = complete h.format (settled-facts h.settled) cs (length u) (kept u) h.stands in
      let k = whole h.format u c.0 h.passes.formed c.1 in (
        t ++ k.y,
        glued
            (
            record {
              split = k.joined;
              formed = k.is.formed;
              heads = rw k.is.keeps (head k.ends);
              front = k.is.front;
              lf = k.is.feed;
              ends = k.is.rows;
              feeds = k.is.ends;
            }
            ),
      )

  one_format : {f g : Format} → Settled e s p f → Settled e s p g → f ≡ g
  one_format {f} {g} x y = let a = (settled-exactly e s p f).1 x in let b = (settled-exactly e s p g).1 y in cc

  -- within the limit it has the first one's blocks and then the second's
  pub blocks : {bs cs : List Block} {t u g : List ℕ} → TapeOf e s p bs t → TapeOf e s p cs u → Glued t u g → length g ≤ limit → TapeOf e s p (bs ++ cs) g
  blocks {bs} {cs} {t} {u} x y (glued {h = h} {r = r} k) l =
      let same = one_format y.settled x.settled in
      let b : Blocks x.format cs (chars (kept r)) =
      subst (λ f. Blocks f cs (chars (kept r))) same (head-blocks k.heads y.stands (chars (kept r)) (ap (λ z. chars (kept z)) k.split ∙ chars-behind k.formed r)) in
      record {
        format = x.format;
        settled = x.settled;
        passes = passes_append x.passes (parts-pass k.formed (subst Passes k.split y.passes)).1 l;
        stands = rw (chars-behind x.passes.formed r) (program-append x.stands b);
      }

-- a head is the head of longer rows
longer : {u h r : List ℕ} → Beheaded u h r → (s : List ℕ) → Beheaded (u ++ s) h (r ++ s)
longer {h = h} {r = r} k s =
    record {
      split = ap (λ l. l ++ s) k.split ∙ append_assoc h r s;
      formed = k.formed;
      heads = k.heads;
      front = k.front;
      lf = k.lf;
      ends = k.ends;
      feeds = k.feeds;
    }

-- three tapes glued are the same rows whichever joint is made first
pub either-joint : {t u v a b x y : List ℕ} → Glued t u a → Glued a v x → Glued u v b → Glued t b y → x ≡ y
either-joint {t} (glued {r = r} j) (glued {r = z} k) (glued {r = w} m) (glued n) =
    append_assoc t r z ∙ ap (λ l. t ++ (r ++ l)) (one-head k m).1 ∙ ap (λ l. t ++ l) (one-head (longer j w) n).1

-- gluing only lengthens
glued-longer : {a v x : List ℕ} → Glued a v x → length a ≤ length x
glued-longer {a} (glued {r = r} k) = omega (arith, length-append a r)

module _ (e : ℕ) (s p : List ℕ) where
  -- and have the blocks of the first, the second and the third: the limit is asked of the last tape alone, and each on the way that is within it is a tape by `blocks`
  pub three : {bs cs ds : List Block} {t u v a b x y : List ℕ} → TapeOf e s p bs t → TapeOf e s p cs u → TapeOf e s p ds v → Glued t u a → Glued a v x → Glued u v b → Glued t b y
      → length x ≤ limit → (x ≡ y) × TapeOf e s p (bs ++ (cs ++ ds)) x × TapeOf e s p (bs ++ (cs ++ ds)) y
  three {bs} {cs} {ds} {x = x} t u v j k m n l =
      let same = either-joint j k m n in
      let on = blocks e s p t u j (omega (arith, glued-longer k, l)) in
      let g : TapeOf e s p (bs ++ (cs ++ ds)) x = subst (λ z. TapeOf e s p z x) (append_assoc bs cs ds) (blocks e s p on v k l) in
      (same, g, subst (TapeOf e s p (bs ++ (cs ++ ds))) same g)
