-- Items that are left out at some rows have no words: the words from an item on are those from the item that is due.
use mathlib.Core.Path.{◌≡◌, refl, sym, subst, ◌∙◌}
use mathlib.Core.Bool.{Bool, true, false}
use mathlib.Core.List.{List}
use Prim.Native.Nat.{ℕ, zero, suc, ◌+◌, ◌-◌, ◌≤◌, ◌<◌}
use native.Mathlib.Decide.{dec_lt}
use native.Mathlib.Omega.{arith}
use lib.ListN.{drop}
use Rattle.rows.specs.Answer.{Answer}
use Rattle.rows.specs.Kept.{KeptRow}
use Rattle.shorthand.specs.declared.Format.{Format}
use Rattle.shorthand.specs.Layout.{items_of, way_of}
use Rattle.shorthand.specs.Facts.{Facts}
use Rattle.words.specs.declared.Word.{Word}
use Rattle.words.specs.Figures.{Behind, fronts}
use Rattle.parts.specs.Items.{out, standing, letter_at, Leads, due_at}
use Rattle.parts.proofs.Leading.{LeftOut, passed}
use Rattle.reading.specs.Parse.{words_at}
use Rattle.reading.proofs.ItemSteps.{words-turn, words-over}

module _ (len : ℕ) (f : Format) (h : Facts f) (leads : List ℕ) (g : Leads f leads) (rs : List KeptRow) where
  abbrev words_from : ℕ → Answer (Behind (List Word))
  words_from k = words_at len (way_of f) (drop k (items_of f)) rs

  -- an item whose letter is not the front, without tabs
  pass : (k : ℕ) → k < f.count → (d : Bool) → f.dots ≡ d → (d ≡ true → ⊥) → fronts (letter_at f k) rs ≡ false → out rs ≡ standing (way_of f) (letter_at f k) rs
  pass k l true e n q = absurd (n refl)
  pass k l false e n q = rw (e, q)

  steps : (d k : ℕ) → LeftOut leads f.dots k (k + d) rs → words_from k ≡ words_from (k + d)
  steps zero k o = let e : k + zero ≡ k = omega arith in rw e
  steps (suc d) k o =
      elim (dec_lt k f.count) [
        | yes l ↦
            let q = o.other (letter_at f k) (omega (arith, g.own k l)) (omega (arith, g.own k l)) in
            let s = pass k l f.dots refl (λ e. omega (arith, o.tabs e)) q in
            let e : k + suc d ≡ k + 1 + d = omega arith in
            words-turn len f h rs k l (out rs) s
            ∙ rw e (steps d (k + 1) (record { on = omega arith; tabs = λ t. absurd (omega (arith, o.tabs t)); other = λ c a b. o.other c (omega (arith, a)) (omega (arith, b)) }))
        | no l ↦ words-over len f h rs k (omega arith) ∙ sym (words-over len f h rs (k + suc d) (omega arith))
      ]

  skipped : (k r : ℕ) → LeftOut leads f.dots k r rs → words_from k ≡ words_from r
  skipped k r o =
      let e : k + (r - k) ≡ r = omega (arith, o.on) in
      subst (λ x. words_from k ≡ words_from x) e (steps (r - k) k (subst (λ x. LeftOut leads f.dots k x rs) (sym e) o))

  -- the words from an item on are those from the item that is due
  pub from-due : (k : ℕ) → k ≤ 22 → (r : ℕ) → r ≡ due_at leads f.dots k rs → words_from k ≡ words_from r
  from-due k l r e = rw e (skipped k (due_at leads f.dots k rs) (passed leads k l f.dots rs))
