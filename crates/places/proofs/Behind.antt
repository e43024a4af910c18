-- What stands behind a character, wherever it stands in a program's rows: a property that its rows keep when others are put behind them.
use Prim.Native.Nat.{ℕ, ◌^◌, ◌<◌}
use mathlib.Core.Path.{◌≡◌, sym, ap, subst}
use mathlib.Core.Logic.{◌⊎◌, inl, inr}
use mathlib.Core.Bool.{Bool, true, false, cond}
use mathlib.Core.List.{List, [], ◌∷◌, ◌++◌}
use native.Mathlib.Omega.{arith}
use lib.IntN.{ℤ}
use lib.ListN.{length}
use Rattle.rows.specs.Passes.{Every}
use Rattle.rows.proofs.Every.{every_append}
use Rattle.shorthand.specs.declared.Kind.{Kind}
use Rattle.shorthand.specs.declared.Item.{Item}
use Rattle.shorthand.specs.declared.Format.{Format}
use Rattle.shorthand.specs.Layout.{Way, by_letter, by_both, by_tab, Sign, items_of}
use Rattle.words.specs.declared.Value.{Value}
use Rattle.words.specs.declared.Word.{Word}
use Rattle.parts.specs.declared.Begun.{Begun}
use Rattle.reading.specs.declared.Block.{Block}
use Rattle.reading.specs.Relation.{digits, Signed, never, plus, minus, plus_stands, minus_stands, plus_missing, Data, number, speed, dimension, Worded, word, tab, Words, done, out, here, End, skip_rows, start_rows, Start, counted, bare, Blocked, block, Blocks, Program, program}
use Rattle.reading.proofs.DigitRows.{digits-digit}
use Rattle.speeds.proofs.Answers.{read_short}
use Rattle.reading.proofs.WordTakes.{reads}
use Rattle.places.specs.Begins.{Digit}

-- wherever c stands in x, F holds of what stands behind it
abbrev pub Behind : ℕ → (List ℕ → Type 0) → List ℕ → Type 0
Behind c F x = (y z : List ℕ) → x ≡ y ++ (c ∷ z) → F z

module _ (c : ℕ) where
  -- it stands in the one part or in the other
  in-part : (a b y z : List ℕ) → a ++ b ≡ y ++ (c ∷ z) → ((o : List ℕ) × (a ≡ y ++ (c ∷ o)) × (z ≡ o ++ b)) ⊎ ((x : List ℕ) × (b ≡ x ++ (c ∷ z)))
  in-part [] b y z e = inr (y, e)
  in-part (d ∷ a) b [] z e =
      let h : d ≡ c = cc in
      let t : z ≡ a ++ b = cc in
      inl (a, ap (λ x. x ∷ a) h, t)
  in-part (d ∷ a) b (x ∷ y) z e =
      let h : d ≡ x = cc in
      let t : a ++ b ≡ y ++ (c ∷ z) = cc in
      go h (in-part a b y z t)
    where
      go : d ≡ x → ((o : List ℕ) × (a ≡ y ++ (c ∷ o)) × (z ≡ o ++ b)) ⊎ ((x : List ℕ) × (b ≡ x ++ (c ∷ z)))
          → ((o : List ℕ) × (d ∷ a ≡ x ∷ (y ++ (c ∷ o))) × (z ≡ o ++ b)) ⊎ ((x : List ℕ) × (b ≡ x ++ (c ∷ z)))
      go h (inl p) = inl (p.0, rw (h, p.1), p.2)
      go h (inr p) = inr p

  module _ (F : List ℕ → Type 0) where
    pub behind-none : (xs : List ℕ) → Every (λ d. d ≡ c → ⊥) xs → Behind c F xs
    behind-none [] all [] z e = let n = ap length e in absurd (omega arith)
    behind-none [] all (d ∷ y) z e = let n = ap length e in absurd (omega arith)
    behind-none (d ∷ xs) all [] z e = let h : d ≡ c = cc in absurd (all.0 h)
    behind-none (d ∷ xs) all (x ∷ y) z e = let t : xs ≡ y ++ (c ∷ z) = cc in behind-none xs all.1 y z t

    module _ (grow : (z b : List ℕ) → F z → F (z ++ b)) where
      pub behind-both : (a b : List ℕ) → Behind c F a → Behind c F b → Behind c F (a ++ b)
      behind-both a b f g y z e = go (in-part a b y z e)
        where
          go : ((o : List ℕ) × (a ≡ y ++ (c ∷ o)) × (z ≡ o ++ b)) ⊎ ((x : List ℕ) × (b ≡ x ++ (c ∷ z))) → F z
          go (inl p) = subst F (sym p.2) (grow p.0 b (f y p.0 p.1))
          go (inr p) = g p.0 z p.1

      -- a program's rows, from those of its ends, words and sequence words
      module _ (other : (9 ≡ c → ⊥) × (37 ≡ c → ⊥) × (47 ≡ c → ⊥)) (of_end : (e : List ℕ) → End e → Behind c F e) where
        tab-behind : (y : Way) → Behind c F (tab y)
        tab-behind by_letter = behind-none [] tt
        tab-behind by_both = behind-none (9 ∷ []) (other.0, tt)
        tab-behind by_tab = behind-none (9 ∷ []) (other.0, tt)

        skip-behind : (skip : Bool) → Behind c F (skip_rows skip)
        skip-behind true = behind-none (47 ∷ []) (other.2, tt)
        skip-behind false = behind-none [] tt

        -- of each item's words
        abbrev pub OfWords : Item → Type 0
        OfWords i = (y : Way) (w : Word) (d : List ℕ) → Worded y i w d → Behind c F d

        words-behind : {y : Way} {its : List Item} {ws : List Word} {r : List ℕ} → Every OfWords its → Words y its ws r → Behind c F r
        words-behind all done = behind-none [] tt
        words-behind {y} all (out {r = r} h) = behind-both (tab y) r (tab-behind y) (words-behind all.1 h)
        words-behind {y} all (here {w = w} {d = d} {r = r} q h) =
            behind-both (tab y) (d ++ r) (tab-behind y) (behind-both d r (all.0 y w d q) (words-behind all.1 h))

        module _ (f : Format) (of_words : Every OfWords (items_of f)) (of_number : (alignment : Bool) (n : ℕ) → n < 10 ^ f.sequence → Behind c F (cond alignment 58 78 ∷ digits f.sequence n)) where
          start-behind : {s : Begun} → Start f s → Behind c F (start_rows f.sequence s)
          start-behind (counted {n} skip alignment small) = behind-both (skip_rows skip) (cond alignment 58 78 ∷ digits f.sequence n) (skip-behind skip) (of_number alignment n small)
          start-behind (bare skip allowed) = behind-both (skip_rows skip) [] (skip-behind skip) (behind-none [] tt)

          block-behind : {b : Block} {x : List ℕ} → Blocked f b x → Behind c F x
          block-behind (block {s} {r = r} {e = e} start some w end) =
              behind-both (start_rows f.sequence s) (r ++ e) (start-behind start) (behind-both r e (words-behind of_words w) (of_end e end))

          blocks-behind : {bs : List Block} {x : List ℕ} → Blocks f bs x → Behind c F x
          blocks-behind Blocks.none = behind-none [] tt
          blocks-behind (Blocks.more {r = r} {s = s} b h) = behind-both r s (block-behind b) (blocks-behind h)

          pub program-behind : {bs : List Block} {x : List ℕ} → Program f bs x → Behind c F x
          program-behind (program {e = e} {r = r} end h) =
              behind-both (37 ∷ []) (e ++ r) (behind-none (37 ∷ []) (other.1, tt)) (behind-both e r (of_end e end) (blocks-behind h))

-- ---- data hold digits and signs alone

module _ {P : ℕ → Type 0} (digit : (c : ℕ) → Digit c → P c) (plus-sign : P 43) (minus-sign : P 45) where
  pub every-digit : (xs : List ℕ) → Every Digit xs → Every P xs
  every-digit [] all = tt
  every-digit (c ∷ xs) all = (digit c all.0, every-digit xs all.1)

  pub every-sign : {m : ℕ} {g : Sign} {z : ℤ} {s : List ℕ} → Signed m g z s → Every P s
  every-sign never = tt
  every-sign plus = (plus-sign, tt)
  every-sign minus = (minus-sign, tt)
  every-sign plus_stands = (plus-sign, tt)
  every-sign minus_stands = (minus-sign, tt)
  every-sign plus_missing = tt

  pub every-data : {j : Kind} {v : Value} {d : List ℕ} → Data j v d → Every P d
  every-data (number {ds = ds} p) = every-digit ds (reads p).digit
  every-data (speed {k = j} c e) = every-digit (digits j c) (digits-digit j c (read_short j c e))
  every-data (dimension {s = s} {ds = ds} g p) = every_append P s ds (every-sign g) (every-digit ds (reads p).digit)

  pub every-word : (y : Way) (it : Item) → P it.letter → {w : Word} {d : List ℕ} → Worded y it w d → Every P d
  every-word by_letter it l (word q) = (l, every-data q)
  every-word by_both it l (word q) = (l, every-data q)
  every-word by_tab it l (word q) = every-data q
