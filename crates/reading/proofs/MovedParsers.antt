-- The parsers of words and of a block's parts on rows that stand d places further on: they answer the same, and every place, of a refusal too, is moved by d.
use Prim.Native.Nat.{ℕ, zero, suc, ◌+◌, ◌*◌, ◌-◌}
use mathlib.Core.Path.{◌≡◌, refl}
use mathlib.Core.Bool.{Bool, true, false, ◌&&◌, ◌||◌, not}
use mathlib.Core.List.{List, [], ◌∷◌, map}
use lib.Dec.{eqb, leb}
use Rattle.rows.specs.Answer.{Answer, taken, refused, ◌>>=◌}
use Rattle.rows.specs.Kept.{KeptRow}
use Rattle.speeds.specs.declared.Speed.{Speed}
use Rattle.speeds.specs.Meaning.{speed_for}
use Rattle.shorthand.specs.declared.Kind.{Kind}
use Rattle.shorthand.specs.declared.Kind.TheVariants.{Plain}
use Rattle.shorthand.specs.declared.Missing.{Missing}
use Rattle.shorthand.specs.declared.Missing.TheVariants.{Nothing, Leading, Trailing}
use Rattle.shorthand.specs.declared.Item.{Item}
use Rattle.shorthand.specs.declared.Format.{Format}
use Rattle.shorthand.specs.Layout.{fewest, Sign, items_of, width, missing_of, sign_of, Way, by_letter, by_both, by_tab, way_of}
use Rattle.words.specs.declared.Wanted.{Wanted}
use Rattle.words.specs.Figures.{Behind, wrong, fronts, is_digit, digit_next, is_figure, Run, run, restored, figures, is_sign, may_stand, may_miss, signed}
use Rattle.words.specs.Data.{spoken, meant, data_at, word_at}
use Rattle.parts.specs.Ends.{after_cr, ended, close_at}
use Rattle.parts.specs.Starts.{bare_at, number_at, start_at}
use Rattle.parts.specs.Items.{Standing, stops, out, at, standing, turn, any_turn, bare_in}
use Rattle.reading.proofs.MovedRows.{moved, moved_row, either}

-- ---- what is moved

abbrev pub moved_behind : {A B : Type 0} → ℕ → (A → B) → Behind A → Behind B
moved_behind d g b = record { value = g b.value; rest = map (moved_row d) b.rest }

-- a value without places, and a place
abbrev pub same : {A : Type 0} → ℕ → Behind A → Behind A
same d = moved_behind d (λ x. x)

abbrev pub further : ℕ → Behind ℕ → Behind ℕ
further d = moved_behind d (λ p. d + p)

abbrev moved_run : ℕ → Run → Run
moved_run d q = record { number = q.number; count = q.count; rest = map (moved_row d) q.rest }

abbrev pub moved_standing : ℕ → Standing → Standing
moved_standing d stops = stops
moved_standing d (out u) = out (map (moved_row d) u)
moved_standing d (at a u) = at (d + a) (map (moved_row d) u)

-- ---- one parser behind another

-- what the first takes is moved by h, and what the second answers by g
pub then-moved : {A B C D : Type 0} (d : ℕ) (h : A → B) (g : C → D) (x : Answer A) {y : Answer B} (k : A → Answer C) (l : B → Answer D)
    → y ≡ moved d h x → ((a : A) → l (h a) ≡ moved d g (k a)) → (y >>= l) ≡ moved d g (x >>= k)
then-moved d h g (taken a) k l e c = rw e (c a)
then-moved d h g (refused n p) k l e c = rw e

module _ (d : ℕ) where
  -- ---- tests, which see characters alone

  fronts-moved : (c : ℕ) (rs : List KeptRow) → fronts c (map (moved_row d) rs) ≡ fronts c rs
  fronts-moved c [] = refl
  fronts-moved c (r ∷ rs) = refl

  digit-moved : (rs : List KeptRow) → digit_next (map (moved_row d) rs) ≡ digit_next rs
  digit-moved [] = refl
  digit-moved (r ∷ rs) = refl

  turn_moved : (y : Way) (its : List Item) (rs : List KeptRow) → any_turn y its (map (moved_row d) rs) ≡ any_turn y its rs
  turn_moved y [] rs = refl
  turn_moved y (it ∷ its) rs = rw (fronts-moved (turn y it) rs, turn_moved y its rs)

  -- where a block without number may begin
  pub bare-moved : (f : Format) (rs : List KeptRow) → bare_in f (map (moved_row d) rs) ≡ bare_in f rs
  bare-moved f rs = rw (turn_moved (way_of f) (items_of f) rs, fronts-moved 10 rs, fronts-moved 13 rs)

  -- how an item stands: at the row where its word begins
  pub standing-moved : (y : Way) (c : ℕ) (rs : List KeptRow) → standing y c (map (moved_row d) rs) ≡ moved_standing d (standing y c rs)
  standing-moved by_letter c [] = refl
  standing-moved by_letter c (r ∷ rs) = either (moved_standing d) (eqb r.char c) refl refl
  standing-moved by_both c [] = refl
  standing-moved by_both c (r ∷ []) = either (moved_standing d) (eqb r.char 9) refl refl
  standing-moved by_both c (r ∷ q ∷ rs) = either (moved_standing d) (eqb r.char 9) (either (moved_standing d) (eqb q.char c) refl refl) refl
  standing-moved by_tab c [] = refl
  standing-moved by_tab c (r ∷ []) = either (moved_standing d) (eqb r.char 9) refl refl
  standing-moved by_tab c (r ∷ q ∷ rs) = either (moved_standing d) (eqb r.char 9) (either (moved_standing d) (is_figure q.char) refl refl) refl

  -- ---- digits, and what they mean, with 13 at a word's first row

  run_moved : (n v k : ℕ) (rs : List KeptRow) → run n v k (map (moved_row d) rs) ≡ moved_run d (run n v k rs)
  unfolding run
  run_moved zero v k rs = refl
  run_moved (suc n) v k [] = refl
  run_moved (suc n) v k (r ∷ rs) = either (moved_run d) (is_digit r.char) (run_moved n (v * 10 + (r.char - 48)) (suc k) rs) refl

  restored-moved : (z : Missing) (n : ℕ) (q : Run) → restored z n (moved_run d q) ≡ restored z n q
  restored-moved Nothing n q = refl
  restored-moved Leading n q = refl
  restored-moved Trailing n q = refl

  spoken-moved : (a : ℕ) (s : Answer Speed) → spoken (d + a) s ≡ moved d (λ x. x) (spoken a s)
  spoken-moved a (taken s) = refl
  spoken-moved a (refused n p) = refl

  meant-moved : (a : ℕ) (k : Kind) (minus : Bool) (m : ℕ) → meant (d + a) k minus m ≡ moved d (λ x. x) (meant a k minus m)
  meant-moved a (Plain n) minus m = refl
  meant-moved a (Kind.Speed n) minus m = spoken-moved a (speed_for n m)
  meant-moved a (Kind.Dimension n) minus m = refl

module _ (d len : ℕ) where
  -- where the tape has ended the length is moved too
  wrong-moved : {A B : Type 0} (g : A → B) (w : Wanted) (rs : List KeptRow) → wrong (d + len) w (map (moved_row d) rs) ≡ moved d g (wrong len w rs)
  wrong-moved g w [] = refl
  wrong-moved g w (r ∷ rs) = refl

  -- ---- words

  figures-moved : (w : Wanted) (z : Missing) (n : ℕ) (rs : List KeptRow) → figures (d + len) w z n (map (moved_row d) rs) ≡ moved d (same d) (figures len w z n rs)
  unfolding figures
  figures-moved w z n rs =
      let q = run n 0 0 rs in
      rw (run_moved d n 0 0 rs, digit-moved d q.rest, restored-moved d z n q)
      (either (moved d (same d)) (leb (fewest z n) q.count && not (digit_next q.rest)) refl (wrong-moved (same d) w q.rest))

  signed-moved : (s : Sign) (rs : List KeptRow) → signed (d + len) s (map (moved_row d) rs) ≡ moved d (same d) (signed len s rs)
  signed-moved s [] = refl
  signed-moved s (r ∷ rs) =
      let m = moved d (same {A = Bool} d) in
      either m (is_sign r.char) (either m (may_stand s) refl refl) (either m (may_miss s) refl refl)

  data-moved : (a : ℕ) (k : Kind) (rs : List KeptRow) → data_at (d + len) (d + a) k (map (moved_row d) rs) ≡ moved d (same d) (data_at len a k rs)
  unfolding data_at
  data-moved a k rs =
      then-moved d (same d) (same d) (signed len (sign_of k) rs) _ _ (signed-moved (sign_of k) rs) (λ s.
      let z = missing_of k in
      then-moved d (same d) (same d) (figures len Wanted.Digits z (width k) s.rest) _ _ (figures-moved Wanted.Digits z (width k) s.rest) (λ m.
      then-moved d (λ x. x) (same d) (meant a k s.value m.value) _ _ (meant-moved d a k s.value m.value) (λ x. refl)))

  pub word_moved : (it : Item) (a : ℕ) (rs : List KeptRow) → word_at (d + len) it (d + a) (map (moved_row d) rs) ≡ moved d (same d) (word_at len it a rs)
  word_moved it a rs = then-moved d (same d) (same d) (data_at len a it.kind rs) _ _ (data-moved a it.kind rs) (λ x. refl)

  -- ---- ends

  cr-moved : (w : Wanted) (cr : KeptRow) (rs : List KeptRow) → after_cr (d + len) w (moved_row d cr) (map (moved_row d) rs) ≡ moved d (further d) (after_cr len w cr rs)
  cr-moved w cr [] = refl
  cr-moved w cr (r ∷ rs) = either (moved d (further d)) (eqb r.char 10) refl refl

  ended-moved : (w : Wanted) (rs : List KeptRow) → ended (d + len) w (map (moved_row d) rs) ≡ moved d (further d) (ended len w rs)
  ended-moved w [] = refl
  ended-moved w (r ∷ rs) = either (moved d (further d)) (eqb r.char 10) refl (either (moved d (further d)) (eqb r.char 13) (cr-moved w r rs) refl)

  pub close-moved : (empty : Bool) (rs : List KeptRow) → close_at (d + len) empty (map (moved_row d) rs) ≡ moved d (further d) (close_at len empty rs)
  close-moved empty rs =
      then-moved d (further d) (further d) (ended len Wanted.End rs) _ _ (ended-moved Wanted.End rs) (λ e. either (moved d (further d)) empty refl refl)

  -- ---- starts, where bare sees characters alone

  module _ (n : ℕ) (bare : List KeptRow → Bool) (blind : (rs : List KeptRow) → bare (map (moved_row d) rs) ≡ bare rs) where
    unnumbered-moved : (skip : Bool) (rs : List KeptRow) → bare_at (d + len) bare skip (map (moved_row d) rs) ≡ moved d (same d) (bare_at len bare skip rs)
    unnumbered-moved skip rs = rw (blind rs) (either (moved d (same d)) (bare rs) refl (wrong-moved (same d) Wanted.Start rs))

    number-moved : (skip : Bool) (rs : List KeptRow) → number_at (d + len) n bare skip (map (moved_row d) rs) ≡ moved d (same d) (number_at len n bare skip rs)
    number-moved skip [] = unnumbered-moved skip []
    number-moved skip (r ∷ rs) =
        either (moved d (same d)) (eqb r.char 78 || eqb r.char 58)
        (then-moved d (same d) (same d) (figures len Wanted.Start Nothing n rs) _ _ (figures-moved Wanted.Start Nothing n rs) (λ v. refl))
        (unnumbered-moved skip (r ∷ rs))

    pub start-moved : (rs : List KeptRow) → start_at (d + len) n bare (map (moved_row d) rs) ≡ moved d (same d) (start_at len n bare rs)
    unfolding start_at
    start-moved [] = number-moved false []
    start-moved (r ∷ rs) = either (moved d (same d)) (eqb r.char 47) (number-moved true rs) (number-moved false (r ∷ rs))
