-- A word that stands as its item allows is read: its figures, its sign, its data.
use Prim.Native.Nat.{ℕ, ◌^◌, ◌≤◌, ◌<◌}
use mathlib.Core.Path.{◌≡◌, refl, ap, ◌∙◌}
use mathlib.Core.Bool.{Bool, true, false}
use mathlib.Core.List.{List, [], ◌∷◌, ◌++◌, append_assoc}
use native.Mathlib.Nat.{zero-add}
use native.Mathlib.Omega.{arith}
use lib.ListN.{length, length-append}
use lib.IntN.{ℤ}
use lib.Dec.{eqb}
use borrow.Author.Tests.{le-leb}
use Rattle.rows.specs.Answer.{taken}
use Rattle.rows.specs.Kept.{KeptRow}
use Rattle.rows.specs.Passes.{Every}
use Rattle.speeds.proofs.Answers.{read_short}
use Rattle.shorthand.specs.declared.Missing.{Missing}
use Rattle.shorthand.specs.declared.Missing.TheVariants.{Nothing, Leading, Trailing}
use Rattle.shorthand.specs.declared.Kind.{Kind}
use Rattle.shorthand.specs.declared.Kind.TheVariants.{Plain}
use Rattle.shorthand.specs.declared.Item.{Item}
use Rattle.shorthand.specs.Layout.{width, missing_of, fewest, Sign, barred, required, optional, sign_of}
use Rattle.shorthand.specs.Facts.{Widths}
use Rattle.words.specs.declared.Value.{Value}
use Rattle.reading.specs.Relation.{digits, Punched, in_full, front, back, Signed, never, plus, minus, plus_stands, minus_stands, plus_missing, Data, number, speed, dimension, chars}
use Rattle.words.specs.declared.Wanted.{Wanted}
use Rattle.words.specs.Figures.{is_digit, restored, figures, is_sign, is_figure, may_stand, may_miss, signed}
use Rattle.words.specs.Data.{signed_value, meant, data_at, word_at}
use Rattle.reading.proofs.DigitRows.{Digit, worth, digits-length, digits-digit, digits-worth, leading-worth, leading_length, leading-digit, trailing-worth, trailing-length, trailing-digit}
use Rattle.reading.proofs.RowsAhead.{heads, digit-heads, is_digit_lem, digit-no-sign, Takes, run-takes}

-- ---- figures

-- characters of a number of n digits, and the number that they are restored to
pub record Reads (z : Missing) (n v : ℕ) (ds : List ℕ) : Type 0 where
  pub digit : Every Digit ds
  pub most : length ds ≤ n
  pub least : fewest z n ≤ length ds
  pub value : (rest : List KeptRow) → restored z n (record { number = worth 0 ds; count = length ds; rest = rest }) ≡ v

pub reads-full : (n v : ℕ) → v < 10 ^ n → Reads Nothing n v (digits n v)
reads-full n v h =
    record {
      digit = digits-digit n v h;
      most = omega (arith, digits-length n v);
      least = omega (arith, digits-length n v);
      value = λ rest. digits-worth n v 0 h ∙ omega arith;
    }

pub reads : {n v : ℕ} {z : Missing} {ds : List ℕ} → Punched n v z ds → Reads z n v ds
reads (in_full h) = reads-full _ _ h
reads {n} {v} {ds = ds} (front j h e some) =
    record { digit = leading-digit n v j ds h e; most = leading_length n v j ds h e; least = some; value = λ rest. leading-worth n v j ds h e }
reads {n} {v} {ds = ds} (back j h e some) =
    record {
      digit = trailing-digit n v j ds h e;
      most = omega (arith, trailing-length n v j ds h e);
      least = some;
      value = λ rest. trailing-worth n v j ds h e;
    }

pub figures-take : (len : ℕ) (x : Wanted) (n v : ℕ) (z : Missing) (ds u : List ℕ) (rs : List KeptRow) → Reads z n v ds → chars rs ≡ ds ++ u → heads is_digit u ≡ false → Takes (figures len x z n rs) v u
unfolding figures
figures-take len x n v z ds u rs p e h =
    let q = run-takes n 0 0 ds u rs p.digit p.most e h in
    record {
      rest = q.0;
      takes = rw (q.1, zero-add, le-leb (fewest z n) (length ds) p.least, digit-heads q.0, q.2, h, p.value q.0);
      leaves = q.2;
    }

-- ---- a sign

missing : (len : ℕ) (s : Sign) (rs : List KeptRow) (x : List ℕ) → may_miss s ≡ true → chars rs ≡ x → 0 < length x → heads is_sign x ≡ false → Takes (signed len s rs) false x
missing len s [] x m e some h = let z = ap length e in absurd (omega arith)
missing len s (r ∷ rs) x m e some h =
    let n : is_sign r.char ≡ false = ap (heads is_sign) e ∙ h in
    record { rest = r ∷ rs; takes = rw (n, m); leaves = e }

standing : (len : ℕ) (s : Sign) (c : ℕ) (rs : List KeptRow) (x : List ℕ) → may_stand s ≡ true → is_sign c ≡ true → chars rs ≡ c ∷ x → Takes (signed len s rs) (eqb c 45) x
standing len s c [] x m h e = let z = ap length e in absurd (omega arith)
standing len s c (r ∷ rs) x m h e = let q : r.char ≡ c = cc in record { rest = rs; takes = rw (q, h, m); leaves = cc }

signed-takes : {m : ℕ} {sg : Sign} {z : ℤ} {s : List ℕ} → Signed m sg z s → (len : ℕ) (rs : List KeptRow) (x : List ℕ) → chars rs ≡ s ++ x → 0 < length x → heads is_sign x ≡ false
    → (b : Bool) × Takes (signed len sg rs) b x × (signed_value b m ≡ z)
signed-takes never len rs x e some h = (false, missing len barred rs x refl e some h, refl)
signed-takes plus len rs x e some h = (false, standing len required 43 rs x refl refl e, refl)
signed-takes minus len rs x e some h = (true, standing len required 45 rs x refl refl e, refl)
signed-takes plus_stands len rs x e some h = (false, standing len optional 43 rs x refl refl e, refl)
signed-takes minus_stands len rs x e some h = (true, standing len optional 45 rs x refl refl e, refl)
signed-takes plus_missing len rs x e some h = (false, missing len optional rs x refl e some h, refl)

-- ---- data

-- figures begin with a digit, which is no sign
fewest-some : (z : Missing) (n : ℕ) → 1 ≤ n → 1 ≤ fewest z n
fewest-some Nothing n h = h
fewest-some Leading n h = omega arith
fewest-some Trailing n h = omega arith

no_sign : (ds u : List ℕ) → Every Digit ds → 1 ≤ length ds → heads is_sign (ds ++ u) ≡ false
no_sign [] u all some = absurd (omega arith)
no_sign (d ∷ ds) u all some = digit-no-sign d all.0

-- the sign, the figures and their meaning make the data of any kind
parts-take : (len a m : ℕ) (k : Kind) {z : ℤ} {s ds : List ℕ} {x : Value} → Signed m (sign_of k) z s → Reads (missing_of k) (width k) m ds → 1 ≤ width k
    → ((b : Bool) → signed_value b m ≡ z → meant a k b m ≡ taken x) → (rs : List KeptRow) (u : List ℕ) → chars rs ≡ s ++ (ds ++ u) → heads is_digit u ≡ false
    → Takes (data_at len a k rs) x u
unfolding data_at
parts-take len a m k {ds = ds} g p w means rs u e h =
    let some : 1 ≤ length ds = omega (arith, p.least, fewest-some (missing_of k) (width k) w) in
    let b = signed-takes g len rs (ds ++ u) e (omega (arith, length-append ds u)) (no_sign ds u p.digit some) in
    let q = figures-take len Wanted.Digits (width k) m (missing_of k) ds u b.1.rest p b.1.leaves h in
    record { rest = q.rest; takes = rw (b.1.takes, q.takes, means b.0 b.2); leaves = q.leaves }

data-takes : {k : Kind} {x : Value} {d : List ℕ} → Data k x d → Widths k → (len a : ℕ) (rs : List KeptRow) (u : List ℕ) → chars rs ≡ d ++ u → heads is_digit u ≡ false → Takes (data_at len a k rs) x u
data-takes (number {n} {v} q) w len a rs u e h = parts-take len a v (Plain n) never (reads q) w.0 (λ b t. refl) rs u e h
data-takes (speed {k} {v} c q) w len a rs u e h = parts-take len a c (Kind.Speed k) never (reads-full k c (read_short k c q)) (omega arith) (λ b t. rw q) rs u e h
data-takes (dimension {d} {m} {s = s} {ds} g q) w len a rs u e h =
    parts-take len a m (Kind.Dimension d) g (reads q) w.2 (λ b t. rw t) rs u (e ∙ append_assoc s ds u) h

-- they begin with a digit or a sign
figures-front : (ds u : List ℕ) → Every Digit ds → 1 ≤ length ds → heads is_figure (ds ++ u) ≡ true
figures-front [] u all some = absurd (omega arith)
figures-front (d ∷ ds) u all some = rw (is_digit_lem d all.0)

sign-front : {m : ℕ} {g : Sign} {z : ℤ} {s : List ℕ} → Signed m g z s → (x : List ℕ) → heads is_figure x ≡ true → heads is_figure (s ++ x) ≡ true
sign-front never x h = h
sign-front plus x h = refl
sign-front minus x h = refl
sign-front plus_stands x h = refl
sign-front minus_stands x h = refl
sign-front plus_missing x h = h

reads-front : (k : Kind) {m : ℕ} {ds : List ℕ} → Reads (missing_of k) (width k) m ds → 1 ≤ width k → (u : List ℕ) → heads is_figure (ds ++ u) ≡ true
reads-front k {ds = ds} p w u = figures-front ds u p.digit (omega (arith, p.least, fewest-some (missing_of k) (width k) w))

pub data-front : {k : Kind} {x : Value} {d : List ℕ} → Data k x d → Widths k → (u : List ℕ) → heads is_figure (d ++ u) ≡ true
data-front (number {n} q) w u = reads-front (Plain n) (reads q) w.0 u
data-front (speed {k} {v} c q) w u = reads-front (Kind.Speed k) (reads-full k c (read_short k c q)) (omega arith) u
data-front (dimension {d} {s = s} {ds} g q) w u = rw (append_assoc s ds u) (sign-front g (ds ++ u) (reads-front (Kind.Dimension d) (reads q) w.2 u))

-- ---- a word

pub word-takes : (it : Item) {x : Value} {d : List ℕ} → Data it.kind x d → Widths it.kind → (len a : ℕ) (rs : List KeptRow) (u : List ℕ) → chars rs ≡ d ++ u → heads is_digit u ≡ false
    → Takes (word_at len it a rs) (record { letter = it.letter; value = x }) u
word-takes it q w len a rs u e h = let t = data-takes q w len a rs u e h in record { rest = t.rest; takes = rw t.takes; leaves = t.leaves }
