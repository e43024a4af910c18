-- How an item's word goes from its first row on, 13 among its stops.
use Prim.Native.Nat.{ℕ, ◌^◌, ◌<◌}
use mathlib.Core.Path.{◌≡◌, refl, sym, ap, ◌∙◌, subst}
use mathlib.Core.Logic.{◌⊎◌, inl, inr}
use mathlib.Core.Bool.{Bool, true, false, ◌||◌, cond, false≢true}
use mathlib.Core.List.{List, [], ◌∷◌, ◌++◌, append_assoc}
use native.Mathlib.Omega.{arith}
use lib.ListN.{length, length-append, length-map}
use borrow.Author.Tests.{eqb-true}
use Rattle.rows.specs.Answer.{Answer, taken, refused, ◌>>=◌}
use Rattle.rows.specs.Kept.{KeptRow}
use Rattle.rows.specs.Passes.{Every}
use Rattle.speeds.specs.declared.Speed.{Speed}
use Rattle.speeds.specs.Meaning.{speed_for}
use Rattle.speeds.proofs.Answers.{code-judged}
use Rattle.shorthand.specs.declared.Missing.TheVariants.{Nothing}
use Rattle.shorthand.specs.declared.Kind.{Kind}
use Rattle.shorthand.specs.declared.Kind.TheVariants.{Plain}
use Rattle.shorthand.specs.declared.Item.{Item}
use Rattle.shorthand.specs.Layout.{Way, by_letter, by_both, by_tab, width, missing_of, sign_of}
use Rattle.shorthand.specs.Facts.{Widths}
use Rattle.words.specs.declared.Value.{Value}
use Rattle.words.specs.declared.Word.{Word}
use Rattle.reading.specs.Relation.{digits, Data, number, speed, dimension, address, chars}
use Rattle.words.specs.declared.Wanted.{Wanted}
use Rattle.words.specs.Figures.{Behind, taking, wrong, fronts, behind, front_place, is_digit, is_sign, is_figure, figures, signed}
use Rattle.words.specs.Data.{meant, data_at, word_at}
use Rattle.parts.specs.Items.{begins, past_address}
use Rattle.reading.proofs.Outcomes.{chars-append}
use Rattle.reading.proofs.ReadData.{barred-none, sign-is}
use Rattle.reading.proofs.DigitRows.{worth, digits-length, digits-digit, digits-worth}
use Rattle.reading.proofs.RowsAhead.{digit-no-sign}
use Rattle.places.specs.Begins.{Digit}
use Rattle.places.specs.Faults.{Enters}
use Rattle.places.proofs.Steady.{Next, next-any, Refuses, refuses-bind, held_after, Goes, took, held, goes-alone}
use Rattle.places.proofs.DigitLists.{digit-is, coded, some-punched, some-width, fewest-some}
use Rattle.places.proofs.Dues.{Some, stands}
use Rattle.places.proofs.FigureStops.{Figured, Firm, figured-firm, suits, figures-are}
use Rattle.places.proofs.SignStops.{Given, DataStop, given, given-goes}

-- ---- the parser as one step behind the sign and the figures

regroup : (x : Answer (Behind Bool)) (g : List KeptRow → Answer (Behind ℕ)) (h : Bool → ℕ → List KeptRow → Answer (Behind Value)) (j : Behind Value → Answer (Behind Word))
    → (x >>= λ s. g s.rest >>= λ m. h s.value m.value m.rest) >>= j
    ≡ (x >>= λ s. g s.rest >>= λ m. taking {A = Bool × ℕ} (s.value, m.value) m.rest) >>= λ y. h y.value.0 y.value.1 y.rest >>= j
regroup (taken s) g h j = inner (g s.rest)
  where
    inner : (y : Answer (Behind ℕ)) → (y >>= λ m. h s.value m.value m.rest) >>= j
        ≡ (y >>= λ m. taking {A = Bool × ℕ} (s.value, m.value) m.rest) >>= λ y. h y.value.0 y.value.1 y.rest >>= j
    inner (taken m) = refl
    inner (refused n p) = refl
regroup (refused n p) g h j = refl

-- what is made of a sign and a number
abbrev verdict : ℕ → Item → Behind (Bool × ℕ) → Answer (Behind Word)
verdict a it g = (meant a it.kind g.value.0 g.value.1 >>= λ x. taking x g.rest) >>= λ x. taking (record { letter = it.letter; value = x.value }) x.rest

word-is : (len : ℕ) (it : Item) (a : ℕ) (l : List KeptRow) → word_at len it a l ≡ given len it.kind l >>= verdict a it
unfolding data_at
word-is len it a l =
    regroup (signed len (sign_of it.kind) l) (figures len Wanted.Digits (missing_of it.kind) (width it.kind)) (λ neg m rest. meant a it.kind neg m >>= λ x. taking x rest)
    (λ x. taking (record { letter = it.letter; value = x.value }) x.rest)

-- ---- what was given stands as a word's data

pub full-digits : (j m : ℕ) (u : List ℕ) {rest : List KeptRow} → Figured Nothing j m u rest → (m < 10 ^ j) × (u ≡ digits j m)
full-digits j m u h =
    let c = coded j u h.all (omega (arith, h.least, h.most)) in
    let e : m ≡ c.0 = h.value refl ∙ ap (worth 0) c.2 ∙ digits-worth j c.0 0 c.1 ∙ omega arith in
    (subst (λ x. x < 10 ^ j) (sym e) c.1, c.2 ∙ ap (digits j) (sym e))

-- the rows u are data, and mean something; or 13, wherever the word begins
data Judged (k : Kind) (neg : Bool) (m : ℕ) (u : List ℕ) : Type 0 where
  means : {x : Value} → ((a : ℕ) → meant a k neg m ≡ taken x) → (v : Value) × Data k v u → Judged k neg m u
  second : {j : ℕ} → ((a : ℕ) → meant a k neg m ≡ refused 13 a) → k ≡ Kind.Speed j → m < 10 ^ j → u ≡ digits j m → speed_for j m ≡ refused 13 0 → Judged k neg m u

module _ (neg : Bool) (m : ℕ) (u : List ℕ) where
  judged : (k : Kind) {rest : List KeptRow} → Widths k → Given k (neg, m) u rest → Judged k neg m u
  judged (Plain n) w g =
      let p = some-punched Nothing n g.ds g.figured.all g.figured.least g.figured.most in
      let e : u ≡ g.ds = g.split ∙ ap (λ s. s ++ g.ds) (barred-none (g.signs 0)) in
      means (λ a. refl) (rw e (_, number p.1))
  judged (Kind.Speed j) w g =
      let e : u ≡ g.ds = g.split ∙ ap (λ s. s ++ g.ds) (barred-none (g.signs 0)) in
      let f = full-digits j m g.ds g.figured in
      go (e ∙ f.1) f.0 (code-judged j m w.0 w.1 f.0)
    where
      go : u ≡ digits j m → m < 10 ^ j → ((s : Speed) × (speed_for j m ≡ taken s)) ⊎ (speed_for j m ≡ refused 13 0) → Judged (Kind.Speed j) neg m u
      go e f (inl (s, q)) = means {x = Value.Speed s} (λ a. rw q) (rw e (_, speed m q))
      go e f (inr q) = second (λ a. rw q) refl f e q
  judged (Kind.Dimension d) w g =
      let p = some-punched (missing_of (Kind.Dimension d)) (width (Kind.Dimension d)) g.ds g.figured.all g.figured.least g.figured.most in
      means (λ a. refl) (rw g.split (_, dimension (g.signs p.0) p.1))

-- ---- the address

-- the rows with the characters x at the front, and those past them
pub record Passed (past : List KeptRow → List KeptRow) (x : List ℕ) (rs : List KeptRow) : Type 0 where
  pub rows : List KeptRow
  pub split : rs ≡ rows ++ past rs
  pub is : chars rows ≡ x
  pub over : (l : List KeptRow) → past (rows ++ l) ≡ l

pub pass-none : (rs : List KeptRow) → Passed (λ l. l) [] rs
pass-none rs = record { rows = []; split = refl; is = refl; over = λ l. refl }

pub pass-row : (c : ℕ) (rs : List KeptRow) → fronts c rs ≡ true → Passed behind (c ∷ []) rs
pass-row c [] e = absurd (false≢true e)
pass-row c (r ∷ rs) e = record { rows = r ∷ []; split = refl; is = rw (eqb-true r.char c e); over = λ l. refl }

figure-is : (c : ℕ) → is_figure c ≡ true → Enters by_tab c
figure-is c e = go (is_digit c) refl e
  where
    go : (b : Bool) → is_digit c ≡ b → (b || is_sign c) ≡ true → Enters by_tab c
    go true d e = inl (digit-is c d)
    go false d e = inr (sign-is c e)

-- where an item's word begins, its address is passed
pass-address : (y : Way) (it : Item) (rs : List KeptRow) → begins y it.letter rs ≡ true → Passed (past_address y) (address y it) rs
pass-address by_letter it rs e = pass-row it.letter rs e
pass-address by_both it rs e = pass-row it.letter rs e
pass-address by_tab it rs e = pass-none rs

-- and what stands past it may begin the data
enters : (y : Way) (c : ℕ) (rs : List KeptRow) → begins y c rs ≡ true → Next (Enters y) (past_address y rs)
enters by_letter c rs e = next-any (λ c. tt) (behind rs)
enters by_both c rs e = next-any (λ c. tt) (behind rs)
enters by_tab c [] e = tt
enters by_tab c (r ∷ rs) e = figure-is r.char e

-- ---- the word

-- the word that begins at the front
abbrev pub word_here : ℕ → Way → Item → List KeptRow → Answer (Behind Word)
word_here len y it rs = word_at len it (front_place rs) (past_address y rs)

-- some word of the item, and nothing behind it goes on with it
abbrev pub SomeWord : Way → Item → Word → List ℕ → List KeptRow → Type 0
SomeWord y it w u rest = Some y it u × ((x : List ℕ) → Firm y (x ++ u) rest)

pub data WordStop (y : Way) (it : Item) : ℕ → List ℕ → List ℕ → List ℕ → Type 0 where
  in_data : {n : ℕ} {b ds w : List ℕ} → DataStop y it.kind n b ds w → WordStop y it n (address y it ++ b) ds w
  thirteen : {j : ℕ} (c : ℕ) → it.kind ≡ Kind.Speed j → c < 10 ^ j → speed_for j c ≡ refused 13 0 → WordStop y it 13 [] [] (address y it ++ digits j c)

pub refuses-wrong : (A : Type 0) (len : ℕ) (w : Wanted) (l : List KeptRow) → Refuses (wrong {A = A} len w l)
refuses-wrong A len w [] = tt
refuses-wrong A len w (r ∷ l) = tt

-- the digits of a refused code are refused, whatever stands behind them
module _ (len j : ℕ) (speeds : Widths (Kind.Speed j)) where
  given-digits : (u l : List KeptRow) → Every Digit (chars u) → length u ≡ j → given len (Kind.Speed j) (u ++ l)
      ≡ cond (suits Nothing j u l) (taking {A = Bool × ℕ} (false, worth 0 (chars u)) l) (wrong len Wanted.Digits l)
  given-digits [] l all e = absurd (omega (arith, speeds.0))
  given-digits (d ∷ u) l all e =
      rw (digit-no-sign d.char all.0, figures-are len Wanted.Digits Nothing j (d ∷ u) l all (omega arith) (inl e)) (go (suits Nothing j (d ∷ u) l) l)
    where
      go : (b : Bool) (l : List KeptRow) → (cond b (taking (worth 0 (chars (d ∷ u))) l) (wrong len Wanted.Digits l) >>= λ m. taking {A = Bool × ℕ} (false, m.value) m.rest)
          ≡ cond b (taking (false, worth 0 (chars (d ∷ u))) l) (wrong len Wanted.Digits l)
      go true l = refl
      go false [] = refl
      go false (r ∷ l) = refl

  code-refused : (letter a c : ℕ) (u l : List KeptRow) → c < 10 ^ j → speed_for j c ≡ refused 13 0 → chars u ≡ digits j c → Refuses (word_at len (record { letter = letter; kind = Kind.Speed j }) a (u ++ l))
  code-refused letter a c u l small zero are =
      let n : length u ≡ j = sym (length-map u (λ s. s.char)) ∙ ap length are ∙ digits-length j c in
      let w : worth 0 (chars u) ≡ c = ap (worth 0) are ∙ digits-worth j c 0 small ∙ omega arith in
      let told : speed_for j (worth 0 (chars u)) ≡ refused 13 0 = ap (speed_for j) w ∙ zero in
      rw (word-is len (record { letter = letter; kind = Kind.Speed j }) a (u ++ l), given-digits u l (subst (Every Digit) (sym are) (digits-digit j c small)) n)
      (go told (suits Nothing j u l))
    where
      go : speed_for j (worth 0 (chars u)) ≡ refused 13 0 → (b : Bool)
          → Refuses (cond b (taking {A = Bool × ℕ} (false, worth 0 (chars u)) l) (wrong len Wanted.Digits l) >>= verdict a (record { letter = letter; kind = Kind.Speed j }))
      go e true = rw e tt
      go e false = refuses-bind (wrong len Wanted.Digits l) _ (refuses-wrong (Behind (Bool × ℕ)) len Wanted.Digits l)

module _ (len : ℕ) (y : Way) (it : Item) (w : Widths it.kind) (rs : List KeptRow) (fore : Passed (past_address y) (address y it) rs) where
  -- behind the address the data decide
  data-decide : (l : List KeptRow) → word_here len y it (fore.rows ++ l) ≡ given len it.kind l >>= verdict (front_place (fore.rows ++ l)) it
  data-decide l = rw (fore.over l) (word-is len it (front_place (fore.rows ++ l)) l)

  -- the address and the rows u
  whole : (u : List KeptRow) → chars (fore.rows ++ u) ≡ address y it ++ chars u
  whole u = chars-append fore.rows u ∙ ap (λ x. x ++ chars u) fore.is

  word-from : {x : Answer (Behind (Bool × ℕ))} → Goes (given len it.kind) len (Given it.kind) (DataStop y it.kind) (past_address y rs) x
      → Goes (word_here len y it) len (SomeWord y it) (WordStop y it) rs (x >>= verdict (front_place rs) it)
  word-from (held h) =
      held (held_after fore.rows fore.split (λ l k nay. rw (data-decide l) (refuses-bind (given len it.kind l) (verdict (front_place (fore.rows ++ l)) it) nay))
      (λ n b ds v q. rw fore.is (in_data q)) h)
  word-from (took {a = g} {rest = rest} u e q t) = go (judged g.0 g.1 (chars u) it.kind w q)
    where
      split : rs ≡ fore.rows ++ u ++ rest
      split = fore.split ∙ ap (λ l. fore.rows ++ l) e ∙ sym (append_assoc fore.rows u rest)

      over : (l : List KeptRow) → word_here len y it (fore.rows ++ u ++ l) ≡ word_at len it (front_place (fore.rows ++ u ++ l)) (u ++ l)
      over l = ap (λ x. word_at len it (front_place (fore.rows ++ u ++ l)) (past_address y x)) (append_assoc fore.rows u l) ∙ rw (fore.over (u ++ l))

      firm : (x : List ℕ) → Firm y (x ++ (address y it ++ chars u)) rest
      firm x =
          let e : x ++ (address y it ++ q.sgn) ++ q.ds ≡ x ++ (address y it ++ chars u) = rw q.split (simp append_assoc) in
          subst (λ l. Firm y l rest) e (figured-firm y (x ++ (address y it ++ q.sgn)) q.figured (fewest-some (missing_of it.kind) (width it.kind) (some-width it.kind w)))

      go : Judged it.kind g.0 g.1 (chars u) → Goes (word_here len y it) len (SomeWord y it) (WordStop y it) rs (verdict (front_place rs) it (record { value = g; rest = rest }))
      go (means {x} m d) =
          rw (m (front_place rs))
          (took {a = record { letter = it.letter; value = x }} (fore.rows ++ u) split (rw (whole u) (stands y it d.1, firm))
          (λ l h. over l ∙ word-is len it _ (u ++ l) ∙ rw (t l h, m (front_place (fore.rows ++ u ++ l)))))
      go (second {j} m k small are zero) =
          let many : length u ≡ j = sym (length-map u (λ s. s.char)) ∙ ap length are ∙ digits-length j g.1 in
          let speeds : Widths (Kind.Speed j) = subst Widths k w in
          rw (m (front_place rs))
          (goes-alone 13 (fore.rows ++ u) rest (omega (arith, length-append fore.rows u, speeds.0)) split (rw (whole u, are) (thirteen g.1 k small zero)) (λ n. q.figured.apart)
          (λ l. rw (over l)
          (subst (λ k. Refuses (word_at len (record { letter = it.letter; kind = k }) (front_place (fore.rows ++ u ++ l)) (u ++ l))) (sym k)
          (code-refused len j speeds it.letter (front_place (fore.rows ++ u ++ l)) g.1 u l small zero are))))

pub word-goes : (len : ℕ) (y : Way) (it : Item) → Widths it.kind → (rs : List KeptRow) → begins y it.letter rs ≡ true
    → Goes (word_here len y it) len (SomeWord y it) (WordStop y it) rs (word_here len y it rs)
word-goes len y it w rs e =
    rw (word-is len it (front_place rs) (past_address y rs)) (word-from len y it w rs (pass-address y it rs e) (given-goes len y it.kind (past_address y rs) (enters y it.letter rs e)))
