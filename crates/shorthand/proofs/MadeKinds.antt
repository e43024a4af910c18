-- What the digits of an item make: each lawful kind by its own digits, and nothing else.
use Prim.Native.Nat.{ℕ, ◌≤◌}
use native.Mathlib.Omega.{arith}
use mathlib.Core.Path.{◌≡◌, refl, sym, ap, subst, ◌∙◌}
use mathlib.Core.Logic.{⊎_elim}
use mathlib.Core.Bool.{Bool, true, false, ◌&&◌, ◌||◌, not, cond, beq}
use mathlib.Core.List.{List, [], ◌∷◌, ◌++◌, map}
use lib.Dec.{T, T_not, eqb, leb, eqb→eq, leb→le, le→leb}
use Rattle.shorthand.specs.declared.Mark.{Mark}
use Rattle.shorthand.specs.declared.Mark.TheVariants.{Unmarked, Plus, Delta}
use Rattle.shorthand.specs.declared.Missing.{Missing}
use Rattle.shorthand.specs.declared.Missing.TheVariants.{Nothing, Leading, Trailing}
use Rattle.shorthand.specs.declared.Figures.{Figures}
use Rattle.shorthand.specs.declared.Kind.{Kind}
use Rattle.shorthand.specs.declared.Kind.TheVariants.{Plain, Speed, Dimension}
use Rattle.shorthand.specs.Spell.{digit, spell_mark, spell_figures, spell_kind}
use Rattle.shorthand.specs.declared.Item.{Item}
use Rattle.shorthand.specs.declared.Order.{Order}
use Rattle.shorthand.specs.declared.Edition.{Edition}
use Rattle.shorthand.specs.Edition.{later, speed_least, speed_most, allowed}
use Rattle.shorthand.specs.Lawful.{digit_in, plain_kind, speed_kind, figures_fit, dimension_kind, is_g, is_s, is_t, is_m}
use Rattle.shorthand.specs.Order.{due_as_feed, due_as_dimension, due_in_turn, any_due, feed_due, dimension_due, turn_due, due}
use Rattle.shorthand.specs.Stand.{Made, made, more, wrong, one_digit, figured, three_digits, two_digits, dimensioned, unmarked, either, speed_made, turn_made, kind_made}
use Rattle.shorthand.proofs.Tests.{both, first, second, left, right, either as split, holds, fails, and-false, not-not, beq-refl, beq→eq, by-test}
use Rattle.shorthand.proofs.DigitRuns.{Small, within, least_fits, speed-within}
use Rattle.shorthand.proofs.Closing.{Makes}
use Rattle.shorthand.proofs.Roles.{general, speed, tool, function, turn-any}
use Rattle.shorthand.proofs.Ranks.{none-in-turn, none-as-feed, none-as-dimension}

-- ---- one digit

module _ {A : Type 0} (lo hi : ℕ) (k : ℕ → A) (G : List ℕ → A → Type 0) where
  pub one-makes : T (digit_in lo hi lo) → ((d : ℕ) → T (digit_in lo hi d) → G (d ∷ []) (k d)) → (ds : List ℕ)
      → Makes (one_digit lo hi k) G ds (one_digit lo hi k ds)
  one-makes low gives [] = (lo ∷ [], k lo, gives lo low)
  one-makes low gives (d ∷ []) = by-test (λ (m : Made A). Makes (one_digit lo hi k) G (d ∷ []) m) (digit_in lo hi d) (gives d) no_more
    where
      no_more : T (not (digit_in lo hi d)) → (es : List ℕ) → one_digit lo hi k (d ∷ es) ≡ wrong
      no_more h [] = rw (fails (digit_in lo hi d) h)
      no_more h (e ∷ es) = refl
  one-makes low gives (d ∷ (x ∷ ds)) = λ es. refl

-- ---- a dimension's figures

abbrev figures : Missing → ℕ → ℕ → List ℕ
figures Nothing a b = a ∷ b ∷ []
figures Leading a b = 0 ∷ a ∷ b ∷ []
figures Trailing a b = a ∷ b ∷ 0 ∷ []

spell-figures : (z : Missing) (a b : ℕ) → spell_figures z a b ≡ map digit (figures z a b)
spell-figures Nothing a b = refl
spell-figures Leading a b = refl
spell-figures Trailing a b = refl

module _ (e : Edition) (m : Mark) where
  -- these digits make a dimension
  abbrev Says : List ℕ → Kind → Type 0
  Says ds k = (spell_kind k ≡ spell_mark m ++ map digit ds) × T (dimension_kind e k)

  pub figured-says : (z : Missing) (a b : ℕ) (ds : List ℕ) → figures z a b ≡ ds → a ≤ 9 → b ≤ 9 → T (figures_fit e z a b)
      → Says ds (figured e m z a b)
  figured-says z a b ds s ha hb h = (
    rw (spell-figures z a b, s),
    both (leb a 9 && leb b 9 && figures_fit e z a b) (beq (later e) (later e))
        (both (leb a 9 && leb b 9) (figures_fit e z a b) (both (leb a 9) (leb b 9) (le→leb a 9 ha) (le→leb b 9 hb)) h)
        (beq-refl (later e)),
  )

  abbrev Figure : List ℕ → Made Kind → Type 0
  Figure ds r = Makes (dimensioned e m) Says ds r

  two-make : (a b : ℕ) → a ≤ 9 → b ≤ 9 → Figure (a ∷ b ∷ []) (two_digits e m a b)
  two-make a b ha hb =
      by-test (Figure (a ∷ b ∷ [])) (figures_fit e Nothing a b)
      (figured-says Nothing a b (a ∷ b ∷ []) refl ha hb)
      (λ zeros. by-test (Figure (a ∷ b ∷ [])) (later e) (third zeros) (no_more zeros))
    where
      third : T (not (figures_fit e Nothing a b)) → T (later e) → Figure (a ∷ b ∷ []) more
      third zeros l =
          let a≡0 = eqb→eq a 0 (first (eqb a 0) (eqb b 0) (not-not (eqb a 0 && eqb b 0) zeros)) in
          let kept = ap (λ (n : ℕ). n ∷ b ∷ 1 ∷ []) (sym a≡0) in
          (1 ∷ [], figured e m Leading b 1, figured-says Leading b 1 (a ∷ b ∷ 1 ∷ []) kept hb (omega arith) (both (later e) true l tt))

      none : T (not (later e)) → (t d : Bool) → T (t && (later e && d)) → ⊥
      none l t d h = T_not (later e) l (first (later e) d (second t (later e && d) h))

      no_more : T (not (figures_fit e Nothing a b)) → T (not (later e)) → (es : List ℕ) → dimensioned e m (a ∷ b ∷ es) ≡ wrong
      no_more zeros l [] = rw (fails (figures_fit e Nothing a b) zeros, fails (later e) l)
      no_more zeros l (z ∷ []) =
          by-test (λ (r : Made Kind). r ≡ wrong) (eqb a 0 && figures_fit e Leading b z)
          (λ h. absurd (none l (eqb a 0) (not (eqb z 0)) h))
          (λ k. by-test (λ (r : Made Kind). r ≡ wrong) (eqb z 0 && figures_fit e Trailing a b) (λ h. absurd (none l (eqb z 0) (not (eqb a 0)) h)) (λ h. refl))
      no_more zeros l (z ∷ (w ∷ es)) = refl

  three-make : (x y z : ℕ) → x ≤ 9 → y ≤ 9 → z ≤ 9 → Figure (x ∷ y ∷ z ∷ []) (three_digits e m x y z)
  three-make x y z hx hy hz = by-test (Figure (x ∷ y ∷ z ∷ [])) lead leading (λ l. by-test (Figure (x ∷ y ∷ z ∷ [])) trail trailing (no_more l))
    where
      lead : Bool
      lead = eqb x 0 && figures_fit e Leading y z

      trail : Bool
      trail = eqb z 0 && figures_fit e Trailing x y

      leading : T lead → Figure (x ∷ y ∷ z ∷ []) (made (figured e m Leading y z))
      leading h =
          let zero = ap (λ (n : ℕ). n ∷ y ∷ z ∷ []) (sym (eqb→eq x 0 (first (eqb x 0) (figures_fit e Leading y z) h))) in
          figured-says Leading y z (x ∷ y ∷ z ∷ []) zero hy hz (second (eqb x 0) (figures_fit e Leading y z) h)

      trailing : T trail → Figure (x ∷ y ∷ z ∷ []) (made (figured e m Trailing x y))
      trailing h =
          let zero = ap (λ (n : ℕ). x ∷ y ∷ n ∷ []) (sym (eqb→eq z 0 (first (eqb z 0) (figures_fit e Trailing x y) h))) in
          figured-says Trailing x y (x ∷ y ∷ z ∷ []) zero hx hy (second (eqb z 0) (figures_fit e Trailing x y) h)

      no_more : T (not lead) → T (not trail) → (es : List ℕ) → dimensioned e m (x ∷ y ∷ z ∷ es) ≡ wrong
      no_more l t [] = rw (fails lead l, fails trail t)
      no_more l t (w ∷ es) = refl

  dimension-makes : (ds : List ℕ) → Small ds → Figure ds (dimensioned e m ds)
  dimension-makes [] h = (1 ∷ 1 ∷ [], figured e m Nothing 1 1, figured-says Nothing 1 1 (1 ∷ 1 ∷ []) refl (omega arith) (omega arith) tt)
  dimension-makes (a ∷ []) h = (1 ∷ [], figured e m Nothing a 1, figured-says Nothing a 1 (a ∷ 1 ∷ []) refl h.0 (omega arith) (and-false (eqb a 0)))
  dimension-makes (a ∷ (b ∷ [])) h = two-make a b h.0 h.1.0
  dimension-makes (x ∷ (y ∷ (z ∷ []))) h = three-make x y z h.0 h.1.0 h.1.1.0
  dimension-makes (x ∷ (y ∷ (z ∷ (w ∷ ds)))) h = λ es. refl

  figures-make : (z : Missing) (a b : ℕ) → T (figures_fit e z a b) → dimensioned e m (figures z a b) ≡ made (figured e m z a b)
  figures-make Nothing a b h = rw (holds (figures_fit e Nothing a b) h)
  figures-make Leading a b h = rw (holds (figures_fit e Leading a b) h)
  figures-make Trailing a b h = rw (fails (eqb a 0) (second (later e) (not (eqb a 0)) h), holds (later e) (first (later e) (not (eqb a 0)) h))

-- what a lawful dimension's figures are
pub record Dimensioned (e : Edition) (d : Figures) : Type 0 where
  pub before : d.before ≤ 9
  pub after : d.after ≤ 9
  pub fits : T (figures_fit e d.missing d.before d.after)
  pub bare : d.bare ≡ later e

pub dimensioned-of : (e : Edition) (d : Figures) → T (dimension_kind e (Dimension d)) → Dimensioned e d
dimensioned-of e d h =
    let a = leb d.before 9 in
    let b = leb d.after 9 in
    let c = figures_fit e d.missing d.before d.after in
    let same = beq d.bare (later e) in
    let three = first (a && b && c) same h in
    let two = first (a && b) c three in
    record {
      before = leb→le d.before 9 (first a b two);
      after = leb→le d.after 9 (second a b two);
      fits = second (a && b) c three;
      bare = beq→eq d.bare (later e) (second (a && b && c) same h);
    }

-- ---- readings that hold under a test, that want no mark, and two of them together

module _ {A : Type 0} (G : List ℕ → A → Type 0) (ds : List ℕ) where
  if-makes : (b : Bool) (read : List ℕ → Made A) → (T b → Makes read G ds (read ds)) → Makes (λ x. cond b (read x) wrong) G ds (cond b (read ds) wrong)
  if-makes true read h = h tt
  if-makes false read h = λ es. refl

  either_makes : (x y : List ℕ → Made A) → Makes x G ds (x ds) → Makes y G ds (y ds) → Makes (λ l. either (x l) (y l)) G ds (either (x ds) (y ds))
  either_makes x y p q = by (x ds) (y ds) p q
    where
      by : (u v : Made A) → Makes x G ds u → Makes y G ds v → Makes (λ l. either (x l) (y l)) G ds (either u v)
      by (made a) v p q = p
      by more (made b) p q = q
      by more more p q = p
      by more wrong p q = p
      by wrong (made b) p q = q
      by wrong more p q = q
      by wrong wrong p q = λ es. rw (p es, q es)

makes-map : {A : Type 0} (read : List ℕ → Made A) (G H : List ℕ → A → Type 0) → ((ds : List ℕ) (a : A) → G ds a → H ds a) → (ds : List ℕ) (r : Made A) → Makes read G ds r → Makes read H ds r
makes-map read G H f ds (made a) h = f ds a h
makes-map read G H f ds more h = (h.0, h.1, f (ds ++ h.0) h.1 h.2)
makes-map read G H f ds wrong h = h

-- ---- the roles of a letter

module _ (e : Edition) (o : Order) (c : ℕ) where
  abbrev pub item_of : Kind → Item
  item_of k = record { letter = c; kind = k }

  abbrev pub read : Mark → List ℕ → Made Kind
  read m ds = kind_made e o (record { letter = c; mark = m; digits = ds; rest = [] })

  -- these digits behind this mark make the kind, and an item of it may come
  abbrev pub Makes-due : Mark → List ℕ → Kind → Type 0
  Makes-due m ds k = (spell_kind k ≡ spell_mark m ++ map digit ds) × T (due e o (item_of k))

  abbrev Feeds : Bool
  Feeds = (eqb c 70 || eqb c 69 || eqb c 68) && due_as_feed o c

  abbrev Measures : Bool
  Measures = allowed e c && due_as_dimension o c

  -- an item that may come in one of its roles may come
  feed-due : (k : Kind) → T Feeds → T (speed_kind e c k) → T (due e o (item_of k))
  unfolding due
  feed-due k h s =
      let it = item_of k in
      let l = eqb c 70 || eqb c 69 || eqb c 68 in
      left (feed_due e o it || dimension_due e o it) (turn_due e o it)
      (left (feed_due e o it) (dimension_due e o it) (both (l && speed_kind e c k) (due_as_feed o c) (both l (speed_kind e c k) (first l (due_as_feed o c) h) s) (second l (due_as_feed o c) h)))

  dimension-due : (k : Kind) → T Measures → T (dimension_kind e k) → T (due e o (item_of k))
  unfolding due
  dimension-due k h s =
      let it = item_of k in
      left (feed_due e o it || dimension_due e o it) (turn_due e o it)
      (right (feed_due e o it) (dimension_due e o it)
      (both (allowed e c && dimension_kind e k) (due_as_dimension o c) (both (allowed e c) (dimension_kind e k) (first (allowed e c) (due_as_dimension o c) h) s) (second (allowed e c) (due_as_dimension o c) h)))

  turn-due : (k : Kind) → T (due_in_turn o c) → T (is_g (item_of k) || is_s e (item_of k) || is_t (item_of k) || is_m (item_of k)) → T (due e o (item_of k))
  unfolding due
  turn-due k h s =
      let it = item_of k in
      right (feed_due e o it || dimension_due e o it) (turn_due e o it) (both (is_g it || is_s e it || is_t it || is_m it) (due_in_turn o c) s h)

  one-of-turn : (lo hi : ℕ) (k : ℕ → Kind) → ((d : ℕ) → spell_kind (k d) ≡ digit d ∷ []) → T (digit_in lo hi lo) → ((d : ℕ) → T (digit_in lo hi d) → T (due e o (item_of (k d)))) → (ds : List ℕ)
      → Makes (one_digit lo hi k) (Makes-due Unmarked) ds (one_digit lo hi k ds)
  one-of-turn lo hi k spells low may ds = one-makes lo hi k (Makes-due Unmarked) low (λ d h. (spells d, may d h)) ds

  -- only a dimension has a mark
  unmarked-makes : (m : Mark) (x : List ℕ → Made Kind) (ds : List ℕ) → Makes x (Makes-due Unmarked) ds (x ds) → Makes (λ l. unmarked m (x l)) (Makes-due m) ds (unmarked m (x ds))
  unmarked-makes Unmarked x ds h = h
  unmarked-makes Plus x ds h = λ es. refl
  unmarked-makes Delta x ds h = λ es. refl

  turn-makes : T (due_in_turn o c) → (ds : List ℕ) → Makes (turn_made e c) (Makes-due Unmarked) ds (turn_made e c ds)
  turn-makes h ds = by (eqb c 71) (eqb c 77) (eqb c 84) (eqb c 83) refl refl refl refl
    where
      by : (g m t s : Bool) → eqb c 71 ≡ g → eqb c 77 ≡ m → eqb c 84 ≡ t → eqb c 83 ≡ s
          → Makes (λ l. cond (g || m) (one_digit 2 2 Plain l) (cond t (one_digit 1 9 Plain l) (cond s (speed_made e c l) wrong))) (Makes-due Unmarked) ds
          (cond (g || m) (one_digit 2 2 Plain ds) (cond t (one_digit 1 9 Plain ds) (cond s (speed_made e c ds) wrong)))
      by true m t s p q r v = one-of-turn 2 2 Plain (λ d. refl) tt (λ d k. turn-due (Plain d) h (turn-any e (item_of (Plain d)) general (rw p k))) ds
      by false true t s p q r v = one-of-turn 2 2 Plain (λ d. refl) tt (λ d k. turn-due (Plain d) h (turn-any e (item_of (Plain d)) function (rw q k))) ds
      by false false true s p q r v = one-of-turn 1 9 Plain (λ d. refl) tt (λ d k. turn-due (Plain d) h (turn-any e (item_of (Plain d)) tool (rw r k))) ds
      by false false false true p q r v = one-of-turn (speed_least e c) speed_most Speed (λ d. refl) (least_fits e c) (λ d k. turn-due (Speed d) h (turn-any e (item_of (Speed d)) speed (both (eqb c 83) (speed_kind e c (Speed d)) (rw v tt) k))) ds
      by false false false false p q r v = λ es. refl

  -- what the digits make in each role
  module _ (m : Mark) where
    abbrev fed : List ℕ → Made Kind
    fed l = cond Feeds (unmarked m (speed_made e c l)) wrong

    abbrev measured : List ℕ → Made Kind
    measured l = cond Measures (dimensioned e m l) wrong

    abbrev turned : List ℕ → Made Kind
    turned l = cond (due_in_turn o c) (unmarked m (turn_made e c l)) wrong

  pub kind-makes : (m : Mark) (ds : List ℕ) → Small ds → Makes (read m) (Makes-due m) ds (read m ds)
  kind-makes m ds small =
      either_makes (Makes-due m) ds (fed m) (λ l. either (measured m l) (turned m l))
      (if-makes (Makes-due m) ds Feeds (λ l. unmarked m (speed_made e c l))
      (λ h. unmarked-makes m (speed_made e c) ds (one-of-turn (speed_least e c) speed_most Speed (λ d. refl) (least_fits e c) (λ d k. feed-due (Speed d) h k) ds)))
      (either_makes (Makes-due m) ds (measured m) (turned m)
      (if-makes (Makes-due m) ds Measures (dimensioned e m)
      (λ h. makes-map (dimensioned e m) (Says e m) (Makes-due m) (λ l k s. (s.0, dimension-due k h s.1)) ds (dimensioned e m ds) (dimension-makes e m ds small)))
      (if-makes (Makes-due m) ds (due_in_turn o c) (λ l. unmarked m (turn_made e c l)) (λ h. unmarked-makes m (turn_made e c) ds (turn-makes h ds))))

  -- a letter that no digits could make an item is wrong whatever follows it
  pub none-wrong : read Unmarked [] ≡ wrong → (m : Mark) (ds : List ℕ) → read m ds ≡ wrong
  none-wrong q m ds = by Feeds Measures (due_in_turn o c) (eqb c 71 || eqb c 77) (eqb c 84) (eqb c 83) q
    where
      never : ◌≡◌ {A = Made Kind} more wrong → ⊥
      never p = let z : ◌≡◌ {A = ℕ} 0 1 = cc in omega arith

      more-not : (x : Made Kind) → either more x ≡ wrong → ⊥
      more-not (made a) p = let z : ◌≡◌ {A = ℕ} 0 1 = cc in omega arith
      more-not more p = never p
      more-not wrong p = never p

      wrong-unmarked : (m : Mark) → unmarked {A = Kind} m wrong ≡ wrong
      wrong-unmarked Unmarked = refl
      wrong-unmarked Plus = refl
      wrong-unmarked Delta = refl

      by : (f d t g u s : Bool) → either {A = Kind} (cond f more wrong) (either (cond d more wrong) (cond t (cond g more (cond u more (cond s more wrong))) wrong)) ≡ wrong
          → either (cond f (unmarked m (speed_made e c ds)) wrong)
          (either (cond d (dimensioned e m ds) wrong)
          (cond t (unmarked m (cond g (one_digit 2 2 Plain ds) (cond u (one_digit 1 9 Plain ds) (cond s (speed_made e c ds) wrong)))) wrong))
          ≡ wrong
      by true d t g u s q = absurd (more-not (either (cond d more wrong) (cond t (cond g more (cond u more (cond s more wrong))) wrong)) q)
      by false true t g u s q = absurd (more-not (cond t (cond g more (cond u more (cond s more wrong))) wrong) q)
      by false false true true u s q = absurd (never q)
      by false false true false true s q = absurd (never q)
      by false false true false false true q = absurd (never q)
      by false false true false false false q = wrong-unmarked m
      by false false false g u s q = refl

  -- the mark and the digits of a kind, which make it
  pub record Shown (k : Kind) : Type 0 where
    pub mark : Mark
    pub lead : ℕ
    pub digits : List ℕ
    pub small : Small (lead ∷ digits)
    pub spells : spell_kind k ≡ spell_mark mark ++ map digit (lead ∷ digits)
    pub makes : read mark (lead ∷ digits) ≡ made k

  -- one digit: as a feed, or in its turn
  shown-feed : (k : Kind) → T (feed_due e o (item_of k)) → Shown k
  shown-feed (Plain n) h = absurd (second l false (first (l && false) (due_as_feed o c) h))
    where
      l : Bool
      l = eqb c 70 || eqb c 69 || eqb c 68
  shown-feed (Dimension d) h = absurd (second l false (first (l && false) (due_as_feed o c) h))
    where
      l : Bool
      l = eqb c 70 || eqb c 69 || eqb c 68
  shown-feed (Speed n) h =
      let l = eqb c 70 || eqb c 69 || eqb c 68 in
      let s = first (l && speed_kind e c (Speed n)) (due_as_feed o c) h in
      let fits = second l (speed_kind e c (Speed n)) s in
      let w = speed-within e c n fits in
      record {
        mark = Unmarked;
        lead = n;
        digits = [];
        small = (omega arith, tt);
        spells = refl;
        makes = rw (holds Feeds (both l (due_as_feed o c) (first l (speed_kind e c (Speed n)) s) (second (l && speed_kind e c (Speed n)) (due_as_feed o c) h)), holds (speed_kind e c (Speed n)) fits);
      }

  -- a dimension has two digits or three, which make no feed
  no-feed : (m : Mark) (a b : ℕ) (ds : List ℕ) → fed m (a ∷ b ∷ ds) ≡ wrong
  no-feed Unmarked a b ds = by-test (λ (x : Made Kind). x ≡ wrong) Feeds (λ h. refl) (λ h. refl)
  no-feed Plus a b ds = by-test (λ (x : Made Kind). x ≡ wrong) Feeds (λ h. refl) (λ h. refl)
  no-feed Delta a b ds = by-test (λ (x : Made Kind). x ≡ wrong) Feeds (λ h. refl) (λ h. refl)

  figures-shown : (m : Mark) (z : Missing) (a b : ℕ) → T Measures → a ≤ 9 → b ≤ 9 → T (figures_fit e z a b) → Shown (figured e m z a b)
  figures-shown m Nothing a b t ha hb h =
      record { mark = m; lead = a; digits = b ∷ []; small = (ha, (hb, tt)); spells = refl; makes = rw (no-feed m a b [], holds Measures t, figures-make e m Nothing a b h) }
  figures-shown m Leading a b t ha hb h =
      record {
        mark = m;
        lead = 0;
        digits = a ∷ b ∷ [];
        small = (omega arith, (ha, (hb, tt)));
        spells = refl;
        makes = rw (no-feed m 0 a (b ∷ []), holds Measures t, figures-make e m Leading a b h);
      }
  figures-shown m Trailing a b t ha hb h =
      record {
        mark = m;
        lead = a;
        digits = b ∷ 0 ∷ [];
        small = (ha, (hb, (omega arith, tt)));
        spells = refl;
        makes = rw (no-feed m a b (0 ∷ []), holds Measures t, figures-make e m Trailing a b h);
      }

  shown-dimension : (k : Kind) → T (dimension_due e o (item_of k)) → Shown k
  shown-dimension (Plain n) h = absurd (second (allowed e c) false (first (allowed e c && false) (due_as_dimension o c) h))
  shown-dimension (Speed n) h = absurd (second (allowed e c) false (first (allowed e c && false) (due_as_dimension o c) h))
  shown-dimension (Dimension d) h =
      let k = dimension_kind e (Dimension d) in
      let s = first (allowed e c && k) (due_as_dimension o c) h in
      let l = dimensioned-of e d (second (allowed e c) k s) in
      let t = both (allowed e c) (due_as_dimension o c) (first (allowed e c) k s) (second (allowed e c && k) (due_as_dimension o c) h) in
      subst (λ (x : Bool). Shown (Dimension (record { mark = d.mark; before = d.before; after = d.after; missing = d.missing; bare = x }))) (sym l.bare)
      (figures-shown d.mark d.missing d.before d.after t l.before l.after l.fits)

  -- one digit in its turn: the letter is none of a feed or a dimension
  shown-digit : (n : ℕ) (k : ℕ → Kind) → ((d : ℕ) → spell_kind (k d) ≡ digit d ∷ []) → n ≤ 9 → T (due_in_turn o c) → Feeds ≡ false → Measures ≡ false → turn_made e c (n ∷ []) ≡ made (k n) → Shown (k n)
  shown-digit n k spells small t f d q = record { mark = Unmarked; lead = n; digits = []; small = (small, tt); spells = spells n; makes = rw (f, d, holds (due_in_turn o c) t, q) }

  and_none : (b : Bool) → (b && false) ≡ false
  and_none true = refl
  and_none false = refl

  -- a plain number of one digit, of a letter that is none of a feed or a dimension
  shown-plain : (lo hi : ℕ) (k : Kind) → hi ≤ 9 → T (plain_kind lo hi k) → T (due_in_turn o c) → Feeds ≡ false → Measures ≡ false → ((ds : List ℕ) → turn_made e c ds ≡ one_digit lo hi Plain ds) → Shown k
  shown-plain lo hi (Plain n) l h t f d q = let w = within lo hi n h in shown-digit n Plain (λ x. refl) (omega (arith, l, w.1)) t f d (q (n ∷ []) ∙ rw (holds (digit_in lo hi n) h))
  shown-plain lo hi (Speed n) l h t f d q = absurd h
  shown-plain lo hi (Dimension x) l h t f d q = absurd h

  shown-speed : (k : Kind) → T (speed_kind e c k) → T (due_in_turn o c) → Feeds ≡ false → Measures ≡ false → ((ds : List ℕ) → turn_made e c ds ≡ speed_made e c ds) → Shown k
  shown-speed (Plain n) h t f d q = absurd h
  shown-speed (Speed n) h t f d q = let w = speed-within e c n h in shown-digit n Speed (λ x. refl) (omega (arith, w.1)) t f d (q (n ∷ []) ∙ rw (holds (speed_kind e c (Speed n)) h))
  shown-speed (Dimension x) h t f d q = absurd h

  shown-turn : (k : Kind) → T (turn_due e o (item_of k)) → Shown k
  shown-turn k h =
      let it = item_of k in
      let t = second (is_g it || is_s e it || is_t it || is_m it) (due_in_turn o c) h in
      ⊎_elim
      (λ p. ⊎_elim (λ q. ⊎_elim (λ g. let e71 = eqb→eq c 71 (first (eqb c 71) (plain_kind 2 2 k) g) in
      shown-plain 2 2 k (omega arith) (second (eqb c 71) (plain_kind 2 2 k) g) t (rw e71) (rw e71 (and_none (allowed e 71))) (λ ds. rw e71))
      (λ g. let e83 = eqb→eq c 83 (first (eqb c 83) (speed_kind e c k) g) in
      shown-speed k (second (eqb c 83) (speed_kind e c k) g) t (rw e83) (rw e83 (and_none (allowed e 83))) (λ ds. rw e83))
      (split (is_g it) (is_s e it) q))
      (λ g. let e84 = eqb→eq c 84 (first (eqb c 84) (plain_kind 1 9 k) g) in
      shown-plain 1 9 k (omega arith) (second (eqb c 84) (plain_kind 1 9 k) g) t (rw e84) (rw e84 (and_none (allowed e 84))) (λ ds. rw e84))
      (split (is_g it || is_s e it) (is_t it) p))
      (λ g. let e77 = eqb→eq c 77 (first (eqb c 77) (plain_kind 2 2 k) g) in
      shown-plain 2 2 k (omega arith) (second (eqb c 77) (plain_kind 2 2 k) g) t (rw e77) (rw e77 (and_none (allowed e 77))) (λ ds. rw e77))
      (split (is_g it || is_s e it || is_t it) (is_m it) (first (is_g it || is_s e it || is_t it || is_m it) (due_in_turn o c) h))

  pub kind-shown : (k : Kind) → T (due e o (item_of k)) → Shown k
  unfolding due
  kind-shown k h =
      let it = item_of k in
      ⊎_elim (λ p. ⊎_elim (shown-feed k) (shown-dimension k) (split (feed_due e o it) (dimension_due e o it) p)) (shown-turn k) (split (feed_due e o it || dimension_due e o it) (turn_due e o it) h)

-- M2 comes wherever anything may, and behind it nothing
module _ (e : Edition) (o : Order) where
  pub m-due : T (any_due o) → T (due e o (item_of e o 77 (Plain 2)))
  m-due h = turn-due e o 77 (Plain 2) h (turn-any e (item_of e o 77 (Plain 2)) function tt)

  pub none-due : T (not (any_due o)) → (c : ℕ) (m : Mark) (ds : List ℕ) → read e o c m ds ≡ wrong
  none-due h c m ds =
      let x = eqb c 70 || eqb c 69 || eqb c 68 in
      rw (none-as-feed o h c, none-as-dimension o h c, none-in-turn o h c, and_none e o c x, and_none e o c (allowed e c))
