-- The order of the items as one list of slots: the letters in their order, and behind the last axis one slot for the feeds.
use Prim.Native.Nat.{ℕ}
use mathlib.Core.Path.{◌≡◌, refl, ap, ◌∙◌}
use mathlib.Core.List.{List, [], ◌∷◌, ◌++◌, map, append-nil}
use lib.Dec.{T}
use Rattle.rows.specs.Passes.{Every}
use Rattle.shorthand.specs.declared.Item.{Item}
use Rattle.shorthand.specs.declared.Edition.{Edition}
use Rattle.shorthand.specs.Lawful.{is_feed, is_own_feed, is_dimension, InTurn, Axes, axes, Distinct, letters_of, Ordered}
use Rattle.shorthand.proofs.Roles.{Turn, general, speed, tool, function, test_of}

pub data Slot : Type 0 where
  turn : Turn → Slot
  axis : ℕ → Slot
  feeds : Slot

abbrev pub slots : List Slot
slots = map turn (general ∷ []) ++ (map axis axes ++ (feeds ∷ map turn (speed ∷ tool ∷ function ∷ [])))

-- items that fill some of the slots, in their order
pub data Row (e : Edition) : List Slot → List Item → Type 0 where
  none : Row e [] []
  left : {s : Slot} {ss : List Slot} {its : List Item} → Row e ss its → Row e (s ∷ ss) its
  turned : {t : Turn} {ss : List Slot} {it : Item} {its : List Item} → T (test_of e t it) → Row e ss its → Row e (turn t ∷ ss) (it ∷ its)
  axed : {c : ℕ} {ss : List Slot} {it : Item} {its : List Item} → T (is_dimension e c it) → Row e ss its → Row e (axis c ∷ ss) (it ∷ its)
  fed : {c : ℕ} {ss : List Slot} {it own : Item} {its : List Item} → T (is_dimension e c it) → T (is_own_feed e own) → Row e ss its → Row e (axis c ∷ ss) (it ∷ own ∷ its)
  feed : {ss : List Slot} {it : Item} {its : List Item} → T (is_feed e it) → Row e (feeds ∷ ss) its → Row e (feeds ∷ ss) (it ∷ its)

-- ---- a row from its parts

module _ {e : Edition} {ss : List Slot} {rest : List Item} (r : Row e ss rest) where
  pub turns-row : (ts : List Turn) {its : List Item} → InTurn (map (test_of e) ts) its → Row e (map turn ts ++ ss) (its ++ rest)
  turns-row [] InTurn.none = r
  turns-row (t ∷ ts) (InTurn.left a) = left (turns-row ts a)
  turns-row (t ∷ ts) (InTurn.next h a) = turned h (turns-row ts a)

  pub axes-row : {cs : List ℕ} {its : List Item} → Axes e cs its → Row e (map axis cs ++ ss) (its ++ rest)
  axes-row Axes.none = r
  axes-row (Axes.left a) = left (axes-row a)
  axes-row (Axes.axis h a) = axed h (axes-row a)
  axes-row (Axes.fed h o a) = fed h o (axes-row a)

  pub feeds-row : (its : List Item) → Every (λ it. T (is_feed e it)) its → Row e (feeds ∷ ss) (its ++ rest)
  feeds-row [] a = left r
  feeds-row (it ∷ its) a = feed a.0 (feeds-row its a.1)

-- ---- the parts of a row

pub record Parts (P Q : List Item → Type 0) (its : List Item) : Type 0 where
  pub front : List Item
  pub back : List Item
  pub joined : its ≡ front ++ back
  pub begins : P front
  pub ends : Q back

-- a first part changed, and with one item more in front
module _ {P P' Q : List Item → Type 0} where
  same : ((xs : List Item) → P xs → P' xs) → {its : List Item} → Parts P Q its → Parts P' Q its
  same f p = record { front = p.front; back = p.back; joined = p.joined; begins = f p.front p.begins; ends = p.ends }

  longer : {it : Item} → ((xs : List Item) → P xs → P' (it ∷ xs)) → {its : List Item} → Parts P Q its → Parts P' Q (it ∷ its)
  longer {it} f p =
      record { front = it ∷ p.front; back = p.back; joined = ap (λ (l : List Item). it ∷ l) p.joined; begins = f p.front p.begins; ends = p.ends }

module _ {P Q : List Item → Type 0} where
  all-behind : {its : List Item} → P [] → Q its → Parts P Q its
  all-behind {its} p q = record { front = []; back = its; joined = refl; begins = p; ends = q }

module _ {e : Edition} where
  pub row-turns : (ts : List Turn) {ss : List Slot} {its : List Item} → Row e (map turn ts ++ ss) its → Parts (InTurn (map (test_of e) ts)) (Row e ss) its
  row-turns [] r = all-behind InTurn.none r
  row-turns (t ∷ ts) (left r) = same (λ xs a. InTurn.left a) (row-turns ts r)
  row-turns (t ∷ ts) (turned h r) = longer (λ xs a. InTurn.next h a) (row-turns ts r)

  pub row-axes : (cs : List ℕ) {ss : List Slot} {its : List Item} → Row e (map axis cs ++ ss) its → Parts (Axes e cs) (Row e ss) its
  row-axes [] r = all-behind Axes.none r
  row-axes (c ∷ cs) (left r) = same (λ xs a. Axes.left a) (row-axes cs r)
  row-axes (c ∷ cs) (axed h r) = longer (λ xs a. Axes.axis h a) (row-axes cs r)
  row-axes (c ∷ cs) (fed {it = it} h o r) =
      longer (λ xs a. a) (longer {P' = λ xs. Axes e (c ∷ cs) (it ∷ xs)} (λ xs a. Axes.fed h o a) (row-axes cs r))

  pub row-feeds : {ss : List Slot} {its : List Item} → Row e (feeds ∷ ss) its → Parts (Every (λ it. T (is_feed e it))) (Row e ss) its
  row-feeds (left r) = all-behind tt r
  row-feeds (feed h r) = longer (λ xs a. (h, a)) (row-feeds r)

-- ---- the whole row

behind : (xs : List Item) {ys zs : List Item} → ys ≡ zs → xs ++ ys ≡ xs ++ zs
behind xs p = ap (λ (l : List Item). xs ++ l) p

module _ {e : Edition} where
  pub ordered-row : {its : List Item} → Ordered e its → Row e slots its
  ordered-row o =
      let others = turns-row {e = e} none (speed ∷ tool ∷ function ∷ []) o.last in
      rw o.parts (turns-row (axes-row (feeds-row (rw (append-nil o.others) at others) o.feeds o.third) o.second) (general ∷ []) o.first)

  ends-row : {its : List Item} → Row e [] its → its ≡ []
  ends-row none = refl

  pub row-ordered : {its : List Item} → Row e slots its → Distinct (letters_of its) → Ordered e its
  row-ordered r d =
      let a = row-turns (general ∷ []) r in
      let b = row-axes axes a.ends in
      let c = row-feeds b.ends in
      let l = row-turns (speed ∷ tool ∷ function ∷ []) c.ends in
      record {
        general = a.front;
        dimensions = b.front;
        feeds = c.front;
        others = l.front;
        parts =
            a.joined ∙ behind a.front (b.joined ∙ behind b.front (c.joined ∙ behind c.front
            (l.joined ∙ behind l.front (ends-row l.ends) ∙ append-nil l.front)));
        first = a.begins;
        second = b.begins;
        third = c.begins;
        last = l.begins;
        once = d;
      }
