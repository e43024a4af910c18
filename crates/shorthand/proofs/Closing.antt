-- What a reading of digits comes to: whole, short and still to be mended, or unfit whatever follows.
use Prim.Native.Nat.{ℕ}
use mathlib.Core.Path.{◌≡◌, refl, sym, ap, ◌∙◌}
use mathlib.Core.List.{List, [], ◌∷◌, ◌++◌, map, append-nil}
use lib.Dec.{T}
use Rattle.shorthand.specs.Spell.{digit}
use Rattle.shorthand.specs.Stand.{digits_of, after_digits, Made, made, more, wrong, Stand, whole, short, unfit, closed}
use Rattle.shorthand.specs.Mending.{apart}
use Rattle.shorthand.proofs.DigitRuns.{Small, Parted, parted, digits-on, after_on, digits-apart, after-apart, digits-further, after-further}

map-digit-append : (ds es : List ℕ) → map digit (ds ++ es) ≡ map digit ds ++ map digit es
map-digit-append [] es = refl
map-digit-append (d ∷ ds) es = rw (map-digit-append ds es)

-- `read` makes of digits what G says of them, and what it calls wrong stays wrong
module _ {A : Type 0} (read : List ℕ → Made A) (G : List ℕ → A → Type 0) where
  abbrev pub Makes : List ℕ → Made A → Type 0
  Makes ds (made a) = G ds a
  Makes ds more = (es : List ℕ) × (a : A) × G (ds ++ es) a
  Makes ds wrong = (es : List ℕ) → read (ds ++ es) ≡ wrong

  module _ {B : Type 0} (f : A → B) where
    abbrev pub closing : List ℕ → Stand B
    closing s = closed f (read (digits_of s)) (after_digits s)

    abbrev pub Closes : List ℕ → Stand B → Type 0
    Closes s (whole b rest) = (ds : List ℕ) × (a : A) × (b ≡ f a) × (s ≡ map digit ds ++ rest) × G ds a × T (apart rest)
    Closes s short = (u : List ℕ) × (ds : List ℕ) × (a : A) × (s ++ u ≡ map digit ds) × G ds a
    Closes s unfit = (u : List ℕ) → closing (s ++ u) ≡ unfit

    pub closes : ((ds : List ℕ) → Small ds → Makes ds (read ds)) → (s : List ℕ) → Closes s (closing s)
    closes means s = go (read (digits_of s)) (after_digits s) refl refl (means (digits_of s) (parted s).small) (parted s)
      where
        go : (m : Made A) (rest : List ℕ) → read (digits_of s) ≡ m → after_digits s ≡ rest → Makes (digits_of s) m → Parted s (digits_of s) rest
            → Closes s (closed f m rest)
        go (made a) rest m≡ r≡ h p = (digits_of s, a, refl, p.splits, h, p.stops)
        go more [] m≡ r≡ h p = (
          map digit h.0,
          digits_of s ++ h.0,
          h.1,
          ap (λ (l : List ℕ). l ++ map digit h.0) (p.splits ∙ append-nil (map digit (digits_of s))) ∙ sym (map-digit-append (digits_of s) h.0),
          h.2,
        )
        go more (b ∷ t) m≡ r≡ h p = λ u.
            rw (digits-further s u, after-further s u, r≡, digits-apart (b ∷ (t ++ u)) p.stops, after-apart (b ∷ (t ++ u)) p.stops, append-nil, m≡)
        go wrong rest m≡ r≡ h p = λ u. rw (digits-further s u, h (digits_of (after_digits s ++ u)))

    -- what is made of digits is read where nothing but digits stands before the rest
    pub reads : (ds rest : List ℕ) {a : A} → read ds ≡ made a → Small ds → T (apart rest) → closing (map digit ds ++ rest) ≡ whole (f a) rest
    reads ds rest e small stops = rw (digits-on ds rest small, digits-apart rest stops, append-nil ds, e, after_on ds rest small, after-apart rest stops)
