-- Lists split in two ways.
use mathlib.Core.Path.{◌≡◌, refl, ap, ◌∙◌, sym}
use mathlib.Core.Logic.{◌⊎◌, inl, inr}
use mathlib.Core.List.{List, [], ◌∷◌, ◌++◌}

module _ {A : Type 0} where
  -- the same place, or one stands before the other
  pub data Split (b c : List A) (r : A) (a : List A) (s : A) (d : List A) : Type 0 where
    same : b ≡ c → r ≡ s → a ≡ d → Split b c r a s d
    sooner : (u : List A) → c ≡ b ++ (r ∷ u) → a ≡ u ++ (s ∷ d) → Split b c r a s d
    later : (u : List A) → b ≡ c ++ (s ∷ u) → d ≡ u ++ (r ∷ a) → Split b c r a s d

  pub compare : (b c : List A) (r : A) (a : List A) (s : A) (d : List A) → b ++ (r ∷ a) ≡ c ++ (s ∷ d) → Split b c r a s d
  compare [] [] r a s d e = same refl (cc) (cc)
  compare [] (x ∷ c) r a s d e =
      let h : x ≡ r = cc in
      let t : a ≡ c ++ (s ∷ d) = cc in
      sooner c (ap (λ y. y ∷ c) h) t
  compare (x ∷ b) [] r a s d e =
      let h : x ≡ s = cc in
      let t : d ≡ b ++ (r ∷ a) = cc in
      later b (ap (λ y. y ∷ b) h) t
  compare (x ∷ b) (y ∷ c) r a s d e =
      let h : x ≡ y = cc in
      let t : b ++ (r ∷ a) ≡ c ++ (s ∷ d) = cc in
      go h (compare b c r a s d t)
    where
      go : x ≡ y → Split b c r a s d → Split (x ∷ b) (y ∷ c) r a s d
      go h (same p q o) = same (ap (λ l. x ∷ l) p ∙ ap (λ z. z ∷ c) h) q o
      go h (sooner u p q) = sooner u (ap (λ z. z ∷ c) (sym h) ∙ ap (λ l. x ∷ l) p) q
      go h (later u p q) = later u (ap (λ z. z ∷ b) h ∙ ap (λ l. y ∷ l) p) q

  -- of two beginnings, one begins the other
  pub nested : (ds u : List A) (rest : List A) (r : A) (a : List A) → ds ++ rest ≡ u ++ (r ∷ a) → ((w : List A) × (u ≡ ds ++ w)) ⊎ ((v : List A) × (ds ≡ u ++ (r ∷ v)))
  nested [] u rest r a e = inl (u, refl)
  nested (d ∷ ds) [] rest r a e = let h : d ≡ r = cc in inr (ds, ap (λ z. z ∷ ds) h)
  nested (d ∷ ds) (x ∷ u) rest r a e =
      let h : d ≡ x = cc in
      let t : ds ++ rest ≡ u ++ (r ∷ a) = cc in
      go h (nested ds u rest r a t)
    where
      go : d ≡ x → ((w : List A) × (u ≡ ds ++ w)) ⊎ ((v : List A) × (ds ≡ u ++ (r ∷ v))) → ((w : List A) × (x ∷ u ≡ d ∷ (ds ++ w))) ⊎ ((v : List A) × (d ∷ ds ≡ x ∷ (u ++ (r ∷ v))))
      go h (inl p) = inl (p.0, ap (λ z. z ∷ u) (sym h) ∙ ap (λ l. d ∷ l) p.1)
      go h (inr p) = inr (p.0, ap (λ z. z ∷ ds) h ∙ ap (λ l. x ∷ l) p.1)

  -- of two beginnings of one list the shorter begins the longer
  pub begun : (b c s t : List A) → b ++ s ≡ c ++ t → ((u : List A) × (c ≡ b ++ u)) ⊎ ((u : List A) × (b ≡ c ++ u))
  begun [] c s t e = inl (c, refl)
  begun (x ∷ b) [] s t e = inr (x ∷ b, refl)
  begun (x ∷ b) (y ∷ c) s t e =
      let h : x ≡ y = cc in
      let r : b ++ s ≡ c ++ t = cc in
      go h (begun b c s t r)
    where
      go : x ≡ y → ((u : List A) × (c ≡ b ++ u)) ⊎ ((u : List A) × (b ≡ c ++ u)) → ((u : List A) × (y ∷ c ≡ x ∷ (b ++ u))) ⊎ ((u : List A) × (x ∷ b ≡ y ∷ (c ++ u)))
      go h (inl q) = inl (q.0, ap (λ z. z ∷ c) (sym h) ∙ ap (λ l. x ∷ l) q.1)
      go h (inr q) = inr (q.0, ap (λ z. z ∷ b) h ∙ ap (λ l. y ∷ l) q.1)

  pub cancel : (b x y : List A) → b ++ x ≡ b ++ y → x ≡ y
  cancel [] x y e = e
  cancel (c ∷ b) x y e = cancel b x y (cc)
