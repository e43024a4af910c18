-- The laws of mending: a text is refused by 1, 2 or 3 at a place exactly where the relation says so, so that one number and one place fit it.
use Prim.Native.Nat.{ℕ, suc, ◌+◌, ◌≤◌, ◌<◌}
use native.Mathlib.Decide.{dec_lt}
use native.Mathlib.Omega.{arith}
use mathlib.Core.Path.{◌≡◌, refl, sym, ap, subst, ◌∙◌}
use mathlib.Core.Bool.{Bool, false, not}
use mathlib.Core.Logic.{◌↔◌, ◌⊎◌, inl, inr}
use mathlib.Core.List.{List, [], ◌∷◌, ◌++◌, append_assoc, append-nil, append_cancel_right}
use lib.Dec.{T, eqb}
use lib.ListN.{length, get_or, take, drop, length-append, take-append-drop}
use lib.Seq.{take-append_seam, drop-append_seam, take-append-add, length-take-le, drop-cons}
use Rattle.rows.specs.Answer.{Answer, taken, refused}
use Rattle.shorthand.specs.declared.Format.{Format}
use Rattle.shorthand.specs.declared.Item.{Item}
use Rattle.shorthand.specs.declared.Order.{Order}
use Rattle.shorthand.specs.declared.Edition.{Edition}
use Rattle.shorthand.specs.declared.Edition.TheVariants.{Iso2539}
use Rattle.shorthand.specs.Spell.{digit, spell_kind, spell_dot, spell_item, starts}
use Rattle.shorthand.specs.Stand.{Dots, Stand, whole, short, unfit, seen, stand, stand_n}
use Rattle.shorthand.specs.Parse.{beyond, items_from, parsed_in, parsed}
use Rattle.shorthand.specs.Mending.{apart, Spelt, Mends, Begins, first, later, Misspelt, out_of_form, beyond_edition, behind_star, lacking, Spelling, unknown, known}
use Rattle.shorthand.proofs.Tests.{fails}
use Rattle.shorthand.proofs.Standing.{Stands, stands, Numbers, numbers, number-reads}
use Rattle.shorthand.proofs.Walking.{stay, steps_apart}
use Rattle.shorthand.proofs.Answered.{Front, front_of, Ground, number_lacks, number_bars, ends, stars, follows, item_lacks, item_bars, grounds, resumed, starred-front}
use Rattle.shorthand.proofs.Fronts.{front-more, front-wider}
use Rattle.shorthand.proofs.Barred.{refused-not, whole-not, follower-hopeless, item-hopeless, item-unmended}
use Rattle.shorthand.proofs.Accepted.{spelt-accepted, accepted-spelt, mends-accepted, parsed-in, Numbered, edition, none, numbered}

-- ---- the N item

-- what is taken is a front and "*"
record Fronted (e : Edition) (t : List ℕ) : Type 0 where
  dots : Dots
  o : Order
  x : List ℕ
  front : Front e dots o x
  splits : t ≡ x ++ (42 ∷ [])

fronted : {e : Edition} {t : List ℕ} {f : Format} → Ground e t (taken f) → Fronted e t
fronted (stars {dots = dots} {o = o} {x = x} h) = record { dots = dots; o = o; x = x; front = h; splits = refl }

empty-number : (e : Edition) (t : List ℕ) → stand_n e t ≡ unfit → 0 ≡ length t → ⊥
unfolding stand_n
empty-number e [] q at = let z : ◌≡◌ {A = ℕ} 0 1 = cc in omega arith
empty-number e (b ∷ t) q at = omega arith

module _ (e : Edition) (t : List ℕ) (past : stand_n e t ≡ unfit) where
  number-stays : (u : List ℕ) → stand_n e (t ++ u) ≡ unfit
  number-stays = subst (Numbers e t) past (numbers e t)

  number-hopeless : (u : List ℕ) (f : Format) → parsed_in e (t ++ u) ≡ taken f → ⊥
  unfolding parsed_in
  number-hopeless u f r =
      let z : parsed_in e (t ++ u) ≡ refused (beyond (stand_n Iso2539 (t ++ u))) 0 = rw (number-stays u) in
      refused-not z r

  number-unmended : Mends e t 0 → ⊥
  number-unmended m =
      let r = fronted (subst (Ground e (m.x ++ (42 ∷ []))) (mends-accepted m) (grounds e (m.x ++ (42 ∷ [])))) in
      let h = r.front in
      let same : m.x ≡ 78 ∷ digit h.seq ∷ h.items = append_cancel_right m.x r.x (42 ∷ []) r.splits ∙ h.spelled in
      whole-not {a = h.seq} {rest = h.items ++ m.y} (number-stays m.further)
      (ap (stand_n e) (m.splits ∙ ap (λ (l : List ℕ). l ++ m.y) same)
      ∙ number-reads e h.seq (h.items ++ m.y) h.sequence (steps_apart h.steps m.y m.whole))

-- ---- no further bytes mend a text that is refused before its end

hopeless-by : {e : Edition} {t : List ℕ} {n p : ℕ} → Ground e t (refused n p) → p < length t
    → (u : List ℕ) (f : Format) → parsed_in e (t ++ u) ≡ taken f → ⊥
hopeless-by (number_lacks q) lt = absurd (omega arith)
hopeless-by {e} {t} (number_bars q) lt = number-hopeless e t q
hopeless-by (ends h) lt = absurd (omega arith)
hopeless-by (follows b t h) lt = follower-hopeless h b t
hopeless-by (item_lacks {x = x} b t h r) lt = absurd (omega (arith, length-append x (b ∷ t)))
hopeless-by (item_bars b t h s q r) lt = item-hopeless h b t s q r

-- ---- a text that only lacks its end can be completed

completed : (x t u w : List ℕ) {z : List ℕ} → t ++ u ≡ z → x ++ t ++ (u ++ w) ≡ x ++ z ++ w
completed x t u w q =
    append_assoc x t (u ++ w) ∙ ap (λ (l : List ℕ). x ++ l) (sym (append_assoc t u w)) ∙ sym (append_assoc x (t ++ u) w) ∙ ap (λ (l : List ℕ). x ++ l ++ w) q

-- ---- what stands in form or in the edition mends

mends-by : {e : Edition} {dots : Dots} {o : Order} (x z : List ℕ) → Front e dots o (x ++ z) → (t u y : List ℕ)
    → 0 < length z → T (apart y) → t ++ u ≡ z ++ y → Mends e (x ++ t) (length x)
mends-by {e} x z h t u y some stops q =
    record {
      further = u;
      x = z;
      y = y;
      splits = ap (λ (l : List ℕ). l ++ u) (drop-append_seam x t) ∙ q;
      some = some;
      whole = stops;
      spelt =
          accepted-spelt e (take (length x) (x ++ t) ++ (z ++ (42 ∷ []))) _
          (ap (λ (l : List ℕ). parsed_in e (l ++ (z ++ (42 ∷ [])))) (take-append_seam x t) ∙ ap (parsed_in e) (sym (append_assoc x z (42 ∷ []))) ∙ starred-front h);
    }

some_bytes : (dot : Bool) (it : Item) → 0 < length (spell_item dot it)
some_bytes dot it = omega (arith, length-append (spell_dot dot) (it.letter ∷ spell_kind it.kind))

-- an item is past mending, or it mends
number-mends : {e : Edition} (t : List ℕ) (s : Stand ℕ) → Numbers e t s → (s ≡ unfit) ⊎ Mends e t 0
number-mends t (whole seq rest) h = inr (mends-by [] (78 ∷ digit seq ∷ []) (front_of seq h.0 stay) t [] rest (omega arith) h.2 (append-nil t ∙ h.1))
number-mends t short h = inr (mends-by [] (78 ∷ digit h.1 ∷ []) (front_of h.1 h.2 stay) t h.0 [] (omega arith) tt h.3)
number-mends t unfit h = inl refl

item-mends : {e : Edition} {dots : Dots} {o : Order} {x : List ℕ} → Front e dots o x → (t : List ℕ) (s : Stand Item) → Stands e dots o t s → (s ≡ unfit) ⊎ Mends e (x ++ t) (length x)
item-mends {x = x} h t (whole it rest) s =
    let dot = starts 46 t in
    inr (mends-by x (spell_item dot it) (front-more dot it h s.0) t [] rest (some_bytes dot it) s.2 (append-nil t ∙ s.1))
item-mends {x = x} h t short s =
    let z = spell_item s.1 s.2 in
    inr (mends-by x z (front-more s.1 s.2 h s.3) t s.0 [] (some_bytes s.1 s.2) tt (s.4 ∙ sym (append-nil z)))
item-mends h t unfit s = inl refl

-- ---- the number, at a place where an item is past mending

past_by : {A : Type 0} {e : Edition} {t : List ℕ} {p : ℕ} (s : Stand A) → p < length t → Begins e t p → (Mends e t p → ⊥) → (s ≡ unfit) ⊎ Mends Iso2539 t p → (s ≡ unfit → Mends Iso2539 t p → ⊥)
    → Misspelt e t (beyond s) p
past_by (whole a rest) l b n (inl q) r = let z : ◌≡◌ {A = ℕ} 0 1 = cc in absurd (omega arith)
past_by (whole a rest) l b n (inr m) r = beyond_edition l b n m
past_by short l b n (inl q) r = let z : ◌≡◌ {A = ℕ} 0 1 = cc in absurd (omega arith)
past_by short l b n (inr m) r = beyond_edition l b n m
past_by unfit l b n q r = out_of_form l b n (r refl)

-- ---- every refusal is one of the relation

unspelt : {e : Edition} {t : List ℕ} {n p : ℕ} → parsed_in e t ≡ refused n p → Spelt e t → ⊥
unspelt q s = refused-not q (spelt-accepted s)

misspelt-by : {e : Edition} {t : List ℕ} {n p : ℕ} → Ground e t (refused n p) → (Spelt e t → ⊥) → Misspelt e t n p
misspelt-by {e} {t} (number_lacks q) un =
    let m = subst (Numbers e t) q (numbers e t) in
    lacking un (m.0 ++ (42 ∷ [])) (accepted-spelt e _ _ (ap (parsed_in e) (completed [] t m.0 (42 ∷ []) m.3) ∙ starred-front (front_of m.1 m.2 stay)))
misspelt-by {e} {t} (number_bars q) un =
    let some : 0 < length t = (let k = empty-number e t q in omega (arith, k)) in
    past_by (stand_n Iso2539 t) some (first refl) (number-unmended e t q) (number-mends t (stand_n Iso2539 t) (numbers Iso2539 t)) (number-unmended Iso2539 t)
misspelt-by {e} {t} (ends h) un = lacking un (42 ∷ []) (accepted-spelt e _ _ (starred-front h))
misspelt-by {e} (follows {x = x} b t h) un =
    let at : take (length x + 1) (x ++ (42 ∷ (b ∷ t))) ≡ x ++ (42 ∷ []) = take-append-add x (42 ∷ (b ∷ t)) 1 in
    behind_star {p = length x + 1} (omega (arith, length-append x (42 ∷ (b ∷ t)))) (subst (Spelt e) (sym at) (accepted-spelt e _ _ (starred-front h)))
misspelt-by {e} (item_lacks {dots = dots} {o = o} {x = x} b t h r) un =
    let s = subst (Stands e dots o (b ∷ t)) r (stands e dots o b t) in
    let at : length (x ++ (b ∷ t)) ≡ length x + length (b ∷ t) = length-append x (b ∷ t) in
    subst (Misspelt e (x ++ (b ∷ t)) 2) at
    (lacking un (s.0 ++ (42 ∷ [])) (accepted-spelt e _ _ (ap (parsed_in e) (completed x (b ∷ t) s.0 (42 ∷ []) s.4) ∙ starred-front (front-more s.1 s.2 h s.3))))
misspelt-by {e} (item_bars {dots = dots} {o = o} {x = x} b t h stops q r) un =
    let front : Begins e (x ++ (b ∷ t)) (length x) =
    later (subst (λ (l : List ℕ). Spelt e (l ++ (42 ∷ []))) (sym (take-append_seam x (b ∷ t))) (accepted-spelt e _ _ (starred-front h)))
    (subst (λ (l : List ℕ). T (apart l)) (sym (drop-append_seam x (b ∷ t))) stops)
    (subst (λ (l : List ℕ). T (not (starts 42 l))) (sym (drop-append_seam x (b ∷ t))) (rw q tt)) in
    past_by (stand Iso2539 dots o (seen (b ∷ t))) (omega (arith, length-append x (b ∷ t))) front (item-unmended h b t stops q r)
    (item-mends (front-wider h) (b ∷ t) (stand Iso2539 dots o (seen (b ∷ t))) (stands Iso2539 dots o b t))
    (item-unmended (front-wider h) b t stops q)

-- ---- and where the relation holds the text is refused so

-- at a place where an item begins and is past mending
numbered-by : {A : Type 0} {t : List ℕ} {p : ℕ} (s : Stand A) → (s ≡ unfit) ⊎ Mends Iso2539 t p → (s ≡ unfit → Mends Iso2539 t p → ⊥) → ((Mends Iso2539 t p → ⊥) → beyond s ≡ 2) × (Mends Iso2539 t p → beyond s ≡ 3)
numbered-by (whole a rest) (inl q) r = let z : ◌≡◌ {A = ℕ} 0 1 = cc in absurd (omega arith)
numbered-by (whole a rest) (inr m) r = (λ n. absurd (n m), λ m. refl)
numbered-by short (inl q) r = let z : ◌≡◌ {A = ℕ} 0 1 = cc in absurd (omega arith)
numbered-by short (inr m) r = (λ n. absurd (n m), λ m. refl)
numbered-by unfit q r = (λ n. refl, λ m. absurd (r refl m))

-- the number that the relation gives there
abbrev Numbers-at : List ℕ → ℕ → ℕ → Type 0
Numbers-at t p n = ((Mends Iso2539 t p → ⊥) → n ≡ 2) × (Mends Iso2539 t p → n ≡ 3)

at_first : (e : Edition) (t : List ℕ) → (Mends e t 0 → ⊥) → (n : ℕ) × Numbers-at t 0 n × (parsed_in e t ≡ refused n 0)
unfolding parsed_in
at_first e t un = by (number-mends t (stand_n e t) (numbers e t))
  where
    by : (stand_n e t ≡ unfit) ⊎ Mends e t 0 → (n : ℕ) × Numbers-at t 0 n × (parsed_in e t ≡ refused n 0)
    by (inr m) = absurd (un m)
    by (inl q) = (beyond (stand_n Iso2539 t), numbered-by (stand_n Iso2539 t) (number-mends t (stand_n Iso2539 t) (numbers Iso2539 t)) (number-unmended Iso2539 t), rw q)

module _ {e : Edition} {dots : Dots} {o : Order} {x : List ℕ} (h : Front e dots o x) (b : ℕ) (u : List ℕ) (stops : T (apart (b ∷ u))) (plain : eqb b 42 ≡ false) where
  at_front : (Mends e (x ++ (b ∷ u)) (length x) → ⊥) → (n : ℕ) × Numbers-at (x ++ (b ∷ u)) (length x) n × (parsed_in e (x ++ (b ∷ u)) ≡ refused n (length x))
  unfolding items_from
  at_front un = by (item-mends h (b ∷ u) (stand e dots o (seen (b ∷ u))) (stands e dots o b u))
    where
      by : (stand e dots o (seen (b ∷ u)) ≡ unfit) ⊎ Mends e (x ++ (b ∷ u)) (length x) → (n : ℕ) × Numbers-at (x ++ (b ∷ u)) (length x) n × (parsed_in e (x ++ (b ∷ u)) ≡ refused n (length x))
      by (inr m) = absurd (un m)
      by (inl q) = (
        beyond (stand Iso2539 dots o (seen (b ∷ u))),
        numbered-by (stand Iso2539 dots o (seen (b ∷ u))) (item-mends (front-wider h) (b ∷ u) (stand Iso2539 dots o (seen (b ∷ u))) (stands Iso2539 dots o b u))
            (item-unmended (front-wider h) b u stops plain),
        (resumed h (b ∷ u) stops).2 ∙ rw (plain, q),
      )

-- what is spelled with "*" behind it is a front
front_at : {e : Edition} (x : List ℕ) → Spelt e (x ++ (42 ∷ [])) → (dots : Dots) × (o : Order) × Front e dots o x
front_at {e} x s =
    let r = fronted (subst (Ground e (x ++ (42 ∷ []))) (spelt-accepted s) (grounds e (x ++ (42 ∷ [])))) in
    let same : r.x ≡ x = append_cancel_right r.x x (42 ∷ []) (sym r.splits) in
    (r.dots, r.o, subst (Front e r.dots r.o) same r.front)

-- a text from a place within it on
record Placed (t : List ℕ) (p : ℕ) : Type 0 where
  x : List ℕ
  b : ℕ
  u : List ℕ
  whole : t ≡ x ++ (b ∷ u)
  before : take p t ≡ x
  from : drop p t ≡ b ∷ u
  long : length x ≡ p

placed : (t : List ℕ) (p : ℕ) → p < length t → Placed t p
placed t p l =
    let from = drop-cons t p 0 l in
    record {
      x = take p t;
      b = get_or t p 0;
      u = drop (suc p) t;
      whole = sym (take-append-drop p t) ∙ ap (λ (y : List ℕ). take p t ++ y) from;
      before = refl;
      from = from;
      long = length-take-le p t (omega (arith, l));
    }

at-later : {e : Edition} (t : List ℕ) (p : ℕ) → p < length t → Spelt e (take p t ++ (42 ∷ [])) → T (apart (drop p t)) → T (not (starts 42 (drop p t))) → (Mends e t p → ⊥)
    → (n : ℕ) × Numbers-at t p n × (parsed_in e t ≡ refused n p)
at-later {e} t p l s stops star un =
    let k = placed t p l in
    let h = front_at k.x (subst (λ (y : List ℕ). Spelt e (y ++ (42 ∷ []))) k.before s) in
    let apart-there : T (apart (k.b ∷ k.u)) = subst (λ (y : List ℕ). T (apart y)) k.from stops in
    let plain : eqb k.b 42 ≡ false = fails (eqb k.b 42) (subst (λ (y : List ℕ). T (not (starts 42 y))) k.from star) in
    let there : Mends e (k.x ++ (k.b ∷ k.u)) (length k.x) → ⊥ = λ m. un (subst (λ (y : List ℕ). Mends e y p) (sym k.whole) (subst (Mends e (k.x ++ (k.b ∷ k.u))) k.long m)) in
    let r = at_front h.2 k.b k.u apart-there plain there in
    subst (λ (y : List ℕ). (n : ℕ) × Numbers-at y p n × (parsed_in e y ≡ refused n p)) (sym k.whole)
    (subst (λ (q : ℕ). (n : ℕ) × Numbers-at (k.x ++ (k.b ∷ k.u)) q n × (parsed_in e (k.x ++ (k.b ∷ k.u)) ≡ refused n q)) k.long r)

at-begin : {e : Edition} (t : List ℕ) (p : ℕ) → p < length t → Begins e t p → (Mends e t p → ⊥) → (n : ℕ) × Numbers-at t p n × (parsed_in e t ≡ refused n p)
at-begin {e} t p l (first q) un =
    let r = at_first e t (λ m. un (subst (Mends e t) (sym q) m)) in
    subst (λ (i : ℕ). (n : ℕ) × Numbers-at t i n × (parsed_in e t ≡ refused n i)) (sym q) r
at-begin t p l (later s stops star) un = at-later t p l s stops star un

-- a byte after "*"
followed : {e : Edition} (t : List ℕ) (p : ℕ) → p < length t → Spelt e (take p t) → parsed_in e t ≡ refused 2 p
unfolding items_from
followed {e} t p l s =
    let k = placed t p l in
    let r = fronted (subst (Ground e (take p t)) (spelt-accepted s) (grounds e (take p t))) in
    let same : t ≡ r.x ++ (42 ∷ (k.b ∷ k.u)) = k.whole ∙ ap (λ (y : List ℕ). y ++ (k.b ∷ k.u)) (sym k.before ∙ r.splits) ∙ append_assoc r.x (42 ∷ []) (k.b ∷ k.u) in
    let at : length r.x + 1 ≡ p = (let a = ap length (sym k.before ∙ r.splits) in omega (arith, a, k.long, length-append r.x (42 ∷ []))) in
    ap (parsed_in e) same ∙ (resumed r.front (42 ∷ (k.b ∷ k.u)) tt).2 ∙ ap (refused 2) at

-- a text that lacks bytes
within_by : {e : Edition} {t : List ℕ} {n p : ℕ} → Ground e t (refused n p) → p ≤ length t
within_by (number_lacks q) = omega arith
within_by (number_bars q) = omega arith
within_by (ends h) = omega arith
within_by (follows {x = x} b t h) = omega (arith, length-append x (42 ∷ (b ∷ t)))
within_by (item_lacks {x = x} b t h r) = omega (arith, length-append x (b ∷ t))
within_by (item_bars {x = x} b t h s q r) = omega (arith, length-append x (b ∷ t))

end-two : {e : Edition} {t : List ℕ} {n p : ℕ} → Ground e t (refused n p) → p ≡ length t → n ≡ 2
end-two (number_lacks q) at = refl
end-two {e} {t} (number_bars q) at = absurd (empty-number e t q at)
end-two (ends h) at = refl
end-two (follows b u h) at = refl
end-two (item_lacks b u h r) at = refl
end-two (item_bars {x = x} b u h s q r) at = absurd (omega (arith, at, length-append x (b ∷ u)))

lacked : (e : Edition) (t : List ℕ) → (Spelt e t → ⊥) → (u : List ℕ) → Spelt e (t ++ u) → parsed_in e t ≡ refused 2 (length t)
lacked e t un u s = by (parsed_in e t) refl (grounds e t)
  where
    by : (a : Answer Format) → parsed_in e t ≡ a → Ground e t a → a ≡ refused 2 (length t)
    by (taken f) q g = absurd (un (accepted-spelt e t f q))
    by (refused n p) q g = elim (dec_lt p (length t)) [
      | yes l ↦ absurd (hopeless-by g l u s.format (spelt-accepted s))
      | no l ↦ (let w = within_by g in let at : p ≡ length t = omega (arith, l, w) in let two = end-two g at in rw (two, at))
    ]

misspelt-refused : {e : Edition} {t : List ℕ} {n p : ℕ} → Misspelt e t n p → parsed_in e t ≡ refused n p
misspelt-refused {t = t} {p = p} (out_of_form l b un no-form) = let r = at-begin t p l b un in r.2 ∙ ap (λ m. refused m p) (r.1.0 no-form)
misspelt-refused {t = t} {p = p} (beyond_edition l b un m) = let r = at-begin t p l b un in r.2 ∙ ap (λ k. refused k p) (r.1.1 m)
misspelt-refused {t = t} {p = p} (behind_star l s) = followed t p l s
misspelt-refused {e} {t} (lacking un u s) = lacked e t un u s

-- ---- exactly

pub misspelt-exactly : (e : Edition) (t : List ℕ) (n p : ℕ) → (parsed_in e t ≡ refused n p) ↔ Misspelt e t n p
misspelt-exactly e t n p = (λ q. misspelt-by (subst (Ground e t) q (grounds e t)) (unspelt q), misspelt-refused)

-- refused by that number at that place where, and only where, the relation says so
module _ (n : ℕ) (t : List ℕ) (m p : ℕ) where
  refused-spelling : parsed n t ≡ refused m p → Spelling n t m p
  refused-spelling q = by (numbered n t)
    where
      by : Numbered n t → Spelling n t m p
      by (edition e h) = known e h ((misspelt-exactly e t m p).0 (sym (parsed-in e t) ∙ ap (λ i. parsed i t) (sym h) ∙ q))
      by (none h r) = let w : ◌≡◌ {A = Answer Format} (refused 1 0) (refused m p) = sym r ∙ q in let a : 1 ≡ m = cc in let b : 0 ≡ p = cc in rw (sym a, sym b) (unknown h)

  spelling-refused : Spelling n t m p → parsed n t ≡ refused m p
  spelling-refused s = by s (numbered n t)
    where
      by : {m p : ℕ} → Spelling n t m p → Numbered n t → parsed n t ≡ refused m p
      by (unknown h) (edition e q) = absurd (h e q)
      by (unknown h) (none k r) = r
      by {m} {p} (known e q s) k = ap (λ i. parsed i t) q ∙ parsed-in e t ∙ (misspelt-exactly e t m p).1 s

  pub spelling-exactly : (parsed n t ≡ refused m p) ↔ Spelling n t m p
  spelling-exactly = (refused-spelling, spelling-refused)

-- one number and one place fit a text
pub one_place : (n : ℕ) (t : List ℕ) {m p k q : ℕ} → Spelling n t m p → Spelling n t k q → (m ≡ k) × (p ≡ q)
one_place n t {m} {p} {k} {q} a b =
    let r : ◌≡◌ {A = Answer Format} (refused m p) (refused k q) = sym ((spelling-exactly n t m p).1 a) ∙ (spelling-exactly n t k q).1 b in
    (cc, cc)
