-- Demands 1 to 3 over the axes that are followed (document 02, 11/12).
use Prim.Native.Nat.{ℕ, zero, suc, ◌+◌, ◌≤◌, ◌<◌}
use mathlib.Core.Path.{◌≡◌, refl, sym, ap, ◌∙◌}
use mathlib.Core.Logic.{◌↔◌}
use mathlib.Core.Bool.{Bool, true, false}
use mathlib.Core.List.{List, [], ◌∷◌}
use native.Mathlib.Omega.{arith}
use lib.Dec.{ltb}
use lib.IntN.{ℤ}
use lib.ListN.{length, get_or, take, length-map}
use borrow.Author.Tests.{ltb-true, ltb-false, lt-ltb, le-ltb}
use Rattle.rows.specs.Answer.{Answer, taken, refused, ◌>>=◌, ◌>>◌}
use Rattle.rows.proofs.Outcomes.{refusal, value, of-refused}
use Rattle.shorthand.specs.declared.Format.{Format}
use Rattle.profile.specs.Answers.{agreed}
use Rattle.profile.proofs.Settling.{settled-exactly, unsettled-exactly}
use Rattle.reading.specs.declared.Block.{Block}
use Rattle.reading.specs.Relation.{TapeOf}
use Rattle.reading.specs.declared.Entry.{Entry}
use Rattle.reading.specs.Answers.{read, read_under, size_of, counted}
use Rattle.reading.proofs.Programs.{from-taken, both-taken, tape-read}
use Rattle.images.proofs.KeptRight.{take-map}
use Rattle.index.specs.Finding.{entry_by, entry_found}
use Rattle.slides.specs.declared.Travel.{Travel}
use Rattle.slides.specs.declared.Slides.{Slides}
use Rattle.slides.specs.declared.Rule.{Rule}
use Rattle.slides.specs.Axes.{axes, of, sound, FirstBad}
use Rattle.slides.specs.Moves.{rule_of, start, block_tried, followed}
use Rattle.slides.specs.History.{history, acts_of, Stands, Leaves, FirstLeaving}
use Rattle.slides.specs.Answers.{blocks_to, after, followed_in, slides_after, stepped_in, slides_stepped}
use Rattle.slides.proofs.Travels.{first-bad, only-26}
use Rattle.slides.proofs.Histories.{is-history, only-27, warned}
use Rattle.slides.proofs.Axis.{one-axis}
use Rattle.demands.specs.Tables.{Fetching, LookingUp, Following, Stepping}
use Rattle.demands.proofs.Demand1.{Answered, under-answered, reading-exactly}
use Rattle.demands.proofs.Indexes.{found-answered}

-- ---- what the parts answer

-- the size of what was read is refused as it is, and taken only of what is taken
size-refused : (a : Answer (List Entry)) (m k : ℕ) → size_of a ≡ refused m k → a ≡ refused m k
size-refused (taken es) m k q = let z : ◌≡◌ {A = ℕ} 0 1 = cc in absurd (omega (arith, z))
size-refused (refused x y) m k q = let a : x ≡ m = cc in let b : y ≡ k = cc in rw (a, b)

size-taken : (a : Answer (List Entry)) (c : ℕ) → size_of a ≡ taken c → (es : List Entry) × (a ≡ taken es) × (length es ≡ c)
size-taken (taken es) c q = (es, refl, cc)
size-taken (refused x y) c q = let z : ◌≡◌ {A = ℕ} 0 1 = cc in absurd (omega (arith, z))

-- 26 of a travel, at the letter of the first axis that can't be followed
bad-letter : (tr : Travel) (zs : List ℤ) (m k : ℕ) → sound tr zs ≡ refused m k → (m ≡ 26) × ((a : ℕ) × FirstBad tr zs a × (k ≡ get_or axes a 0))
bad-letter tr zs m k q = let z = only-26 tr zs m k q in (z, (first-bad tr zs k).0 (rw z at q))

-- 27 of some blocks, at the first that leaves its travel
first-left : (r : Rule) (i m k : ℕ) (bs : List Block) (s : Slides) → followed r i bs s ≡ refused m k
    → (m ≡ 27) × ((j : ℕ) × (j < length bs) × (k ≡ i + j) × FirstLeaving r bs s j)
first-left r i m k bs s q =
    let z = only-27 r i m k bs s q in
    (z.0, (z.1.0, z.1.1, z.1.2, (warned r i z.1.0 bs s).0 (rw (z.0, z.1.2) at q)))

-- one block alone
lone : (r : Rule) (i : ℕ) (b : Block) (s : Slides) → followed r i (b ∷ []) s ≡ block_tried r i b s
unfolding followed
lone r i b s = by (block_tried r i b s)
  where
    by : (a : Answer Slides) → (a >>= followed r (suc i) []) ≡ a
    by (taken u) = refl
    by (refused m k) = refl

one-left : (r : Rule) (i m k : ℕ) (b : Block) (s : Slides) → block_tried r i b s ≡ refused m k → (m ≡ 27) × (k ≡ i) × Leaves r b s
unfolding history
one-left r i m k b s q = by (first-left r i m k (b ∷ []) s (lone r i b s ∙ q))
  where
    by : (m ≡ 27) × ((j : ℕ) × (j < 1) × (k ≡ i + j) × FirstLeaving r (b ∷ []) s j) → (m ≡ 27) × (k ≡ i) × Leaves r b s
    by (z, (zero, l, w, f)) = (z, omega (arith, w), f.leaving)
    by (z, (suc j, l, w, f)) = absurd (omega (arith, l))

module _ (e : ℕ) (s p t : List ℕ) (n : ℕ) (tr : Travel) (slashed : Bool) where
  -- what is refused of the tape is refused here
  unread-refused : (m k : ℕ) → read_under e s p t ≡ refused m k → slides_after e s p t n tr slashed ≡ refused m k
  unfolding read_under slides_after followed_in
  unread-refused m k = by (agreed e s p)
    where
      by : (a : Answer Format) → (a >>= λ f. read f t) ≡ refused m k → (a >>= λ f. read f t >>= after (rule_of f p tr slashed) n) ≡ refused m k
      by (taken f) q = ap (λ a. a >>= after (rule_of f p tr slashed) n) q
      by (refused x y) q = let a : x ≡ m = cc in let b : y ≡ k = cc in rw (a, b)

  -- of a tape that is accepted
  accepted-after : (f : Format) (es : List Entry) → agreed e s p ≡ taken f → read_under e s p t ≡ taken es → slides_after e s p t n tr slashed ≡ after (rule_of f p tr slashed) n es
  unfolding read_under slides_after followed_in
  accepted-after f es q r = let w : read f t ≡ taken es = rw q at r in rw (q, w)

  agreed-first : (es : List Entry) → read_under e s p t ≡ taken es → (f : Format) × (agreed e s p ≡ taken f)
  unfolding read_under
  agreed-first es r = let a = from-taken (agreed e s p) (λ f. read f t) es r in (a.0, a.1)

  module _ (f : Format) (es : List Entry) (agree : agreed e s p ≡ taken f) (accept : read_under e s p t ≡ taken es) where
    few-blocks : length es ≤ n → slides_after e s p t n tr slashed ≡ refused 15 (length es)
    few-blocks l = accepted-after f es agree accept ∙ rw (le-ltb n (length es) l)

    module _ (l : n < length es) where
      past-fifteen : slides_after e s p t n tr slashed ≡ (sound tr start.places >> followed (rule_of f p tr slashed) 0 (blocks_to n es) start)
      past-fifteen = accepted-after f es agree accept ∙ rw (lt-ltb n (length es) l)

      stops-26 : (m k : ℕ) → sound tr start.places ≡ refused m k → slides_after e s p t n tr slashed ≡ refused m k
      stops-26 m k q = past-fifteen ∙ rw q

      goes-on : sound tr start.places ≡ taken tt → slides_after e s p t n tr slashed ≡ followed (rule_of f p tr slashed) 0 (blocks_to n es) start
      goes-on q = past-fifteen ∙ rw q

  -- every tape, travel and switch gets an answer by the table
  pub follow-answered : Answered (Following e s p t n tr slashed) (slides_after e s p t n tr slashed)
  follow-answered = by (read_under e s p t) refl
    where
      behind : (f : Format) (es : List Entry) → agreed e s p ≡ taken f → read_under e s p t ≡ taken es → n < length es → sound tr start.places ≡ taken tt
          → (a : Answer Slides) → followed (rule_of f p tr slashed) 0 (blocks_to n es) start ≡ a → Answered (Following e s p t n tr slashed) a
      behind f es q r l c (taken u) w = value tt
      behind f es q r l c (refused m k) w =
          let z = first-left (rule_of f p tr slashed) 0 m k (blocks_to n es) start w in
          let at : k ≡ z.1.0 = omega (arith, z.1.2) in
          rw (z.0, at) (refusal (Following.leaving ((settled-exactly e s p f).0 q) r l c z.1.3))

      through : (f : Format) (es : List Entry) → agreed e s p ≡ taken f → read_under e s p t ≡ taken es → (l : n < length es)
          → (a : Answer (Unit {0})) → sound tr start.places ≡ a → Answered (Following e s p t n tr slashed) (slides_after e s p t n tr slashed)
      through f es q r l (taken u) c = rw (goes-on f es q r l c) (behind f es q r l c (followed (rule_of f p tr slashed) 0 (blocks_to n es) start) refl)
      through f es q r l (refused m k) c =
          let z = bad-letter tr start.places m k c in
          let counts : counted e s p t ≡ taken (length es) = rw r in
          rw (stops-26 f es q r l m k c, z.0, z.1.2) (refusal (Following.travel counts l z.1.1))

      blocks : (f : Format) (es : List Entry) → agreed e s p ≡ taken f → read_under e s p t ≡ taken es → (b : Bool) → ltb n (length es) ≡ b
          → Answered (Following e s p t n tr slashed) (slides_after e s p t n tr slashed)
      blocks f es q r true c = through f es q r (ltb-true n (length es) c) (sound tr start.places) refl
      blocks f es q r false c =
          let l = ltb-false n (length es) c in
          let counts : counted e s p t ≡ taken (length es) = rw r in
          rw (few-blocks f es q r l) (refusal (Following.unfetched (Fetching.past counts l)))

      by : (a : Answer (List Entry)) → read_under e s p t ≡ a → Answered (Following e s p t n tr slashed) (slides_after e s p t n tr slashed)
      by (taken es) r = let f = agreed-first es r in blocks f.0 es f.1 r (ltb n (length es)) refl
      by (refused m k) r = rw (unread-refused m k r) (refusal (Following.unfetched (Fetching.unread (of-refused (under-answered e s p t) r))))

  -- exactly: the table's refusal is the answer
  pub follow-exactly : (m k : ℕ) → (slides_after e s p t n tr slashed ≡ refused m k) ↔ Following e s p t n tr slashed m k
  follow-exactly m k = (λ q. of-refused follow-answered q, back)
    where
      back : {m k : ℕ} → Following e s p t n tr slashed m k → slides_after e s p t n tr slashed ≡ refused m k
      back {m} {k} (Following.unfetched (Fetching.unread h)) = unread-refused m k (size-refused (read_under e s p t) m k ((reading-exactly e s p t m k).1 h))
      back (Following.unfetched (Fetching.past {c = c} q l)) =
          let a = size-taken (read_under e s p t) c q in
          let f = agreed-first a.0 a.1 in
          few-blocks f.0 a.0 f.1 a.1 (omega (arith, l, a.2)) ∙ ap (refused 15) a.2
      back (Following.travel {c = c} {a = i} q l h) =
          let a = size-taken (read_under e s p t) c q in
          let f = agreed-first a.0 a.1 in
          stops-26 f.0 a.0 f.1 a.1 (omega (arith, l, a.2)) 26 (get_or axes i 0) ((first-bad tr start.places (get_or axes i 0)).1 (i, h, refl))
      back (Following.leaving {f = f} {es = es} {k = k} w q l c h) =
          goes-on f es ((settled-exactly e s p f).1 w) q l c ∙ (warned (rule_of f p tr slashed) 0 k (blocks_to n es) start).1 h ∙ ap (refused 27) (omega arith)

  -- of a tape of the program bs
  module _ (bs : List Block) (h : TapeOf e s p bs t) where
    own : agreed e s p ≡ taken h.format
    own = (settled-exactly e s p h.format).1 h.settled

    front : blocks_to n (tape-read e s p t bs h).0 ≡ take (suc n) bs
    front = sym (take-map (λ (x : Entry). x.block) (suc n) (tape-read e s p t bs h).0) ∙ ap (take (suc n)) (tape-read e s p t bs h).2

    long : length (tape-read e s p t bs h).0 ≡ length bs
    long = sym (length-map (tape-read e s p t bs h).0 (λ (x : Entry). x.block)) ∙ ap length (tape-read e s p t bs h).2

    by-program : n < length bs → slides_after e s p t n tr slashed ≡ (sound tr start.places >> followed (rule_of h.format p tr slashed) 0 (take (suc n) bs) start)
    by-program l =
        past-fifteen h.format (tape-read e s p t bs h).0 own (tape-read e s p t bs h).1 (omega (arith, l, long))
        ∙ ap (λ (cs : List Block). sound tr start.places >> followed (rule_of h.format p tr slashed) 0 cs start) front

    no-block : length bs ≤ n → slides_after e s p t n tr slashed ≡ refused 15 (length bs)
    no-block l = few-blocks h.format (tape-read e s p t bs h).0 own (tape-read e s p t bs h).1 (omega (arith, l, long)) ∙ ap (refused 15) long

  -- of a tape of the program bs, with a travel that can be followed and no block of 0 to n that leaves it: each axis stands where the history of those blocks says
  pub places-said : (bs : List Block) (h : TapeOf e s p bs t) → n < length bs → sound tr start.places ≡ taken tt
      → ((k : ℕ) → FirstLeaving (rule_of h.format p tr slashed) (take (suc n) bs) start k → ⊥)
      → (sl : Slides) × (slides_after e s p t n tr slashed ≡ taken sl) × (sl ≡ history (rule_of h.format p tr slashed) (take (suc n) bs) start)
      × ((a : ℕ) → a < length axes → Stands (acts_of (rule_of h.format p tr slashed) a start.increments (take (suc n) bs)) (of sl.places a))
  places-said bs h l c none = by (followed (rule_of h.format p tr slashed) 0 (take (suc n) bs) start) refl
    where
      by : (a : Answer Slides) → followed (rule_of h.format p tr slashed) 0 (take (suc n) bs) start ≡ a
          → (sl : Slides) × (slides_after e s p t n tr slashed ≡ taken sl) × (sl ≡ history (rule_of h.format p tr slashed) (take (suc n) bs) start)
          × ((a : ℕ) → a < length axes → Stands (acts_of (rule_of h.format p tr slashed) a start.increments (take (suc n) bs)) (of sl.places a))
      by (taken u) w =
          let same = ((is-history (rule_of h.format p tr slashed) 0 (take (suc n) bs) start u).0 w).0 in
          (u, by-program bs h l ∙ rw c w, same, λ a k. (one-axis (rule_of h.format p tr slashed) (take (suc n) bs) a k (of u.places a)).0 (ap (λ (x : Slides). of x.places a) (sym same)))
      by (refused m k) w = let z = first-left (rule_of h.format p tr slashed) 0 m k (take (suc n) bs) start w in absurd (none z.1.0 z.1.3)

  -- and what is answered is so
  pub said-places : (bs : List Block) (h : TapeOf e s p bs t) (sl : Slides) → slides_after e s p t n tr slashed ≡ taken sl
      → (n < length bs) × (sl ≡ history (rule_of h.format p tr slashed) (take (suc n) bs) start)
  said-places bs h sl q = by (ltb n (length bs)) refl
    where
      by : (b : Bool) → ltb n (length bs) ≡ b → (n < length bs) × (sl ≡ history (rule_of h.format p tr slashed) (take (suc n) bs) start)
      by true c =
          let l = ltb-true n (length bs) c in
          let w = both-taken (sound tr start.places) (followed (rule_of h.format p tr slashed) 0 (take (suc n) bs) start) sl (sym (by-program bs h l) ∙ q) in
          (l, ((is-history (rule_of h.format p tr slashed) 0 (take (suc n) bs) start sl).0 w.1).0)
      by false c = let z : ◌≡◌ {A = ℕ} 0 1 = cc (no-block bs h (ltb-false n (length bs) c), q) in absurd (omega (arith, z))

module _ (e : ℕ) (s p t firsts : List ℕ) (n : ℕ) (sl : Slides) (tr : Travel) (slashed : Bool) where
  pub step-answered : Answered (Stepping e s p t firsts n sl tr slashed) (slides_stepped e s p t firsts n sl tr slashed)
  unfolding slides_stepped stepped_in entry_found
  step-answered = by (agreed e s p) refl
    where
      behind : (f : Format) (x : Entry) → agreed e s p ≡ taken f → entry_by f t firsts n ≡ taken x → sound tr sl.places ≡ taken tt
          → (a : Answer Slides) → block_tried (rule_of f p tr slashed) n x.block sl ≡ a → Answered (Stepping e s p t firsts n sl tr slashed) a
      behind f x q r c (taken u) w = value tt
      behind f x q r c (refused m k) w =
          let z = one-left (rule_of f p tr slashed) n m k x.block sl w in
          let there : entry_found e s p t firsts n ≡ taken x = rw (q, r) in
          rw (z.0, z.1) (refusal (Stepping.leaving ((settled-exactly e s p f).0 q) there c z.2))

      travelled : (f : Format) (x : Entry) → agreed e s p ≡ taken f → entry_by f t firsts n ≡ taken x → (a : Answer (Unit {0})) → sound tr sl.places ≡ a
          → Answered (Stepping e s p t firsts n sl tr slashed) (a >> block_tried (rule_of f p tr slashed) n x.block sl)
      travelled f x q r (taken u) c = behind f x q r c (block_tried (rule_of f p tr slashed) n x.block sl) refl
      travelled f x q r (refused m k) c =
          let z = bad-letter tr sl.places m k c in
          let there : entry_found e s p t firsts n ≡ taken x = rw (q, r) in
          rw (z.0, z.1.2) (refusal (Stepping.travel there z.1.1))

      found : (f : Format) → agreed e s p ≡ taken f → (a : Answer Entry) → entry_by f t firsts n ≡ a
          → Answered (Stepping e s p t firsts n sl tr slashed) (a >>= λ x. sound tr sl.places >> block_tried (rule_of f p tr slashed) n x.block sl)
      found f q (taken x) r = travelled f x q r (sound tr sl.places) refl
      found f q (refused m k) r = refusal (Stepping.unfound (of-refused (found-answered e s p t firsts n) (rw (q, r))))

      by : (a : Answer Format) → agreed e s p ≡ a
          → Answered (Stepping e s p t firsts n sl tr slashed) (a >>= λ f. entry_by f t firsts n >>= λ x. sound tr sl.places >> block_tried (rule_of f p tr slashed) n x.block sl)
      by (taken f) q = found f q (entry_by f t firsts n) refl
      by (refused m k) q = refusal (Stepping.unfound (LookingUp.settling ((unsettled-exactly e s p m k).0 q)))
