-- The places behind some blocks are what their history says, and 27 stands at the first block that leaves its travel.
use Prim.Native.Nat.{ℕ, zero, suc, ◌+◌, ◌<◌}
use mathlib.Core.Path.{◌≡◌, refl, sym, ap, ◌∙◌}
use mathlib.Core.Logic.{◌↔◌}
use mathlib.Core.Bool.{Bool, true, false, not, cond}
use mathlib.Core.List.{List, [], ◌∷◌, ◌++◌}
use native.Mathlib.Omega.{arith}
use lib.Dec.{eqb, ltb}
use lib.IntN.{ℤ}
use lib.ListN.{length, get_or, take}
use borrow.Author.Tests.{lt-ltb, ne_eqb}
use Rattle.rows.specs.Answer.{Answer, taken, refused, ◌>>=◌, ◌>>◌}
use Rattle.rows.specs.Passes.{Every}
use Rattle.profile.specs.Answers.{agreed}
use Rattle.words.specs.declared.Value.{Value}
use Rattle.words.specs.declared.Value.TheVariants.{Number, Speed, Dimension}
use Rattle.words.specs.declared.Word.{Word}
use Rattle.reading.specs.declared.Block.{Block}
use Rattle.reading.specs.Record.{words_of, empty_block}
use Rattle.reading.specs.declared.Entry.{Entry}
use Rattle.reading.specs.Answers.{read, read_under}
use Rattle.reading.proofs.Programs.{from-taken}
use Rattle.slides.specs.declared.Travel.{Travel}
use Rattle.slides.specs.declared.Slides.{Slides}
use Rattle.slides.specs.declared.Rule.{Rule}
use Rattle.slides.specs.declared.Motion.{Motion}
use Rattle.std.specs.Prelude.{Option, Some, None}
use Rattle.slides.specs.Axes.{axes, axis_of, of, within, sound}
use Rattle.slides.specs.Moves.{motion_by, motion_of, rule_of, placed, moved, leaves, chosen, counts, words_tried, block_tried, followed, start}
use Rattle.slides.specs.History.{words_moved, block_moved, history, Leaves, FirstLeaving}
use Rattle.slides.specs.Answers.{blocks_to, after, followed_in, slides_after}
use Rattle.slides.proofs.AxisLists.{other-axis}
use Rattle.slides.proofs.BlockMoves.{Without}

-- ---- the words of a block

module _ (r : Rule) (increments : Bool) where
  -- one of some words puts its axis outside the travel
  record Out (ws : List Word) (zs : List ℤ) : Type 0 where
    pub before : List Word
    pub word : Word
    pub behind : List Word
    pub words : ws ≡ before ++ (word ∷ behind)
    pub outside : leaves r increments (words_moved r increments before zs) (motion_of word) ≡ true

  -- a word that leaves, at the end of some that do or do not
  word_out : (k : ℕ) (before : List Word) (word : Word) (behind : List Word) (zs : List ℤ)
      → leaves r increments (words_moved r increments before zs) (motion_of word) ≡ true → words_tried r increments k (before ++ (word ∷ behind)) zs ≡ refused 27 k
  unfolding words_tried words_moved
  word_out k [] word behind zs e = rw e
  word_out k (w ∷ before) word behind zs e =
      by (leaves r increments zs (motion_of w)) (word_out k before word behind (moved r increments zs (motion_of w)) e)
    where
      by : (x : Bool) {rest : Answer (List ℤ)} → rest ≡ refused 27 k → cond x (refused 27 k) rest ≡ refused 27 k
      by true h = refl
      by false h = h

  words-out : (k : ℕ) (ws : List Word) (zs : List ℤ) → Out ws zs → words_tried r increments k ws zs ≡ refused 27 k
  words-out k ws zs o = rw o.words (word_out k o.before o.word o.behind zs o.outside)

  -- some words stay within, or one of them leaves
  data Judged (k : ℕ) (ws : List Word) (zs : List ℤ) : Type 0 where
    all_in : words_tried r increments k ws zs ≡ taken (words_moved r increments ws zs) → Judged k ws zs
    one_out : Out ws zs → Judged k ws zs

  judge-words : (k : ℕ) (ws : List Word) (zs : List ℤ) → Judged k ws zs
  unfolding words_tried words_moved
  judge-words k [] zs = all_in refl
  judge-words k (w ∷ ws) zs = by (leaves r increments zs (motion_of w)) refl (judge-words k ws (moved r increments zs (motion_of w)))
    where
      by : (x : Bool) → leaves r increments zs (motion_of w) ≡ x → Judged k ws (moved r increments zs (motion_of w)) → Judged k (w ∷ ws) zs
      by true e h = one_out (record { before = []; word = w; behind = ws; words = refl; outside = e })
      by false e (all_in h) = all_in (rw e h)
      by false e (one_out o) = one_out (record { before = w ∷ o.before; word = o.word; behind = o.behind; words = ap (λ v. w ∷ v) o.words; outside = o.outside })

module _ (r : Rule) where
  -- ---- a block

  block_out : (k : ℕ) (b : Block) (s : Slides) → Leaves r b s → block_tried r k b s ≡ refused 27 k
  unfolding block_tried
  block_out k b s l =
      rw (
        l.counted,
        words-out r (chosen r (words_of b) s.increments) k (words_of b) s.places
            (record { before = l.before; word = l.word; behind = l.behind; words = l.words; outside = l.outside }),
      )

  -- a block stays within, or leaves
  data Verdict (k : ℕ) (b : Block) (s : Slides) : Type 0 where
    stays : block_tried r k b s ≡ taken (block_moved r b s) → Verdict k b s
    goes : Leaves r b s → Verdict k b s

  judge-block : (k : ℕ) (b : Block) (s : Slides) → Verdict k b s
  unfolding block_tried
  judge-block k b s = by (counts r b) refl (judge-words r (chosen r (words_of b) s.increments) k (words_of b) s.places)
    where
      by : (x : Bool) → counts r b ≡ x → Judged r (chosen r (words_of b) s.increments) k (words_of b) s.places → Verdict k b s
      by true e (all_in h) = stays (rw (e, h))
      by true e (one_out o) = goes (record { counted = e; before = o.before; word = o.word; behind = o.behind; words = o.words; outside = o.outside })
      by false e h = stays (rw e)

  -- not both
  not-both : (k : ℕ) (b : Block) (s : Slides) → block_tried r k b s ≡ taken (block_moved r b s) → Leaves r b s → ⊥
  not-both k b s e l = let z : ◌≡◌ {A = ℕ} 0 1 = cc (e, block_out k b s l) in omega arith

  -- ---- some blocks

  -- behind a block that stays, those behind it; behind one that leaves, nothing
  module _ (k : ℕ) (b : Block) (bs : List Block) (s : Slides) where
    go_on : block_tried r k b s ≡ taken (block_moved r b s) → followed r k (b ∷ bs) s ≡ followed r (suc k) bs (block_moved r b s)
    unfolding followed
    go_on e = rw e

    stop : Leaves r b s → followed r k (b ∷ bs) s ≡ refused 27 k
    unfolding followed
    stop l = rw (block_out k b s l)

  -- no block of some leaves its travel
  abbrev NoneLeaves : List Block → Slides → Type 0
  NoneLeaves bs s = (j : ℕ) → j < length bs → Leaves r (get_or bs j empty_block) (history r (take j bs) s) → ⊥

  stay-nil : (s : Slides) → NoneLeaves [] s
  stay-nil s j l h = omega arith

  module _ (b : Block) (bs : List Block) (s : Slides) where
    stay-cons : (Leaves r b s → ⊥) → NoneLeaves bs (block_moved r b s) → NoneLeaves (b ∷ bs) s
    unfolding history
    stay-cons h g zero l = h
    stay-cons h g (suc j) l = g j (omega arith)

    stay-head : NoneLeaves (b ∷ bs) s → Leaves r b s → ⊥
    unfolding history
    stay-head g = g 0 (omega arith)

    stay-tail : NoneLeaves (b ∷ bs) s → NoneLeaves bs (block_moved r b s)
    unfolding history
    stay-tail g j l = g (suc j) (omega arith)

    by-history : (k : ℕ) (u : Slides) → Verdict k b s → (followed r (suc k) bs (block_moved r b s) ≡ taken u) ↔ ((u ≡ history r bs (block_moved r b s)) × NoneLeaves bs (block_moved r b s))
        → (followed r k (b ∷ bs) s ≡ taken u) ↔ ((u ≡ history r (b ∷ bs) s) × NoneLeaves (b ∷ bs) s)
    unfolding history
    by-history k u (stays e) h = (
      λ q. let a = h.0 (sym (go_on k b bs s e) ∙ q) in (a.0, stay-cons (not-both k b s e) a.1),
      λ a. go_on k b bs s e ∙ h.1 (a.0, stay-tail a.1),
    )
    by-history k u (goes l) h = (
      λ q. let z : ◌≡◌ {A = ℕ} 0 1 = cc (q, stop k b bs s l) in absurd (omega arith),
      λ a. absurd (stay-head a.1 l),
    )

  -- what is answered is what the history defines, and then no block leaves its travel
  pub is-history : (k : ℕ) (bs : List Block) (s u : Slides)
      → (followed r k bs s ≡ taken u) ↔ ((u ≡ history r bs s) × ((j : ℕ) → j < length bs → Leaves r (get_or bs j empty_block) (history r (take j bs) s) → ⊥))
  unfolding followed history
  is-history k [] s u = (λ e. (cc, stay-nil s), λ h. rw h.0)
  is-history k (b ∷ bs) s u = by-history b bs s k u (judge-block k b s) (is-history (suc k) bs (block_moved r b s) u)

  by-27 : (i n p : ℕ) (b : Block) (bs : List Block) (s : Slides) → Verdict i b s
      → (followed r (suc i) bs (block_moved r b s) ≡ refused n p → (n ≡ 27) × ((k : ℕ) × (k < length bs) × (p ≡ suc i + k)))
      → followed r i (b ∷ bs) s ≡ refused n p → (n ≡ 27) × ((k : ℕ) × (k < suc (length bs)) × (p ≡ i + k))
  by-27 i n p b bs s (stays e) h q =
      let a = h (sym (go_on i b bs s e) ∙ q) in
      (a.0, (suc a.1.0, omega (arith, a.1.1), omega (arith, a.1.2)))
  by-27 i n p b bs s (goes l) h q =
      let at = stop i b bs s l in
      let same : i ≡ p = cc in
      (cc, (0, omega arith, omega (arith, same)))

  -- and no other refusal, nor another place
  pub only-27 : (i n p : ℕ) (bs : List Block) (s : Slides) → followed r i bs s ≡ refused n p → (n ≡ 27) × ((k : ℕ) × (k < length bs) × (p ≡ i + k))
  unfolding followed
  only-27 i n p [] s q = let z : ◌≡◌ {A = ℕ} 0 1 = cc in absurd (omega arith)
  only-27 i n p (b ∷ bs) s q = by-27 i n p b bs s (judge-block i b s) (only-27 (suc i) n p bs (block_moved r b s)) q

  module _ (i : ℕ) (b : Block) (bs : List Block) (s : Slides) where
    first-here : Verdict i b s → (followed r i (b ∷ bs) s ≡ refused 27 (i + 0)) ↔ FirstLeaving r (b ∷ bs) s 0
    unfolding history
    first-here (stays e) = (
      λ q. let a = only-27 (suc i) 27 (i + 0) bs (block_moved r b s) (sym (go_on i b bs s e) ∙ q) in absurd (omega (arith, a.1.2)),
      λ f. absurd (not-both i b s e f.leaving),
    )
    first-here (goes l) = (
      λ q. record { within = omega arith; leaving = l; none_before = λ j h. absurd (omega arith) },
      λ f. let z : i + 0 ≡ i = omega arith in rw z (stop i b bs s l),
    )

    first-later : (k : ℕ) → Verdict i b s → (followed r (suc i) bs (block_moved r b s) ≡ refused 27 (suc i + k)) ↔ FirstLeaving r bs (block_moved r b s) k
        → (followed r i (b ∷ bs) s ≡ refused 27 (i + suc k)) ↔ FirstLeaving r (b ∷ bs) s (suc k)
    unfolding history
    first-later k (stays e) h =
        let on = go_on i b bs s e in
        let at : i + suc k ≡ suc i + k = omega arith in (
          λ q. let f = h.0 (sym on ∙ q ∙ ap (refused 27) at) in
              record { within = omega (arith, f.within); leaving = f.leaving; none_before = before e f },
          λ f. on ∙ h.1 (record { within = omega (arith, f.within); leaving = f.leaving; none_before = λ j l. f.none_before (suc j) (omega arith) }) ∙ ap (refused 27) (sym at),
        )
      where
        before : block_tried r i b s ≡ taken (block_moved r b s) → FirstLeaving r bs (block_moved r b s) k → (j : ℕ) → j < suc k
            → Leaves r (get_or (b ∷ bs) j empty_block) (history r (take j (b ∷ bs)) s) → ⊥
        before e f zero l = not-both i b s e
        before e f (suc j) l = f.none_before j (omega arith)
    first-later k (goes l) h = (
      λ q. let at = stop i b bs s l in let same : i ≡ i + suc k = cc in absurd (omega (arith, same)),
      λ f. absurd (f.none_before 0 (omega arith) l),
    )

  -- 27 at the first block that leaves it
  pub warned : (i k : ℕ) (bs : List Block) (s : Slides) → (followed r i bs s ≡ refused 27 (i + k)) ↔ FirstLeaving r bs s k
  unfolding followed
  warned i k [] s = (λ q. let z : ◌≡◌ {A = ℕ} 0 1 = cc in absurd (omega arith), λ f. absurd (omega (arith, f.within)))
  warned i zero (b ∷ bs) s = first-here i b bs s (judge-block i b s)
  warned i (suc k) (b ∷ bs) s = first-later i b bs s k (judge-block i b s) (warned (suc i) k bs (block_moved r b s))

  append-on : (i j : ℕ) (a : Answer Slides) (bs cs : List Block) → ((s : Slides) → followed r i (bs ++ cs) s ≡ (followed r i bs s >>= followed r j cs))
      → (a >>= followed r i (bs ++ cs)) ≡ ((a >>= followed r i bs) >>= followed r j cs)
  append-on i j (taken s) bs cs h = h s
  append-on i j (refused n p) bs cs h = refl

  -- blocks behind one another
  pub followed-append : (i : ℕ) (bs cs : List Block) (s : Slides) → followed r i (bs ++ cs) s ≡ (followed r i bs s >>= followed r (i + length bs) cs)
  unfolding followed
  followed-append i [] cs s = let z : i + 0 ≡ i = omega arith in rw z
  followed-append i (b ∷ bs) cs s =
      let z : i + suc (length bs) ≡ suc i + length bs = omega arith in
      rw z (append-on (suc i) (suc i + length bs) (block_tried r i b s) bs cs (followed-append (suc i) bs cs))

-- two travels that are the same but for axis a
pub record Elsewhere (a : ℕ) (t u : Travel) : Type 0 where
  pub lows : (b : ℕ) → eqb a b ≡ false → of t.low b ≡ of u.low b
  pub highs : (b : ℕ) → eqb a b ≡ false → of t.high b ≡ of u.high b

abbrev pub under : Rule → Travel → Rule
under r t = record { chooses = r.chooses; deltas = r.deltas; slashed = r.slashed; travel = t }

-- ---- a travel that is not looked at

module _ (r : Rule) (a : ℕ) (t u : Travel) (same : Elsewhere a t u) where
  same-within : (b : ℕ) → eqb a b ≡ false → (z : ℤ) → within t b z ≡ within u b z
  same-within b e z = rw (same.lows b e, same.highs b e)

  same-leaves : (increments : Bool) (zs : List ℤ) (w : Word) → eqb w.letter (get_or axes a 0) ≡ false
      → leaves (under r t) increments zs (motion_of w) ≡ leaves (under r u) increments zs (motion_of w)
  same-leaves increments zs w e = by w.value
    where
      moves : (x : ℤ) (b : Bool) → ltb (axis_of w.letter) (length axes) ≡ b
          → leaves (under r t) increments zs (cond b (Some (record { axis = axis_of w.letter; value = x })) None) ≡ leaves (under r u) increments zs (cond b (Some (record { axis = axis_of w.letter; value = x })) None)
      moves x true q =
          ap not (same-within (axis_of w.letter) (ne_eqb a (axis_of w.letter) (other-axis a w.letter e q)) (placed r increments zs (axis_of w.letter) x))
      moves x false q = refl

      by : (v : Value) → leaves (under r t) increments zs (motion_by (axis_of w.letter) v) ≡ leaves (under r u) increments zs (motion_by (axis_of w.letter) v)
      by (Number n) = refl
      by (Dimension x) = moves x (ltb (axis_of w.letter) (length axes)) refl
      by (Speed v) = refl

  same-moved : (increments : Bool) (zs : List ℤ) (m : Option Motion) → moved (under r t) increments zs m ≡ moved (under r u) increments zs m
  same-moved increments zs None = refl
  same-moved increments zs (Some m) = refl

  same-words : (increments : Bool) (k : ℕ) (ws : List Word) → Without (get_or axes a 0) ws → (zs : List ℤ) → words_tried (under r t) increments k ws zs ≡ words_tried (under r u) increments k ws zs
  unfolding words_tried
  same-words increments k [] h zs = refl
  same-words increments k (w ∷ ws) h zs =
      rw (same-leaves increments zs w h.0, same-moved increments zs (motion_of w), same-words increments k ws h.1 (moved (under r u) increments zs (motion_of w)))

  same_block : (k : ℕ) (b : Block) → Without (get_or axes a 0) (words_of b) → (s : Slides) → block_tried (under r t) k b s ≡ block_tried (under r u) k b s
  unfolding block_tried
  same_block k b h s = rw (same-words (chosen r (words_of b) s.increments) k (words_of b) h s.places)

  same-on : (k : ℕ) (bs : List Block) (x : Answer Slides) → ((s : Slides) → followed (under r t) k bs s ≡ followed (under r u) k bs s)
      → (x >>= followed (under r t) k bs) ≡ (x >>= followed (under r u) k bs)
  same-on k bs (taken s) h = h s
  same-on k bs (refused n p) h = refl

  same_blocks : (i : ℕ) (bs : List Block) → Every (λ b. Without (get_or axes a 0) (words_of b)) bs → (s : Slides) → followed (under r t) i bs s ≡ followed (under r u) i bs s
  unfolding followed
  same_blocks i [] h s = refl
  same_blocks i (b ∷ bs) h s = rw (same_block i b h.0 s) (same-on (suc i) bs (block_tried (under r u) i b s) (same_blocks (suc i) bs h.1))

-- an axis is judged only by a block that has a word for it: with none in any block, its travel changes no answer
pub unjudged : (r : Rule) (a : ℕ) → a < length axes → (t u : Travel) → Elsewhere a t u → (i : ℕ) (bs : List Block) → Every (λ b. Without (get_or axes a 0) (words_of b)) bs → (s : Slides)
    → followed (under r t) i bs s ≡ followed (under r u) i bs s
unjudged r a l t u same i bs h s = same_blocks r a t u same i bs h s

-- ---- nothing behind block n is looked at

-- where there is a block n, 15 is not the answer
pub past-15 : (r : Rule) (n : ℕ) (es : List Entry) → n < length es → after r n es ≡ (sound r.travel start.places >> followed r 0 (blocks_to n es) start)
past-15 r n es l = rw (lt-ltb n (length es) l)

-- tapes with the same blocks 0 to n give the same answer
pub only-history : (e : ℕ) (s p t u : List ℕ) (n : ℕ) (tr : Travel) (slashed : Bool) {es ds : List Entry} → read_under e s p t ≡ taken es → read_under e s p u ≡ taken ds
    → n < length es → n < length ds → blocks_to n es ≡ blocks_to n ds → slides_after e s p t n tr slashed ≡ slides_after e s p u n tr slashed
unfolding read_under slides_after followed_in
only-history e s p t u n tr slashed {es} {ds} ht hu lt lu same =
    let a = from-taken (agreed e s p) (λ f. read f t) es ht in
    let b = from-taken (agreed e s p) (λ f. read f u) ds hu in
    let format : b.0 ≡ a.0 = (let z = sym b.1 ∙ a.1 in cc) in
    let r = rule_of a.0 p tr slashed in
    rw (a.1, a.2, rw format at b.2) (past-15 r n es lt ∙ ap (λ bs. sound r.travel start.places >> followed r 0 bs start) same ∙ sym (past-15 r n ds lu))
