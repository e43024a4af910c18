-- What a saving answers and leaves, by what was found on the way.
use Prim.Native.Nat.{ℕ, ◌≤◌, ◌<◌, min}
use native.Mathlib.Decide.{dec_le}
use native.Mathlib.Omega.{arith}
use mathlib.Core.Path.{◌≡◌, refl, sym, ◌∙◌}
use mathlib.Core.Bool.{Bool, true, false, ◌&&◌, cond}
use mathlib.Core.List.{List, map}
use lib.Dec.{leb}
use lib.ListN.{length}
use borrow.Author.Tests.{lt-ltb, le-ltb, le-leb, lt-leb, leb-true}
use Rattle.rows.specs.Answer.{Answer, taken, refused, void, ◌>>◌}
use Rattle.rows.specs.Stages.{limit}
use Rattle.shorthand.specs.declared.Format.{Format}
use Rattle.reading.specs.Answers.{read}
use Rattle.reading.proofs.Outcomes.{never}
use Rattle.punching.specs.Answers.{after}
use Rattle.index.specs.Index.{index_room}
use Rattle.salvage.specs.Pieces.{head_of}
use Rattle.salvage.specs.Saving.{Loss, Saved, saved_of, list_room, salvaged_for}
use Rattle.salvage.specs.Answers.{lost_in, rows_after, listed}

-- an answer without its value
void-refused : {A : Type 0} (a : Answer A) (m p : ℕ) → refused m p ≡ void a → a ≡ refused m p
void-refused (taken x) m p e = never e
void-refused (refused n q) m p e = let i : n ≡ m = cc in let j : q ≡ p = cc in rw (i, j)

void-taken : {A : Type 0} (a : Answer A) → taken tt ≡ void a → (x : A) × (a ≡ taken x)
void-taken (taken x) e = (x, refl)
void-taken (refused n q) e = never (sym e)

-- room for two lists is asked by the shorter of them
leb-min : (n a b : ℕ) → leb n (min a b) ≡ (leb n a && leb n b)
leb-min n a b =
    elim (dec_le n a) [
      | yes h ↦
          elim (dec_le n b) [
            | yes g ↦ rw (le-leb n a h, le-leb n b g) (le-leb n (min a b) (omega arith))
            | no g ↦ rw (le-leb n a h, lt-leb n b (omega arith)) (lt-leb n (min a b) (omega arith))
          ]
      | no h ↦ rw (lt-leb n a (omega arith)) (lt-leb n (min a b) (omega arith))
    ]

pub three-lists : (n a b c : ℕ) → index_room n (min a b) c ≡ list_room n a b c
three-lists n a b c = rw (leb-min n a b) (by (leb n a))
  where
    by : (x : Bool) → ◌≡◌ {A = Answer (Unit {0})} (cond ((x && leb n b) && leb n c) (taken tt) (refused 24 n)) (cond (x && (leb n b && leb n c)) (taken tt) (refused 24 n))
    by true = refl
    by false = refl

-- there is room in all three lists
pub room-three : (n a b c : ℕ) → taken tt ≡ list_room n a b c → (n ≤ a) × (n ≤ b) × (n ≤ c)
room-three n a b c = by (leb n a) refl (leb n b) refl (leb n c) refl
  where
    by : (x : Bool) → leb n a ≡ x → (y : Bool) → leb n b ≡ y → (z : Bool) → leb n c ≡ z → ◌≡◌ {A = Answer (Unit {0})} (taken tt) (cond (x && (y && z)) (taken tt) (refused 24 n)) → (n ≤ a) × (n ≤ b) × (n ≤ c)
    by true p true q true r h = (leb-true n a p, leb-true n b q, leb-true n c r)
    by true p true q false r h = never (sym h)
    by true p false q z r h = never (sym h)
    by false p y q z r h = never (sym h)

module _ (t₀ firsts₀ sizes₀ numbers₀ : List ℕ) where
  -- an answer, by the number told and what tape and lists are behind it
  abbrev pub Leaves : Answer Saved → Answer ℕ → List ℕ → List ℕ → List ℕ → List ℕ → Type 0
  Leaves a told t firsts sizes numbers =
      (told ≡ lost_in a) × ((t ≡ rows_after t₀ a) × ((firsts ≡ after firsts₀ (listed (λ l. l.first) a)) × ((sizes ≡ after sizes₀ (listed (λ l. l.size) a)) × (numbers ≡ after numbers₀ (listed (λ l. l.number) a)))))

  -- a refusal leaves all as it was
  pub leaves_nothing : (a : Answer Saved) (m p : ℕ) → a ≡ refused m p → Leaves a (refused m p) t₀ firsts₀ sizes₀ numbers₀
  leaves_nothing a m p e = rw e (refl, (refl, (refl, (refl, refl))))

  module _ (f : Format) where
    abbrev answer : Answer Saved
    answer = salvaged_for f t₀ (length firsts₀) (length sizes₀) (length numbers₀)

    pub too_long : limit < length t₀ → Leaves answer (refused 4 limit) t₀ firsts₀ sizes₀ numbers₀
    unfolding salvaged_for
    too_long l = leaves_nothing answer 4 limit (rw (lt-ltb limit (length t₀) l))

    module _ (short : length t₀ ≤ limit) where
      pub head-refused : (m p : ℕ) → refused m p ≡ void (read f (head_of t₀)) → Leaves answer (refused m p) t₀ firsts₀ sizes₀ numbers₀
      unfolding salvaged_for
      head-refused m p e = leaves_nothing answer m p (rw (le-ltb limit (length t₀) short, void-refused (read f (head_of t₀)) m p e))

      module _ (head : taken tt ≡ void (read f (head_of t₀))) where
        past_head : answer ≡ (list_room (length (saved_of f t₀).lost) (length firsts₀) (length sizes₀) (length numbers₀) >> taken (saved_of f t₀))
        unfolding salvaged_for
        past_head = rw (le-ltb limit (length t₀) short, (void-taken (read f (head_of t₀)) head).1)

        pub no_room : (m p : ℕ) → refused m p ≡ list_room (length (saved_of f t₀).lost) (length firsts₀) (length sizes₀) (length numbers₀) → Leaves answer (refused m p) t₀ firsts₀ sizes₀ numbers₀
        no_room m p e = leaves_nothing answer m p (past_head ∙ rw (sym e))

        pub all_saved : taken tt ≡ list_room (length (saved_of f t₀).lost) (length firsts₀) (length sizes₀) (length numbers₀) → (t firsts sizes numbers : List ℕ)
            → t ≡ (saved_of f t₀).rows → firsts ≡ after firsts₀ (taken (map (λ (l : Loss). l.first) (saved_of f t₀).lost))
            → sizes ≡ after sizes₀ (taken (map (λ (l : Loss). l.size) (saved_of f t₀).lost)) → numbers ≡ after numbers₀ (taken (map (λ (l : Loss). l.number) (saved_of f t₀).lost))
            → Leaves answer (taken (length (saved_of f t₀).lost)) t firsts sizes numbers
        all_saved r t firsts sizes numbers a b c d =
            let e : answer ≡ taken (saved_of f t₀) = past_head ∙ rw (sym r) in rw e (refl, (a, (b, (c, d))))
