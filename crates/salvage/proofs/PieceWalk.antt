-- A walk over the pieces of a tape: what is to come of the losses and of the rows saved, piece by piece, and what one piece more leaves.
use Prim.Native.Nat.{ℕ, ◌+◌, ◌-◌, ◌≤◌, ◌<◌}
use mathlib.Core.Path.{◌≡◌, refl, sym, ap, subst, ◌∙◌}
use mathlib.Core.Bool.{Bool, true, false, cond}
use mathlib.Core.List.{List, [], ◌∷◌, ◌++◌, map, append_assoc, append-nil}
use native.Mathlib.Nat.{le_refl}
use native.Mathlib.Omega.{arith}
use lib.Dec.{eqb}
use lib.ListN.{length, take, drop, set, length-append, take-append-drop, length-drop, length-replicate, drop_of_length-le}
use lib.Seq.{take_at, drop_at, drop-drop, length-take-le, take_all}
use borrow.Author.Tests.{ne_eqb}
use Rattle.rows.specs.Answer.{taken, void}
use Rattle.rows.specs.Stages.{limit}
use Rattle.shorthand.specs.declared.Format.{Format}
use Rattle.reading.specs.Answers.{read}
use Rattle.reading.proofs.BehindHead.{OnlyHead}
use Rattle.punching.specs.Answers.{after}
use Rattle.index.proofs.Filling.{Filled, filled_more}
use Rattle.salvage.specs.Pieces.{divided, head_of}
use Rattle.salvage.specs.Saving.{piece_number, overpunched, saved_piece, saved_rows, Loss, with_loss, losses, saved_of}
use Rattle.salvage.specs.Turns.{piece_at, alone_at, losses_by, lost_at}
use Rattle.salvage.proofs.Dividing.{parts_last, first_piece, first_some, first-front, others-behind}
use Rattle.salvage.proofs.HeadAlone.{only-head, piece-alone}

-- a head that was accepted is a head and nothing else
pub head-only : (f : Format) (t : List ℕ) → taken tt ≡ void (read f (head_of t)) → OnlyHead (head_of t)
head-only f t e = (only-head f (head_of t) (parts_last t).0 e).0

-- the piece that begins at a row before the end: the rows from there on are it and the pieces behind it
pub record Next (t : List ℕ) (at : ℕ) : Type 0 where
  pub some : 0 < length (piece_at t at)
  pub within : at + length (piece_at t at) ≤ length t
  pub rows : drop at t ≡ piece_at t at ++ drop (at + length (piece_at t at)) t
  pub pieces : divided (drop at t) ≡ piece_at t at ∷ divided (drop (at + length (piece_at t at)) t)

pub next-piece : (t : List ℕ) (at : ℕ) → at < length t → Next t at
next-piece t at l =
    let u = drop at t in
    let n = length (piece_at t at) in
    let long = length-drop at t in
    let some : 0 < length u = omega arith in
    let front = first-front u in
    let further : drop n u ≡ drop (at + n) t = drop-drop n at t in
    let sizes = length-append (piece_at t at) (drop n u) in
    let total = ap length front in
    record {
      some = first_some u some;
      within = omega arith;
      rows = sym front ∙ ap (λ x. piece_at t at ++ x) further;
      pieces = first_piece u some ∙ ap (λ ps. piece_at t at ∷ ps) (sym (others-behind u) ∙ ap divided further);
    }

module _ (f : Format) {h : List ℕ} (o : OnlyHead h) where
  -- behind the head, within the limit, a piece is refused by the number by which it is refused alone
  pub same_number : (t : List ℕ) (at : ℕ) → length t ≤ limit → length h ≤ at → at < length t → piece_number f h (piece_at t at) ≡ alone_at f t at
  same_number t at short before l =
      let k = (next-piece t at l).within in
      piece-alone f o (piece_at t at) (omega (arith, length-append h (piece_at t at)))

  -- the losses from a row on: that of the piece there, if it is one, and those of the others
  pub losses-turn : (t : List ℕ) (at : ℕ) → length t ≤ limit → length h ≤ at → at < length t
      → let end = at + length (piece_at t at) in losses f h at (divided (drop at t)) ≡ with_loss (alone_at f t at) at (length (piece_at t at)) (losses f h end (divided (drop end t)))
  losses-turn t at short before l = rw ((next-piece t at l).pieces, same_number t at short before l)

  -- the rows saved from a row on
  pub saved-turn : (t : List ℕ) (at : ℕ) → length t ≤ limit → length h ≤ at → at < length t
      → saved_rows f h (divided (drop at t)) ≡ saved_piece (alone_at f t at) (piece_at t at) ++ saved_rows f h (divided (drop (at + length (piece_at t at)) t))
  saved-turn t at short before l = rw ((next-piece t at l).pieces, same_number t at short before l)

-- the piece that begins at a row, as a part of the tape
pub piece-within : (t : List ℕ) (at : ℕ) → at ≤ length t → at + length (piece_at t at) ≤ length t
piece-within t at l = omega (arith, ap length (first-front (drop at t)), length-append (piece_at t at) (drop (length (piece_at t at)) (drop at t)), length-drop at t)

pub piece-part : (t : List ℕ) (at end : ℕ) → end ≡ at + length (piece_at t at) → take (end - at) (drop at t) ≡ piece_at t at
piece-part t at end e =
    let p = piece_at t at in
    let n : end - at ≡ length p = omega (arith, e) in
    ap (λ k. take k (drop at t)) n ∙ ap (take (length p)) (sym (first-front (drop at t))) ∙ take_at p (drop (length p) (drop at t)) (length p) refl

-- the first piece is the head
pub head-part : (t : List ℕ) (end : ℕ) → end ≡ 0 + length (piece_at t 0) → (end ≡ length (head_of t)) × (take end t ≡ head_of t)
head-part t end e =
    let h = head_of t in
    let n : end ≡ length h = omega (arith, e) in
    (n, ap (λ k. take k t) n ∙ ap (take (length h)) (sym (first-front t)) ∙ take_at h (drop (length h) t) (length h) refl)

-- past the last row nothing is to come
pub over-divided : (t : List ℕ) (at : ℕ) → length t ≤ at → divided (drop at t) ≡ []
unfolding divided
over-divided t at l = rw (drop_of_length-le t {i = at} l)

-- how many losses one piece makes
pub with-length : (n at size : ℕ) (ls : List Loss) → length (with_loss n at size ls) ≡ losses_by n + length ls
with-length n at size ls = by (eqb n 0)
  where
    by : (x : Bool) → length (cond x ls (record { first = at; size = size; number = n } ∷ ls)) ≡ cond x 0 1 + length ls
    by true = omega arith
    by false = omega arith

losses-most : (n : ℕ) → losses_by n ≤ 1
losses-most n = by (eqb n 0)
  where
    by : (x : Bool) → cond x 0 1 ≤ 1
    by true = omega arith
    by false = omega arith

-- one piece more is counted
pub count_turn : (f : Format) {h : List ℕ} → OnlyHead h → (t : List ℕ) (at lost end total : ℕ) → length t ≤ limit → length h ≤ at → at < length t → end ≡ at + length (piece_at t at)
    → lost + length (losses f h at (divided (drop at t))) ≡ total → lost ≤ at
    → (length h ≤ end) × (end ≤ length t) × (lost + lost_at f t at + length (losses f h end (divided (drop end t))) ≡ total) × (lost + lost_at f t at ≤ end) × (at < end)
count_turn f {h} o t at lost end total short before l e all few =
    let k = next-piece t at l in
    let turn = ap length (losses-turn f o t at short before l) ∙ with-length (alone_at f t at) at (length (piece_at t at)) (losses f h (at + length (piece_at t at)) (divided (drop (at + length (piece_at t at)) t))) in
    rw e (omega (arith, before), k.within, omega (arith, all, turn), omega (arith, few, k.some, losses-most (alone_at f t at)), omega (arith, k.some))

-- what is lost of a tape, from the end of its head on
pub lost-all : (f : Format) (t : List ℕ) → (saved_of f t).lost ≡ losses f (head_of t) (length (head_of t)) (divided (drop (length (head_of t)) t))
lost-all f t = ap (losses f (head_of t) (length (head_of t))) (sym (others-behind t))

-- the count begins behind the head
pub count-start : (f : Format) (t : List ℕ) (head : ℕ) → head ≡ length (head_of t)
    → (length (head_of t) ≤ head) × (head ≤ length t) × (0 + length (losses f (head_of t) head (divided (drop head t))) ≡ length (saved_of f t).lost) × (0 ≤ head)
count-start f t head e =
    let h = length (head_of t) in
    rw e (le_refl h, omega (arith, ap length (first-front t), length-append (head_of t) (drop h t)), omega (arith, ap length (lost-all f t)), omega arith)

-- and ends with the tape
pub count-end : (f : Format) (h t : List ℕ) (at lost total : ℕ) → length t ≤ at → lost + length (losses f h at (divided (drop at t))) ≡ total → lost ≡ total
count-end f h t at lost total l e = omega (arith, rw (over-divided t at l) at e)

-- ---- one piece, as it is left

module _ (f : Format) (t : List ℕ) (at : ℕ) where
  -- it stays
  module _ (none : alone_at f t at ≡ 0) where
    pub none_lost : lost_at f t at ≡ 0
    none_lost = rw none

    stays-tape : t ≡ take at t ++ (saved_piece (alone_at f t at) (piece_at t at) ++ drop (at + length (piece_at t at)) t)
    stays-tape =
        let p = piece_at t at in
        rw none (sym (take-append-drop at t) ∙ ap (λ x. take at t ++ x) (sym (first-front (drop at t)) ∙ ap (λ x. p ++ x) (drop-drop (length p) at t)))

    stays-list : (l m : List ℕ) → l ≡ cond (eqb (alone_at f t at) 0) l m
    stays-list l m = rw none

  -- it is lost
  module _ {number : ℕ} (q : number ≡ alone_at f t at) (z : 0 < number) where
    some : eqb (alone_at f t at) 0 ≡ false
    some = ne_eqb (alone_at f t at) 0 (λ w. omega (arith, z, q, w))

    pub one_lost : lost_at f t at ≡ 1
    one_lost = rw some

    module _ {end : ℕ} (e : end ≡ at + length (piece_at t at)) where
      size : end - at ≡ length (piece_at t at)
      size = omega (arith, e)

      lost-tape : (s : List ℕ) → s ≡ overpunched (take (end - at) (drop at t))
          → take at t ++ (s ++ drop (end - at) (drop at t)) ≡ take at t ++ (saved_piece (alone_at f t at) (piece_at t at) ++ drop (at + length (piece_at t at)) t)
      lost-tape s w = rw (some, w, piece-part t at end e, size) (ap (λ x. take at t ++ (overpunched (piece_at t at) ++ x)) (drop-drop (length (piece_at t at)) at t))

      lost-first : (l : List ℕ) (n : ℕ) → set l n at ≡ cond (eqb (alone_at f t at) 0) l (set l n at)
      lost-first l n = rw some

      lost-size : (l : List ℕ) (n : ℕ) → set l n (end - at) ≡ cond (eqb (alone_at f t at) 0) l (set l n (length (piece_at t at)))
      lost-size l n = rw (some, size)

      lost-number : (l : List ℕ) (n : ℕ) → set l n number ≡ cond (eqb (alone_at f t at) 0) l (set l n (alone_at f t at))
      lost-number l n = rw (some, q)

-- ---- one piece saved

saved-length : (n : ℕ) (r : List ℕ) → length (saved_piece n r) ≡ length r
saved-length n r = by (eqb n 0)
  where
    by : (x : Bool) → length (cond x r (overpunched r)) ≡ length r
    by true = refl
    by false = length-replicate (length r) 255

-- the tape behind it: its front goes on with the piece as it is saved, and what is to come is as it was
pub record Behind (t u : List ℕ) (at : ℕ) (s : List ℕ) : Type 0 where
  pub same : length u ≡ length t
  pub front : take (at + length (piece_at t at)) u ≡ take at t ++ s
  pub rest : drop (at + length (piece_at t at)) u ≡ drop (at + length (piece_at t at)) t

pub piece-behind : (t u : List ℕ) (at n : ℕ) → at < length t
    → u ≡ take at t ++ (saved_piece n (piece_at t at) ++ drop (at + length (piece_at t at)) t) → Behind t u at (saved_piece n (piece_at t at))
piece-behind t u at n l e =
    let end = at + length (piece_at t at) in
    let s = saved_piece n (piece_at t at) in
    let x = take at t ++ s in
    let k = (next-piece t at l).within in
    let q : u ≡ x ++ drop end t = e ∙ sym (append_assoc (take at t) s (drop end t)) in
    let size : length x ≡ end = length-append (take at t) s ∙ omega (arith, length-take-le at t (omega arith), saved-length n (piece_at t at)) in
    record {
      same = ap length q ∙ length-append x (drop end t) ∙ omega (arith, size, length-drop end t, k);
      front = ap (take end) q ∙ take_at x (drop end t) end size;
      rest = ap (drop end) q ∙ drop_at x (drop end t) end size;
    }

-- ---- the walk that saves

module _ (f : Format) (t₀ firsts₀ sizes₀ numbers₀ : List ℕ) where
  -- before a row the tape is as it is to be, from there on as it was; the lists hold the losses done
  pub record Saves (t firsts sizes numbers : List ℕ) (at n : ℕ) : Type 0 where
    pub before : length (head_of t₀) ≤ at
    pub within : at ≤ length t
    pub long : length t ≡ length t₀
    pub rows : take at t ++ saved_rows f (head_of t₀) (divided (drop at t)) ≡ (saved_of f t₀).rows
    pub done : List Loss
    pub counted : n ≡ length done
    pub all : done ++ losses f (head_of t₀) at (divided (drop at t)) ≡ (saved_of f t₀).lost
    pub first : Filled (λ (l : Loss). l.first) firsts₀ firsts done
    pub size : Filled (λ (l : Loss). l.size) sizes₀ sizes done
    pub number : Filled (λ (l : Loss). l.number) numbers₀ numbers done

  pub saves-start : Saves t₀ firsts₀ sizes₀ numbers₀ (length (head_of t₀)) 0
  saves-start =
      let h = head_of t₀ in
      let front = first-front t₀ in
      record {
        before = le_refl (length h);
        within = omega (arith, ap length front, length-append h (drop (length h) t₀));
        long = refl;
        rows =
            ap (λ x. x ++ saved_rows f h (divided (drop (length h) t₀))) (ap (take (length h)) (sym front) ∙ take_at h (drop (length h) t₀) (length h) refl)
            ∙ ap (λ ps. h ++ saved_rows f h ps) (others-behind t₀);
        done = [];
        counted = refl;
        all = sym (lost-all f t₀);
        first = record { holds = refl; same = refl };
        size = record { holds = refl; same = refl };
        number = record { holds = refl; same = refl };
      }

  module _ (o : OnlyHead (head_of t₀)) (short : length t₀ ≤ limit) {t firsts sizes numbers : List ℕ} {at n : ℕ} (k : Saves t firsts sizes numbers at n) where
    -- one piece more has room
    pub saves-room : at < length t → n + lost_at f t at ≤ length (saved_of f t₀).lost
    saves-room l =
        let long = k.long in
        let end = at + length (piece_at t at) in
        let rest = losses f (head_of t₀) end (divided (drop end t)) in
        let turn = losses-turn f o t at (omega arith) k.before l in
        omega (
          arith,
          k.counted,
          ap length k.all,
          length-append k.done (losses f (head_of t₀) at (divided (drop at t))),
          ap length turn,
          with-length (alone_at f t at) at (length (piece_at t at)) rest,
        )

    -- past the last row the tape and the lists are as they are to be
    pub saves-end : length t ≤ at
        → (t ≡ (saved_of f t₀).rows) × (firsts ≡ after firsts₀ (taken (map (λ (l : Loss). l.first) (saved_of f t₀).lost))) × (sizes ≡ after sizes₀ (taken (map (λ (l : Loss). l.size) (saved_of f t₀).lost))) × (numbers ≡ after numbers₀ (taken (map (λ (l : Loss). l.number) (saved_of f t₀).lost)))
    saves-end l =
        let none = over-divided t at l in
        let rows : t ≡ (saved_of f t₀).rows = sym (take_all at t l) ∙ sym (append-nil (take at t)) ∙ rw none at k.rows in
        let all : k.done ≡ (saved_of f t₀).lost = sym (append-nil k.done) ∙ rw none at k.all in
        (rows, rw (sym all) k.first.holds, rw (sym all) k.size.holds, rw (sym all) k.number.holds)

    -- one piece more, as it is left
    module _ (room : (length (saved_of f t₀).lost ≤ length firsts₀) × (length (saved_of f t₀).lost ≤ length sizes₀) × (length (saved_of f t₀).lost ≤ length numbers₀))
        (l : at < length t) {u : List ℕ} (e : u ≡ take at t ++ (saved_piece (alone_at f t at) (piece_at t at) ++ drop (at + length (piece_at t at)) t)) where
      abbrev end : ℕ
      end = at + length (piece_at t at)

      abbrev rest : List Loss
      rest = losses f (head_of t₀) end (divided (drop end t))

      abbrev loss : Loss
      loss = record { first = at; size = length (piece_at t at); number = alone_at f t at }

      short-now : length t ≤ limit
      short-now = omega (arith, k.long)

      rows_on : take end u ++ saved_rows f (head_of t₀) (divided (drop end u)) ≡ (saved_of f t₀).rows
      rows_on =
          let b = piece-behind t u at (alone_at f t at) l e in
          rw (b.front, b.rest) (append_assoc (take at t) (saved_piece (alone_at f t at) (piece_at t at)) (saved_rows f (head_of t₀) (divided (drop end t))))
          ∙ ap (λ x. take at t ++ x) (sym (saved-turn f o t at short-now k.before l)) ∙ k.rows

      -- with the lists as they are then, and the losses done
      on : (n₂ : ℕ) (firsts₂ sizes₂ numbers₂ : List ℕ) (done : List Loss) → n₂ ≡ length done → done ++ rest ≡ (saved_of f t₀).lost → Filled (λ (l : Loss). l.first) firsts₀ firsts₂ done
          → Filled (λ (l : Loss). l.size) sizes₀ sizes₂ done → Filled (λ (l : Loss). l.number) numbers₀ numbers₂ done → Saves u firsts₂ sizes₂ numbers₂ end n₂
      on n₂ firsts₂ sizes₂ numbers₂ done counted all first size number =
          let b = piece-behind t u at (alone_at f t at) l e in
          record {
            before = omega (arith, k.before);
            within = omega (arith, (next-piece t at l).within, b.same);
            long = b.same ∙ k.long;
            rows = rows_on;
            done = done;
            counted = counted;
            all = rw b.rest all;
            first = first;
            size = size;
            number = number;
          }

      saves-on : (n₂ : ℕ) (firsts₂ sizes₂ numbers₂ : List ℕ) → n₂ ≡ n + lost_at f t at
          → firsts₂ ≡ cond (eqb (alone_at f t at) 0) firsts (set firsts n at) → sizes₂ ≡ cond (eqb (alone_at f t at) 0) sizes (set sizes n (length (piece_at t at)))
          → numbers₂ ≡ cond (eqb (alone_at f t at) 0) numbers (set numbers n (alone_at f t at)) → Saves u firsts₂ sizes₂ numbers₂ end n₂
      saves-on n₂ firsts₂ sizes₂ numbers₂ w =
          by n₂ (eqb (alone_at f t at) 0) (ap (λ x. k.done ++ x) (sym (losses-turn f o t at short-now k.before l)) ∙ k.all) w
        where
          by : (n₂ : ℕ) (x : Bool) → k.done ++ cond x rest (loss ∷ rest) ≡ (saved_of f t₀).lost → n₂ ≡ n + cond x 0 1 → firsts₂ ≡ cond x firsts (set firsts n at)
              → sizes₂ ≡ cond x sizes (set sizes n (length (piece_at t at))) → numbers₂ ≡ cond x numbers (set numbers n (alone_at f t at)) → Saves u firsts₂ sizes₂ numbers₂ end n₂
          by n₂ true all c p q r = on n₂ firsts₂ sizes₂ numbers₂ k.done (omega (arith, c, k.counted)) all (rw p k.first) (rw q k.size) (rw r k.number)
          by n₂ false all c p q r =
              let size = length-append k.done (loss ∷ rest) in
              let whole = ap length all in
              let more = append_assoc k.done (loss ∷ []) rest in
              on n₂ firsts₂ sizes₂ numbers₂ (k.done ++ (loss ∷ [])) (omega (arith, c, k.counted, length-append k.done (loss ∷ []))) (more ∙ all)
              (rw p (filled_more _ firsts₀ k.first (omega (arith, size, whole, room.0)) n k.counted at loss refl))
              (rw q (filled_more _ sizes₀ k.size (omega (arith, size, whole, room.1)) n k.counted (length (piece_at t at)) loss refl))
              (rw r (filled_more _ numbers₀ k.number (omega (arith, size, whole, room.2)) n k.counted (alone_at f t at) loss refl))

    module _ (room : (length (saved_of f t₀).lost ≤ length firsts₀) × (length (saved_of f t₀).lost ≤ length sizes₀) × (length (saved_of f t₀).lost ≤ length numbers₀)) (l : at < length t)
        {next : ℕ} (e : next ≡ at + length (piece_at t at)) where
      -- the piece stays
      pub saves-stay : alone_at f t at ≡ 0 → Saves t firsts sizes numbers next n
      saves-stay z =
          rw e (saves-on room l (stays-tape f t at z) n firsts sizes numbers (omega (arith, none_lost f t at z)) (stays-list f t at z _ _) (stays-list f t at z _ _) (stays-list f t at z _ _))

      -- it is overpunched and listed
      pub saves-lose : {number : ℕ} → number ≡ alone_at f t at → 0 < number → (s : List ℕ) → s ≡ overpunched (take (next - at) (drop at t))
          → Saves (take at t ++ (s ++ drop (next - at) (drop at t))) (set firsts n at) (set sizes n (next - at)) (set numbers n number) next (n + 1)
      saves-lose {number} q z s w =
          subst (λ i. Saves (take at t ++ (s ++ drop (next - at) (drop at t))) (set firsts n at) (set sizes n (next - at)) (set numbers n number) i (n + 1)) (sym e)
          (saves-on room l (lost-tape f t at q z e s w) (n + 1) _ _ _ (omega (arith, one_lost f t at q z)) (lost-first f t at q z e firsts n) (lost-size f t at q z e sizes n) (lost-number f t at q z e numbers n))
