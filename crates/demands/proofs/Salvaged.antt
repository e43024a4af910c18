-- Demands 1 and 2 over a tape that is saved (document 02, 9/12).
use Prim.Native.Nat.{ℕ, ◌≤◌}
use mathlib.Core.Path.{◌≡◌, refl, sym, ◌∙◌}
use mathlib.Core.Logic.{◌↔◌}
use mathlib.Core.Bool.{Bool, true, false, ◌&&◌, cond}
use mathlib.Core.List.{List, []}
use native.Mathlib.Omega.{arith}
use lib.Dec.{leb, ltb}
use lib.ListN.{length}
use borrow.Author.Tests.{leb-true, leb-false, lt-ltb, le-ltb, ltb-true, ltb-false}
use Rattle.rows.specs.Answer.{Answer, taken, refused, ◌>>=◌, ◌>>◌}
use Rattle.rows.specs.Stages.{limit}
use Rattle.rows.proofs.Outcomes.{Holds, refusal, value, wider, holds-map, holds-with, of-refused}
use Rattle.shorthand.specs.declared.Format.{Format}
use Rattle.profile.specs.Answers.{agreed}
use Rattle.profile.specs.Relation.{Settled, Unsettled}
use Rattle.profile.proofs.Settling.{settled-exactly, unsettled-exactly, settled-facts, agreed-facts}
use Rattle.reading.specs.declared.Block.{Block}
use Rattle.reading.specs.Relation.{TapeOf}
use Rattle.reading.specs.declared.Entry.{Entry}
use Rattle.reading.specs.Answers.{read, read_under, counted}
use Rattle.reading.proofs.Outcomes.{never}
use Rattle.reading.proofs.Programs.{from-taken, tape-read}
use Rattle.punching.specs.Answers.{after}
use Rattle.salvage.specs.Pieces.{head_of, pieces_of}
use Rattle.salvage.specs.Clear.{Clear}
use Rattle.salvage.specs.Saving.{Saved, saved_of, list_room, salvaged_for, salvaged}
use Rattle.salvage.specs.Answers.{rows_after, listed}
use Rattle.salvage.proofs.SavedBlocks.{said_all, saved-tape}
use Rattle.salvage.proofs.Unaltered as salvage
use Rattle.demands.specs.Tables.{TapeRefusal, Reading, Salvaging}
use Rattle.demands.proofs.Demand1.{Answered, settled-answered, under-answered, reading-exactly}

-- where the Format is settled, what is refused is the tape
of-tape : {e : ℕ} {s p t : List ℕ} {f : Format} → Settled e s p f → (n k : ℕ) → Reading e s p t n k → TapeRefusal e s p t n k
of-tape q n k (Reading.tape h) = h
of-tape {e} {s} {p} {f = f} q n k (Reading.settling h) = never (sym ((unsettled-exactly e s p n k).1 h) ∙ (settled-exactly e s p f).1 q)

read-answered : {e : ℕ} {s p : List ℕ} {f : Format} → Settled e s p f → (t : List ℕ) → Holds (TapeRefusal e s p t) (λ es. counted e s p t ≡ taken (length es)) (read f t)
unfolding read_under
read-answered {e} {s} {p} {f} q t =
    let g = (settled-exactly e s p f).1 q in
    holds-map (λ es h. rw (g, h.0)) (holds-with (wider (of-tape q) (rw g at (under-answered e s p t))))

-- three lists with room, or one without
three-refused : {A : Type 0} {table : ℕ → ℕ → Type 0} (n a b c : ℕ) {x : Answer A} → ((n ≤ a → n ≤ b → n ≤ c → ⊥) → table 24 n) → Answered table x → Answered table (list_room n a b c >> x)
three-refused {table = table} n a b c {x} none some = by (leb n a) refl (leb n b) refl (leb n c) refl
  where
    by : (u : Bool) → leb n a ≡ u → (v : Bool) → leb n b ≡ v → (w : Bool) → leb n c ≡ w → Answered table (◌>>◌ {A = Unit {0}} (cond (u && (v && w)) (taken tt) (refused 24 n)) x)
    by true g true h true k = some
    by true g true h false k = refusal (none (λ l m o. omega (arith, o, leb-false n c k)))
    by true g false h w k = refusal (none (λ l m o. omega (arith, m, leb-false n b h)))
    by false g v h w k = refusal (none (λ l m o. omega (arith, l, leb-false n a g)))

module _ (e : ℕ) (s p t : List ℕ) (a b c : ℕ) where
  -- every tape, shorthand and room gets an answer by the table
  pub saving-answered : Answered (Salvaging e s p t a b c) (salvaged e s p t a b c)
  unfolding salvaged salvaged_for
  saving-answered = by (settled-answered e s p)
    where
      under : {f : Format} → Settled e s p f → (x : Bool) → ltb limit (length t) ≡ x → {y : Answer (List Entry)} → Holds (TapeRefusal e s p (head_of t)) (λ es. counted e s p (head_of t) ≡ taken (length es)) y
          → Answered (Salvaging e s p t a b c) (◌>>◌ {A = Unit {0}} (cond x (refused 4 limit) (taken tt)) (y >> (list_room (length (saved_of f t).lost) a b c >> taken (saved_of f t))))
      under q true l h = refusal (Salvaging.too_long q (ltb-true limit (length t) l))
      under q false l (refusal h) = refusal (Salvaging.head (ltb-false limit (length t) l) h)
      under {f} q false l (value h) = three-refused (length (saved_of f t).lost) a b c (Salvaging.no_room q (ltb-false limit (length t) l) h) (value tt)

      by : {x : Answer Format} → Holds (Unsettled e s p) (λ f. Settled e s p f) x → Answered (Salvaging e s p t a b c) (x >>= λ f. salvaged_for f t a b c)
      by (refusal h) = refusal (Salvaging.settling h)
      by (value q) = under q (ltb limit (length t)) refl (read-answered q (head_of t))

  -- exactly: the table's refusal is the answer
  none-room : {n : ℕ} → (n ≤ a → n ≤ b → n ≤ c → ⊥) → list_room n a b c ≡ refused 24 n
  none-room {n} none = by (leb n a) refl (leb n b) refl (leb n c) refl
    where
      by : (u : Bool) → leb n a ≡ u → (v : Bool) → leb n b ≡ v → (w : Bool) → leb n c ≡ w → ◌≡◌ {A = Answer (Unit {0})} (cond (u && (v && w)) (taken tt) (refused 24 n)) (refused 24 n)
      by true g true h true k = absurd (none (leb-true n a g) (leb-true n b h) (leb-true n c k))
      by true g true h false k = refl
      by true g false h w k = refl
      by false g v h w k = refl

  head-said : {f : Format} → Settled e s p f → (n k : ℕ) → TapeRefusal e s p (head_of t) n k → read f (head_of t) ≡ refused n k
  unfolding read_under
  head-said {f} q n k h = by (read f (head_of t)) (rw ((settled-exactly e s p f).1 q) at ((reading-exactly e s p (head_of t) n k).1 (Reading.tape h)))
    where
      by : (x : Answer (List Entry)) → (x >>= λ es. taken (length es)) ≡ refused n k → x ≡ refused n k
      by (taken es) z = never (sym z)
      by (refused m i) z = let g : m ≡ n = cc in let h : i ≡ k = cc in rw (g, h)

  head-taken : {f : Format} → Settled e s p f → (m : ℕ) → counted e s p (head_of t) ≡ taken m → (es : List Entry) × (read f (head_of t) ≡ taken es)
  unfolding read_under
  head-taken {f} q m h = let k = from-taken (read f (head_of t)) (λ es. taken (length es)) m (rw ((settled-exactly e s p f).1 q) at h) in (k.0, k.1)

  tape-settled : {n k : ℕ} {u : List ℕ} → TapeRefusal e s p u n k → (f : Format) × Settled e s p f
  tape-settled (TapeRefusal.rows {f = f} q h) = (f, q)
  tape-settled (TapeRefusal.program r) = (r.format, r.settled)

  table-refused : {n k : ℕ} → Salvaging e s p t a b c n k → salvaged e s p t a b c ≡ refused n k
  unfolding salvaged salvaged_for
  table-refused {n} {k} (Salvaging.settling h) = rw ((unsettled-exactly e s p n k).1 h)
  table-refused (Salvaging.too_long {f = f} q l) = rw ((settled-exactly e s p f).1 q, lt-ltb limit (length t) l)
  table-refused {n} {k} (Salvaging.head l h) =
      let q = tape-settled h in
      rw ((settled-exactly e s p q.0).1 q.1, le-ltb limit (length t) l, head-said q.1 n k h)
  table-refused (Salvaging.no_room {f = f} {c = m} q l h none) = rw ((settled-exactly e s p f).1 q, le-ltb limit (length t) l, (head-taken q m h).1, none-room none)

  pub saving-exactly : (n k : ℕ) → (salvaged e s p t a b c ≡ refused n k) ↔ Salvaging e s p t a b c n k
  saving-exactly n k = (λ q. of-refused saving-answered q, table-refused)

  -- a refusal changes neither tape nor lists
  pub saving-refused : (n k : ℕ) → salvaged e s p t a b c ≡ refused n k → (firsts sizes numbers : List ℕ)
      → (rows_after t (salvaged e s p t a b c) ≡ t) × (after firsts (listed (λ l. l.first) (salvaged e s p t a b c)) ≡ firsts)
      × (after sizes (listed (λ l. l.size) (salvaged e s p t a b c)) ≡ sizes) × (after numbers (listed (λ l. l.number) (salvaged e s p t a b c)) ≡ numbers)
  saving-refused n k q firsts sizes numbers = (rw q, rw q, rw q, rw q)

  -- "The result is always accepted", "and no block appears that its piece didn't say by itself."
  pub saved-accepted : {x : Saved} → salvaged e s p t a b c ≡ taken x → (f : Format) × (agreed e s p ≡ taken f) × TapeOf e s p (said_all f (head_of t) (pieces_of t)) x.rows
  saved-accepted {x} q = saved-tape e s p t a b c x q

  -- "An accepted tape whose remarks hold no LF comes back unaltered."
  pub unaltered : {bs : List Block} → TapeOf e s p bs t → Clear t → salvaged e s p t a b c ≡ taken (record { rows = t; lost = [] })
  unfolding salvaged read_under
  unaltered {bs} h k =
      let f = h.format in
      let q = (settled-exactly e s p f).1 h.settled in
      rw q (salvage.unaltered f (settled-facts h.settled) t (rw q at (tape-read e s p t bs h).1) k a b c)

  -- and what is saved is such a tape: saving it again changes nothing
  pub again : {x : Saved} → salvaged e s p t a b c ≡ taken x → (a' b' c' : ℕ) → salvaged e s p x.rows a' b' c' ≡ taken (record { rows = x.rows; lost = [] })
  unfolding salvaged
  again {x} q a' b' c' =
      let k = from-taken (agreed e s p) (λ f. salvaged_for f t a b c) x q in
      rw k.1 (salvage.again k.0 (agreed-facts e s p k.0 k.1) t a b c x k.2 a' b' c')
