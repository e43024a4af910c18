-- No second refusal: two refusals that fit the same rows have one number and one place.
use Prim.Native.Nat.{ℕ, ◌≤◌}
use mathlib.Core.Path.{◌≡◌, refl, sym, ap, ◌∙◌, subst}
use mathlib.Core.Logic.{◌⊎◌, inl, inr}
use mathlib.Core.Bool.{false, false≢true}
use mathlib.Core.List.{List, [], ◌∷◌, ◌++◌, append-nil, append_assoc}
use native.Mathlib.Nat.{zero-lt-suc}
use native.Mathlib.Omega.{arith}
use lib.ListN.{length, drop, length-append, length-map}
use lib.Seq.{drop-append_seam}
use Rattle.rows.specs.Kept.{KeptRow}
use Rattle.rows.specs.Passes.{Every}
use Rattle.shorthand.specs.declared.Kind.{Kind}
use Rattle.shorthand.specs.declared.Item.{Item}
use Rattle.shorthand.specs.declared.Format.{Format}
use Rattle.shorthand.specs.Layout.{way_of}
use Rattle.shorthand.specs.Facts.{Widths, Facts}
use Rattle.reading.specs.Relation.{digits, address, chars}
use Rattle.words.specs.Figures.{front_place, digit_next, is_figure}
use Rattle.reading.proofs.Outcomes.{chars-append}
use Rattle.reading.proofs.DigitRows.{digits-length, digits-digit}
use Rattle.places.specs.Begins.{Digit, Begins, Empty}
use Rattle.places.specs.Faults.{Miscounted, too_few, too_many, last_of, EndDue, Misfit, Cut, SpeedDue, BehindCR, an_lf, another, nothing, Refusal}
use Rattle.places.proofs.DigitLists.{last-behind, last-digit}
use Rattle.places.proofs.Ahead.{address-begins}
use Rattle.places.proofs.Dues.{due-item, item-widths, parted}
use Rattle.places.proofs.Stems.{InWord, digit-figure}
use Rattle.places.proofs.Empties.{InEmpty, empty-last, low-stops}
use Rattle.places.proofs.Called.{called, mark-figure, address-size, called_same}
use Rattle.rows.proofs.Every.{every_front, every_back}
use Rattle.places.proofs.OneNumber.{Spot, spot, idle-cr, one_number}
use Rattle.places.proofs.Splits.{Split, same, sooner, later, compare, nested, begun, cancel}
use Rattle.places.proofs.Compared.{begins-front, behind-cr, inside-word, speed-miscount, cr-cr, cut-one}
use Rattle.places.proofs.SpeedRuns.{Run, whole, few, many, out, not-next, run-stop, run-one, same-run}

-- ---- the refusals by what they turn on

chars-at : (g u : List KeptRow) (r : KeptRow) → chars (g ++ (r ∷ u)) ≡ chars g ++ (r.char ∷ []) ++ chars u
chars-at g u r = chars-append g (r ∷ u) ∙ sym (append_assoc (chars g) (r.char ∷ []) (chars u))

module _ {f : Format} (facts : Facts f) (len : ℕ) (rs : List KeptRow) where
  -- the rows g begin a program's, and with r no more
  record Point (g a : List KeptRow) (r : KeptRow) : Type 0 where
    split : rs ≡ g ++ (r ∷ a)
    good : Begins f (chars g)
    bad : Begins f (chars g ++ (r.char ∷ [])) → ⊥

  -- a speed is due behind the rows x; b are these with its address, and digits behind them begin nothing
  record Lost (k : ℕ) (it : Item) (x : List ℕ) (b ds rest : List KeptRow) : Type 0 where
    split : rs ≡ b ++ (ds ++ rest)
    due : SpeedDue f it k x
    named : chars b ≡ x ++ address (way_of f) it
    all : Every Digit (chars ds)
    most : length ds ≤ k
    bad : Begins f (chars b ++ chars ds) → ⊥

  -- the place of the row behind the rows x
  abbrev place_after : List ℕ → ℕ
  place_after x = front_place (drop (length x) rs)

  data Look : ℕ → ℕ → Type 0 where
    row : {n : ℕ} (g a : List KeptRow) (r : KeptRow) → Point g a r → Misfit f n (chars g) r.char → Look n r.place
    cr : {n : ℕ} (b a : List KeptRow) (c r : KeptRow) → Point (b ++ (c ∷ [])) a r → c.char ≡ 13 → EndDue f n (chars b) → Look n c.place
    empty : {n p : ℕ} (b a : List KeptRow) (c : KeptRow) → Point b a c → Empty f (chars b) → c.char ≡ 13 → BehindCR len c a n p → Look n p
    speed : {n p k : ℕ} {it : Item} {x : List ℕ} (b ds rest : List KeptRow) → Lost k it x b ds rest → Run len k (place_after x) ds rest n p → Look n p
    long : {n : ℕ} → Begins f (chars rs) → Cut f n (chars rs) → Look n len

  widths : {k : ℕ} {it : Item} {x : List ℕ} → SpeedDue f it k x → Widths (Kind.Speed k)
  widths due = subst Widths due.speed (item-widths facts.fair (due-item due.due))

  look : {n p : ℕ} → Refusal f len rs n p → Look n p
  look (Refusal.at_row b a r q m h nay) = row b a r (record { split = q; good = h; bad = nay }) m
  look (Refusal.at_cr b a c r q due is n h nay) =
      let rows : chars (b ++ (c ∷ [])) ≡ chars b ++ (13 ∷ []) = chars-append b (c ∷ []) ∙ rw is in
      cr b a c r
      (record {
        split = q ∙ sym (append_assoc b (c ∷ []) (r ∷ a));
        good = subst (Begins f) (sym rows) h;
        bad = λ k. nay (subst (Begins f) (ap (λ l. l ++ (r.char ∷ [])) rows ∙ append_assoc (chars b) (13 ∷ []) (r.char ∷ [])) k);
      })
      is due
  look (Refusal.empty_cr b a c q e is behind h nay) = empty b a c (record { split = q; good = h; bad = λ k. nay (subst (λ x. Begins f (chars b ++ (x ∷ []))) is k) }) e is behind
  look (Refusal.at_word {k = k} {it} c b w a r q due v small z apart h nay) =
      let s = parted (r ∷ w) (address (way_of f) it) (digits k c) v in
      let n : length s.right ≡ k = sym (length-map s.right (λ d. d.char)) ∙ ap length s.of_right ∙ digits-length k c in
      let split : rs ≡ (b ++ s.left) ++ (s.right ++ a) = q ∙ ap (λ l. b ++ (l ++ a)) s.split ∙ simp append_assoc in
      let named : chars (b ++ s.left) ≡ chars b ++ address (way_of f) it = chars-append b s.left ∙ ap (λ l. chars b ++ l) s.of_left in
      let rows : chars (b ++ s.left) ++ chars s.right ≡ chars b ++ chars (r ∷ w) =
      sym (chars-append (b ++ s.left) s.right) ∙ ap chars (append_assoc b s.left s.right ∙ ap (λ l. b ++ l) (sym s.split)) ∙ chars-append b (r ∷ w) in
      let place : place_after (chars b) ≡ r.place = rw (length-map b (λ d. d.char), q, drop-append_seam b (r ∷ (w ++ a))) in
      subst (λ p. Look 13 p) place
      (speed (b ++ s.left) s.right a
      (record { split = split; due = due; named = named; all = subst (Every Digit) (sym s.of_right) (digits-digit k c small); most = omega arith; bad = λ k. nay (subst (Begins f) rows k) })
      (whole n (no-next a apart)))
    where
      no-next : (a : List KeptRow) → ((d : KeptRow) (l : List KeptRow) → a ≡ d ∷ l → Digit d.char → ⊥) → digit_next a ≡ false
      no-next [] h = refl
      no-next (d ∷ a) h = not-next d a refl (h d a refl)
  look (Refusal.at_length c h) = long h c
  look (Refusal.past_saving {k = k} b ds a r x q due named s all m lost o nay) =
      go (speed-miscount facts due (chars ds) all (subst (λ z. Spot f (z ++ chars ds) r.char 11) named (spot m))) (length-map ds (λ d. d.char))
    where
      go : Miscounted k k (chars ds) r.char → length (chars ds) ≡ length ds → Look 11 r.place
      go (too_few h n) e = speed b ds (r ∷ a) (record { split = q; due = due; named = named; all = all; most = omega arith; bad = lost }) (few r a refl (omega arith) n)
      go (too_many h d) e = speed b ds (r ∷ a) (record { split = q; due = due; named = named; all = all; most = omega arith; bad = lost }) (many r a refl (omega arith) d)
  look (Refusal.cut_past_saving b ds x q due named s all less c lost o) =
      speed b ds []
      (record {
        split = q ∙ ap (λ l. b ++ l) (sym (append-nil ds));
        due = due;
        named = named;
        all = all;
        most = omega arith;
        bad = λ g. lost (subst (Begins f) (sym (ap chars q ∙ chars-append b ds)) g);
      })
      (out refl less)

  -- ---- two of them

  points : {g a h d : List KeptRow} {r s : KeptRow} → Point g a r → Point h d s → (g ≡ h) × (r ≡ s)
  points {g} {a} {h} {d} {r} {s} p q = go (compare g h r a s d (sym p.split ∙ q.split))
    where
      go : Split g h r a s d → (g ≡ h) × (r ≡ s)
      go (same x y z) = (x, y)
      go (sooner u x y) = absurd (p.bad (begins-front (chars g ++ (r.char ∷ [])) (chars u) (subst (Begins f) (ap chars x ∙ chars-at g u r) q.good)))
      go (later u x y) = absurd (q.bad (begins-front (chars h ++ (s.char ∷ [])) (chars u) (subst (Begins f) (ap chars x ∙ chars-at h u s) p.good)))

  -- the rows up to a speed's data begin a program's
  lost-good : {k : ℕ} {it : Item} {x : List ℕ} {b ds rest : List KeptRow} → Lost k it x b ds rest → Begins f (chars b)
  lost-good {it = it} {x} o = subst (Begins f) (sym o.named) (address-begins it (item-widths facts.fair (due-item o.due.due)) x o.due.due)

  -- and end in what is no digit
  lost-last : {k : ℕ} {it : Item} {x : List ℕ} {b ds rest : List KeptRow} → Lost k it x b ds rest → InWord (last_of (chars b))
  lost-last o =
      let m = called facts o.due.due in
      subst InWord (sym (ap last_of (o.named ∙ m.rows) ∙ last-behind m.before (m.mark ∷ []) (zero-lt-suc 0))) m.known

  -- no rows that begin a program's hold the digits too
  lost-beyond : {k : ℕ} {it : Item} {x : List ℕ} {b ds rest : List KeptRow} → Lost k it x b ds rest → (w : List KeptRow) → Begins f (chars (b ++ (ds ++ w))) → ⊥
  lost-beyond {b = b} {ds} o w h =
      let e : chars (b ++ (ds ++ w)) ≡ (chars b ++ chars ds) ++ chars w = chars-append b (ds ++ w) ∙ ap (λ l. chars b ++ l) (chars-append ds w) ∙ sym (append_assoc (chars b) (chars ds) (chars w)) in
      o.bad (begins-front (chars b ++ chars ds) (chars w) (subst (Begins f) e h))

  -- what goes wrong at a row goes wrong at one of the digits of a speed
  inside : {k : ℕ} {it : Item} {x : List ℕ} {g a b ds rest : List KeptRow} {r : KeptRow} → Point g a r → Lost k it x b ds rest → (u : List KeptRow) × (v : List KeptRow) × (g ≡ b ++ u) × (ds ≡ u ++ (r ∷ v))
  inside {g = g} {a} {b} {ds} {rest} {r} p o = go (nested b g (ds ++ rest) r a (sym o.split ∙ p.split))
    where
      go : ((w : List KeptRow) × (g ≡ b ++ w)) ⊎ ((v : List KeptRow) × (b ≡ g ++ (r ∷ v))) → (u : List KeptRow) × (v : List KeptRow) × (g ≡ b ++ u) × (ds ≡ u ++ (r ∷ v))
      go (inr q) = absurd (p.bad (begins-front (chars g ++ (r.char ∷ [])) (chars q.0) (subst (Begins f) (ap chars q.1 ∙ chars-at g q.0 r) (lost-good o))))
      go (inl q) = in-digits (nested ds q.0 rest r a (cancel b _ _ (sym o.split ∙ p.split ∙ ap (λ l. l ++ (r ∷ a)) q.1 ∙ append_assoc b q.0 (r ∷ a))))
        where
          in-digits : ((w : List KeptRow) × (q.0 ≡ ds ++ w)) ⊎ ((v : List KeptRow) × (ds ≡ q.0 ++ (r ∷ v))) → (u : List KeptRow) × (v : List KeptRow) × (g ≡ b ++ u) × (ds ≡ u ++ (r ∷ v))
          in-digits (inl n) = absurd (lost-beyond o n.0 (subst (λ l. Begins f (chars l)) (q.1 ∙ ap (λ l. b ++ l) n.1) p.good))
          in-digits (inr n) = (q.0, n.0, q.1, n.1)

  row-speed : {n k : ℕ} {it : Item} {x : List ℕ} {g a b ds rest : List KeptRow} {r : KeptRow} → Point g a r → Misfit f n (chars g) r.char → Lost k it x b ds rest → ⊥
  row-speed {n} {k} {it} {x} {g} {a} {b} {ds} {r = r} p m o =
      let q = inside p o in
      let e : chars g ≡ x ++ address (way_of f) it ++ chars q.0 = ap chars q.2 ∙ chars-append b q.0 ∙ ap (λ l. l ++ chars q.0) o.named in
      let d : chars ds ≡ chars q.0 ++ (r.char ∷ chars q.1) = ap chars q.3 ∙ chars-append q.0 (r ∷ q.1) in
      let each = subst (Every Digit) d o.all in
      inside-word facts o.due (chars q.0) (every_front Digit (chars q.0) (r.char ∷ chars q.1) each)
      (omega (arith, o.most, length-map q.0 (λ s. s.char), ap length q.3 ∙ length-append q.0 (r ∷ q.1)))
      (every_back Digit (chars q.0) (r.char ∷ chars q.1) each).0 (spot (subst (λ z. Misfit f n z r.char) e m))

  cr-last : (h : List KeptRow) (c : KeptRow) → c.char ≡ 13 → last_of (chars (h ++ (c ∷ []))) ≡ 13
  cr-last h c is = ap last_of (chars-append h (c ∷ [])) ∙ last-behind (chars h) (c.char ∷ []) (zero-lt-suc _) ∙ is

  cr-speed : {k : ℕ} {it : Item} {x : List ℕ} {a b ds rest : List KeptRow} {r : KeptRow} (h : List KeptRow) (c : KeptRow) → Point (h ++ (c ∷ [])) a r → c.char ≡ 13 → Lost k it x b ds rest → ⊥
  cr-speed {a = a} {b} {ds} {r = r} h c p is o = go q.0 q.1 q.2 q.3
    where
      q : (u : List KeptRow) × (v : List KeptRow) × (h ++ (c ∷ []) ≡ b ++ u) × (ds ≡ u ++ (r ∷ v))
      q = inside p o

      go : (u v : List KeptRow) → h ++ (c ∷ []) ≡ b ++ u → ds ≡ u ++ (r ∷ v) → ⊥
      go [] v e d = subst InWord (sym (ap (λ l. last_of (chars l)) (e ∙ append-nil b)) ∙ cr-last h c is) (lost-last o)
      go (y ∷ u) v e d =
          let each = every_front Digit (chars (y ∷ u)) (r.char ∷ chars v) (subst (Every Digit) (ap chars d ∙ chars-append (y ∷ u) (r ∷ v)) o.all) in
          let n = last-digit (chars (y ∷ u)) each (zero-lt-suc _) in
          let z : 13 ≡ last_of (chars (y ∷ u)) = sym (cr-last h c is) ∙ ap (λ l. last_of (chars l)) e ∙ ap last_of (chars-append b (y ∷ u)) ∙ last-behind (chars b) (chars (y ∷ u)) (zero-lt-suc _) in
          omega (arith, n.0)

  row-cr : {n : ℕ} {g a d : List KeptRow} {r s : KeptRow} (h : List KeptRow) (c : KeptRow) → Point g a r → Misfit f n (chars g) r.char → Point (h ++ (c ∷ [])) d s → c.char ≡ 13 → ⊥
  row-cr {n} {g} {r = r} h c p m q is =
      let e : chars g ≡ chars h ++ (13 ∷ []) = ap chars (points p q).0 ∙ chars-append h (c ∷ []) ∙ ap (λ x. chars h ++ (x ∷ [])) is in
      behind-cr facts (chars h) (spot (subst (λ x. Misfit f n x r.char) e m))

  -- ---- the CR of an empty block

  row-empty : {n : ℕ} {g a b d : List KeptRow} {r c : KeptRow} → Point g a r → Misfit f n (chars g) r.char → Point b d c → Empty f (chars b) → c.char ≡ 13 → ⊥
  row-empty {n} {g} {b = b} {r = r} {c} p m q e is =
      let k = points p q in
      let cr : r.char ≡ 13 = ap (λ s. s.char) k.1 ∙ is in
      idle-cr facts (record { block = subst (λ l. Empty f (chars l)) (sym k.0) e; firm = low-stops (omega arith) }) cr (spot m)

  cr-empty : {a b d : List KeptRow} {r s : KeptRow} (h : List KeptRow) (c : KeptRow) → Point (h ++ (c ∷ [])) a r → c.char ≡ 13 → Point b d s → Empty f (chars b) → ⊥
  cr-empty h c p is q e = subst InEmpty (cr-last h c is) (empty-last (subst (λ l. Empty f (chars l)) (sym (points p q).0) e))

  empty-speed : {k : ℕ} {it : Item} {x : List ℕ} {a b h ds rest : List KeptRow} {c : KeptRow} → Point h a c → c.char ≡ 13 → Lost k it x b ds rest → ⊥
  empty-speed {ds = ds} {c = c} p is o =
      let q = inside p o in
      let each = subst (Every Digit) (ap chars q.3 ∙ chars-append q.0 (c ∷ q.1)) o.all in
      let d = (every_back Digit (chars q.0) (c.char ∷ chars q.1) each).0 in
      omega (arith, d.0)

  behind-one : {n m p q : ℕ} {a : List KeptRow} {c : KeptRow} → BehindCR len c a n p → BehindCR len c a m q → (n ≡ m) × (p ≡ q)
  behind-one (an_lf e) (an_lf h) = (refl, refl)
  behind-one (an_lf e) (another n) = absurd (n e)
  behind-one (another n) (an_lf e) = absurd (n e)
  behind-one (another n) (another h) = (refl, refl)
  behind-one nothing nothing = (refl, refl)

  empty-empty : {n m p q : ℕ} {b a h d : List KeptRow} {c e : KeptRow} → Point b a c → BehindCR len c a n p → Point h d e → BehindCR len e d m q → (n ≡ m) × (p ≡ q)
  empty-empty {m = m} {q = k} {b} {a} {h} {d} {c} {e} p i q j =
      let z = points p q in
      let rest : (e ∷ d) ≡ (c ∷ a) = cancel h _ _ (sym q.split ∙ p.split ∙ ap (λ l. l ++ (c ∷ a)) z.0) in
      let t : d ≡ a = cc in
      behind-one i (subst (λ l. BehindCR len c l m k) t (subst (λ r. BehindCR len r d m k) (sym z.1) j))

  -- ---- two speeds

  -- the data of the one do not begin behind those of the other
  no-sooner : {k j : ℕ} {it jt : Item} {x w : List ℕ} {b ds rest c es more : List KeptRow} → Lost k it x b ds rest → Lost j jt w c es more → (u : List KeptRow) → c ≡ b ++ u → u ≡ []
  no-sooner {b = b} {ds} {rest} {c} {es} {more} o i [] e = refl
  no-sooner {b = b} {ds} {rest} {c} {es} {more} o i (r ∷ u) e =
      let s : ds ++ rest ≡ (r ∷ u) ++ (es ++ more) = cancel b _ _ (sym o.split ∙ i.split ∙ ap (λ l. l ++ (es ++ more)) e ∙ append_assoc b (r ∷ u) (es ++ more)) in
      go (begun ds (r ∷ u) rest (es ++ more) s)
    where
      go : ((v : List KeptRow) × (r ∷ u ≡ ds ++ v)) ⊎ ((v : List KeptRow) × (ds ≡ (r ∷ u) ++ v)) → r ∷ u ≡ []
      go (inl q) = absurd (lost-beyond o q.0 (subst (λ l. Begins f (chars l)) (e ∙ ap (λ l. b ++ l) q.1) (lost-good i)))
      go (inr q) =
          let each = every_front Digit (chars (r ∷ u)) (chars q.0) (subst (Every Digit) (ap chars q.1 ∙ chars-append (r ∷ u) q.0) o.all) in
          let d = last-digit (chars (r ∷ u)) each (zero-lt-suc _) in
          let z : last_of (chars c) ≡ last_of (chars (r ∷ u)) = ap (λ l. last_of (chars l)) e ∙ ap last_of (chars-append b (r ∷ u)) ∙ last-behind (chars b) (chars (r ∷ u)) (zero-lt-suc _) in
          absurd (false≢true (sym (mark-figure (last_of (chars c)) (lost-last i)) ∙ ap is_figure z ∙ digit-figure (last_of (chars (r ∷ u))) d))

  speed-same : {k j : ℕ} {it jt : Item} {x w : List ℕ} → SpeedDue f it k x → SpeedDue f jt j w → x ++ address (way_of f) it ≡ w ++ address (way_of f) jt → (j ≡ k) × (place_after x ≡ place_after w)
  speed-same {k} {j} {it} {jt} {x} {w} d e h =
      let q = called_same facts d.due e.due [] [] tt tt (append-nil _ ∙ h ∙ sym (append-nil _)) in
      let s : Kind.Speed j ≡ Kind.Speed k = sym e.speed ∙ q.1 ∙ d.speed in
      let n : length x ≡ length w = omega (arith, ap length h, length-append x (address (way_of f) it), length-append w (address (way_of f) jt), address-size (way_of f) it jt) in
      (cc, ap (λ m. front_place (drop m rs)) n)

  speed-speed : {n m p q k j : ℕ} {it jt : Item} {x w : List ℕ} {b ds rest c es more : List KeptRow} → Lost k it x b ds rest → Run len k (place_after x) ds rest n p → Lost j jt w c es more
      → Run len j (place_after w) es more m q → (n ≡ m) × (p ≡ q)
  speed-speed {n} {m} {p} {q} {k} {j} {it} {jt} {x} {w} {b} {ds} {rest} {c} {es} {more} o r i t = go (begun b c (ds ++ rest) (es ++ more) (sym o.split ∙ i.split))
    where
      one : b ≡ c → (n ≡ m) × (p ≡ q)
      one e =
          let h = speed-same o.due i.due (sym o.named ∙ ap chars e ∙ i.named) in
          let z : ds ++ rest ≡ es ++ more = cancel b _ _ (sym o.split ∙ i.split ∙ ap (λ l. l ++ (es ++ more)) (sym e)) in
          let v = same-run k ds es rest more z o.all i.all o.most (omega (arith, i.most, h.0)) (run-stop r) (subst (λ l. (length es ≡ l) ⊎ (digit_next more ≡ false)) h.0 (run-stop t)) in
          let a : Run len k (place_after x) es more m q = subst (λ l. Run len k l es more m q) (sym h.1) (subst (λ l. Run len l (place_after w) es more m q) h.0 t) in
          let d : Run len k (place_after x) ds more m q = subst (λ l. Run len k (place_after x) l more m q) (sym v.0) a in
          run-one r (subst (λ l. Run len k (place_after x) ds l m q) (sym v.1) d)

      go : ((u : List KeptRow) × (c ≡ b ++ u)) ⊎ ((u : List KeptRow) × (b ≡ c ++ u)) → (n ≡ m) × (p ≡ q)
      go (inl u) = one (sym (u.1 ∙ ap (λ l. b ++ l) (no-sooner o i u.0 u.1) ∙ append-nil b))
      go (inr u) = one (u.1 ∙ ap (λ l. c ++ l) (no-sooner i o u.0 u.1) ∙ append-nil c)

  -- ---- all rows

  point-all : {g a : List KeptRow} {r : KeptRow} → Point g a r → Begins f (chars rs) → ⊥
  point-all {g} {a} {r} p h = p.bad (begins-front (chars g ++ (r.char ∷ [])) (chars a) (subst (Begins f) (ap chars p.split ∙ chars-at g a r) h))

  lost-all : {k : ℕ} {it : Item} {x : List ℕ} {b ds rest : List KeptRow} → Lost k it x b ds rest → Begins f (chars rs) → ⊥
  lost-all {rest = rest} o h = lost-beyond o rest (subst (λ l. Begins f (chars l)) o.split h)

  -- ---- one refusal

  look_one : {n m p q : ℕ} → Look n p → Look m q → (n ≡ m) × (p ≡ q)
  look_one {n} {m} (row g a r p i) (row h d s q j) =
      let e = points p q in
      (one_number facts i (subst (λ c. Misfit f m (chars g) c.char) (sym e.1) (subst (λ x. Misfit f m (chars x) s.char) (sym e.0) j)), ap (λ c. c.place) e.1)
  look_one (row g a r p i) (cr h d c s q is due) = absurd (row-cr h c p i q is)
  look_one (row g a r p i) (empty b d c q e is j) = absurd (row-empty p i q e is)
  look_one (row g a r p i) (speed b ds rest o t) = absurd (row-speed p i o)
  look_one (row g a r p i) (long h c) = absurd (point-all p h)
  look_one (cr h d c s q is due) (row g a r p i) = absurd (row-cr h c p i q is)
  look_one (cr h d c s q is due) (cr g a e r p so j) = cr-cr facts h g c e (points q p).0 due j
  look_one (cr h d c s q is due) (empty b a e p i so j) = absurd (cr-empty h c q is p i)
  look_one (cr h d c s q is due) (speed b ds rest o t) = absurd (cr-speed h c q is o)
  look_one (cr h d c s q is due) (long k e) = absurd (point-all q k)
  look_one (empty b d c q e is j) (row g a r p i) = absurd (row-empty p i q e is)
  look_one (empty b a e p i so j) (cr h d c s q is due) = absurd (cr-empty h c q is p i)
  look_one (empty b a c p e is i) (empty h d r q o so j) = empty-empty p i q j
  look_one (empty h a c p e is i) (speed b ds rest o t) = absurd (empty-speed p is o)
  look_one (empty h a c p e is i) (long k o) = absurd (point-all p k)
  look_one (speed b ds rest o t) (row g a r p i) = absurd (row-speed p i o)
  look_one (speed b ds rest o t) (cr h d c s q is due) = absurd (cr-speed h c q is o)
  look_one (speed b ds rest o t) (empty h a c p e is i) = absurd (empty-speed p is o)
  look_one (speed b ds rest o t) (speed c es more i u) = speed-speed o t i u
  look_one (speed b ds rest o t) (long h e) = absurd (lost-all o h)
  look_one (long h c) (row g a r p i) = absurd (point-all p h)
  look_one (long h c) (cr g d e s q is due) = absurd (point-all q h)
  look_one (long h c) (empty b a e p i is j) = absurd (point-all p h)
  look_one (long h c) (speed b ds rest o t) = absurd (lost-all o h)
  look_one (long h c) (long k e) = (cut-one c e, refl)

-- the rows begin no program's, or end too soon
pub falls-short : {f : Format} → Facts f → (len : ℕ) (rs : List KeptRow) {n p : ℕ} → Refusal f len rs n p → (Begins f (chars rs) → ⊥) ⊎ Cut f n (chars rs)
falls-short {f} facts len rs {n} a = go (look facts len rs a)
  where
    go : {n p : ℕ} → Look facts len rs n p → (Begins f (chars rs) → ⊥) ⊎ Cut f n (chars rs)
    go (row g b r q m) = inl (point-all facts len rs q)
    go (cr h b c r q is due) = inl (point-all facts len rs q)
    go (empty b a c q e is i) = inl (point-all facts len rs q)
    go (speed b ds rest o t) = inl (lost-all facts len rs o)
    go (long h c) = inr c

pub one-refusal : {f : Format} → Facts f → (len : ℕ) (rs : List KeptRow) {n m p q : ℕ} → Refusal f len rs n p → Refusal f len rs m q → (n ≡ m) × (p ≡ q)
one-refusal facts len rs a b = look_one facts len rs (look facts len rs a) (look facts len rs b)
