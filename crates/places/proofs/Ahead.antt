-- What could stand behind rows that stop somewhere in a program, by the relation alone.
use Prim.Native.Nat.{ℕ, ◌+◌, ◌-◌, ◌≤◌, ◌<◌, zero-le}
use native.Mathlib.Nat.{zero-lt-suc}
use native.Mathlib.Omega.{arith}
use mathlib.Core.Path.{◌≡◌, refl, sym, ap, ◌∙◌, subst}
use mathlib.Core.Logic.{◌⊎◌, inl, inr}
use mathlib.Core.Bool.{Bool, true, false}
use mathlib.Core.List.{List, [], ◌∷◌, ◌++◌, append-nil, append_assoc}
use lib.ListN.{length, length-replicate}
use lib.IntN.{ℤ, pos, neg_ℤ}
use Rattle.rows.specs.Passes.{Every}
use Rattle.rows.proofs.Every.{every_append}
use Rattle.shorthand.specs.declared.Missing.TheVariants.{Nothing}
use Rattle.shorthand.specs.declared.Kind.{Kind}
use Rattle.shorthand.specs.declared.Kind.TheVariants.{Plain}
use Rattle.shorthand.specs.declared.Item.{Item}
use Rattle.shorthand.specs.declared.Format.{Format}
use Rattle.shorthand.specs.Layout.{Sign, barred, required, optional, sign_of, width, items_of, Way, way_of}
use Rattle.shorthand.specs.Facts.{Widths, Facts}
use Rattle.words.specs.declared.Value.{Value}
use Rattle.words.specs.declared.Value.TheVariants.{Number}
use Rattle.parts.specs.declared.Begun.{Begun}
use Rattle.reading.specs.declared.Block.{Block}
use Rattle.reading.specs.Record.{block_of}
use Rattle.reading.specs.Relation.{zeros, Signed, never, plus, minus, plus_stands, minus_stands, plus_missing, Data, number, speed, dimension, address, tab, Words, done, out, End, lf, cr_lf, skip_rows, start_rows, counted, bare, Blocked, block, Blocks, none, more, Program, program}
use Rattle.reading.proofs.ReadData.{barred-none}
use Rattle.reading.proofs.BlocksJoined.{program-append}
use Rattle.places.specs.Begins.{Digit, Begins, Closes, Reached, first, Due, Empty}
use Rattle.places.specs.Faults.{number_rows, Spoilt}
use Rattle.places.proofs.DigitLists.{zeros-digit, Coded, coded, padded, padded-length}
use Rattle.places.proofs.SpeedDigits.{Saves, saved, zeros-saved}
use Rattle.places.proofs.Dues.{Some, SomeWords, stands, reached-item, item-widths, Opened, opened, SomeBlock, reached-words}

-- ---- programs, one block longer

program-then : {f : Format} {bs : List Block} {h : List ℕ} → Program f bs h → {b : Block} {x : List ℕ} → Blocked f b x → Program f (bs ++ (b ∷ [])) (h ++ x)
program-then {f} p {b} {x} q = program-append p (subst (λ l. Blocks f (b ∷ []) l) (append-nil x) (more q none))

pub head-begins : {f : Format} → Begins f (37 ∷ [])
head-begins = ([], 10 ∷ [], program lf none)

-- rows that a program's rows go on from
pub begins-from : {f : Format} {bs : List Block} (x y z : List ℕ) → Program f bs z → z ≡ x ++ y → Begins f x
begins-from {f} {bs} x y z p e = (bs, y, subst (λ l. Program f bs l) e p)

pub closes-begins : {f : Format} (x y z : List ℕ) → Closes f z → z ≡ x ++ y → Begins f x
closes-begins x y z c e = begins-from x (y ++ (10 ∷ [])) (z ++ (10 ∷ [])) (c (10 ∷ []) lf).2 (ap (λ l. l ++ (10 ∷ [])) e ∙ append_assoc x y (10 ∷ []))

-- ---- a block

module _ {f : Format} where
  opened-digits : (skip alignment : Bool) (ds : List ℕ) → Every Digit ds → length ds ≡ f.sequence
      → (n : ℕ) × Opened f (record { skip = skip; alignment = alignment; numbered = true; sequence = n }) (number_rows skip alignment ds)
  opened-digits skip alignment ds all e = go (coded f.sequence ds all e)
    where
      go : Coded f.sequence ds → (n : ℕ) × Opened f (record { skip = skip; alignment = alignment; numbered = true; sequence = n }) (number_rows skip alignment ds)
      go (n, small, is) = (n, rw is (opened (counted skip alignment small)))

  pub opened-block : {s : Begun} {u r e : List ℕ} → Opened f s u → SomeWords (way_of f) (items_of f) s r → End e → SomeBlock f (u ++ (r ++ e))
  opened-block (opened {s} start) ws end = (block_of s ws.0, block start ws.1 ws.2 end)

module _ {f : Format} {bs : List Block} {h : List ℕ} (p : Program f bs h) where
  -- whole words of a started block
  pub words-close : {s : Begun} {u r : List ℕ} → Opened f s u → SomeWords (way_of f) (items_of f) s r → Closes f (h ++ (u ++ r))
  words-close {u = u} {r} o ws e end =
      let q = opened-block o ws end in
      (bs, q.0, rw (append_assoc h (u ++ r) e, append_assoc u r e) (program-then p q.1))

  pub cr-begins : {s : Begun} {u r : List ℕ} → Opened f s u → SomeWords (way_of f) (items_of f) s r → Begins f (h ++ (u ++ r) ++ (13 ∷ []))
  cr-begins {u = u} {r} o ws =
      begins-from (h ++ (u ++ r) ++ (13 ∷ [])) (10 ∷ []) (h ++ (u ++ r) ++ (13 ∷ 10 ∷ [])) (words-close o ws (13 ∷ 10 ∷ []) cr_lf).2 (simp append_assoc)

  -- digits of the sequence number, fewer than it has or all
  pub number-begins : (skip alignment : Bool) (ds : List ℕ) → Every Digit ds → length ds ≤ f.sequence → Begins f (h ++ number_rows skip alignment ds)
  number-begins skip alignment ds all most =
      let j = f.sequence - length ds in
      let full = ds ++ zeros j in
      let o = opened-digits skip alignment full (every_append Digit ds (zeros j) all (zeros-digit j)) (padded-length f.sequence ds most) in
      closes-begins (h ++ number_rows skip alignment ds) (zeros j) (h ++ (number_rows skip alignment full ++ [])) (words-close o.1 ([], refl, done)) (simp (append_assoc, append-nil))

  pub start-begins : (skip : Bool) → Begins f (h ++ skip_rows skip)
  start-begins skip =
      let b = number-begins skip false [] tt zero-le in
      begins-from (h ++ skip_rows skip) (78 ∷ b.1) (h ++ number_rows skip false [] ++ b.1) b.2 (simp append_assoc)

  -- an item that is reached in a started block is due
  pub reached-due : {s : Begun} {u : List ℕ} (r : List ℕ) (it : Item) → Opened f s u → Reached (way_of f) (items_of f) it r → Due f it (h ++ (u ++ r))
  reached-due r it (opened {s} start) q = record { blocks = bs; ended = h; start = s; passed = r; program = p; starts = start; reached = q; rows = refl }

-- and each of its words could stand there
pub due-closes : {f : Format} {it : Item} {x : List ℕ} → Due f it x → {d : List ℕ} → Some (way_of f) it d → Closes f (x ++ d)
due-closes {f} {x = x} h {d} q =
    let s = start_rows f.sequence h.start in
    let e : h.ended ++ (s ++ (h.passed ++ d)) ≡ x ++ d = sym (ap (λ l. l ++ d) h.rows ∙ append_assoc h.ended (s ++ h.passed) d ∙ ap (λ l. h.ended ++ l) (append_assoc s h.passed d)) in
    subst (Closes f) e (words-close h.program (opened h.starts) (reached-words h.start h.reached q))

-- ---- a word

resigned : {m : ℕ} {g : Sign} {z : ℤ} {s : List ℕ} → Signed m g z s → (k : ℕ) → (y : ℤ) × Signed k g y s
resigned never k = (pos k, never)
resigned plus k = (pos k, plus)
resigned minus k = (neg_ℤ (pos k), minus)
resigned plus_stands k = (pos k, plus_stands)
resigned minus_stands k = (neg_ℤ (pos k), minus_stands)
resigned plus_missing k = (pos k, plus_missing)

-- a sign and digits behind an address, or behind a tab: some digits behind them make a word's data, or they are spoilt digits of a speed
pub data Outlook (k : Kind) (s ds : List ℕ) : Type 0 where
  open_to : {v : Value} (more : List ℕ) → Data k v (s ++ (ds ++ more)) → Outlook k s ds
  spoilt_for : {j : ℕ} → k ≡ Kind.Speed j → s ≡ [] → Spoilt j ds → Outlook k s ds

pub outlook : (k : Kind) {m : ℕ} {z : ℤ} {s : List ℕ} → Widths k → Signed m (sign_of k) z s → (ds : List ℕ) → Every Digit ds → length ds ≤ width k → Outlook k s ds
outlook (Plain n) w g ds all most =
    let p = padded Nothing n ds all w.0 most in
    open_to {v = Number p.0} (zeros (n - length ds)) (rw (barred-none g) (number p.1))
outlook (Kind.Speed k) {s = s} w g ds all most = go (saved k w ds most)
  where
    go : ((c : ℕ) × Saves k ds c) ⊎ Spoilt k ds → Outlook (Kind.Speed k) s ds
    go (inl (c, ((o, e), (v, q)))) = open_to {v = Value.Speed v} o (rw (barred-none g, e) (speed c q))
    go (inr h) = spoilt_for refl (barred-none g) h
outlook (Kind.Dimension d) w g ds all most =
    let p = padded d.missing (d.before + d.after) ds all w.2 most in
    open_to (zeros (d.before + d.after - length ds)) (dimension (resigned g p.0).1 p.1)

-- no digits and zeros alone are never spoilt
unspoilt : {k : Kind} {s : List ℕ} → Widths k → (j : ℕ) → Outlook k s (zeros j) → (v : Value) × (more : List ℕ) × Data k v (s ++ (zeros j ++ more))
unspoilt w j (open_to {v} o h) = (v, o, h)
unspoilt w i (spoilt_for {j} k n h) = absurd (zeros-saved j (subst Widths k w) i h)

some-sign : (g : Sign) → (z : ℤ) × (s : List ℕ) × Signed 0 g z s
some-sign barred = (pos 0, [], never)
some-sign required = (pos 0, 43 ∷ [], plus)
some-sign optional = (pos 0, [], plus_missing)

module _ {f : Format} (it : Item) (w : Widths it.kind) (x : List ℕ) (due : Due f it x) where
  -- data that can be completed begin a word
  pub figures-begin : {v : Value} (s ds o : List ℕ) → Data it.kind v (s ++ (ds ++ o)) → Begins f (x ++ address (way_of f) it ++ (s ++ ds))
  figures-begin s ds o h =
      let a = address (way_of f) it in
      closes-begins (x ++ a ++ (s ++ ds)) o (x ++ (a ++ (s ++ (ds ++ o)))) (due-closes due (stands (way_of f) it h)) (simp append_assoc)

  -- an address begins one
  pub address-begins : Begins f (x ++ address (way_of f) it)
  address-begins =
      let g = some-sign (sign_of it.kind) in
      let o = unspoilt w 0 (outlook it.kind w g.2 [] tt zero-le) in
      let b = figures-begin g.1 [] o.1 o.2 in
      begins-from (x ++ address (way_of f) it) (g.1 ++ [] ++ b.1) (x ++ address (way_of f) it ++ (g.1 ++ []) ++ b.1) b.2 (simp append_assoc)

  pub before-begins : Begins f x
  before-begins =
      let b = address-begins in
      begins-from x (address (way_of f) it ++ b.1) (x ++ address (way_of f) it ++ b.1) b.2 (append_assoc x (address (way_of f) it) b.1)

  pub zeros-begin : {k : ℕ} → it.kind ≡ Kind.Speed k → (j : ℕ) → j ≤ k → Begins f (x ++ address (way_of f) it ++ zeros j)
  zeros-begin {k} e j most =
      let g : Signed 0 (sign_of it.kind) (pos 0) [] = rw e never in
      let few : length (zeros j) ≤ width it.kind = rw (e, length-replicate) most in
      let o = unspoilt w j (outlook it.kind w g (zeros j) (zeros-digit j) few) in
      figures-begin [] (zeros j) o.1 o.2

-- ---- a block with neither number nor word

-- the tabs of items left out reach the item of the last
left-reached : {y : Way} {its : List Item} {r : List ℕ} → Words y its [] r → 0 < length r → (it : Item) × Reached y its it r
left-reached done some = absurd (omega arith)
left-reached {y} (out {it} {r = []} h) some = (it, rw (append-nil (tab y)) first)
left-reached (out {r = c ∷ r} h) some = let q = left-reached h (zero-lt-suc _) in (q.0, Reached.out q.1)

pub empty-begins : {f : Format} → Facts f → {x : List ℕ} → Empty f x → Begins f x
empty-begins {f} facts {x} e = go e.passed refl
  where
    go : (r : List ℕ) → e.passed ≡ r → Begins f x
    go [] n = subst (Begins f) (sym (e.rows ∙ ap (λ l. e.ended ++ (skip_rows e.skip ++ l)) n ∙ ap (λ l. e.ended ++ l) (append-nil (skip_rows e.skip)))) (start-begins e.program e.skip)
    go (c ∷ r) n =
        let q = left-reached e.left_out (subst (λ l. 0 < length l) (sym n) (zero-lt-suc _)) in
        let at : e.ended ++ (skip_rows e.skip ++ [] ++ e.passed) ≡ x = sym (e.rows ∙ ap (λ l. e.ended ++ (l ++ e.passed)) (sym (append-nil (skip_rows e.skip)))) in
        before-begins q.0 (item-widths facts.fair (reached-item q.1)) x (subst (Due f q.0) at (reached-due e.program e.passed q.0 (opened (bare e.skip e.allowed)) q.1))
