-- The theorem on the tape itself: which of its beginnings could still become an accepted tape, and with which row that ends.
use Prim.Native.Nat.{ℕ, suc, ◌+◌, ◌%◌, ◌≤◌, ◌<◌}
use mathlib.Core.Path.{◌≡◌, refl, sym, ap, ◌∙◌, subst}
use mathlib.Core.Bool.{false}
use mathlib.Core.Logic.{◌⊎◌, inl, inr}
use mathlib.Core.List.{List, [], ◌∷◌, ◌++◌, append_assoc, append-nil, map}
use native.Mathlib.Nat.{le_refl, mod-lt}
use native.Mathlib.Omega.{arith}
use lib.ListN.{length, length-append, length-map, length-replicate, take}
use lib.Seq.{take_at}
use lib.Dec.{T, ltb, lt→ltb, lit≤, lit<}
use Rattle.rows.specs.Answer.{refused}
use Rattle.rows.specs.Kept.{KeptRow, kept_from, kept}
use Rattle.rows.specs.ControlOut.{WellFormed, end, row}
use Rattle.rows.specs.Passes.{Every, Passes}
use Rattle.rows.specs.Row.{character, even, characters, among}
use Rattle.rows.specs.Stages.{limit}
use Rattle.rows.proofs.Every.{every_map, every-both, every_append, every_front, every_back}
use Rattle.rows.proofs.KeptRows.{kept-plain, kept-every}
use Rattle.rows.proofs.TapesJoined.{formed-append, kept_append}
use Rattle.shorthand.specs.declared.Item.{Item}
use Rattle.shorthand.specs.declared.Format.{Format}
use Rattle.shorthand.specs.Layout.{Way, by_letter, by_both, by_tab, way_of}
use Rattle.shorthand.specs.Facts.{Widths, Facts}
use Rattle.shorthand.specs.declared.Kind.{Kind}
use Rattle.profile.specs.Relation.{Settled}
use Rattle.shorthand.proofs.Tests.{both}
use Rattle.profile.proofs.Settling.{one_format, settled-facts}
use Rattle.reading.specs.declared.Block.{Block}
use Rattle.reading.specs.Relation.{digits, zeros, address, End, lf, cr_lf, Blocks, none, more, Program, program, chars, TapeOf}
use Rattle.reading.specs.Answers.{read_under}
use Rattle.reading.proofs.Outcomes.{chars-append}
use Rattle.reading.proofs.DigitRows.{digits-length, digits-digit}
use Rattle.punching.specs.Rows.{row_of}
use Rattle.reading.proofs.BareRows.{bare, Bare, digits-bare, block-bare}
use Rattle.punching.proofs.PunchedRows.{punched-even, punched-known, punched-formed}
use Rattle.punching.proofs.PunchedTapes.{chars-punched}
use Rattle.places.specs.Begins.{Begins, Due}
use Rattle.places.specs.Faults.{last_of, EndDue, Misfit, Cut, SpeedDue, Spoilt, Refusal, at_row, at_cr, at_word, at_length}
use Rattle.places.specs.Tapes.{LongTape, Opens, Shuts, instead, Address, TapePlace, first_wrong, cr_alone, unsaid, ended}
use Rattle.places.proofs.DigitLists.{zeros-digit, last-behind}
use Rattle.places.proofs.SpeedDigits.{spoilt-some}
use Rattle.places.proofs.Dues.{due-item, item-widths, item-letter}
use Rattle.places.proofs.Ahead.{address-begins, zeros-begin}
use Rattle.places.proofs.Called.{called}
use Rattle.places.proofs.RefusedTapes.{tape-refused}
use Rattle.rows.proofs.TapeParts.{CutAt, cut_at}
use Rattle.places.proofs.CutShort.{cut-none}

-- ---- rows of a program are rows that the punch could write

end-bare : {e : List ℕ} → End e → Bare e
end-bare lf = (tt, tt)
end-bare cr_lf = (tt, (tt, tt))

blocks-bare : {f : Format} {bs : List Block} {r : List ℕ} → Facts f → Blocks f bs r → Bare r
blocks-bare facts none = tt
blocks-bare facts (more {r = r} {s = s} b h) = every_append _ r s (block-bare facts b) (blocks-bare facts h)

program-bare : {f : Format} {bs : List Block} {x : List ℕ} → Facts f → Program f bs x → Bare x
program-bare facts (program {e = e} {r = r} h k) = (tt, every_append _ e r (end-bare h) (blocks-bare facts k))

-- and so are rows behind others
begins-bare : {f : Format} → Facts f → (x u : List ℕ) → Begins f (x ++ u) → Bare u
begins-bare facts x u (bs, o, p) = every_back _ x u (every_front _ (x ++ u) o (program-bare facts p))

-- a kept row of a tape that passes is one that the punch could write
small : (t : List ℕ) → Every (λ b. T (ltb (character b) 128)) t
small [] = tt
small (b ∷ t) = (lt→ltb (b % 128) 128 (mod-lt b (lit< tt)), small t)

bare_of : (c : ℕ) → T (ltb c 128) → T (among c characters) → among c (0 ∷ 127 ∷ 40 ∷ 41 ∷ []) ≡ false → T (bare c)
bare_of c l k p = both (ltb c 128) _ l (both (among c characters) _ k (rw p tt))

kept-bare : {t : List ℕ} → Passes t → Every (λ r. T (bare r.char)) (kept t)
kept-bare {t} p =
    every_map (λ r h. bare_of r.char h.0 h.1.0 h.1.1) (kept t)
    (every-both _ _ (kept t) (kept-every (λ c. T (ltb c 128)) t false 0 (small t)) (every-both _ _ (kept t) (kept-every (λ c. T (among c characters)) t false 0 p.known) (kept-plain p)))

-- ---- beginnings of a tape

-- within the limit a long tape is one
pub within-limit : {e : ℕ} {s p : List ℕ} {bs : List Block} {t : List ℕ} → LongTape e s p bs t → length t ≤ limit → TapeOf e s p bs t
within-limit h l =
    record { format = h.format; settled = h.settled; passes = record { short = l; even = h.even; known = h.known; formed = h.formed }; stands = h.stands }

-- what the first three stages ask of rows, but for their number
record Clean (u : List ℕ) : Type 0 where
  even : Every (λ b. T (even b)) u
  known : Every (λ b. T (among (character b) characters)) u
  formed : WellFormed u

passes-clean : {u : List ℕ} → Passes u → Clean u
passes-clean p = record { even = p.even; known = p.known; formed = p.formed }

-- characters punched behind clean rows
clean-more : {u : List ℕ} → Clean u → (cs : List ℕ) → Bare cs → Clean (u ++ map row_of cs)
clean-more {u} c cs bare =
    record {
      even = every_append _ u (map row_of cs) c.even (punched-even cs bare);
      known = every_append _ u (map row_of cs) c.known (punched-known cs bare);
      formed = formed-append c.formed (punched-formed cs bare);
    }

module _ {e : ℕ} {s p : List ℕ} {f : Format} (settled : Settled e s p f) where
  opens : {u : List ℕ} → Clean u → Begins f (chars (kept u)) → Opens e s p u
  opens {u} c (bs, o, q) =
      let bare = every_back _ (chars (kept u)) o (program-bare (settled-facts settled) q) in
      let all = clean-more c o bare in
      (map row_of o, bs, record { format = f; settled = settled; even = all.even; known = all.known; formed = all.formed; stands = rw (chars-punched c.formed o bare) q })

  shuts : (u : List ℕ) → WellFormed u → (Begins f (chars (kept u)) → ⊥) → Shuts e s p u
  shuts u w nay m bs h =
      let same : h.format ≡ f = one_format h.settled settled in
      let rows : chars (kept (u ++ m)) ≡ chars (kept u) ++ chars (kept_from false (0 + length u) m) = ap chars (kept_append w 0 m) ∙ chars-append (kept u) _ in
      nay (bs, chars (kept_from false (0 + length u) m), subst (λ x. Program f bs x) rows (subst (λ g. Program g bs (chars (kept (u ++ m)))) same h.stands))

-- ---- cut at a kept row

module _ {e : ℕ} {s p t : List ℕ} {f : Format} (settled : Settled e s p f) (passes : Passes t) (b a : List KeptRow) (r : KeptRow) (split : kept t ≡ b ++ (r ∷ a)) where
  cut : CutAt t 0 b r
  cut = cut_at a r passes.formed 0 b split

  before : take r.place t ≡ cut.u
  before = ap (take r.place) cut.split ∙ take_at cut.u (cut.c ∷ cut.v) r.place (omega (arith, cut.place))

  up_to : take (suc r.place) t ≡ cut.u ++ (cut.c ∷ [])
  up_to =
      let q : cut.u ++ (cut.c ∷ cut.v) ≡ cut.u ++ (cut.c ∷ []) ++ cut.v = sym (append_assoc cut.u (cut.c ∷ []) cut.v) in
      let n : length (cut.u ++ (cut.c ∷ [])) ≡ suc r.place = simp length-append (omega (arith, cut.place)) in
      ap (take (suc r.place)) (cut.split ∙ q) ∙ take_at (cut.u ++ (cut.c ∷ [])) cut.v (suc r.place) n

  in-tape : r.place < length t
  in-tape = omega (arith, cut.place, ap length cut.split ∙ length-append cut.u (cut.c ∷ cut.v))

  passed : Passes cut.u
  passed =
      let whole = subst Passes cut.split passes in
      record {
        short = omega (arith, whole.short, length-append cut.u (cut.c ∷ cut.v));
        even = every_front _ cut.u (cut.c ∷ cut.v) whole.even;
        known = every_front _ cut.u (cut.c ∷ cut.v) whole.known;
        formed = cut.formed;
      }

  opens_before : Begins f (chars b) → Opens e s p (take r.place t)
  opens_before h = subst (Opens e s p) (sym before) (opens settled (passes-clean passed) (subst (λ l. Begins f (chars l)) (sym cut.rows) h))

  shuts-before : (Begins f (chars b) → ⊥) → Shuts e s p (take r.place t)
  shuts-before nay = subst (Shuts e s p) (sym before) (shuts settled cut.u cut.formed (λ h. nay (subst (λ l. Begins f (chars l)) cut.rows h)))

  shuts-with : (Begins f (chars b ++ (r.char ∷ [])) → ⊥) → Shuts e s p (take (suc r.place) t)
  shuts-with nay =
      let u = cut.u ++ (cut.c ∷ []) in
      let rows : kept u ≡ b ++ (r ∷ []) = kept_append cut.formed 0 (cut.c ∷ []) ∙ ap (λ l. l ++ kept_from false (0 + length cut.u) (cut.c ∷ [])) cut.rows ∙ ap (λ l. b ++ l) cut.kept in
      subst (Shuts e s p) (sym up_to)
      (shuts settled u (formed-append cut.formed (row cut.outside end)) (λ h. nay (subst (Begins f) (ap chars rows ∙ chars-append b (r ∷ [])) h)))

  -- other characters punched from the cut on
  module _ (cs : List ℕ) where
    punched-rows : Bare cs → chars (kept (cut.u ++ map row_of cs)) ≡ chars b ++ cs
    punched-rows bare = chars-punched cut.formed cs bare ∙ ap (λ l. chars l ++ cs) cut.rows

    opens-instead : Begins f (chars b ++ cs) → Opens e s p (instead t r cs)
    opens-instead h =
        let bare = begins-bare (settled-facts settled) (chars b) cs h in
        subst (λ u. Opens e s p (u ++ map row_of cs)) (sym before) (opens settled (clean-more (passes-clean passed) cs bare) (subst (Begins f) (sym (punched-rows bare)) h))

    shuts-instead : Bare cs → (Begins f (chars b ++ cs) → ⊥) → Shuts e s p (instead t r cs)
    shuts-instead bare nay =
        subst (λ u. Shuts e s p (u ++ map row_of cs)) (sym before)
        (shuts settled (cut.u ++ map row_of cs) (clean-more (passes-clean passed) cs bare).formed (λ h. nay (subst (Begins f) (punched-rows bare) h)))

-- ---- numbers

misfit-range : {f : Format} {n c : ℕ} {x : List ℕ} → Misfit f n x c → (8 ≤ n) × (n ≤ 12)
misfit-range (Misfit.percent h) = (lit≤ tt, lit≤ tt)
misfit-range (Misfit.end EndDue.of_head a b c) = (lit≤ tt, lit≤ tt)
misfit-range (Misfit.end (EndDue.of_block h) a b c) = (lit≤ tt, lit≤ tt)
misfit-range (Misfit.start k p h) = (lit≤ tt, lit≤ tt)
misfit-range (Misfit.empty e) = (lit≤ tt, lit≤ tt)
misfit-range (Misfit.tabbed e some a b c) = (lit≤ tt, lit≤ tt)
misfit-range (Misfit.number k l p a h) = (lit≤ tt, lit≤ tt)
misfit-range (Misfit.figures it x d g a h b) = (lit≤ tt, lit≤ tt)
misfit-range (Misfit.sign it x d h) = (lit≤ tt, lit≤ tt)

due-number : {f : Format} {n : ℕ} {x : List ℕ} → EndDue f n x → (n ≡ 8) ⊎ (n ≡ 10)
due-number EndDue.of_head = inl refl
due-number (EndDue.of_block h) = inr refl

cut-number : {f : Format} {n : ℕ} {x : List ℕ} → Cut f n x → (n ≡ 8) ⊎ (n ≡ 14)
cut-number (Cut.in_head o h q some) = inl refl
cut-number (Cut.in_block v p some nay) = inr refl

-- ---- a word's rows

-- the rows before an address, and from it on the word's
record WordRows (b ds : List KeptRow) (x m : List ℕ) : Type 0 where
  before : List KeptRow
  first : KeptRow
  others : List KeptRow
  split : b ++ ds ≡ before ++ (first ∷ others)
  of_before : chars before ≡ x
  are : chars (first ∷ others) ≡ m ++ chars ds

word_rows : (b ds : List KeptRow) (x m : List ℕ) → 0 < length ds → chars b ≡ x ++ m → WordRows b ds x m
word_rows [] [] [] m some e = absurd (omega arith)
word_rows [] (d ∷ ds) [] m some e = record { before = []; first = d; others = ds; split = refl; of_before = refl; are = rw (← e) }
word_rows (r ∷ b) ds [] m some e = record { before = []; first = r; others = b ++ ds; split = refl; of_before = refl; are = rw (chars-append b ds, ← e) }
word_rows [] ds (c ∷ x) m some e = let z = ap length e in absurd (omega arith)
word_rows (r ∷ b) ds (c ∷ x) m some e = let k : chars b ≡ x ++ m = cc in longer (word_rows b ds x m some k) (cc)
  where
    longer : WordRows b ds x m → r.char ≡ c → WordRows (r ∷ b) ds (c ∷ x) m
    longer p a = record { before = r ∷ p.before; first = p.first; others = p.others; split = ap (λ l. r ∷ l) p.split; of_before = rw (a, p.of_before); are = p.are }

-- ---- the theorem

module _ {e : ℕ} {s p t : List ℕ} {f : Format} (settled : Settled e s p f) (passes : Passes t) where
  facts : Facts f
  facts = settled-facts settled

  -- the address of an item that is due
  abbrev own : Item → List ℕ
  own it = address (way_of f) it

  lone : {it : Item} {x : List ℕ} → Due f it x → Address (last_of x) (own it)
  lone {it} {x} due = go (way_of f) refl
    where
      go : (y : Way) → way_of f ≡ y → Address (last_of x) (address y it)
      go by_letter e = item-letter facts.fair (due-item due)
      go by_both e = item-letter facts.fair (due-item due)
      go by_tab e =
          let m = called facts due in
          ap last_of (sym (append-nil x) ∙ ap (λ y. x ++ address y it) (sym e) ∙ m.rows) ∙ last-behind m.before (m.mark ∷ []) (lit< tt) ∙ m.tab e

  own_bare : {it : Item} {x : List ℕ} → Due f it x → (u : List ℕ) → Bare u → Bare (own it ++ u)
  own_bare {it} {x} due u all = every_append _ (own it) u (begins-bare facts x (own it) (address-begins it (item-widths facts.fair (due-item due)) x due)) all

  some-digits : {k : ℕ} {it : Item} {x : List ℕ} (ds : List KeptRow) → SpeedDue f it k x → Spoilt k (chars ds) → 0 < length ds
  some-digits {k} {it} {x} ds due s =
      let w : Widths (Kind.Speed k) = subst Widths due.speed (item-widths facts.fair (due-item due.due)) in
      omega (arith, spoilt-some k w (chars ds) s, length-map ds (λ r. r.char))

  -- a program that the tape stands as under the same edition, shorthand and profile stands so under this Format
  same_format : (bs : List Block) → LongTape e s p bs t → Program f bs (chars (kept t))
  same_format bs h = subst (λ g. Program g bs (chars (kept t))) (one_format h.settled settled) h.stands

  placed : {n k : ℕ} → Refusal f (length t) (kept t) n k → TapePlace e s p t n k
  placed (at_row b a r q m h nay) =
      first_wrong (misfit-range m).0 (misfit-range m).1 (in-tape settled passes b a r q) (opens_before settled passes b a r q h) (shuts-with settled passes b a r q nay)
  placed (at_cr b a cr r q due is n h nay) =
      let q₂ : kept t ≡ b ++ (cr ∷ []) ++ (r ∷ a) = q ∙ sym (append_assoc b (cr ∷ []) (r ∷ a)) in
      let rows : chars (b ++ (cr ∷ [])) ≡ chars b ++ (13 ∷ []) = chars-append b (cr ∷ []) ∙ rw is in
      let more_rows : chars (b ++ (cr ∷ [])) ++ (r.char ∷ []) ≡ chars b ++ (13 ∷ (r.char ∷ [])) = ap (λ l. l ++ (r.char ∷ [])) rows ∙ append_assoc (chars b) (13 ∷ []) (r.char ∷ []) in
      cr_alone b a cr r (due-number due) q is n
      (opens_before settled passes (b ++ (cr ∷ [])) a r q₂ (subst (Begins f) (sym rows) h))
      (shuts-with settled passes (b ++ (cr ∷ [])) a r q₂ (λ k. nay (subst (Begins f) more_rows k)))
  placed (Refusal.empty_cr b a cr q m is behind h nay) =
      TapePlace.empty_cr b a cr q is behind (opens_before settled passes b a cr q h) (shuts-with settled passes b a cr q (λ k. nay (subst (λ c. Begins f (chars b ++ (c ∷ []))) is k)))
  placed (at_word {k} {it} c b w a r q due v small z apart h nay) =
      let zero = zeros-begin it (item-widths facts.fair (due-item due.due)) (chars b) due.due due.speed k (le_refl k) in
      let digit = digits-digit k c small in
      unsaid b w a r (own it) (digits k c) q v (lone due.due) digit apart
      (zeros k, zeros-digit k, length-replicate {A = ℕ} k 48 ∙ sym (digits-length k c), opens-instead settled passes b (w ++ a) r q (own it ++ zeros k) (subst (Begins f) (append_assoc (chars b) (own it) (zeros k)) zero))
      (shuts-instead settled passes b (w ++ a) r q (own it ++ digits k c) (own_bare due.due (digits k c) (digits-bare (digits k c) digit)) (λ g. nay (rw v g)))
  placed (at_length c h) = ended (cut-number c) (opens settled (passes-clean passes) h) (λ bs k. cut-none c (same_format bs k))
  placed (Refusal.past_saving {it = it} b ds a r x q due is s all m lost o nay) =
      let p = word_rows b ds x (own it) (some-digits ds due s) is in
      let whole : kept t ≡ b ++ ds ++ (r ∷ a) = q ∙ sym (append_assoc b ds (r ∷ a)) in
      let rows : kept t ≡ p.before ++ (p.first ∷ (p.others ++ (r ∷ a))) = whole ∙ ap (λ l. l ++ (r ∷ a)) p.split ∙ append_assoc p.before (p.first ∷ p.others) (r ∷ a) in
      let r-bare = (every_back (λ y. T (bare y.char)) (b ++ ds) (r ∷ a) (subst (Every (λ y. T (bare y.char))) whole (kept-bare passes))).0 in
      let to : (u : List ℕ) → chars b ++ u ≡ chars p.before ++ (own it ++ u) = λ u. rw (is, p.of_before) (append_assoc x (own it) u) in
      TapePlace.past_saving p.before p.others a p.first r (own it) (chars ds) rows p.are (subst (λ z. Address (last_of z) (own it)) (sym p.of_before) (lone due.due)) s all
      (shuts-before settled passes (b ++ ds) a r whole (λ k. lost (subst (Begins f) (chars-append b ds) k)))
      (o.0, o.1, o.2 ∙ sym (length-map ds (λ y. y.char)), opens-instead settled passes p.before (p.others ++ (r ∷ a)) p.first rows (own it ++ o.0) (subst (Begins f) (to o.0) o.3))
      (λ d every many. let u = d ++ (r.char ∷ []) in
      shuts-instead settled passes p.before (p.others ++ (r ∷ a)) p.first rows (own it ++ u) (own_bare due.due u (every_append _ d (r.char ∷ []) (digits-bare d every) (r-bare, tt)))
      (λ h. nay d every (many ∙ length-map ds (λ y. y.char)) (subst (Begins f) (sym (to u)) h)))
  placed (Refusal.cut_past_saving {it = it} b ds x q due is s all few c lost o) =
      let p = word_rows b ds x (own it) (some-digits ds due s) is in
      let rows : kept t ≡ p.before ++ (p.first ∷ p.others) = q ∙ p.split in
      let to : chars b ++ o.0 ≡ chars p.before ++ (own it ++ o.0) = rw (is, p.of_before) (append_assoc x (own it) o.0) in
      TapePlace.cut_past_saving p.before p.others p.first (own it) (chars ds) rows p.are (subst (λ z. Address (last_of z) (own it)) (sym p.of_before) (lone due.due)) s all (shuts settled t passes.formed lost)
      (o.0, o.1, o.2 ∙ sym (length-map ds (λ y. y.char)), opens-instead settled passes p.before p.others p.first rows (own it ++ o.0) (subst (Begins f) to o.3))

-- a tape that reading refuses by 8 to 14 goes wrong where it says
pub tape-placed : (e : ℕ) (s p t : List ℕ) (n k : ℕ) → 8 ≤ n → n ≤ 14 → read_under e s p t ≡ refused n k → TapePlace e s p t n k
tape-placed e s p t n k late early q = let h = tape-refused e s p t n k late early q in placed h.settled h.passes h.says
