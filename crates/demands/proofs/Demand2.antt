-- Demand 2: what is accepted, what comes out, and what was punched reads back.
use mathlib.Core.Path.{◌≡◌, refl, sym, ap, ◌∙◌}
use mathlib.Core.Logic.{◌↔◌}
use mathlib.Core.Bool.{Bool, true, false, cond}
use mathlib.Core.List.{List, [], ◌∷◌, ◌++◌, append_assoc, append-nil, map}
use Prim.Native.Nat.{ℕ, ◌≤◌, ◌<◌}
use lib.ListN.{length, get_or, length-append, length-map, get_or-map}
use native.Mathlib.Omega.{arith}
use lib.Dec.{leb}
use borrow.Author.Tests.{le-ltb, lt-ltb}
use Rattle.rows.specs.Answer.{Answer, taken, refused, ◌>>=◌}
use Rattle.rows.specs.Stages.{limit}
use Rattle.shorthand.specs.declared.Format.{Format}
use Rattle.profile.specs.Answers.{agreed}
use Rattle.profile.proofs.Settling.{settled-exactly}
use Rattle.reading.specs.declared.Block.{Block}
use Rattle.reading.specs.Record.{empty_block}
use Rattle.reading.specs.Relation.{TapeOf}
use Rattle.reading.specs.declared.Entry.{Entry}
use Rattle.reading.specs.Answers.{nowhere, read_under, counted, block_numbered}
use Rattle.reading.proofs.Programs.{blocks_of, tape-read, read-tape}
use Rattle.punching.specs.Rows.{head_rows, cleared}
use Rattle.punching.specs.Answers.{room_for, head_punched, block_punched}
use Rattle.punching.proofs.Refusals.{block_written}
use Rattle.punching.proofs.PunchedTapes.{block-appended, regrouped, head-tape}
use Rattle.demands.specs.Parts.{Parts}
use Rattle.demands.proofs.TapeParts.{parts}

module _ (e : ℕ) (s p t : List ℕ) where
  -- "A tape is accepted exactly when it is a tape of some program under the edition and shorthand," and the profile,
  pub accepted-exactly : ((c : ℕ) × (counted e s p t ≡ taken c)) ↔ ((bs : List Block) × TapeOf e s p bs t)
  accepted-exactly = (
    λ a. by (read_under e s p t) refl a.1,
    λ h. let a = tape-read e s p t h.0 h.1 in (length a.0, rw a.1),
  )
    where
      by : {c : ℕ} (a : Answer (List Entry)) → read_under e s p t ≡ a → (a >>= λ es. taken (length es)) ≡ taken c → (bs : List Block) × TapeOf e s p bs t
      by (taken es) q z = (blocks_of es, read-tape e s p t es q)
      by (refused n p) q z = let w : ◌≡◌ {A = ℕ} 0 1 = cc in absurd (omega arith)

  as_many : (bs : List Block) (h : TapeOf e s p bs t) → length (tape-read e s p t bs h).0 ≡ length bs
  as_many bs h = let a = tape-read e s p t bs h in sym (length-map a.0 (λ x. x.block)) ∙ ap length a.2

  -- "and then every block comes out as they say": their number is the program's,
  pub count-said : (bs : List Block) → TapeOf e s p bs t → counted e s p t ≡ taken (length bs)
  count-said bs h = rw ((tape-read e s p t bs h).1, as_many bs h)

  -- block n is the program's,
  pub block-said : (bs : List Block) → TapeOf e s p bs t → (n : ℕ) → n < length bs → block_numbered e s p t n ≡ taken (get_or bs n empty_block)
  block-said bs h n l =
      let a = tape-read e s p t bs h in
      let same = as_many bs h in
      let at : get_or bs n empty_block ≡ (get_or a.0 n nowhere).block = ap (λ l. get_or l n empty_block) (sym a.2) ∙ get_or-map (λ x. x.block) a.0 n nowhere in
      rw (a.1, lt-ltb n (length a.0) (rw same l), at)

  -- and past the last one there is none
  pub no_more : (bs : List Block) → TapeOf e s p bs t → (n : ℕ) → length bs ≤ n → block_numbered e s p t n ≡ refused 15 (length bs)
  no_more bs h n l =
      let a = tape-read e s p t bs h in
      let same = as_many bs h in
      rw (a.1, le-ltb n (length a.0) (rw same l), same)

  -- the rows of block n, as they are handed back, tie to the relation too: from just after the head's end to the last LF they are all the tape's rows, without a gap,
  -- and behind any head, within the limit, each part alone is a tape of just its block
  pub parts_said : (bs : List Block) → TapeOf e s p bs t → Parts e s p bs t
  parts_said bs h = parts e s p t bs h

shorter : {n : ℕ} (t u : List ℕ) → length (t ++ u) ≤ n → length t ≤ n
shorter t u l = omega (arith, length-append t u)

room-rows : (buffer rows r : List ℕ) → room_for buffer rows ≡ taken r → rows ≡ r
room-rows buffer rows r = by (leb (length rows) (length buffer))
  where
    by : (room : Bool) → cond room (taken rows) (refused 19 (length rows)) ≡ taken r → rows ≡ r
    by true q = cc
    by false q = let w : ◌≡◌ {A = ℕ} 0 1 = cc in absurd (omega arith)

module _ (e : ℕ) (s p : List ℕ) where
  -- blocks punched one after another, each into some buffer, and all the rows that were punched
  pub data PunchedAs : List Block → List ℕ → Type 0 where
    none : PunchedAs [] []
    more : {b : Block} {bs : List Block} {r u : List ℕ} (buffer : List ℕ) → block_punched e s p b buffer ≡ taken r → PunchedAs bs u → PunchedAs (b ∷ bs) (r ++ u)

  one-behind : {bs : List Block} {t r : List ℕ} (b : Block) (buffer : List ℕ) → TapeOf e s p bs t → block_punched e s p b buffer ≡ taken r → length (t ++ r) ≤ limit
      → TapeOf e s p (bs ++ (cleared b ∷ [])) (t ++ r)
  one-behind {t = t} {r = r} b buffer h q l =
      let w = block_written e s p b buffer r q in
      let is = w.fitted.rows in
      rw is (block-appended e s p w.format w.agrees b h w.fitted.fits (rw is at l))

  behind : {bs : List Block} {t : List ℕ} (cs : List Block) (u : List ℕ) → TapeOf e s p bs t → PunchedAs cs u → length (t ++ u) ≤ limit → TapeOf e s p (bs ++ map cleared cs) (t ++ u)
  behind {bs} {t} [] _ h none l = rw (append-nil bs, append-nil t) h
  behind {bs} {t} (b ∷ cs) _ h (more {r = r} {u = u} buffer q k) l =
      let within : length ((t ++ r) ++ u) ≤ limit = rw (append_assoc t r u) l in
      let next = one-behind b buffer h q (shorter (t ++ r) u within) in
      regrouped bs (cleared b) (map cleared cs) t r u (behind {bs = bs ++ (cleared b ∷ [])} {t = t ++ r} cs u next k within)

  -- "Blocks punched after the head, within the length limit, read back as the same blocks", unused places cleared.
  pub read_back : (f : Format) → agreed e s p ≡ taken f → (buffer head : List ℕ) → head_punched buffer ≡ taken head → (bs : List Block) (u : List ℕ) → PunchedAs bs u
      → length (head ++ u) ≤ limit → TapeOf e s p (map cleared bs) (head ++ u)
  read_back f q buffer head h bs u k l =
      let is : head_rows ≡ head = room-rows buffer head_rows head h in
      behind bs u (rw is at (head-tape ((settled-exactly e s p f).0 q))) k l
