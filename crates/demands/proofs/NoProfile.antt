-- A profile of no bytes is no profile: every answer is what the edition and the shorthand alone say.
use Prim.Native.Nat.{ℕ}
use mathlib.Core.Path.{◌≡◌}
use mathlib.Core.Logic.{◌↔◌}
use mathlib.Core.List.{List, []}
use Rattle.rows.specs.Answer.{Answer, taken, ◌>>=◌}
use Rattle.shorthand.specs.declared.Format.{Format}
use Rattle.shorthand.specs.Parse.{parsed}
use Rattle.shorthand.specs.Lawful.{Lawful}
use Rattle.shorthand.specs.Spell.{spell}
use Rattle.shorthand.proofs.Accepted.{accepted}
use Rattle.profile.specs.Answers.{agreed}
use Rattle.profile.specs.Relation.{Settled}
use Rattle.profile.proofs.Settling.{settled-exactly, no_profile}
use Rattle.reading.specs.declared.Block.{Block}
use Rattle.reading.specs.declared.Entry.{Entry}
use Rattle.reading.specs.Answers.{nth, entry_rows, size_of, read, read_under, counted, block_numbered, rows_numbered}
use Rattle.punching.specs.Answers.{block_for, block_punched}
use Rattle.lines.specs.Listing.{listed, listed_under}

module _ (e : ℕ) (s : List ℕ) where
  pub format-alone : agreed e s [] ≡ parsed e s
  format-alone = no_profile e s

  -- the same of the relation: the Format is the one that spells the shorthand
  pub settled-alone : (f : Format) → Settled e s [] f ↔ ((s ≡ spell f) × Lawful e f)
  settled-alone f =
      (λ h. (accepted e s f).0 (rw format-alone at ((settled-exactly e s [] f).1 h)), λ h. (settled-exactly e s [] f).0 (rw format-alone ((accepted e s f).1 h)))

  module _ (t : List ℕ) where
    -- the entries of a tape by the shorthand alone
    abbrev pub alone : Answer (List Entry)
    alone = parsed e s >>= λ f. read f t

    pub read-alone : read_under e s [] t ≡ alone
    unfolding read_under
    read-alone = rw format-alone

    pub count-alone : counted e s [] t ≡ size_of alone
    count-alone = rw read-alone

    pub block-alone : (n : ℕ) → block_numbered e s [] t n ≡ (alone >>= nth n) >>= λ x. taken x.block
    block-alone n = rw read-alone

    pub rows-alone : (n : ℕ) → rows_numbered e s [] t n ≡ (alone >>= nth n) >>= λ x. taken (entry_rows t x)
    rows-alone n = rw read-alone

    pub listed-alone : listed_under e s [] t ≡ parsed e s >>= λ f. listed f t
    unfolding listed_under
    listed-alone = rw format-alone

  pub punched-alone : (b : Block) (buffer : List ℕ) → block_punched e s [] b buffer ≡ parsed e s >>= λ f. block_for f b buffer
  unfolding block_punched
  punched-alone b buffer = rw format-alone
