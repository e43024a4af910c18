-- A tape whose blocks were counted for a listing is accepted, and all of them are left behind its head; and what a listing is without a profile.
use mathlib.Core.Path.{◌≡◌, refl}
use mathlib.Core.Bool.{Bool, true, false, cond}
use mathlib.Core.List.{List, []}
use Prim.Native.Nat.{ℕ, ◌+◌}
use native.Mathlib.Omega.{arith}
use lib.Dec.{leb}
use lib.ListN.{length}
use Rattle.rows.specs.Answer.{Answer, taken, refused, value_or, ◌>>=◌}
use Rattle.rows.specs.Kept.{KeptRow}
use Rattle.shorthand.specs.declared.Format.{Format}
use Rattle.shorthand.specs.Layout.{empty_format}
use Rattle.shorthand.specs.Parse.{parsed}
use Rattle.profile.specs.Answers.{agreed}
use Rattle.profile.proofs.Settling as settling
use Rattle.words.specs.Figures.{taking}
use Rattle.parts.specs.Ends.{entered}
use Rattle.reading.specs.declared.Entry.{Entry}
use Rattle.reading.specs.Answers.{read, size_of}
use Rattle.reading.specs.Remains.{Remains, all}
use Rattle.lines.specs.declared.Header.{Header}
use Rattle.lines.specs.Listing.{header_found, shorthand_of, rows_of, most, listed, listed_under, printed, listing}

counted-read : (f : Format) (t : List ℕ) (n : ℕ) (b : Bool) → taken n ≡ size_of (cond b (read f t) (refused 4 most)) → (es : List Entry) × (read f t ≡ taken es)
counted-read f t n false e = let z : ◌≡◌ {A = ℕ} 0 1 = cc in absurd (omega (arith, z))
counted-read f t n true e = by (read f t) e
  where
    by : (a : Answer (List Entry)) → taken n ≡ size_of a → (es : List Entry) × (a ≡ taken es)
    by (taken es) q = (es, cc)
    by (refused m p) q = let z : ◌≡◌ {A = ℕ} 0 1 = cc in absurd (omega (arith, z))

module _ (e : ℕ) (s p t : List ℕ) where
  pub counted-remains : (n : ℕ) → taken n ≡ size_of (listed_under e s p t) → (f : Format) → taken f ≡ agreed e s p
      → (lf : ℕ) (rest : List KeptRow) → entered t ≡ taking lf rest → (es : List Entry) × Remains f t (lf + 1) es
  unfolding listed_under
  counted-remains n c f q lf rest o = let r = counted-read f t n (leb (length t) most) (rw (← q) at c) in (r.0, all r.1 o)

-- ---- no bytes are no profile

-- the Format of an input's header, without a profile
abbrev pub format_in : List ℕ → Answer Format
format_in input = header_found input >>= λ h. parsed h.edition (shorthand_of input h)

-- without a profile the listing is document 01's
pub no_profile : (input : List ℕ) → listing [] input ≡ printed (value_or empty_format (format_in input)).sequence (header_found input >>= λ h. parsed h.edition (shorthand_of input h) >>= λ f. listed f (rows_of input h))
unfolding listing listed_under
no_profile input = by (header_found input)
  where
    by : (a : Answer Header) → printed (value_or empty_format (a >>= λ h. agreed h.edition (shorthand_of input h) [])).sequence (a >>= λ h. listed_under h.edition (shorthand_of input h) [] (rows_of input h))
        ≡ printed (value_or empty_format (a >>= λ h. parsed h.edition (shorthand_of input h))).sequence (a >>= λ h. parsed h.edition (shorthand_of input h) >>= λ f. listed f (rows_of input h))
    by (taken h) = rw (settling.no_profile h.edition (shorthand_of input h))
    by (refused n p) = refl
