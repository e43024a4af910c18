-- A program looks at the first 32 bytes of its argument. No form has as many places, so the answer is the whole argument's.
use Prim.Native.Nat.{ℕ, zero, suc, ◌<◌}
use native.Mathlib.Omega.{arith}
use mathlib.Core.Path.{◌≡◌, refl, ap}
use mathlib.Core.List.{List, [], ◌∷◌}
use lib.ListN.{length, take}
use Rattle.rows.specs.Answer.{Answer, taken, refused, value_or, ◌>>=◌}
use Rattle.shorthand.specs.declared.Edition.{Edition}
use Rattle.shorthand.specs.declared.Edition.TheVariants.{Iso1057, Iso2539}
use Rattle.shorthand.specs.declared.Format.{Format}
use Rattle.shorthand.specs.Layout.{empty_format}
use Rattle.shorthand.specs.Parse.{parsed}
use Rattle.profile.specs.Form.{Slot, form_of}
use Rattle.profile.specs.Agreement.{said_in}
use Rattle.profile.specs.Answers.{filled, held_to, profiled, edition_of, agreed}
use Rattle.lines.specs.declared.Header.{Header}
use Rattle.lines.specs.Listing.{header_found, shorthand_of, rows_of, listed_under, printed, listing}

-- a byte behind more bytes than the form has places is not looked at
cut-form : (ss : List Slot) (p n : ℕ) (t : List ℕ) → length ss < n → filled ss p (take n t) ≡ filled ss p t
unfolding filled
cut-form ss p zero t h = absurd (omega (arith, h))
cut-form [] p (suc n) [] h = refl
cut-form [] p (suc n) (b ∷ t) h = refl
cut-form (s ∷ ss) p (suc n) [] h = refl
cut-form (s ∷ ss) p (suc n) (b ∷ t) h = rw (cut-form ss (suc p) n t (omega (arith, h)), cut-form ss p (suc n) (b ∷ t) (omega (arith, h)))

cut-profile : (e : Edition) (f : Format) (p : List ℕ) → profiled e f (take 32 p) ≡ profiled e f p
unfolding profiled
cut-profile e f [] = refl
cut-profile e f (b ∷ p) = ap (λ a. a >>= λ bs. held_to f (said_in e bs)) (cut-form (form_of e) 0 32 (b ∷ p) (few e))
  where
    few : (e : Edition) → length (form_of e) < 32
    few Iso1057 = omega arith
    few Iso2539 = omega arith

-- what is agreed on with the first 32 bytes of a profile is what is agreed on with all of it
pub cut-agreed : (e : ℕ) (s p : List ℕ) → agreed e s (take 32 p) ≡ agreed e s p
unfolding agreed
cut-agreed e s p = by (parsed e s)
  where
    by : (a : Answer Format) → (a >>= λ f. profiled (edition_of e) f (take 32 p)) ≡ (a >>= λ f. profiled (edition_of e) f p)
    by (taken f) = cut-profile (edition_of e) f p
    by (refused n k) = refl

-- what is written for the first 32 bytes of an argument is what is written for the argument
pub cut-argument : (p input : List ℕ) → listing (take 32 p) input ≡ listing p input
unfolding listing listed_under
cut-argument p input = by (header_found input)
  where
    written : List ℕ → Answer Header → List ℕ
    written q a =
        printed (value_or empty_format (a >>= λ h. agreed h.edition (shorthand_of input h) q)).sequence (a >>= λ h. listed_under h.edition (shorthand_of input h) q (rows_of input h))

    by : (a : Answer Header) → written (take 32 p) a ≡ written p a
    by (taken h) = rw (cut-agreed h.edition (shorthand_of input h) p)
    by (refused n k) = refl
