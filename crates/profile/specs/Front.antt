-- What the answers of the crate's private functions say.
use Rattle.std.specs.Prelude.{ℕ, [], get_or}
use Rattle.shorthand.specs.declared.Edition.{Edition}
use Rattle.profile.specs.Form.{Slot, one, form_of}

-- place k of the form; behind it nothing may stand
abbrev pub slot_at : Edition → ℕ → Slot
slot_at e k = get_or (form_of e) k (one [])
