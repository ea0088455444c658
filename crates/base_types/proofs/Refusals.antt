-- A refusal's number and values say which refusal it is.
use mathlib.Core.Path.{◌≡◌, refl, sym, ap₂, ◌∙◌}
use Rattle.base_types.specs.declared.refusal.Refusal.{Refusal}
use Rattle.base_types.specs.declared.refusal.Refusal.TheVariants.{ImageLength, StateRange, PageNumber, Loop, Outside, Crc16, ReadBack, NoFreePage}
use Rattle.base_types.specs.declared.refusal.Refusal.TheVariants.{RedirectionProtected, BufferLength, Sheet, NoPresence, Crc8, Family, Header, Latitude}
use Rattle.base_types.specs.declared.refusal.Refusal.TheVariants.{Column, NoValue, DataProtected}
use Rattle.base_types.specs.Refusal.{number_of, values_of, refusal_of, RefusalLaws}

back : (r : Refusal) → refusal_of (number_of r) (values_of r) ≡ r
unfolding refusal_of
back ImageLength = refl
back StateRange = refl
back PageNumber = refl
back Loop = refl
back (Outside k) = refl
back Crc16 = refl
back ReadBack = refl
back NoFreePage = refl
back (RedirectionProtected l) = refl
back BufferLength = refl
back Sheet = refl
back NoPresence = refl
back Crc8 = refl
back Family = refl
back Header = refl
back Latitude = refl
back Column = refl
back NoValue = refl
back (DataProtected l) = refl

pub refusal_laws : RefusalLaws
refusal_laws = record { back = back; same = λ r s e v. sym (back r) ∙ ap₂ refusal_of e v ∙ back s }
