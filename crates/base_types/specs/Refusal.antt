-- Document 01's table of refusals, and document 02's after it (16 to 19, M-102; 20, M-104): the number of each, and the values that it
-- gives back. A state is given back beside it.
use Rattle.std.specs.Prelude.{ℕ, cond, List, ◌≡◌, Some, None, option_to_list, eqb, get_or}
use Rattle.base_types.specs.declared.refusal.Numbered.{Numbered}
use Rattle.base_types.specs.declared.refusal.Refusal.{Refusal}
use Rattle.base_types.specs.declared.refusal.Refusal.TheVariants.{ImageLength, StateRange, PageNumber, Loop, Outside, Crc16, ReadBack, NoFreePage}
use Rattle.base_types.specs.declared.refusal.Refusal.TheVariants.{RedirectionProtected, BufferLength, Sheet, NoPresence, Crc8, Family, Header, Latitude}
use Rattle.base_types.specs.declared.refusal.Refusal.TheVariants.{Column, NoValue, DataProtected}

abbrev plain : ℕ → Numbered
plain number = record { 0 = number; 1 = None }

abbrev giving : ℕ → ℕ → Numbered
giving number value = record { 0 = number; 1 = Some value }

abbrev pub numbered : Refusal → Numbered
numbered ImageLength = plain 1
numbered StateRange = plain 2
numbered PageNumber = plain 3
numbered Loop = plain 4
numbered (Outside x) = giving 5 x
numbered Crc16 = plain 6
numbered ReadBack = plain 7
numbered NoFreePage = plain 8
numbered (RedirectionProtected l) = giving 9 l.0
numbered BufferLength = plain 10
numbered Sheet = plain 12
numbered NoPresence = plain 13
numbered Crc8 = plain 14
numbered Family = plain 15
numbered Header = plain 16
numbered Latitude = plain 17
numbered Column = plain 18
numbered NoValue = plain 19
numbered (DataProtected l) = giving 20 l.0

abbrev pub number_of : Refusal → ℕ
number_of r = (numbered r).0

abbrev pub values_of : Refusal → List ℕ
values_of r = option_to_list (numbered r).1

-- the other way: the refusal of a number, with its values
unfoldable pub refusal_of : ℕ → List ℕ → Refusal
refusal_of k values =
    cond (eqb k 1) ImageLength
    (cond (eqb k 2) StateRange
    (cond (eqb k 3) PageNumber
    (cond (eqb k 4) Loop
    (cond (eqb k 5) (Outside (get_or values 0 0))
    (cond (eqb k 6) Crc16
    (cond (eqb k 7) ReadBack
    (cond (eqb k 8) NoFreePage
    (cond (eqb k 9) (RedirectionProtected (record { 0 = get_or values 0 0 }))
    (cond (eqb k 10) BufferLength
    (cond (eqb k 12) Sheet
    (cond (eqb k 13) NoPresence
    (cond (eqb k 14) Crc8
    (cond (eqb k 15) Family
    (cond (eqb k 16) Header
    (cond (eqb k 17) Latitude
    (cond (eqb k 18) Column
    (cond (eqb k 19) NoValue
    (DataProtected (record { 0 = get_or values 0 0 })))))))))))))))))))

-- a refusal is read back from its number and values, so these determine it
pub record RefusalLaws : Type 0 where
  pub back : (r : Refusal) → refusal_of (number_of r) (values_of r) ≡ r
  pub same : (r s : Refusal) → number_of r ≡ number_of s → values_of r ≡ values_of s → r ≡ s
