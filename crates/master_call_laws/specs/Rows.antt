-- Whose protection closes a band (M-104): the start on DS2505 images. One statement covers the rows.
use Rattle.std.specs.Prelude.{ℕ, ◌+◌, ◌-◌, ◌/◌, ◌%◌, ◌^◌, refl, List, [], ◌∷◌, Ok, Err, replicate, set}
use Rattle.base_types.specs.declared.address.Page.{Page}
use Rattle.base_types.specs.declared.address.Target.TheVariants.{Status}
use Rattle.master_plan.specs.declared.kind.Placement.TheVariants.{LowestFree}
use Rattle.master_publisher.specs.declared.PublisherStop.TheVariants.{RedirectionProtected, DataProtected}
use Rattle.chip_memory.specs.declared.layout.Field.{Field}
use Rattle.chip_memory.specs.declared.layout.Field.TheVariants.{DataProtection, RedirectionProtection}
use Rattle.chip_memory.specs.Layout.{first_address, redirection_bytes, blank_image, status_index, is_image, is_page, is_within, is_held}
use Rattle.chip_memory.specs.Image.{page_bit, redirection_of, page_bytes}
use Rattle.chip_memory.specs.Page.{is_blank}
use Rattle.chip_memory.specs.Write.{bit_of, status_writable, is_writable, index_of, programmed}
use Rattle.chip_chain.specs.Walk.{walk_from, walk_of}
use Rattle.base_types.specs.Rows.{Row, ◌gives◌, Hold}
use Rattle.base_types.specs.Scan.{every}
use Rattle.chip_chain.specs.Scan.{first}
use Rattle.chip_chain.specs.Free.{is_unnamed, is_free, is_free_other, lowest_free}
use Rattle.master_publisher.specs.Start.{Choice, found_choice, choice_free, choice_final, choice_walked, choice_of}

-- all FFh but that page 5 names page 9
pub redirected_once : List ℕ
redirected_once = set (blank_image 64) (status_index 64 (redirection_bytes + 5)) (255 - 9)

-- the bit of page p in a field is cleared by a write
pub protecting : Field → ℕ → List ℕ → List ℕ
protecting field p img = programmed 64 img (Status (record { 0 = first_address field + p / 8 })) (255 - 2 ^ (p % 8))

pub page_of : ℕ → Page
page_of p = record { 0 = p }

-- the update of page 5
pub update_of : List ℕ → Choice
update_of img = choice_of 64 LowestFree img (replicate 32 0) 5

pub protection_rows : List (Row Choice)
protection_rows =
    (update_of redirected_once gives Ok (page_of 9, page_of 1))
    ∷ (update_of (protecting DataProtection 5 redirected_once) gives Ok (page_of 9, page_of 1))
    ∷ (update_of (protecting DataProtection 1 redirected_once) gives Ok (page_of 9, page_of 2))
    ∷ (update_of (protecting DataProtection 9 redirected_once) gives Err (DataProtected (page_of 9)))
    ∷ (update_of (protecting RedirectionProtection 9 redirected_once) gives Err (RedirectionProtected (page_of 9)))
    ∷ (update_of (protecting DataProtection 9 (protecting RedirectionProtection 9 redirected_once)) gives Err (DataProtected (page_of 9)))
    ∷ []

pub protection_rows_hold : Hold protection_rows
unfolding protection_rows update_of redirected_once protecting page_of choice_of choice_walked choice_final choice_free found_choice is_image is_page page_bit first_address walk_of walk_from redirection_of
    lowest_free is_free_other is_free is_unnamed every first is_blank page_bytes programmed is_writable status_writable is_held is_within bit_of index_of
protection_rows_hold = refl
