-- How long a report is.
use Prim.Native.Nat.{ℕ, ◌≤◌}
use mathlib.Core.Bool.{Bool, true, false, cond}
use mathlib.Core.List.{List}
use lib.ListN.{length}
use native.Mathlib.Omega.{arith}
use Rattle.plug_sheet.specs.Stored.{is_sheet, image_part}
use Rattle.plug_sheet.specs.List.{room_for, list_of, refused_line}
use Rattle.plug_sheet.proofs.Texts.{refused_length, list_length}
use Rattle.program_listing.specs.Report.{report_of}

-- every report has room
pub report_fits : (n : ℕ) (s : List ℕ) → length (report_of n s) ≤ room_for n
unfolding report_of
report_fits n s = go (is_sheet n s)
  where
    go : (d : Bool) → length (cond d (list_of n (image_part n s)) (refused_line 12)) ≤ room_for n
    go true = list_length n (image_part n s)
    go false = omega (arith, refused_length 12)
