use mathlib.Core.Path.{sym}
use native.Mathlib.Omega.{arith}
use lib.Seq.{length-take-le}
use Rattle.program_listing.proofs.Reports.{report_fits}
use Rattle.program_listing.proofs.print.Goals as goal

pub slice_bounds-write_all-end : goal.slice_bounds-write_all-end
slice_bounds-write_all-end g c = sym (length-take-le _ _ (omega (arith, c.report-size.ensures.size, c.report-size.array_long, report_fits 64 c.args.sheet.now)))
