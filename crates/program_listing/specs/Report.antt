-- What is written for a sheet, over the page count n.
use Rattle.std.specs.Prelude.{ℕ, cond, List}
use Rattle.chip_memory.specs.Page.{copied}
use Rattle.plug_sheet.specs.Stored.{is_sheet, image_part}
use Rattle.plug_sheet.specs.List.{list_of, refused_line}

-- its list; of a faulty sheet the line of its refusal alone
unfoldable pub report_of : ℕ → List ℕ → List ℕ
report_of n s = cond (is_sheet n s) (list_of n (image_part n s)) (refused_line 12)

-- a buffer with that text, and after it what stood there
unfoldable pub report_buffer : ℕ → List ℕ → List ℕ → List ℕ
report_buffer n s text = copied (report_of n s) text
