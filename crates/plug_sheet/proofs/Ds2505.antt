-- The laws of the sheet and of its list, joined to a DS2505.
use Rattle.plug_sheet.specs.Stored.{SheetLaws}
use Rattle.plug_sheet.specs.List.{ListLaws}
use Rattle.plug_sheet.specs.Text.{DecimalLaws}
use Rattle.plug_sheet.proofs.Sheets.{sheet_laws}
use Rattle.plug_sheet.proofs.Texts.{list_laws, decimal_laws}

pub sheet : SheetLaws 64
sheet = sheet_laws 64

pub list : ListLaws 64
list = list_laws 64

pub decimals : DecimalLaws
decimals = decimal_laws
