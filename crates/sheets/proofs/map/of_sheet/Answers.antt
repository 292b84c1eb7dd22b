-- `map::of_sheet` meets its contract: the sheet's codes, closed upwards, are its map.
use Rattle.std.proofs.Common.{rules}
use Rattle.sheets.proofs.Lists.{few_codes}
use Rattle.sheets.proofs.Maps.{maps_sheet}
use Rattle.sheets.proofs.map.of_sheet.Goals as goal

pub returns : goal.returns
returns c = search (rules, maps_sheet, few_codes)
