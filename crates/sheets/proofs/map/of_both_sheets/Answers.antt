-- `map::of_both_sheets` meets its contract: both sheets' codes, closed upwards, are the map of the two together, which is the or of the two maps.
use mathlib.Core.Logic.{⊎_elim}
use mathlib.Core.List.Memᴰ
use Rattle.sheets.proofs.Lists.{few_codes}
use Rattle.sheets.proofs.Maps.{maps_sheet, maps_either, marks_both}
use Rattle.sheets.proofs.map.of_both_sheets.Goals as goal

pub returns : goal.returns
returns c =
    let a = c.args.first.now in
    let b = c.args.second.now in
    let maps = maps_sheet _ _ _
    (λ q m. ⊎_elim (few_codes _ _ a.n.few a.own q) (few_codes _ _ b.n.few b.own q) (Memᴰ.append_cases a.phrases.now m))
    (marks_both _ _ _ _ _ c.of.ensures c.of-2.ensures c.either.ensures) c.close_up.ensures in record {
      together = maps;
      either = maps_either _ _ _ maps;
    }
