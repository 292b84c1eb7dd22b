-- The loop's invariant: the sheet's value is the greater of `greatest` and what is left past the phrases met.
use mathlib.Core.Path.{◌≡◌}
use Prim.Native.Nat.{max}
use lib.ListN.{length, drop}
use Rattle.fuzzy.specs.Grade.{sheet_value}
use Rattle.sheets.proofs.grade.Grades.of_sheet.Given as goal

abbrev pub invariant-loop-phrase : goal.invariant-loop-phrase
invariant-loop-phrase l =
    let s = l.self.scale in
    let v = l.self.grades.now in
    sheet_value s (length v) l.sheet v ≡ max l.greatest (sheet_value s (length v) (drop l.phrase-index l.sheet) v)
