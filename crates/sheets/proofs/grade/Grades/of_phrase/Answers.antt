-- `Grades::of_phrase` meets its contract.
use Rattle.std.proofs.Common.{rules}
use native.Mathlib.Nat.{le_refl, sub-zero, mod-lt, min-eq_right}
use Rattle.fuzzy.proofs.Order.{at_member}
use Rattle.fuzzy.proofs.Sheet.{phrase_le}
use Rattle.sheets.proofs.Scan.{phrase_step, phrase_end}
use Rattle.sheets.proofs.grade.Grades.of_phrase.Goals as goal

pub loop-i-init : goal.loop-i-init
loop-i-init c = search (rules, le_refl, sub-zero, min-eq_right, phrase_le)

pub literal-requires : goal.literal-requires
literal-requires c = search (rules, mod-lt, at_member, c.args.self.now.low)

pub loop-i-preserved : goal.loop-i-preserved
loop-i-preserved c = search (rules, phrase_step)

pub returns : goal.returns
returns c = search (rules, phrase_end)
