-- `vector::level` meets its contract: the code without pairs is that of the literals at least 2, and whether it subsumes the phrase says if the phrase is 2.
use Rattle.std.proofs.Common.{rules}
use mathlib.Core.Path.{◌≡◌}
use Rattle.fuzzy.proofs.Reach.{reach}
use Rattle.fuzzy.specs.Vector.{vector}
use Rattle.sheets.proofs.Above.{level_whole, level_half}
use Rattle.sheets.proofs.Level.{reach_six, whole_of}
use Rattle.sheets.proofs.vector.level.Goals as goal
use Rattle.sheets.proofs.vector.level.Goals.{After-unpaired-whole}

pub unpaired-whole-requires : goal.unpaired-whole-requires
unpaired-whole-requires c = search (rules, reach_six)

-- the code without its pairs is that of the literals at least 2
whole : (c : After-unpaired-whole) → c.unpaired-whole.result ≡ reach 2 2 (vector c.args.n.count c.args.v)
whole c =
    whole_of c.args.n.count c.args.v c.args.n.few c.reached-half.result c.unpaired-whole.result c.reached-half.ensures
    c.unpaired-whole.ensures.0 c.unpaired-whole.ensures.1

pub returns-then-whole-phrase : goal.returns-then-whole-phrase
returns-then-whole-phrase c = search (rules, whole, level_whole)

pub returns : goal.returns
returns c = search (rules, level_half, whole)
