-- `first::at_least_of_many` meets its contract: the first of a piece is the first of the rest, and where a piece has none it is that of what follows.
use Rattle.std.proofs.Common.{arith, rules}
use Rattle.std.specs.Slice.Iter.{chunks_rest}
use Rattle.std.proofs.lemmas.Grind.{common_steps}
use Rattle.std.proofs.lemmas.List.Sums.{prefix_len-le-length}
use Rattle.sheets.proofs.Pieces.{front_has, front_lacks}
use Rattle.sheets.proofs.first.at_least_of_many.Goals as goal

pub loop-piece-init : goal.loop-piece-init
loop-piece-init c = (search rules, tt, grind (arith, common_steps), grind (arith, common_steps))

pub returns-in-Some-in_piece : goal.returns-in-Some-in_piece
returns-in-Some-in_piece c =
    let rest = c.in-Some.ensures.steps.1.0 in
    let first = front_has c.args.limit c.in-Some.piece.now (chunks_rest c.next.new.self) _ rest c.in-Some-in_piece.index c.in-Some-in_piece.ensures in
    grind (arith, common_steps)

pub loop-piece-preserved : goal.loop-piece-preserved
loop-piece-preserved c =
    let rest = c.in-Some.ensures.steps.1.0 in
    let passed = front_lacks c.args.limit c.in-Some.piece.now (chunks_rest c.next.new.self) _ rest c.in_default.ensures in
    (search rules, tt, omega arith, omega arith)

pub returns : goal.returns
returns c = grind (arith, common_steps, prefix_len-le-length)
