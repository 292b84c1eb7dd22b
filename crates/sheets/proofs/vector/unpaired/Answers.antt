-- `vector::unpaired` meets its contract, by the laws of `Level` on the pairs of a code.
use Rattle.sheets.proofs.Level.{unpaired_has, unpaired_lt}
use Rattle.sheets.proofs.vector.unpaired.Goals as goal

pub returns : goal.returns
returns c = (unpaired_lt c.args.code c.requires, unpaired_has c.args.code c.requires)
