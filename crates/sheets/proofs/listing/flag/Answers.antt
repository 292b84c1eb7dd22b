-- `listing::flag` meets its contract.
use Rattle.std.proofs.Common.{rules}
use Rattle.sheets.proofs.Flags.{flagged_next}
use Rattle.sheets.proofs.listing.flag.Goals as goal

pub loop-i-preserved : goal.loop-i-preserved
loop-i-preserved c = search (rules, flagged_next)
