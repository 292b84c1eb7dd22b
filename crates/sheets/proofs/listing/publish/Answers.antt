-- `listing::publish` meets its contract: what `fit` says, and what was read where the list fits.
use Rattle.std.proofs.Common.{rules}
use Rattle.sheets.proofs.Published.{told_no_count, done_fits, afterwards_err, written_done}
use Rattle.sheets.proofs.listing.publish.Goals as goal

pub returns-in_err-count-clause-buffer : goal.returns-in_err-count-clause-buffer
returns-in_err-count-clause-buffer c = search (rules, told_no_count _ _ c.from_residual.ensures.1, afterwards_err)

pub returns-clause-buffer : goal.returns-clause-buffer
returns-clause-buffer c = search (rules, written_done, done_fits)
