-- `listing::fit` meets its contract: the count against the room decides.
use Rattle.std.proofs.Common.{rules}
use borrow.Author.Tests.{le-leb, lt-leb}
use Rattle.sheets.proofs.Told.{unless_holds, unless_fails}
use Rattle.sheets.proofs.Published.{no_room, enough_room}
use Rattle.sheets.proofs.listing.fit.Goals as goal

pub returns-then-count-room : goal.returns-then-count-room
returns-then-count-room c = search (rules, no_room, unless_fails, lt-leb)

pub returns : goal.returns
returns c = search (rules, enough_room, unless_holds, le-leb)
