-- The loop's invariant: no code before the index is above the greatest.
use Rattle.std.proofs.Common.{ℕ, ◌≤◌, ◌<◌, get_or}
use Rattle.rows.proofs.sheet.greatest.Given as goal

abbrev pub invariant-loop-code : goal.invariant-loop-code
invariant-loop-code l = (j : ℕ) → j < l.code-index → get_or l.sheet j 0 ≤ l.most
