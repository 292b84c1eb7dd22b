-- The power fits: the exponent is at most 6.
use native.Mathlib.Omega.{arith}
use Rattle.sheets.proofs.Scan.{power_fits}
use Rattle.sheets.proofs.sheet.Variables.vectors.Goals as goal

pub pow-requires : goal.pow-requires
pow-requires c = power_fits 3 c.args.self.count (omega arith) c.args.self.few
