-- `vector::reached` meets its contract.
use Rattle.std.proofs.lemmas.Grind.{common_steps}
use mathlib.Core.Path.{◌≡◌, refl, sym}
use Prim.Native.Nat.{suc, ◌+◌, ◌*◌, ◌<◌}
use native.Mathlib.Nat.{le_refl, div-one, pow-suc}
use native.Mathlib.Omega.{arith}
use Rattle.fuzzy.proofs.Digits.{number}
use Rattle.fuzzy.proofs.Reach.{reach}
use Rattle.fuzzy.specs.Phrase.{digits}
use Rattle.fuzzy.specs.Vector.{vector}
use Rattle.sheets.proofs.Level.{reach_step, reach_room, next_digit}
use Rattle.sheets.proofs.Scan.{power_fits}
use Rattle.sheets.proofs.vector.reached.Goals as goal

pub loop-init : goal.loop-init
unfolding reach vector digits number
loop-init c = record { rest = sym (div-one c.args.v); place = refl; code = refl }

turn : (c : goal.After-half_digit) → c.loop.code + c.half_digit.result * c.loop.place ≡ reach 2 1 (vector (c.loop.counter + 1) c.args.v)
turn c =
    let l = c.loop in
    reach_step l.counter c.args.v l.code c.half_digit.result l.place l.rest l.invariant.rest l.invariant.place l.invariant.code c.half_digit.ensures

room : (c : goal.After-half_digit) → reach 2 1 (vector (c.loop.counter + 1) c.args.v) < 4096
room c = reach_room c.loop.counter c.args.v (omega (arith, c.args.n.few))

pub overflow_mul-code : goal.overflow_mul-code
overflow_mul-code c = omega (arith, turn c, room c)

pub overflow_add-code : goal.overflow_add-code
overflow_add-code c = omega (arith, turn c, room c)

pub overflow_mul-place : goal.overflow_mul-place
overflow_mul-place c =
    let i = c.loop.counter in
    omega (arith, c.loop.invariant.place, pow-suc 4 i, power_fits 4 (suc i) (le_refl 4) (omega (arith, c.args.n.few)))

pub loop-preserved : goal.loop-preserved
loop-preserved c = grind (arith, common_steps, next_digit, pow-suc, turn c)
