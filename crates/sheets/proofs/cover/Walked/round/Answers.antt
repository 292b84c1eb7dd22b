-- `Walked::round` meets its contract.
use mathlib.Core.Path.{◌≡◌}
use Rattle.sheets.proofs.Turns.{round_begins, round_passes, round_meets, round_ends}
use Rattle.sheets.proofs.cover.Walked.round.Goals as goal

pub loop-prime-init : goal.loop-prime-init
loop-prime-init c =
    let a = c.args in
    let e : c.into_iter-prime-iterator.result.iter.rest.now ≡ a.codes.now = cc in
    rw e (round_begins a.self.now.left.rows a.self.now.kept a.later.now a.codes.now a.literals)

pub loop-prime-preserved-then-prime-literals : goal.loop-prime-preserved-then-prime-literals
loop-prime-preserved-then-prime-literals c =
    let a = c.args in
    let s = c.loop-prime.self in
    round_meets a.self.now.left.rows a.self.now.kept a.later.now a.codes.now a.literals c.next.new.self.iter.rest.now c.in-Some.prime.now s.left.rows s.kept
    (rw c.in-Some.ensures.steps at c.loop-prime.invariant) _ _ c.if-prime-literals.true c.meet.ensures

pub loop-prime-preserved : goal.loop-prime-preserved
loop-prime-preserved c =
    let a = c.args in
    let s = c.loop-prime.self in
    round_passes a.self.now.left.rows a.self.now.kept a.later.now a.codes.now a.literals c.next.new.self.iter.rest.now c.in-Some.prime.now s.left.rows s.kept
    (rw c.in-Some.ensures.steps at c.loop-prime.invariant) c.if-prime-literals.false

pub returns : goal.returns
returns c =
    let a = c.args in
    let s = c.loop-prime.self in
    round_ends a.self.now.left.rows a.self.now.kept a.later.now a.codes.now a.literals c.loop-prime.prime-iterator.iter.rest.now s.left.rows s.kept
    c.in-None.ensures.steps.0 c.loop-prime.invariant
