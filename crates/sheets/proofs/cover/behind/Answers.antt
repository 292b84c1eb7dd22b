-- `cover::behind` meets its contract.
use mathlib.Core.Path.{refl, ◌∙◌}
use native.Mathlib.Omega.{arith}
use Rattle.std.proofs.Common.{rules}
use lib.ListN.{length-set, replicate, get_or-replicate}
use Rattle.sheets.proofs.Turns.{passing_begins, passing_passes, passing_meets, passing_round, passing_ends}
use Rattle.sheets.proofs.cover.behind.Goals as goal
use Rattle.sheets.proofs.cover.behind.Goals.{then-prime-literals, else-prime-literals}

pub loop-literals-init : goal.loop-literals-init
loop-literals-init c = (refl, search rules, passing_begins c.args.n.count c.args.codes.now (replicate 64 0) c.args.later.now (λ P l. get_or-replicate 64 P 0 0 l))

pub loop-prime-preserved : goal.loop-prime-preserved
loop-prime-preserved c =
    let l = c.loop-prime in
    let (len, long, so_far) = l.invariant in
    elim c.if-prime-literals.branch [
      | then-prime-literals w ↦
          rw (w.own-is, w.later-is) (
            length-set _ _ _ ∙ len,
            length-set _ _ _ ∙ long,
            passing_meets c.args.n.count c.args.codes.now c.loop-literals.literals l.prime-index l.own l.later c.loop-prime-test.true so_far c.args.n.few len long
                w.pairs-cell.result w.points.result w.if-prime-literals.true w.pairs-cell.ensures.set w.points.ensures,
          )
      | else-prime-literals w ↦
          rw (w.own-is, w.later-is) (
            len,
            long,
            passing_passes c.args.n.count c.args.codes.now c.loop-literals.literals l.prime-index l.own l.later c.loop-prime-test.true so_far w.if-prime-literals.false,
          )
    ]

pub loop-literals-preserved : goal.loop-literals-preserved
loop-literals-preserved c =
    let l = c.loop-prime in
    let (len, long, so_far) = l.invariant in
    (len, long, passing_round c.args.n.count c.args.codes.now c.loop-literals.literals l.prime-index l.own l.later c.loop-prime-test.false l.auto.prime-index-end so_far)

pub returns : goal.returns
returns c =
    let l = c.loop-literals in
    passing_ends c.args.n.count c.args.codes.now l.own l.later l.literals (omega (arith, c.loop-literals-test.false, l.auto.literals-end)) l.invariant.2
