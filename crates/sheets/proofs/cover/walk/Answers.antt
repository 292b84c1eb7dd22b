-- `cover::walk` meets its contract.
use mathlib.Core.Path.{◌≡◌, refl}
use Prim.Native.Nat.{suc, ◌-◌}
use native.Mathlib.Omega.{arith}
use lib.ListN.{length}
use Rattle.sheets.proofs.Turns.{rounds_begin, rounds_next, rounds_end}
use Rattle.sheets.proofs.cover.walk.Goals as goal

pub loop-literals-init : goal.loop-literals-init
loop-literals-init c =
    let a = c.args in
    let b = c.behind-own in
    rounds_begin a.n.count a.primes.now.rows a.codes.now (length a.codes.now) b.result b.new.later c.below.result refl b.ensures c.below.ensures

pub loop-literals-preserved : goal.loop-literals-preserved
loop-literals-preserved c =
    let l = c.loop-literals in
    let a = c.args in
    let b = c.behind-own in
    let e : l.literals ≡ suc (l.literals - 1) = omega arith in
    rounds_next a.n.count a.primes.now.rows a.codes.now (length a.codes.now) a.n.few b.result b.new.later refl b.ensures (l.literals - 1) l.walk.left.rows
    l.walk.kept _ _ (rw e at l.invariant) c.round.ensures

pub returns : goal.returns
returns c =
    let l = c.loop-literals in
    let a = c.args in
    let e : l.literals ≡ 0 = omega arith in
    rounds_end a.n.count a.primes.now.rows a.codes.now (length a.codes.now) l.walk.left.rows l.walk.kept (rw e at l.invariant)
