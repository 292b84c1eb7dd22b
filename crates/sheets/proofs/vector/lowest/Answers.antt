-- `vector::lowest` meets its contract.
use Rattle.std.proofs.Common.{rules}
use mathlib.Core.Path.{◌∙◌}
use native.Mathlib.Nat.{sub-zero}
use Rattle.fuzzy.proofs.Order.{at_member}
use Rattle.fuzzy.specs.Vector.{first, lowest}
use Rattle.sheets.proofs.Above.{unmet, covered, uncovered, scan_stop, scan_next, scan_end}
use Rattle.sheets.proofs.vector.lowest.Goals as goal

pub vectors-init : goal.vectors-init
unfolding lowest first
vectors-init c = rw (sub-zero c.vectors-v-end.result, c.vectors-v-end.ensures)

pub vectors-preserved-then-level-q : goal.vectors-preserved-then-level-q
vectors-preserved-then-level-q c =
    let s = c.args.sheet.now in
    let m = at_member s.phrases.now c.loop-q.q-index c.loop-q-test.true in
    let e = covered _ _ _ c.requires _ _ c.level-level.ensures _ m (s.own _ m) c.if-level-q.true in
    c.vectors.invariant ∙ scan_next _ c.vectors.v c.vectors-v-end.result c.vectors-test.true e

pub returns-then-level-phrase : goal.returns-then-level-phrase
returns-then-level-phrase c = search (rules, uncovered, scan_stop)

pub vectors-preserved : goal.vectors-preserved
vectors-preserved c = search (rules, unmet, scan_next)

pub returns : goal.returns
returns c = search (rules, scan_end)
