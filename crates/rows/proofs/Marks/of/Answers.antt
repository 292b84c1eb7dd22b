-- `Marks::of` meets its contract: each turn adds its code, if it is one of the 4,096 (`Marking.sheet_more`).
use Rattle.std.proofs.Common.{◌≡◌, refl, arith, length, get_or, replicate}
use Rattle.rows.proofs.Marking.{Added, added_as, unadded_as, sheet_more, sheet_none, sheet_all, none_marked}
use Rattle.rows.proofs.Marks.of.Goals as goal
use Rattle.rows.proofs.Marks.of.Goals.{then-all_fit, then-all_fit-via-then-all_fit, then-all_fit-via-else-all_fit+then-code-lt-CODES}
use Rattle.rows.proofs.Marks.of.Goals.{else-all_fit+else-code-lt-CODES}

pub loop-code-init : goal.loop-code-init
loop-code-init c = (refl, sheet_none c.args.sheet.now (replicate 64 0) none_marked)

-- whether or not the code is one of the 4,096, its turn adds it
turn : (c : goal.Joined-all_fit) → (length c.if-all_fit.rows ≡ 64)
    × Added c.loop-code.rows (get_or c.args.sheet.now c.loop-code.code-index 0) c.if-all_fit.rows
turn c =
    let l = c.loop-code in
    let code = get_or c.args.sheet.now l.code-index 0 in
    elim c.if-all_fit.branch [
      | then-all_fit w ↦ added_as l.rows c.if-all_fit.rows code l.invariant.0
          (elim w.then-all_fit.branch [
            | then-all_fit-via-then-all_fit w' ↦ omega (arith, w'.if-all_fit.true, c.greatest-all_fit.ensures l.code-index c.loop-code-test.true)
            | then-all_fit-via-else-all_fit+then-code-lt-CODES w' ↦ w'.if-code-lt-CODES.true
          ]) w.rows-is
      | else-all_fit+else-code-lt-CODES w ↦ unadded_as l.rows c.if-all_fit.rows code l.invariant.0 w.if-code-lt-CODES.false w.rows-is
    ]

pub loop-code-preserved : goal.loop-code-preserved
loop-code-preserved c =
    let l = c.loop-code in
    let more = turn c in
    (more.0, sheet_more c.args.sheet.now l.rows c.if-all_fit.rows l.code-index c.loop-code-test.true l.invariant.1 more.1)

pub returns : goal.returns
returns c =
    let l = c.loop-code in
    let e : l.code-index ≡ length c.args.sheet.now = omega arith in
    sheet_all c.args.sheet.now l.rows l.code-index e l.invariant.1
