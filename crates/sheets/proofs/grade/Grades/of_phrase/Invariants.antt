-- The loop's invariant: the phrase's value is the lesser of `least` and what is left past variable i.
use mathlib.Core.Path.{◌≡◌}
use Prim.Native.Nat.{◌-◌, ◌≤◌, min}
use lib.ListN.{length, drop}
use Rattle.fuzzy.specs.Grade.{phrase_value}
use Rattle.sheets.proofs.grade.Grades.of_phrase.Given as goal

abbrev pub invariant-loop-i : goal.invariant-loop-i
invariant-loop-i l =
    let s = l.self.scale in
    let v = l.self.grades.now in
    (l.least ≤ s) × (phrase_value s (length v) l.phrase v ≡ min l.least (phrase_value s (length v - l.i) l.phrase (drop l.i v)))
