-- The loop's invariant: the code is that of the vector's lowest variables, as many as were counted; `rest` and `place` are where the next one stands.
use mathlib.Core.Path.{◌≡◌}
use Prim.Native.Nat.{◌/◌, ◌^◌}
use Rattle.fuzzy.proofs.Reach.{reach}
use Rattle.fuzzy.specs.Vector.{vector}
use Rattle.sheets.proofs.vector.reached.Given as goal

abbrev pub invariant-loop : goal.invariant-loop
invariant-loop l = record {
  rest : l.rest ≡ l.v / 3 ^ l.counter;
  place : l.place ≡ 4 ^ l.counter;
  code : l.code ≡ reach 2 1 (vector l.counter l.v);
}
