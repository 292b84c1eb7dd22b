-- A list in two parts, and its first entry that is at least a limit: the front's where the front has one, else the back's.
use mathlib.Core.Path.{◌≡◌, sym, ap, ◌∙◌}
use mathlib.Core.List.{List, ◌++◌}
use Prim.Native.Nat.{ℕ, ◌+◌, ◌<◌}
use native.Mathlib.Omega.{arith}
use lib.Dec.{leb}
use lib.ListN.{length, length-append}
use Rattle.std.specs.Prelude.{Some, None}
use Rattle.std.specs.List.{position, position_or_len}
use Rattle.std.proofs.lemmas.Grind.{common_steps}
use Rattle.std.proofs.lemmas.List.Folds.{prefix_len-append}
use Rattle.std.proofs.lemmas.List.Quantifiers.{position-Some}
use Rattle.std.proofs.lemmas.List.Sums.{prefix_len-le-length}

module _ (limit : ℕ) (front back list : List ℕ) (parts : list ≡ front ++ back) where
  -- the front's first is the list's
  pub front_has : (i : ℕ) → Some i ≡ position (λ x. leb limit x) front → (position_or_len (λ x. leb limit x) list ≡ i) × (i < length list)
  front_has i e =
      let within = (position-Some (λ x. leb limit x) front i 0 (sym e)).0 in
      (rw (parts, prefix_len-append) (grind (arith, common_steps)), omega (arith, ap length parts, length-append front back))

  -- where the front has none, the back's stands as far behind as the front is long
  pub front_lacks : None ≡ position (λ x. leb limit x) front
      → (length front + length back ≡ length list)
      × (length front + position_or_len (λ x. leb limit x) back ≡ position_or_len (λ x. leb limit x) list)
  front_lacks e =
      (sym (ap length parts ∙ length-append front back), rw (parts, prefix_len-append) (grind (arith, common_steps, prefix_len-le-length)))
