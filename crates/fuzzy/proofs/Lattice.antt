-- The laws of min, max and complement hold for the lists that join, meet and complement give, the operations nested.
-- A list that an operation gives has the operation's value (`List.keeps`); equal values give equal lists (`List.same_lists`).
use mathlib.Core.Path.{◌≡◌}
use mathlib.Core.List.{List}
use Prim.Native.Nat.{ℕ}
use native.Mathlib.Nat.{min_comm, max_comm}
use native.Mathlib.Omega.{arith}
use Rattle.fuzzy.specs.Grade.{sheet_value}
use Rattle.fuzzy.specs.Function.{sheet_fn, join_fn, meet_fn, complement_fn, Same}
use Rattle.fuzzy.specs.Primes.{listed, joined, met, complemented}
use Rattle.fuzzy.proofs.Sheet.{sheet_le}
use Rattle.fuzzy.proofs.Closure.{of_joined, of_met, of_complemented}
use Rattle.fuzzy.proofs.List.{keeps, equal_lists}

module _ (n : ℕ) where
  -- the join's list has the larger value
  pub joined_value : (A B : List ℕ) → Same n (sheet_fn n (joined n A B)) (join_fn (sheet_fn n A) (sheet_fn n B))
  joined_value A B = keeps n (join_fn (sheet_fn n A) (sheet_fn n B)) (of_joined n A B)

  -- the meet's list has the smaller value
  pub met_value : (A B : List ℕ) → Same n (sheet_fn n (met n A B)) (meet_fn (sheet_fn n A) (sheet_fn n B))
  met_value A B = keeps n (meet_fn (sheet_fn n A) (sheet_fn n B)) (of_met n A B)

  -- the complement's list has the complement value
  pub complemented_value : (A : List ℕ) → Same n (sheet_fn n (complemented n A)) (complement_fn (sheet_fn n A))
  complemented_value A = keeps n (complement_fn (sheet_fn n A)) (of_complemented n A)

  -- a sheet joined with itself has its own list
  pub join_idempotent : (A : List ℕ) → joined n A A ≡ listed n A
  join_idempotent A = equal_lists n _ _ (λ s h v g. omega arith)

  -- a sheet met with itself has its own list
  pub meet_idempotent : (A : List ℕ) → met n A A ≡ listed n A
  meet_idempotent A = equal_lists n _ _ (λ s h v g. omega arith)

  -- in a join the two sheets can change places
  pub join_commutative : (A B : List ℕ) → joined n A B ≡ joined n B A
  join_commutative A B = equal_lists n _ _ (λ s h v g. max_comm (sheet_value s n A v) (sheet_value s n B v))

  -- in a meet the two sheets can change places
  pub meet_commutative : (A B : List ℕ) → met n A B ≡ met n B A
  meet_commutative A B = equal_lists n _ _ (λ s h v g. min_comm (sheet_value s n A v) (sheet_value s n B v))

  -- three sheets can be joined in either grouping
  pub join_associative : (A B C : List ℕ) → joined n (joined n A B) C ≡ joined n A (joined n B C)
  join_associative A B C = equal_lists n _ _ (λ s h v g. rw (joined_value A B s h v g, joined_value B C s h v g) (omega arith))

  -- three sheets can be met in either grouping
  pub meet_associative : (A B C : List ℕ) → met n (met n A B) C ≡ met n A (met n B C)
  meet_associative A B C = equal_lists n _ _ (λ s h v g. rw (met_value A B s h v g, met_value B C s h v g) (omega arith))

  -- a sheet joined with its meet with another has its own list
  pub join_absorbs : (A B : List ℕ) → joined n A (met n A B) ≡ listed n A
  join_absorbs A B = equal_lists n _ _ (λ s h v g. rw (met_value A B s h v g) (omega arith))

  -- a sheet met with its join with another has its own list
  pub meet_absorbs : (A B : List ℕ) → met n A (joined n A B) ≡ listed n A
  meet_absorbs A B = equal_lists n _ _ (λ s h v g. rw (joined_value A B s h v g) (omega arith))

  -- joining with a meet is the meet of the two joins
  pub join_distributes : (A B C : List ℕ) → joined n A (met n B C) ≡ met n (joined n A B) (joined n A C)
  join_distributes A B C =
      equal_lists n _ _ (λ s h v g. rw (met_value B C s h v g, joined_value A B s h v g, joined_value A C s h v g) (omega arith))

  -- meeting with a join is the join of the two meets
  pub meet_distributes : (A B C : List ℕ) → met n A (joined n B C) ≡ joined n (met n A B) (met n A C)
  meet_distributes A B C =
      equal_lists n _ _ (λ s h v g. rw (joined_value B C s h v g, met_value A B s h v g, met_value A C s h v g) (omega arith))

  -- the complement of a join is the meet of the complements
  pub de_morgan_join : (A B : List ℕ) → complemented n (joined n A B) ≡ met n (complemented n A) (complemented n B)
  de_morgan_join A B =
      equal_lists n _ _ (λ s h v g. rw (joined_value A B s h v g, complemented_value A s h v g, complemented_value B s h v g) (omega arith))

  -- the complement of a meet is the join of the complements
  pub de_morgan_meet : (A B : List ℕ) → complemented n (met n A B) ≡ joined n (complemented n A) (complemented n B)
  de_morgan_meet A B =
      equal_lists n _ _ (λ s h v g. rw (met_value A B s h v g, complemented_value A s h v g, complemented_value B s h v g) (omega arith))

  -- the complement of a sheet's complement has the sheet's own list
  pub double_complement : (A : List ℕ) → complemented n (complemented n A) ≡ listed n A
  double_complement A = equal_lists n _ _ (λ s h v g. rw (complemented_value A s h v g) (omega (arith, sheet_le s n v A)))
