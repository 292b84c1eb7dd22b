-- What the scan for the first entry that is at least a limit says of the check that it serves.
use mathlib.Core.Path.{◌≡◌, refl, sym, ap, ◌∙◌}
use mathlib.Core.Bool.{cond}
use mathlib.Core.List.{List, Memᴰ}
use Prim.Native.Nat.{ℕ, ◌<◌}
use native.Mathlib.Omega.{arith}
use borrow.Author.Tests.{eq-eqb, ne_eqb, lt-leb}
use lib.Dec.{eqb, leb}
use lib.ListN.{length, get_or}
use Rattle.std.specs.Prelude.{Option, Some, None}
use Rattle.std.specs.List.{position, position_or_len}
use Rattle.std.proofs.lemmas.Grind.{common_steps}
use Rattle.std.proofs.lemmas.List.Quantifiers.{position-Some}
use Rattle.std.proofs.lemmas.List.Recursion.{is_position_or_len}
use Rattle.std.proofs.lemmas.List.Sums.{prefix_len-le-length, position_or_len_is}
use Rattle.sheets.specs.Answer.{done, unless}
use Rattle.sheets.specs.Refusal.{first_at_least}
use Rattle.sheets.proofs.Told.{unless_holds, unless_fails}
use Rattle.sheets.proofs.Refused.{all_below}

module _ (limit : ℕ) (xs : List ℕ) where
  -- the definition's scan is the library's
  first_is : first_at_least limit xs ≡ position_or_len (λ x. leb limit x) xs
  unfolding first_at_least
  first_is =
      is_position_or_len (first_at_least limit) (λ x. leb limit x) refl
      (λ y ys. ap (λ (k : ℕ). cond (leb limit y) 0 k) (omega arith)) xs

  -- what it finds is the first such entry
  pub found : (i : ℕ) → position (λ x. leb limit x) xs ≡ Some i → (first_at_least limit xs ≡ i) × (i < length xs)
  found i e = (first_is ∙ grind (arith, common_steps), (position-Some (λ x. leb limit x) xs i 0 e).0)

  -- where it finds none there is none
  pub none_found : position (λ x. leb limit x) xs ≡ None → first_at_least limit xs ≡ length xs
  none_found e = first_is ∙ grind (arith, common_steps, prefix_len-le-length)

  -- the check that it serves refuses with the entry's index
  pub found_refuses : (r : Option ℕ) (k i : ℕ) → r ≡ position (λ x. leb limit x) xs → r ≡ Some i
      → record { number = k; detail = i } ≡ unless (eqb (first_at_least limit xs) (length xs)) k (first_at_least limit xs)
  found_refuses r k i p e =
      let (is, l) = found i (sym p ∙ e) in
      rw is (unless_fails k i (ne_eqb i (length xs) (λ h. omega arith)))

  -- and passes where it finds none
  pub none_passes : (r : Option ℕ) (k : ℕ) → r ≡ position (λ x. leb limit x) xs → r ≡ None
      → done ≡ unless (eqb (first_at_least limit xs) (length xs)) k (first_at_least limit xs)
  none_passes r k p e = unless_holds k _ (eq-eqb (first_at_least limit xs) (length xs) (none_found (sym p ∙ e)))

  -- so all entries are below the limit
  pub none_below : (r : Option ℕ) → r ≡ position (λ x. leb limit x) xs → r ≡ None → (x : ℕ) → Memᴰ x xs → x < limit
  none_below r p e = all_below limit xs (none_found (sym p ∙ e))

  -- where all entries are below the limit it finds none
  pub all_below_none : ((i : ℕ) → i < length xs → get_or xs i 0 < limit) → position (λ x. leb limit x) xs ≡ None
  all_below_none below =
      let none : position_or_len (λ x. leb limit x) xs ≡ length xs =
      position_or_len_is (λ x. leb limit x) xs (length xs) 0 (omega arith) (λ k l. lt-leb limit (get_or xs k 0) (below k l)) (λ l. absurd (omega arith)) in
      grind (arith, common_steps)
