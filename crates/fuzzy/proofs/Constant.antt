-- The empty list is the list of the constant 0 and [0] that of the constant 1, so they are the bounds of join and meet; and a sheet joined with
-- its complement is the constant 1 only for the sheets that are constant 0 or 1.
-- At the vector of all halves on scale 2 every phrase is at least 1, and 2 only if it has no literal: then it is the scale everywhere.
use mathlib.Core.Path.{◌≡◌, refl, sym, ap, ◌∙◌}
use mathlib.Core.Logic.{◌⊎◌, inl, inr, ◌↔◌}
use mathlib.Core.List.Memᴰ
use mathlib.Core.List.{List, [], ◌∷◌, Memᴰ}
use Prim.Native.Nat.{ℕ, zero, suc, ◌-◌, ◌≤◌, max}
use native.Mathlib.Nat.{le_refl, le_antisymm, le-min, one-le-pow}
use native.Mathlib.Decide.{dec_le}
use native.Mathlib.Omega.{arith}
use lib.ListN.{length, replicate}
use Rattle.fuzzy.specs.Phrase.{digits}
use Rattle.fuzzy.specs.Grade.{Grades, literal, least, phrase_value, sheet_value}
use Rattle.fuzzy.specs.Function.{sheet_fn, zero_fn, one_fn, Same}
use Rattle.fuzzy.specs.Implicant.{Implicant}
use Rattle.fuzzy.specs.Primes.{primes, listed, joined, met, complemented, Rising}
use Rattle.fuzzy.proofs.Digits.{digits_length}
use Rattle.fuzzy.proofs.Subsumes.{subsumes_antisym, subsumes_empty}
use Rattle.fuzzy.proofs.Scale.{cons_grades}
use Rattle.fuzzy.proofs.Sheet.{phrase_le, sheet_upper, sheet_le, sheet_reached}
use Rattle.fuzzy.proofs.Closure.{of_zero, of_one, one_sheet}
use Rattle.fuzzy.proofs.List.{exactly, rising, equal_lists}
use Rattle.fuzzy.proofs.Lattice.{joined_value, complemented_value}

-- the vector of all halves on scale 2
halves : ℕ → List ℕ
halves n = replicate n 1

halves_grades : (n : ℕ) → Grades 2 n (halves n)
unfolding halves
halves_grades zero = (refl, λ g m. absurd (Memᴰ.not-nil m))
halves_grades (suc n) = cons_grades 2 n 1 (replicate n 1) (omega arith) (halves_grades n)

-- at half every digit is at least 1
half_digit : (d : ℕ) → 1 ≤ literal 2 d 1
unfolding literal
half_digit zero = omega arith
half_digit (suc zero) = omega arith
half_digit (suc (suc zero)) = omega arith
half_digit (suc (suc (suc d))) = omega arith

-- and 2 only where it has no literal
half_absent : (s d g : ℕ) → 2 ≤ literal 2 d 1 → literal s d g ≡ s
unfolding literal
half_absent s zero g h = refl
half_absent s (suc zero) g h = absurd (omega arith)
half_absent s (suc (suc zero)) g h = absurd (omega arith)
half_absent s (suc (suc (suc d))) g h = absurd (omega arith)

least_half : (n : ℕ) (ds : List ℕ) → 1 ≤ least 2 ds (replicate n 1)
unfolding least
least_half zero [] = omega arith
least_half zero (d ∷ ds) = omega arith
least_half (suc n) [] = omega arith
least_half (suc n) (d ∷ ds) = le-min (half_digit d) (least_half n ds)

least_absent : (s n : ℕ) (ds v : List ℕ) → length ds ≡ n → 2 ≤ least 2 ds (replicate n 1) → least s ds v ≡ s
unfolding least
least_absent s n [] v e h = refl
least_absent s zero (d ∷ ds) v e h = absurd (omega arith)
least_absent s (suc n) (d ∷ ds) [] e h = refl
least_absent s (suc n) (d ∷ ds) (g ∷ v) e h =
    rw (half_absent s d g (omega arith), least_absent s n ds v (omega arith) (omega arith)) (omega arith)

-- at halves every phrase is at least 1
at_halves : (n p : ℕ) → 1 ≤ phrase_value 2 n p (halves n)
unfolding phrase_value halves
at_halves n p = least_half n (digits 4 n p)

-- and 2 only where it is the scale everywhere
phrase_absent : (s n p : ℕ) (v : List ℕ) → 2 ≤ phrase_value 2 n p (halves n) → phrase_value s n p v ≡ s
unfolding phrase_value halves
phrase_absent s n p v h = least_absent s n (digits 4 n p) v (digits_length 4 (omega arith) n p) h

-- a sheet that is 0 at halves has no phrase
zero_at_halves : (n : ℕ) (F : List ℕ) → sheet_value 2 n F (halves n) ≡ 0 → F ≡ []
zero_at_halves n [] e = refl
zero_at_halves n (p ∷ F) e = absurd (omega (arith, at_halves n p, sheet_upper 2 n (halves n) (p ∷ F) p (Memᴰ.head refl)))

-- one that is 2 there is the constant 1
two_at_halves : (n : ℕ) (F : List ℕ) → 2 ≤ sheet_value 2 n F (halves n) → Same n (sheet_fn n F) one_fn
two_at_halves n F l s h v g =
    let (p, m, r) = sheet_reached 2 n (halves n) F 2 (omega arith) l in
    le_antisymm (sheet_le s n v F) (rw (phrase_absent s n p v r) at (sheet_upper s n v F p m))

-- the constant 0 has no prime
pub zero_list : (n : ℕ) → primes n zero_fn ≡ []
zero_list n = empty (primes n zero_fn) (λ p m. never p ((exactly n zero_fn (of_zero n) p).0 m).1.implicant)
  where
    never : (p : ℕ) → Implicant n zero_fn p → ⊥
    never p i = omega (arith, at_halves n p, i 2 (le_refl 2) (halves n) (halves_grades n))

    empty : (ps : List ℕ) → ((p : ℕ) → Memᴰ p ps → ⊥) → ps ≡ []
    empty [] h = refl
    empty (p ∷ ps) h = absurd (h p (Memᴰ.head refl))

-- the constant 1 has the one prime 0
pub one_list : (n : ℕ) → primes n one_fn ≡ 0 ∷ []
one_list n = single (primes n one_fn) (rising n one_fn) there (λ p m. alone p m)
  where
    constant : Implicant n one_fn 0
    constant s h v g = phrase_le s n 0 v

    there : Memᴰ 0 (primes n one_fn)
    there = (exactly n one_fn (of_one n) 0).1 (
      one-le-pow n 4 (omega arith),
      record {
        implicant = constant;
        alone = λ q l i sub. subsumes_antisym n q 0 l (one-le-pow n 4 (omega arith)) (subsumes_empty n q) sub;
      },
    )

    alone : (p : ℕ) → Memᴰ p (primes n one_fn) → p ≡ 0
    alone p m = sym (((exactly n one_fn (of_one n) p).0 m).1.alone 0 (one-le-pow n 4 (omega arith)) constant (subsumes_empty n p))

    single : (ps : List ℕ) → Rising ps → Memᴰ 0 ps → ((p : ℕ) → Memᴰ p ps → p ≡ 0) → ps ≡ 0 ∷ []
    single [] r m h = absurd (Memᴰ.not-nil m)
    single (p ∷ []) r m h = ap (λ (x : ℕ). x ∷ []) (h p (Memᴰ.head refl))
    single (p ∷ q ∷ ps) r m h =
        absurd (omega (arith, r 0 1 (omega arith) (omega arith), h p (Memᴰ.head refl), h q (Memᴰ.tail (Memᴰ.head refl))))

module _ (n : ℕ) (A : List ℕ) where
  -- a sheet joined with the empty list has its own list
  pub join_zero : joined n A [] ≡ listed n A
  unfolding sheet_value
  join_zero = equal_lists n _ _ (λ s h v g. omega arith)

  -- a sheet met with the empty list has the empty list
  pub meet_zero : met n A [] ≡ []
  unfolding sheet_value
  meet_zero = equal_lists n _ zero_fn (λ s h v g. omega arith) ∙ zero_list n

  -- a sheet joined with [0] has the list [0]
  pub join_one : joined n A (0 ∷ []) ≡ 0 ∷ []
  join_one = equal_lists n _ one_fn (λ s h v g. rw (← (one_sheet n s h v g)) (omega (arith, sheet_le s n v A))) ∙ one_list n

  -- a sheet met with [0] has its own list
  pub meet_one : met n A (0 ∷ []) ≡ listed n A
  meet_one = equal_lists n _ _ (λ s h v g. rw (← (one_sheet n s h v g)) (omega (arith, sheet_le s n v A)))

  -- a sheet joined with its complement is the constant 1 exactly when the sheet is constant 0 or constant 1
  pub middle : (joined n A (complemented n A) ≡ 0 ∷ []) ↔ (Same n (sheet_fn n A) zero_fn ⊎ Same n (sheet_fn n A) one_fn)
  unfolding sheet_value
  middle = (to, λ c. from c ∙ one_list n)
    where
      a : ℕ
      a = sheet_value 2 n A (halves n)

      -- the larger of the two values is 2 at halves, so the sheet's value is 0 or 2 there
      extreme : joined n A (complemented n A) ≡ 0 ∷ [] → max a (2 - a) ≡ 2
      extreme e =
          rw (
            ← (complemented_value n A 2 (le_refl 2) (halves n) (halves_grades n)),
            ← (joined_value n A (complemented n A) 2 (le_refl 2) (halves n) (halves_grades n)),
            e,
            ← (one_sheet n 2 (le_refl 2) (halves n) (halves_grades n)),
          ) refl

      to : joined n A (complemented n A) ≡ 0 ∷ [] → Same n (sheet_fn n A) zero_fn ⊎ Same n (sheet_fn n A) one_fn
      to e = at (dec_le 2 a)
        where
          at : Dec (2 ≤ a) → Same n (sheet_fn n A) zero_fn ⊎ Same n (sheet_fn n A) one_fn
          at (yes l) = inr (two_at_halves n A l)
          at (no d) = inl (λ s h v g. rw (zero_at_halves n A (omega (arith, extreme e)), sheet_value))

      from : Same n (sheet_fn n A) zero_fn ⊎ Same n (sheet_fn n A) one_fn → joined n A (complemented n A) ≡ primes n one_fn
      from (inl zeros) = equal_lists n _ one_fn (λ s h v g. rw (complemented_value n A s h v g, zeros s h v g) (omega arith))
      from (inr ones) = equal_lists n _ one_fn (λ s h v g. rw (complemented_value n A s h v g, ones s h v g) (omega arith))
