-- Join, meet and complement of sheets' functions are sheets' functions, and codes below 4 ^ n stay below it.
-- At each t above 0 a sheet reaches t exactly when some phrase is within the code of the literals that reach t, so two
-- values are equal where the laws of Within say so at all those codes; t's code, exchanged, is that of suc s - t.
use mathlib.Core.Path.{◌≡◌, refl, sym, ap, ap₂, ◌∙◌}
use mathlib.Core.Bool.{Bool, true, false, cond, not}
use mathlib.Core.Logic.Iff
use mathlib.Core.Logic.{◌⊎◌, inl, inr, ◌↔◌, ⊎_elim}
use mathlib.Core.List.Memᴰ
use mathlib.Core.List.{List, [], ◌∷◌, ◌++◌, map, Memᴰ}
use Prim.Native.Nat.{ℕ, suc, ◌+◌, ◌-◌, ◌*◌, ◌^◌, ◌≤◌, ◌<◌, min, max}
use native.Mathlib.Nat.{le_refl, le_trans, le_antisymm, lt_of_not-le, eq-zero-or-pos, one-le-pow}
use native.Mathlib.Omega.{arith}
use lib.Bits.{or_lt}
use lib.Dec.{leb, leb→le, nleb→lt}
use lib.Pow.{pow-lt}
use Rattle.fuzzy.specs.Grade.{Grades, sheet_value}
use Rattle.fuzzy.specs.Function.{Fn, sheet_fn, join_fn, meet_fn, complement_fn, zero_fn, one_fn, Same, OfSheet}
use Rattle.fuzzy.proofs.Search.{known, of_true}
use Rattle.fuzzy.proofs.Digits.{four_pow, number, Below}
use Rattle.fuzzy.proofs.Reach.{reach_digit, reach, reach_digits, reached}
use Rattle.fuzzy.proofs.Sheet.{sheet_upper, sheet_reached, sheet_append, sheet_le}
use Rattle.fuzzy.proofs.Within.{Within, meet_sheet, neg_phrase, complement_sheet, swap, exchange, within_one, within_meet, within_complement, meet_member, neg_member, flip_lt}

module _ (s n : ℕ) (v : List ℕ) (g : Grades s n v) where
  -- a sheet reaches t, above 0, exactly when some phrase is within the code of the literals that do
  pub sheet_within : (t : ℕ) → 0 < t → t ≤ s → (F : List ℕ) → (t ≤ sheet_value s n F v) ↔ Within n F (reach s t v)
  sheet_within t z l F = (
    λ h. let (p, m, r) = sheet_reached s n v F t z h in (p, m, (reached s n t v g l p).0 r),
    λ w. le_trans ((reached s n t v g l w.0).1 w.2) (sheet_upper s n v F w.0 w.1),
  )

  -- what reaches t exactly where some phrase of the sheet is within that code is the sheet's value
  pub sheet_same : (x : ℕ) (F : List ℕ) → x ≤ s → ((t : ℕ) → 0 < t → t ≤ s → (t ≤ x) ↔ Within n F (reach s t v)) → x ≡ sheet_value s n F v
  sheet_same x F l h =
      le_antisymm (below x y l (λ t z k r. (sheet_within t z k F).1 ((h t z k).0 r)))
      (below y x (sheet_le s n v F) (λ t z k r. (h t z k).1 ((sheet_within t z k F).0 r)))
    where
      y : ℕ
      y = sheet_value s n F v

      below : (x y : ℕ) → x ≤ s → ((t : ℕ) → 0 < t → t ≤ s → t ≤ x → t ≤ y) → x ≤ y
      below x y l up = ⊎_elim (λ e. omega arith) (λ z. up x z l (le_refl x)) (eq-zero-or-pos x)

-- the larger of two sheets is the sheet of the phrases of both
pub join_sheet : (n : ℕ) (A B : List ℕ) → Same n (join_fn (sheet_fn n A) (sheet_fn n B)) (sheet_fn n (A ++ B))
join_sheet n A B s h v g = sym (sheet_append s n v A B)

-- the smaller of two sheets is the sheet of all unions of a phrase of each
pub meet_sheet_lem : (n : ℕ) (A B : List ℕ) → Same n (meet_fn (sheet_fn n A) (sheet_fn n B)) (sheet_fn n (meet_sheet A B))
meet_sheet_lem n A B s h v g =
    sheet_same s n v g (min a b) (meet_sheet A B) (omega (arith, sheet_le s n v A)) λ t z l.
    Iff.trans (smaller t)
    (Iff.trans (Iff.and (sheet_within s n v g t z l A) (sheet_within s n v g t z l B)) (Iff.symm (within_meet n A B (reach s t v))))
  where
    a : ℕ
    a = sheet_value s n A v

    b : ℕ
    b = sheet_value s n B v

    smaller : (t : ℕ) → (t ≤ min a b) ↔ ((t ≤ a) × (t ≤ b))
    smaller t = (λ h. omega arith, λ h. omega arith)

-- a comparison that holds exactly where another fails is its negation
leb_not : (a b c d : ℕ) → (a ≤ b) ↔ (d < c) → leb a b ≡ not (leb c d)
leb_not a b c d h = at (known (leb a b)) (known (leb c d))
  where
    at : (leb a b ≡ true) ⊎ (leb a b ≡ false) → (leb c d ≡ true) ⊎ (leb c d ≡ false) → leb a b ≡ not (leb c d)
    at (inl x) (inl y) = absurd (omega (arith, h.0 (leb→le a b (of_true x)), leb→le c d (of_true y)))
    at (inl x) (inr y) = rw (x, y)
    at (inr x) (inl y) = rw (x, y)
    at (inr x) (inr y) = absurd (omega (arith, nleb→lt a b (rw x tt), h.1 (nleb→lt c d (rw y tt))))

-- a digit made of two tests, exchanged, is made of their negations, the other way round
swap_bits : (a b : Bool) → swap (cond a 1 0 + cond b 2 0) ≡ cond (not b) 1 0 + cond (not a) 2 0
unfolding swap
swap_bits true true = refl
swap_bits true false = refl
swap_bits false true = refl
swap_bits false false = refl

module _ (s t : ℕ) (z : 0 < t) (l : t ≤ s) where
  -- a grade reaches suc s - t exactly when its complement does not reach t
  turned : (x y : ℕ) → x + y ≡ s → leb (suc s - t) y ≡ not (leb t x)
  turned x y e = leb_not (suc s - t) y t x (λ i. omega arith, λ i. omega arith)

  swap_digit : (g : ℕ) → g ≤ s → swap (reach_digit s t g) ≡ reach_digit s (suc s - t) g
  unfolding reach_digit
  swap_digit g k = rw (turned g (s - g) (omega arith), turned (s - g) g (omega arith)) (swap_bits (leb t (s - g)) (leb t g))

  swap_digits : (v : List ℕ) → ((g : ℕ) → Memᴰ g v → g ≤ s) → map swap (map (reach_digit s t) v) ≡ map (reach_digit s (suc s - t)) v
  swap_digits [] h = refl
  swap_digits (g ∷ v) h = ap₂ ◌∷◌ (swap_digit g (h g (Memᴰ.head refl))) (swap_digits v (λ x m. h x (Memᴰ.tail m)))

  -- the code of the literals that reach t, exchanged, is the code of those that reach suc s - t
  pub exchange_reach : (n : ℕ) (v : List ℕ) → Grades s n v → exchange n (reach s t v) ≡ reach s (suc s - t) v
  unfolding exchange
  exchange_reach n v g = rw (reach_digits s n t v g.0) (unfold reach in ap (number 4) (swap_digits v g.1))

-- the complement of a sheet is the sheet that takes one complemented literal from each phrase
pub complement_sheet_lem : (n : ℕ) (A : List ℕ) → Same n (complement_fn (sheet_fn n A)) (sheet_fn n (complement_sheet n A))
complement_sheet_lem n A s h v g =
    sheet_same s n v g (s - a) (complement_sheet n A) (omega arith) λ t z l.
    Iff.trans (falls t z l) (Iff.trans (Iff.not (reaches t z l)) (Iff.symm (within_complement n A (reach s t v))))
  where
    a : ℕ
    a = sheet_value s n A v

    falls : (t : ℕ) → 0 < t → t ≤ s → (t ≤ s - a) ↔ ¬ (suc s - t ≤ a)
    falls t z l = (λ x y. omega (arith, sheet_le s n v A), λ x. omega (arith, lt_of_not-le x))

    reaches : (t : ℕ) → 0 < t → t ≤ s → (suc s - t ≤ a) ↔ Within n A (exchange n (reach s t v))
    reaches t z l = rw (exchange_reach s t z l n v g) (sheet_within s n v g (suc s - t) (omega arith) (omega arith) A)

-- the function of a sheet is the function of some sheet
pub of_sheet_lem : (n : ℕ) (F : List ℕ) → OfSheet n (sheet_fn n F)
of_sheet_lem n F = (F, λ s h v g. refl)

-- the constant 0 is the empty sheet's function
pub of_zero : (n : ℕ) → OfSheet n zero_fn
unfolding sheet_value
of_zero n = ([], λ s h v g. refl)

-- the constant 1 is the value of the sheet of code 0
pub one_sheet : (n : ℕ) → Same n one_fn (sheet_fn n (0 ∷ []))
one_sheet n s h v g =
    le_antisymm ((sheet_within s n v g s (omega arith) (le_refl s) (0 ∷ [])).1 (within_one n (reach s s v))) (sheet_le s n v (0 ∷ []))

-- so it is a sheet's function
pub of_one : (n : ℕ) → OfSheet n one_fn
of_one n = (0 ∷ [], one_sheet n)

module _ (n : ℕ) where
  -- an operation that gives a sheet of any two sheets gives a sheet's function of any two sheets' functions
  of_both : (op : ℕ → ℕ → ℕ) (sheet : List ℕ → List ℕ → List ℕ)
      → ((A B : List ℕ) → Same n (λ s v. op (sheet_value s n A v) (sheet_value s n B v)) (sheet_fn n (sheet A B)))
      → (f g : Fn) → OfSheet n f → OfSheet n g → OfSheet n (λ s v. op (f s v) (g s v))
  of_both op sheet same f g (A, e) (B, e') =
      (sheet A B, λ s h v gr. ap₂ op (e s h v gr) (e' s h v gr) ∙ same A B s h v gr)

  -- the larger of two sheets' functions is a sheet's
  pub of_join : (f g : Fn) → OfSheet n f → OfSheet n g → OfSheet n (join_fn f g)
  of_join = of_both max ◌++◌ (join_sheet n)

  -- the smaller of two sheets' functions is a sheet's
  pub of_meet : (f g : Fn) → OfSheet n f → OfSheet n g → OfSheet n (meet_fn f g)
  of_meet = of_both min meet_sheet (meet_sheet_lem n)

  -- the complement of a sheet's function is a sheet's
  pub of_complement : (f : Fn) → OfSheet n f → OfSheet n (complement_fn f)
  of_complement f (A, e) = (complement_sheet n A, λ s h v g. ap (λ x. s - x) (e s h v g) ∙ complement_sheet_lem n A s h v g)

-- so the larger of two sheets is a sheet's function
pub of_joined : (n : ℕ) (A B : List ℕ) → OfSheet n (join_fn (sheet_fn n A) (sheet_fn n B))
of_joined n A B = (A ++ B, join_sheet n A B)

-- so is the smaller
pub of_met : (n : ℕ) (A B : List ℕ) → OfSheet n (meet_fn (sheet_fn n A) (sheet_fn n B))
of_met n A B = (meet_sheet A B, meet_sheet_lem n A B)

-- and the complement of a sheet
pub of_complemented : (n : ℕ) (A : List ℕ) → OfSheet n (complement_fn (sheet_fn n A))
of_complemented n A = (complement_sheet n A, complement_sheet_lem n A)

-- a meet of sheets with codes below 4 ^ n has codes below 4 ^ n
pub meet_below : (n : ℕ) (A B : List ℕ) → Below (4 ^ n) A → Below (4 ^ n) B → Below (4 ^ n) (meet_sheet A B)
meet_below n A B h_a h_b p m =
    let (a, b, ma, mb, e) = (meet_member A B p).0 m in
    rw (e, four_pow n) (or_lt (2 * n) a b (rw (four_pow n) at (h_a a ma)) (rw (four_pow n) at (h_b b mb)))

-- so has a phrase's complement
neg_below : (n p : ℕ) → Below (4 ^ n) (neg_phrase n p)
neg_below n p q m =
    let (k, l, h, e) = (neg_member n p q).0 m in
    rw (e, four_pow n) (pow-lt (flip_lt n k l))

-- and so the complement of any sheet
pub complement_below : (n : ℕ) (F : List ℕ) → Below (4 ^ n) (complement_sheet n F)
unfolding complement_sheet
complement_below n [] = λ p m. rw (Memᴰ.eq_of_singleton m) (one-le-pow n 4 (omega arith))
complement_below n (p ∷ F) = meet_below n (neg_phrase n p) (complement_sheet n F) (neg_below n p) (complement_below n F)
