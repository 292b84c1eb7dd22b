-- A phrase is no implicant of a sheet exactly when a simple or full code with no phrase of the sheet within it subsumes the phrase.
-- On scale 2 the literals that are at least 2 at a vector make a simple code, those at least 1 a full one, and each such code is met so.
-- Hence `simple` and `full`; and where a phrase is above the sheet, the literals that reach its value make the code of `outside`.
-- On every scale a complementary phrase is at most half, so whatever the grade of an absent variable, one half has its value: `split`.
use mathlib.Core.Path.{◌≡◌, refl, sym, ap, ap₂, ◌∙◌}
use mathlib.Core.Bool.{true, false}
use mathlib.Core.Logic.{◌⊎◌, inl, inr, ◌↔◌, ◌≢◌, ⊎_elim}
use mathlib.Core.List.Memᴰ
use mathlib.Core.List.{List, [], ◌∷◌, map, Memᴰ}
use Prim.Native.Nat.{ℕ, zero, suc, ◌+◌, ◌-◌, ◌*◌, ◌/◌, ◌%◌, ◌^◌, ◌≤◌, ◌<◌, min}
use native.Mathlib.Nat.{le_refl, le_trans, eq-or-lt_of_le, mod-lt, one-le-pow}
use native.Mathlib.Omega.{arith}
use lib.Bits.{bit_or}
use lib.Dec.{leb, nleb→lt}
use lib.ListN.{length, length-map}
use Rattle.fuzzy.specs.Phrase.{digits, has, Complementary, Simple, Subsumes}
use Rattle.fuzzy.specs.Grade.{Grades, literal, least, phrase_value, sheet_value}
use Rattle.fuzzy.specs.Function.{Fn, sheet_fn, Same}
use Rattle.fuzzy.specs.Implicant.{Implicant}
use Rattle.fuzzy.specs.Vector.{vector, lowest}
use Rattle.fuzzy.proofs.Search.{known}
use Rattle.fuzzy.proofs.Digits.{number, Below, digits_length, digits_below, number_digits, digits_mod}
use Rattle.fuzzy.proofs.Literals.{digit_complement, digit_plain, has_or, has_mod}
use Rattle.fuzzy.proofs.Subsumes.{subsumes_union, subsumes_one}
use Rattle.fuzzy.proofs.Reach.{reach_digit, reach, reach_digits, reach_lt, reached}
use Rattle.fuzzy.proofs.Sheet.{phrase_le, sheet_upper, sheet_reached}
use Rattle.fuzzy.proofs.Decide.{vector_grades, refused}
use Rattle.fuzzy.proofs.Lowest.{lowest_above}
use Rattle.fuzzy.proofs.Prime.{implicant_up}
use Rattle.fuzzy.proofs.Within.{Within}

-- no variable of the phrase is absent
abbrev pub Full : ℕ → ℕ → Type 0
Full n c = ¬ Memᴰ 0 (digits 4 n c)

-- a simple or full code that subsumes p has no phrase of F within it
abbrev pub Outside : ℕ → List ℕ → ℕ → Type 0
Outside n F p = (c : ℕ) × (c < 4 ^ n) × (Simple n c ⊎ Full n c) × (¬ Within n F c) × Subsumes n c p

-- a phrase that subsumes some phrase of the sheet is an implicant
pub within_implicant : (n : ℕ) (F : List ℕ) (p : ℕ) → Within n F p → Implicant n (sheet_fn n F) p
within_implicant n F p w = implicant_up n (sheet_fn n F) p w.0 w.2 (λ s l v g. sheet_upper s n v F w.0 w.1)

-- each digit of `reach` is that of some grade
reach_grade : (s n t : ℕ) (v : List ℕ) → Grades s n v → (d : ℕ) → Memᴰ d (digits 4 n (reach s t v))
    → (g : ℕ) × (g ≤ s) × (reach_digit s t g ≡ d)
reach_grade s n t v g d m =
    let w = Memᴰ.of_map (reach_digit s t) v (rw (reach_digits s n t v g.0) at m) in
    (w.0, g.1 w.0 w.1, w.2)

-- the grade of scale 2 for a digit: 0 for ~x, 2 for x, 1 for none and for both
grade : ℕ → ℕ
grade zero = 1
grade (suc zero) = 0
grade (suc (suc zero)) = 2
grade (suc (suc (suc d))) = 1

grade_le : (d : ℕ) → grade d ≤ 2
unfolding grade
grade_le zero = omega arith
grade_le (suc zero) = omega arith
grade_le (suc (suc zero)) = omega arith
grade_le (suc (suc (suc d))) = omega arith

-- the vector of a phrase's own grades
own_grades : (n p : ℕ) → Grades 2 n (map grade (digits 4 n p))
own_grades n p = (
  length-map (digits 4 n p) grade ∙ digits_length 4 (omega arith) n p,
  λ g m. let w = Memᴰ.of_map grade (digits 4 n p) m in rw (← w.2) (grade_le w.0),
)

-- the digits that are reached at t on scale 2 are all but x, which is 0 or 3
record Level (t x : ℕ) : Type 0 where
  positive : 0 < t
  most : t ≤ 2
  low : reach_digit 2 t 0 ≡ 1
  middle : reach_digit 2 t 1 + x ≡ 3
  high : reach_digit 2 t 2 ≡ 2
  outer : x % 3 ≡ 0

one_full : Level 1 0
unfolding reach_digit
one_full = record { positive = omega arith; most = omega arith; low = refl; middle = refl; high = refl; outer = refl }

two_simple : Level 2 3
unfolding reach_digit
two_simple = record { positive = omega arith; most = omega arith; low = refl; middle = refl; high = refl; outer = refl }

module _ (t x : ℕ) (level : Level t x) where
  -- no grade gives the digit x
  other : (g : ℕ) → g ≤ 2 → reach_digit 2 t g ≢ x
  other zero l e = omega arith
  other (suc zero) l e = omega arith
  other (suc (suc zero)) l e = omega arith
  other (suc (suc (suc g))) l e = omega arith

  -- and every other digit comes at its own grade
  own : (d : ℕ) → d < 4 → d ≢ x → reach_digit 2 t (grade d) ≡ d
  unfolding grade
  own zero l ne = omega arith
  own (suc zero) l ne = omega arith
  own (suc (suc zero)) l ne = omega arith
  own (suc (suc (suc d))) l ne = omega arith

  -- what is reached has no digit x
  reach_without : (n : ℕ) (v : List ℕ) → Grades 2 n v → ¬ Memᴰ x (digits 4 n (reach 2 t v))
  reach_without n v g m = let w = reach_grade 2 n t v g x m in other w.0 w.1 w.2

  restored : (ds : List ℕ) → Below 4 ds → ¬ Memᴰ x ds → map (reach_digit 2 t) (map grade ds) ≡ ds
  restored [] b no_x = refl
  restored (d ∷ ds) b no_x =
      ap₂ ◌∷◌ (own d (b d (Memᴰ.head refl)) (λ e. no_x (Memᴰ.head (sym e))))
      (restored ds (λ e m. b e (Memᴰ.tail m)) (λ m. no_x (Memᴰ.tail m)))

  -- a phrase with no digit x has just the literals that are reached at its own grades
  restores : (n p : ℕ) → ¬ Memᴰ x (digits 4 n p) → (k : ℕ) → k < 2 * n → has (reach 2 t (map grade (digits 4 n p))) k ≡ has p k
  unfolding reach
  restores n p no_x k l = ap (λ c. has c k) same ∙ has_mod n p k l
    where
      same : number 4 (map (reach_digit 2 t) (map grade (digits 4 n p))) ≡ p % 4 ^ n
      same = rw (restored (digits 4 n p) (digits_below 4 (omega arith) n p) no_x, ← digits_mod 4 (omega arith) n p)
          (number_digits 4 (omega arith) n (p % 4 ^ n) (mod-lt p (one-le-pow n 4 (omega arith))))

  -- so it is an implicant exactly when some phrase of the sheet is within it
  exact : (n : ℕ) (F : List ℕ) (p : ℕ) → ¬ Memᴰ x (digits 4 n p) → Implicant n (sheet_fn n F) p ↔ Within n F p
  exact n F p no_x = (to, within_implicant n F p)
    where
      v : List ℕ
      v = map grade (digits 4 n p)

      at_least : (q : ℕ) → (t ≤ phrase_value 2 n q v) ↔ Subsumes n (reach 2 t v) q
      at_least = reached 2 n t v (own_grades n p) level.most

      to : Implicant n (sheet_fn n F) p → Within n F p
      to i =
          let p_reached = (at_least p).1 (λ k l. omega (arith, restores n p no_x k l)) in
          let w = sheet_reached 2 n v F t level.positive (le_trans p_reached (i 2 (le_refl 2) v (own_grades n p))) in
          (w.0, w.1, λ k l. rw (← restores n p no_x k l) ((at_least w.0).0 w.2 k l))

-- a simple phrase is an implicant exactly when some phrase of the sheet is within it
pub simple : (n : ℕ) (F : List ℕ) (p : ℕ) → Simple n p → Implicant n (sheet_fn n F) p ↔ Within n F p
simple = exact 2 3 two_simple

-- a full phrase is an implicant exactly when some phrase of the sheet is within it
pub full : (n : ℕ) (F : List ℕ) (p : ℕ) → Full n p → Implicant n (sheet_fn n F) p ↔ Within n F p
full = exact 1 0 one_full

-- a phrase with a pair is at most half of the scale
pair_half : (s : ℕ) (ds v : List ℕ) → length v ≡ length ds → Memᴰ 3 ds → least s ds v + least s ds v ≤ s
unfolding least literal
pair_half s [] v e m = absurd (Memᴰ.not-nil m)
pair_half s (d ∷ ds) [] e m = absurd (omega arith)
pair_half s (d ∷ ds) (g ∷ v) e m = at (Memᴰ.cases_cons m) (pair_half s ds v (omega arith))
  where
    at : (3 ≡ d) ⊎ Memᴰ 3 ds → (Memᴰ 3 ds → least s ds v + least s ds v ≤ s)
        → min (literal s d g) (least s ds v) + min (literal s d g) (least s ds v) ≤ s
    at (inl y) ih = rw (← y) (omega arith)
    at (inr m') ih = let h = ih m' in omega arith

phrase_half : (s n p : ℕ) (v : List ℕ) → Grades s n v → Complementary n p → phrase_value s n p v + phrase_value s n p v ≤ s
unfolding phrase_value
phrase_half s n p v g pair = pair_half s (digits 4 n p) v (g.0 ∙ sym (digits_length 4 (omega arith) n p)) pair

-- up to half of the scale one of the two literals is reached
half_reached : (s t g : ℕ) → t + t ≤ s → (reach_digit s t g % 2 ≡ 1) ⊎ (reach_digit s t g / 2 ≡ 1)
unfolding reach_digit
half_reached s t g h = at (known (leb t (s - g))) (known (leb t g))
  where
    at : (leb t (s - g) ≡ true) ⊎ (leb t (s - g) ≡ false) → (leb t g ≡ true) ⊎ (leb t g ≡ false)
        → (reach_digit s t g % 2 ≡ 1) ⊎ (reach_digit s t g / 2 ≡ 1)
    at (inl a) (inl b) = inl (rw (a, b))
    at (inl a) (inr b) = inl (rw (a, b))
    at (inr a) (inl b) = inr (rw (a, b))
    at (inr a) (inr b) = absurd (omega (arith, nleb→lt t (s - g) (rw a tt), nleb→lt t g (rw b tt)))

-- the digit worth b ^ j is one of the digits
pub digit_in : (b n c j : ℕ) → j < n → Memᴰ (c / b ^ j % b) (digits b n c)
unfolding digits
digit_in b zero c j l = absurd (omega arith)
digit_in b (suc n) c j l = at (eq-or-lt_of_le {n = j} {m = n} (omega arith)) (digit_in b n c j)
  where
    at : (j ≡ n) ⊎ (j < n) → (j < n → Memᴰ (c / b ^ j % b) (digits b n c)) → Memᴰ (c / b ^ j % b) (digits b (suc n) c)
    at (inl e) ih = Memᴰ.head (ap (λ i. c / b ^ i % b) e)
    at (inr l') ih = Memᴰ.tail (ih l')

-- so up to half of the scale each variable has a literal that is reached
pub one_literal_reached : (s n t : ℕ) (v : List ℕ) → Grades s n v → t + t ≤ s → (j : ℕ) → j < n
    → (has (reach s t v) (2 * j) ≡ 1) ⊎ (has (reach s t v) (suc (2 * j)) ≡ 1)
one_literal_reached s n t v g h j l =
    let w = reach_grade s n t v g (reach s t v / 4 ^ j % 4) (digit_in 4 n (reach s t v) j l) in
    rw (← digit_complement (reach s t v) j, ← digit_plain (reach s t v) j, ← w.2) (half_reached s t w.0 h)

-- the phrases of at least p's value are those that the literals of at least that value subsume
at_value : (s n p : ℕ) (v : List ℕ) → Grades s n v → (q : ℕ)
    → (phrase_value s n p v ≤ phrase_value s n q v) ↔ Subsumes n (reach s (phrase_value s n p v) v) q
at_value s n p v g = reached s n (phrase_value s n p v) v g (phrase_le s n p v)

-- a literal that reaches the phrase's value does not lower it
or_keeps : (s n p k : ℕ) (v : List ℕ) → Grades s n v → k < 2 * n → has (reach s (phrase_value s n p v) v) k ≡ 1
    → phrase_value s n p v ≤ phrase_value s n (bit_or p (2 ^ k)) v
or_keeps s n p k v g l e =
    let c = reach s (phrase_value s n p v) v in
    (at_value s n p v g (bit_or p (2 ^ k))).1
    ((subsumes_union n c p (2 ^ k)).1 ((at_value s n p v g p).0 (le_refl (phrase_value s n p v)), (subsumes_one n c k l).1 e))

-- a complementary phrase is an implicant of a function exactly when both its halves at a variable are
pub split : (n : ℕ) (f : Fn) (p j : ℕ) → j < n → Complementary n p
    → Implicant n f p ↔ (Implicant n f (bit_or p (2 ^ (2 * j))) × Implicant n f (bit_or p (2 ^ suc (2 * j))))
split n f p j below pair = (λ i. (to (2 * j) i, to (suc (2 * j)) i), from)
  where
    to : (k : ℕ) → Implicant n f p → Implicant n f (bit_or p (2 ^ k))
    to k = implicant_up n f (bit_or p (2 ^ k)) p (λ i l. rw (has_or p (2 ^ k) i) (omega arith))

    from : Implicant n f (bit_or p (2 ^ (2 * j))) × Implicant n f (bit_or p (2 ^ suc (2 * j))) → Implicant n f p
    from h s l v g =
        ⊎_elim (λ e. le_trans (or_keeps s n p (2 * j) v g (omega arith) e) (h.0 s l v g))
        (λ e. le_trans (or_keeps s n p (suc (2 * j)) v g (omega arith) e) (h.1 s l v g))
        (one_literal_reached s n (phrase_value s n p v) v g (phrase_half s n p v g pair) j below)

-- what is reached on scale 2, above 0, is simple or full
reach_kind : (n t : ℕ) (v : List ℕ) → Grades 2 n v → 0 < t → t ≤ 2 → Simple n (reach 2 t v) ⊎ Full n (reach 2 t v)
reach_kind n zero v g z l = absurd (omega arith)
reach_kind n (suc zero) v g z l = inr (reach_without 1 0 one_full n v g)
reach_kind n (suc (suc zero)) v g z l = inl (reach_without 2 3 two_simple n v g)
reach_kind n (suc (suc (suc t))) v g z l = absurd (omega arith)

-- where a phrase is above the sheet, its value's literals are a code outside
above_outside : (n : ℕ) (F : List ℕ) (p : ℕ) (v : List ℕ) → Grades 2 n v → sheet_value 2 n F v < phrase_value 2 n p v → Outside n F p
above_outside n F p v g l =
    let t = phrase_value 2 n p v in (
      reach 2 t v,
      reach_lt 2 n t v g.0,
      reach_kind n t v g (omega arith) (phrase_le 2 n p v),
      λ w. omega (arith, (at_value 2 n p v g w.0).1 w.2, sheet_upper 2 n v F w.0 w.1),
      (at_value 2 n p v g p).0 (le_refl t),
    )

-- a phrase is no implicant of the function of a sheet exactly when a simple or full code outside the sheet's within map subsumes it
pub outside_of : (n : ℕ) (f : Fn) (F : List ℕ) → Same n f (sheet_fn n F) → (p : ℕ) → (¬ Implicant n f p) ↔ Outside n F p
outside_of n f F same p = (to, from)
  where
    to : ¬ Implicant n f p → Outside n F p
    to none =
        let v = vector n (lowest n f p) in
        let g = vector_grades n (lowest n f p) in
        above_outside n F p v g (rw (same 2 (le_refl 2) v g) at (lowest_above n f p ((refused n f (F, same) p).1 none)).1)

    from : Outside n F p → ¬ Implicant n f p
    from o i =
        o.3 (⊎_elim (λ h. (simple n F o.0 h).0) (λ h. (full n F o.0 h).0) o.2
        (implicant_up n (sheet_fn n F) o.0 p o.4 (λ s l v g. rw (← same s l v g) (i s l v g))))

-- a phrase is no implicant of a sheet exactly when a simple or full code outside the sheet's within map subsumes it
pub outside : (n : ℕ) (F : List ℕ) (p : ℕ) → (¬ Implicant n (sheet_fn n F) p) ↔ Outside n F p
outside n F = outside_of n (sheet_fn n F) F (λ s l v g. refl)
