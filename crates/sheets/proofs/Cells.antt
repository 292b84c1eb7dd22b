-- A phrase with pairs is an implicant of a sheet exactly when at each point that it agrees with a phrase of the sheet is within.
-- A simple or full code outside that subsumes it has a pair, so it is full, and down at its literals outside the phrase's pairs it is a point
-- (`criterion`). Which points phrases with other pairs are within, those with one pair less tell (`fewer_splits`).
use mathlib.Core.Path.{◌≡◌, refl, sym, ap, ◌∙◌}
use mathlib.Core.Bool.{true, false}
use mathlib.Core.Logic.{◌⊎◌, inl, inr, ◌↔◌, ◌≢◌, ⊎_elim}
use mathlib.Core.List.Memᴰ
use mathlib.Core.List.{List, Memᴰ}
use Prim.Native.Nat.{ℕ, zero, suc, ◌+◌, ◌-◌, ◌*◌, ◌/◌, ◌%◌, ◌^◌, ◌≤◌, ◌<◌, min, max}
use native.Mathlib.Nat.{mul_comm, pow-zero, pow-succ'}
use native.Mathlib.Decide.{ℕ_discrete}
use native.Mathlib.Omega.{arith}
use lib.Arith.{digits_lt}
use lib.Pow.{pow_pos}
use Rattle.fuzzy.specs.Phrase.{digits, has, less, Simple, Subsumes}
use Rattle.fuzzy.specs.Function.{sheet_fn}
use Rattle.fuzzy.specs.Implicant.{Implicant}
use Rattle.fuzzy.specs.Vector.{implicant?}
use Rattle.fuzzy.proofs.Search.{known}
use Rattle.fuzzy.proofs.Literals.{has_lt, has_zero, has_next, has_none, digit, less_has, less_others, same_literals}
use Rattle.fuzzy.proofs.Subsumes.{subsumes_trans, subsumes_or_lacks}
use Rattle.fuzzy.proofs.Decide.{decided, refused}
use Rattle.fuzzy.proofs.Prime.{implicant_up}
use Rattle.fuzzy.proofs.Within.{Within}
use Rattle.fuzzy.proofs.Fast.{Full, digit_in, full, outside}
use Rattle.rows.proofs.Stage.{more_has, more_others}
use Rattle.sheets.specs.Cell.{build, pairs_of, point, Clear, Agrees, Fewer, Own}
use Rattle.sheets.proofs.Level.{parity}

-- a number built from digits below the base is below the base's power
build_lt : (b m : ℕ) (g : ℕ → ℕ) → ((j : ℕ) → g j < b) → build b m g < b ^ m
unfolding build
build_lt b zero g h = rw (pow-zero b) (omega arith)
build_lt b (suc m) g h =
    rw (pow-succ' b m) (omega (arith, digits_lt (build_lt b m (λ j. g (suc j)) (λ j. h (suc j))) (h 0), mul_comm b (b ^ m), mul_comm b (build b m (λ j. g (suc j)))))

-- in base 2 it has the bits that it is built from
build_bit : (m : ℕ) (g : ℕ → ℕ) → ((j : ℕ) → g j < 2) → (j : ℕ) → j < m → has (build 2 m g) j ≡ g j
unfolding build
build_bit zero g h j l = absurd (omega arith)
build_bit (suc m) g h zero l = has_zero _ ∙ omega (arith, h 0)
build_bit (suc m) g h (suc j) l =
    let half : (g 0 + 2 * build 2 m (λ j. g (suc j))) / 2 ≡ build 2 m (λ j. g (suc j)) = omega (arith, h 0) in
    has_next _ j ∙ ap (λ (x : ℕ). has x j) half ∙ build_bit m (λ j. g (suc j)) (λ j. h (suc j)) j (omega arith)

-- in base 4 it has the literals of its digits
build_digit : (m : ℕ) (g : ℕ → ℕ) → ((j : ℕ) → g j < 4) → (j : ℕ) → j < m
    → (has (build 4 m g) (2 * j) ≡ g j % 2) × (has (build 4 m g) (suc (2 * j)) ≡ g j / 2)
unfolding build
build_digit zero g h j l = absurd (omega arith)
build_digit (suc m) g h zero l = (has_zero _ ∙ omega (arith, h 0), has_next _ 0 ∙ has_zero _ ∙ omega (arith, h 0))
build_digit (suc m) g h (suc j) l =
    let quarter : (g 0 + 4 * build 4 m (λ j. g (suc j))) / 2 / 2 ≡ build 4 m (λ j. g (suc j)) = omega (arith, h 0) in
    let even : 2 * suc j ≡ suc (suc (2 * j)) = omega arith in
    let odd : suc (2 * suc j) ≡ suc (suc (suc (2 * j))) = omega arith in
    let (e, o) = build_digit m (λ j. g (suc j)) (λ j. h (suc j)) j (omega arith) in (
      ap (has _) even ∙ has_next _ _ ∙ has_next _ _ ∙ ap (λ (x : ℕ). has x (2 * j)) quarter ∙ e,
      ap (has _) odd ∙ has_next _ _ ∙ has_next _ _ ∙ ap (λ (x : ℕ). has x (suc (2 * j))) quarter ∙ o,
    )

-- the set of a phrase's pairs is one of 64
pub pairs_lt : (p : ℕ) → pairs_of p < 64
unfolding pairs_of
pairs_lt p = build_lt 2 6 _ (λ j. omega (arith, has_lt p (2 * j)))

-- and has a bit where the phrase has both literals
pub pairs_has : (p j : ℕ) → j < 6 → has (pairs_of p) j ≡ min (has p (2 * j)) (has p (suc (2 * j)))
unfolding pairs_of
pairs_has p = build_bit 6 _ (λ j. omega (arith, has_lt p (2 * j)))

point_digit : (P x j : ℕ) → max (has P j) (1 - has x j) + 2 * max (has P j) (has x j) < 4
point_digit P x j = omega (arith, has_lt P j, has_lt x j)

-- a point is a code of six variables
pub point_lt : (P x : ℕ) → point P x < 4096
unfolding point
point_lt P x = build_lt 4 6 _ (point_digit P x)

-- which has ~x at a pair and where the point has no bit
pub point_even : (P x j : ℕ) → j < 6 → has (point P x) (2 * j) ≡ max (has P j) (1 - has x j)
unfolding point
point_even P x j l = (build_digit 6 _ (point_digit P x) j l).0 ∙ omega (arith, has_lt P j, has_lt x j)

-- and x at a pair and where it has one
pub point_odd : (P x j : ℕ) → j < 6 → has (point P x) (suc (2 * j)) ≡ max (has P j) (has x j)
unfolding point
point_odd P x j l = (build_digit 6 _ (point_digit P x) j l).1 ∙ omega (arith, has_lt P j, has_lt x j)

-- to have all literals is to have both of each variable
pub by_variable : (c q : ℕ) → ((j : ℕ) → j < 6 → (has q (2 * j) ≤ has c (2 * j)) × (has q (suc (2 * j)) ≤ has c (suc (2 * j)))) → Subsumes 6 c q
by_variable c q h k l = at (parity k)
  where
    at : ((j : ℕ) × (k ≡ 2 * j)) ⊎ ((j : ℕ) × (k ≡ suc (2 * j))) → has q k ≤ has c k
    at (inl (j, e)) = rw e (h j (omega arith)).0
    at (inr (j, e)) = rw e (h j (omega arith)).1

-- a full code has a literal of each variable
full_has : (c : ℕ) → Full 6 c → (j : ℕ) → j < 6 → 1 ≤ has c (2 * j) + has c (suc (2 * j))
full_has c f j l = at (ℕ_discrete (c / 4 ^ j % 4) 0)
  where
    at : Dec (c / 4 ^ j % 4 ≡ 0) → 1 ≤ has c (2 * j) + has c (suc (2 * j))
    at (yes e) = absurd (f (rw e at (digit_in 4 6 c j l)))
    at (no d) = omega (arith, digit c j)

-- a digit of a number is worth some power of the base
digits_at : (b n c : ℕ) {d : ℕ} → Memᴰ d (digits b n c) → (j : ℕ) × (j < n) × (d ≡ c / b ^ j % b)
unfolding digits
digits_at b zero c m = absurd (Memᴰ.not-nil m)
digits_at b (suc n) c m =
    ⊎_elim (λ e. (n, omega arith, e)) (λ m'. let (j, l, e) = digits_at b n c m' in (j, omega arith, e)) (Memᴰ.cases_cons m)

-- a point is a full code
pub point_full : (P x : ℕ) → Full 6 (point P x)
point_full P x m =
    let (j, l, e) = digits_at 4 6 (point P x) m in
    omega (arith, digit (point P x) j, point_even P x j l, point_odd P x j l, has_lt P j, has_lt x j)

-- sets of pairs with the same bits are the same
same_pairs : (P Q : ℕ) → P < 64 → Q < 64 → ((j : ℕ) → j < 6 → has P j ≡ has Q j) → P ≡ Q
same_pairs = same_literals 3

-- a phrase without pairs is simple
pub no_pairs : (n p : ℕ) → n ≤ 6 → pairs_of p ≡ 0 → Simple n p
no_pairs n p few none m =
    let (j, l, e) = digits_at 4 n p m in
    let zero_there : has (pairs_of p) j ≡ 0 = rw none (has_none 0 j (pow_pos j)) in
    omega (arith, digit p j, pairs_has p j (omega arith), has_lt p (2 * j), has_lt p (suc (2 * j)))

-- and a simple code subsumes no other
pub simple_pairs : (c p : ℕ) → Simple 6 c → Subsumes 6 c p → pairs_of p ≡ 0
simple_pairs c p simple sub = same_pairs (pairs_of p) 0 (pairs_lt p) (omega arith) (λ j l. at j l (ℕ_discrete (has (pairs_of p) j) 0) ∙ sym (has_none 0 j (pow_pos j)))
  where
    at : (j : ℕ) → j < 6 → Dec (has (pairs_of p) j ≡ 0) → has (pairs_of p) j ≡ 0
    at j l (yes e) = e
    at j l (no d) =
        let three : c / 4 ^ j % 4 ≡ 3 =
        omega (arith, digit c j, pairs_has p j l, sub (2 * j) (omega arith), sub (suc (2 * j)) (omega arith), has_lt p (2 * j), has_lt p (suc (2 * j)), has_lt c (2 * j), has_lt c (suc (2 * j))) in
        absurd (simple (rw three at (digit_in 4 6 c j l)))

-- a point that a phrase agrees with has no bit for its pairs
pub agrees_clear : (q x : ℕ) → Agrees q x → Clear (pairs_of q) x
agrees_clear q x a j l = omega (arith, pairs_has q j l, (a j l).0, has_lt q (2 * j))

-- a phrase is within the points of its pairs that it agrees with
pub agrees_within : (q x : ℕ) → Agrees q x → Subsumes 6 (point (pairs_of q) x) q
agrees_within q x a = by_variable (point (pairs_of q) x) q (λ j l. (
  omega (arith, point_even (pairs_of q) x j l, (a j l).0, has_lt q (2 * j)),
  omega (arith, point_odd (pairs_of q) x j l, pairs_has q j l, (a j l).1, has_lt q (2 * j), has_lt q (suc (2 * j))),
))

-- and it agrees with the points of its pairs that it is within
pub within_agrees : (q x : ℕ) → Clear (pairs_of q) x → Subsumes 6 (point (pairs_of q) x) q → Agrees q x
within_agrees q x clear sub j l = (
  omega (arith, point_even (pairs_of q) x j l, pairs_has q j l, sub (2 * j) (omega arith), clear j l, has_lt q (2 * j), has_lt x j),
  omega (arith, point_odd (pairs_of q) x j l, pairs_has q j l, sub (suc (2 * j)) (omega arith), has_lt q (2 * j), has_lt x j),
)

-- a phrase within a point has no pairs but the point's
pub within_pairs : (q P x : ℕ) → Subsumes 6 (point P x) q → (j : ℕ) → j < 6 → has (pairs_of q) j ≤ has P j
within_pairs q P x sub j l =
    omega (arith, point_even P x j l, point_odd P x j l, pairs_has q j l, sub (2 * j) (omega arith), sub (suc (2 * j)) (omega arith), has_lt x j)

-- some phrase is within a point where one with other pairs is, or one with its pairs agrees with it
pub reaches : (L : List ℕ) (P x : ℕ) → Clear P x → Within 6 L (point P x) ↔ (Fewer L P x ⊎ Own L P x)
reaches L P x clear = (λ (q, m, s). at q m s (ℕ_discrete (pairs_of q) P), ⊎_elim (λ (q, m, s, d). (q, m, s)) (λ (q, m, e, a). (q, m, rw e at (agrees_within q x a))))
  where
    at : (q : ℕ) → Memᴰ q L → Subsumes 6 (point P x) q → Dec (pairs_of q ≡ P) → Fewer L P x ⊎ Own L P x
    at q m s (yes e) = inr (q, m, e, within_agrees q x (rw e clear) (rw e s))
    at q m s (no d) = inl (q, m, s, d)

-- whether a phrase is within the point with a pair less, that variable complemented or plain
abbrev pub Halved : List ℕ → ℕ → ℕ → ℕ → Type 0
Halved L P x k = Within 6 L (point (less P k) x) ⊎ Within 6 L (point (less P k) (x + 2 ^ k))

-- a phrase with other pairs is within a point exactly when one is within a point with a pair less
pub fewer_splits : (L : List ℕ) (P x : ℕ) → P < 64 → Clear P x → Fewer L P x ↔ ((k : ℕ) × (k < 6) × (has P k ≡ 1) × Halved L P x k)
fewer_splits L P x few clear = (λ (q, m, s, d). to q m s d (subsumes_or_lacks 3 (pairs_of q) P), from)
  where
    to : (q : ℕ) → Memᴰ q L → Subsumes 6 (point P x) q → pairs_of q ≢ P
        → Subsumes 3 (pairs_of q) P ⊎ ((k : ℕ) × (k < 6) × (has (pairs_of q) k < has P k)) → (k : ℕ) × (k < 6) × (has P k ≡ 1) × Halved L P x k
    to q m s d (inl all) =
        absurd (d (same_pairs (pairs_of q) P (pairs_lt q) few (λ j l. omega (arith, all j l, within_pairs q P x s j l))))
    to q m s d (inr (k, lk, lacks)) = (k, lk, one, at (ℕ_discrete (has q (suc (2 * k))) 0))
      where
        one : has P k ≡ 1
        one = omega (arith, has_lt P k)

        none : has x k ≡ 0
        none = omega (arith, clear k lk)

        other : (y j : ℕ) → j < 6 → j ≢ k → has y j ≡ has x j
            → (has q (2 * j) ≤ has (point (less P k) y) (2 * j)) × (has q (suc (2 * j)) ≤ has (point (less P k) y) (suc (2 * j)))
        other y j l ne same =
            rw (point_even (less P k) y j l, point_odd (less P k) y j l, less_others P k j one ne, same, ← (point_even P x j l), ← (point_odd P x j l))
            (s (2 * j) (omega arith), s (suc (2 * j)) (omega arith))

        at : Dec (has q (suc (2 * k)) ≡ 0) → Halved L P x k
        at (yes z) = inl (q, m, by_variable (point (less P k) x) q (λ j l. each j l (ℕ_discrete j k)))
          where
            each : (j : ℕ) → j < 6 → Dec (j ≡ k)
                → (has q (2 * j) ≤ has (point (less P k) x) (2 * j)) × (has q (suc (2 * j)) ≤ has (point (less P k) x) (suc (2 * j)))
            each j l (yes e) = rw e (omega (arith, point_even (less P k) x k lk, none, has_lt q (2 * k)), omega (arith, z))
            each j l (no ne) = other x j l ne refl
        at (no nz) = inr (q, m, by_variable (point (less P k) (x + 2 ^ k)) q (λ j l. each j l (ℕ_discrete j k)))
          where
            each : (j : ℕ) → j < 6 → Dec (j ≡ k)
                → (has q (2 * j) ≤ has (point (less P k) (x + 2 ^ k)) (2 * j)) × (has q (suc (2 * j)) ≤ has (point (less P k) (x + 2 ^ k)) (suc (2 * j)))
            each j l (yes e) = rw e (
              omega (arith, pairs_has q k lk, has_lt q (2 * k), has_lt q (suc (2 * k)), has_lt P k),
              omega (arith, point_odd (less P k) (x + 2 ^ k) k lk, more_has x k none, has_lt q (suc (2 * k))),
            )
            each j l (no ne) = other (x + 2 ^ k) j l ne (more_others x k j none ne)

    from : (k : ℕ) × (k < 6) × (has P k ≡ 1) × Halved L P x k → Fewer L P x
    from (k, lk, one, h) = ⊎_elim (λ (q, m, s). back q m x s (λ j l ne. refl)) (λ (q, m, s). back q m (x + 2 ^ k) s (λ j l ne. more_others x k j (omega (arith, clear k lk)) ne)) h
      where
        back : (q : ℕ) → Memᴰ q L → (y : ℕ) → Subsumes 6 (point (less P k) y) q → ((j : ℕ) → j < 6 → j ≢ k → has y j ≡ has x j) → Fewer L P x
        back q m y s same = (q, m, by_variable (point P x) q (λ j l. each j l (ℕ_discrete j k)), other)
          where
            each : (j : ℕ) → j < 6 → Dec (j ≡ k)
                → (has q (2 * j) ≤ has (point P x) (2 * j)) × (has q (suc (2 * j)) ≤ has (point P x) (suc (2 * j)))
            each j l (yes e) = rw e (
              omega (arith, point_even P x k lk, has_lt q (2 * k)),
              omega (arith, point_odd P x k lk, has_lt q (suc (2 * k))),
            )
            each j l (no ne) =
                rw (point_even P x j l, point_odd P x j l, ← (less_others P k j one ne), ← (same j l ne), ← (point_even (less P k) y j l), ← (point_odd (less P k) y j l))
                (s (2 * j) (omega arith), s (suc (2 * j)) (omega arith))

            other : pairs_of q ≢ P
            other e = omega (arith, within_pairs q (less P k) y s k lk, less_has P k one, ap (λ (c : ℕ). has c k) e)

-- some phrase is within each full code that subsumes an implicant
pub full_within : (L : List ℕ) (p c : ℕ) → Full 6 c → Subsumes 6 c p → Implicant 6 (sheet_fn 6 L) p → Within 6 L c
full_within L p c f s i = (full 6 L c f).0 (implicant_up 6 (sheet_fn 6 L) c p s i)

-- a phrase with pairs is an implicant exactly when at each point that it agrees with some phrase is within
pub criterion : (L : List ℕ) (p : ℕ) → pairs_of p ≢ 0
    → Implicant 6 (sheet_fn 6 L) p ↔ ((x : ℕ) → x < 64 → Agrees p x → Within 6 L (point (pairs_of p) x))
criterion L p some = (λ i x l a. full_within L p (point P x) (point_full P x) (agrees_within p x a) i, λ h. at h (known (implicant? 6 (sheet_fn 6 L) p)))
  where
    P : ℕ
    P = pairs_of p

    none : ((x : ℕ) → x < 64 → Agrees p x → Within 6 L (point P x)) → ¬ ((c : ℕ) × (c < 4 ^ 6) × (Simple 6 c ⊎ Full 6 c) × (¬ Within 6 L c) × Subsumes 6 c p)
    none h (c, lc, kind, free, s) = ⊎_elim (λ (simple : Simple 6 c). some (simple_pairs c p simple s)) down kind
      where
        bit : ℕ → ℕ
        bit j = min (1 - min (has p (2 * j)) (has p (suc (2 * j)))) (max (has p (suc (2 * j))) (1 - has c (2 * j)))

        bit_lt : (j : ℕ) → bit j < 2
        bit_lt j = omega (arith, has_lt p (2 * j))

        x : ℕ
        x = build 2 6 bit

        bit_at : (j : ℕ) → j < 6 → has x j ≡ bit j
        bit_at = build_bit 6 bit bit_lt

        down : Full 6 c → ⊥
        down f = free (w.0, w.1, subsumes_trans 6 c (point P x) w.0 under w.2)
          where
            agrees : Agrees p x
            agrees j l = rw (bit_at j l) (
              omega (arith, has_lt p (2 * j), has_lt p (suc (2 * j)), s (2 * j) (omega arith), has_lt c (2 * j)),
              omega (arith, has_lt p (2 * j), has_lt p (suc (2 * j))),
            )

            w : Within 6 L (point P x)
            w = h x (build_lt 2 6 bit bit_lt) agrees

            under : Subsumes 6 c (point P x)
            under = by_variable c (point P x) (λ j l. rw (point_even P x j l, point_odd P x j l, bit_at j l, pairs_has p j l) (
              omega (arith, has_lt p (2 * j), has_lt p (suc (2 * j)), s (2 * j) (omega arith), s (suc (2 * j)) (omega arith), has_lt c (2 * j), full_has c f j l),
              omega (arith, has_lt p (2 * j), has_lt p (suc (2 * j)), s (2 * j) (omega arith), s (suc (2 * j)) (omega arith), has_lt c (2 * j), full_has c f j l),
            ))

    at : ((x : ℕ) → x < 64 → Agrees p x → Within 6 L (point P x)) → (implicant? 6 (sheet_fn 6 L) p ≡ true) ⊎ (implicant? 6 (sheet_fn 6 L) p ≡ false)
        → Implicant 6 (sheet_fn 6 L) p
    at h (inl y) = (decided 6 (sheet_fn 6 L) (L, λ s t v g. refl) p).0 y
    at h (inr n) = absurd (none h ((outside 6 L p).0 ((refused 6 (sheet_fn 6 L) (L, λ s t v g. refl) p).0 n)))
