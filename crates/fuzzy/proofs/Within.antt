-- What the sheets of a join, a meet and a complement have within a code: or, and, and not of the code exchanged.
-- A phrase of a meet has the literals of a phrase of each sheet; a phrase of a complement has one complemented
-- literal of each phrase, so that one is within c exactly when c, exchanged, lacks a literal of each.
--   Within n F c           some phrase of F is within c
--   meet_sheet A B         all unions of a phrase of each
--   flip k                 the literal that complements literal k
--   neg_phrase n p         the complements of the phrase's literals, one by one
--   complement_sheet n F   the meet of the phrases' complements
--   exchange n c           c with its digits 0 and 3 exchanged
use mathlib.Core.Path.{◌≡◌, refl, sym, ap, ◌∙◌}
use mathlib.Core.Bool.{Bool}
use mathlib.Core.Logic.Iff
use mathlib.Core.Logic.{◌⊎◌, inl, inr, ◌↔◌, ⊎_elim}
use mathlib.Core.List.Memᴰ
use mathlib.Core.List.{List, [], ◌∷◌, ◌++◌, map, head-eq_of_cons-eq, tail-eq_of_cons-eq, Memᴰ}
use Prim.Native.Nat.{ℕ, zero, suc, ◌-◌, ◌*◌, ◌/◌, ◌%◌, ◌^◌, ◌<◌}
use native.Mathlib.Nat.{eq-or-lt_of_le, eq-zero-or-pos, le_of_suc-le-suc}
use native.Mathlib.Omega.{arith}
use lib.Bits.{bit_or}
use lib.Dec.{eqb}
use lib.ListN.{length, length-map}
use Rattle.fuzzy.specs.Phrase.{digits, has, Subsumes}
use Rattle.fuzzy.specs.Primes.{select}
use Rattle.fuzzy.proofs.Search.{eqb_eq, eq-eqb, select_member}
use Rattle.fuzzy.proofs.Digits.{number, Below, digits_length, digits_below, number_lt, digits_number}
use Rattle.fuzzy.proofs.Literals.{has_lt, digit_complement, digit_plain}
use Rattle.fuzzy.proofs.Subsumes.{subsumes_union, subsumes_empty, subsumes_one, subsumes_or_lacks}

-- some phrase of F is within c
abbrev pub Within : ℕ → List ℕ → ℕ → Type 0
Within n F c = (q : ℕ) × Memᴰ q F × Subsumes n c q

-- all unions of a phrase of each
unfoldable pub meet_sheet : List ℕ → List ℕ → List ℕ
meet_sheet [] B = []
meet_sheet (a ∷ A) B = map (bit_or a) B ++ meet_sheet A B

-- the literal that complements literal k: 2j for 2j + 1, and 2j + 1 for 2j
unfoldable pub flip : ℕ → ℕ
flip k = suc k - 2 * (k % 2)

-- the complements of the phrase's literals, one by one
unfoldable pub neg_phrase : ℕ → ℕ → List ℕ
neg_phrase n p = map (λ k. 2 ^ flip k) (select (λ k. eqb (has p k) 1) 0 (2 * n))

-- the meet of the phrases' complements
unfoldable pub complement_sheet : ℕ → List ℕ → List ℕ
complement_sheet n [] = 0 ∷ []
complement_sheet n (p ∷ F) = meet_sheet (neg_phrase n p) (complement_sheet n F)

-- the digit 0 for 3 and 3 for 0
unfoldable pub swap : ℕ → ℕ
swap zero = 3
swap (suc zero) = 1
swap (suc (suc zero)) = 2
swap (suc (suc (suc d))) = 0

-- c with its digits 0 and 3 exchanged
unfoldable pub exchange : ℕ → ℕ → ℕ
exchange n c = number 4 (map swap (digits 4 n c))

-- the sheet of code 0 has a phrase within every code
pub within_one : (n c : ℕ) → Within n (0 ∷ []) c
within_one n c = (0, Memᴰ.head refl, subsumes_empty n c)

-- some phrase of two sheets together is within c exactly when one of either is
pub within_join : (n : ℕ) (A B : List ℕ) (c : ℕ) → Within n (A ++ B) c ↔ (Within n A c ⊎ Within n B c)
within_join n A B c = (λ w. to w (Memᴰ.append_cases A w.1), from)
  where
    to : (w : Within n (A ++ B) c) → Memᴰ w.0 A ⊎ Memᴰ w.0 B → Within n A c ⊎ Within n B c
    to w (inl m) = inl (w.0, m, w.2)
    to w (inr m) = inr (w.0, m, w.2)

    from : Within n A c ⊎ Within n B c → Within n (A ++ B) c
    from (inl w) = (w.0, Memᴰ.append_left B w.1, w.2)
    from (inr w) = (w.0, Memᴰ.append_right A w.1, w.2)

-- r is the union of a phrase of each
abbrev pub Union : List ℕ → List ℕ → ℕ → Type 0
Union A B r = (a : ℕ) × (b : ℕ) × Memᴰ a A × Memᴰ b B × (r ≡ bit_or a b)

-- the phrases of a meet are the unions of a phrase of each
pub meet_member : (A B : List ℕ) (r : ℕ) → Memᴰ r (meet_sheet A B) ↔ Union A B r
unfolding meet_sheet
meet_member [] B r = (λ m. absurd (Memᴰ.not-nil m), λ h. absurd (Memᴰ.not-nil h.2))
meet_member (x ∷ A) B r = (
  λ m. to (meet_member A B r).0 (Memᴰ.append_cases (map (bit_or x) B) m),
  λ h. from (meet_member A B r).1 h (Memᴰ.cases_cons h.2),
)
  where
    to : (Memᴰ r (meet_sheet A B) → Union A B r)
        → Memᴰ r (map (bit_or x) B) ⊎ Memᴰ r (meet_sheet A B) → Union (x ∷ A) B r
    to ih (inl m) = let h = Memᴰ.of_map (bit_or x) B m in (x, h.0, Memᴰ.head refl, h.1, sym h.2)
    to ih (inr m) = let h = ih m in (h.0, h.1, Memᴰ.tail h.2, h.3, h.4)

    from : (Union A B r → Memᴰ r (meet_sheet A B))
        → (h : Union (x ∷ A) B r) → (h.0 ≡ x) ⊎ Memᴰ h.0 A → Memᴰ r (map (bit_or x) B ++ meet_sheet A B)
    from ih h (inl e) = Memᴰ.append_left (meet_sheet A B) (Memᴰ.cast (h.4 ∙ ap (λ a. bit_or a h.1) e) (Memᴰ.map (bit_or x) h.3))
    from ih h (inr m) = Memᴰ.append_right (map (bit_or x) B) (ih (h.0, h.1, m, h.3, h.4))

-- some phrase of the meet is within c exactly when one of each sheet is
pub within_meet : (n : ℕ) (A B : List ℕ) (c : ℕ) → Within n (meet_sheet A B) c ↔ (Within n A c × Within n B c)
within_meet n A B c = (to, from)
  where
    to : Within n (meet_sheet A B) c → Within n A c × Within n B c
    to (r, m, h) =
        let (a, b, ma, mb, e) = (meet_member A B r).0 m in
        let (ha, hb) = (subsumes_union n c a b).0 (rw e at h) in
        ((a, ma, ha), (b, mb, hb))

    from : Within n A c × Within n B c → Within n (meet_sheet A B) c
    from ((a, ma, ha), (b, mb, hb)) =
        (bit_or a b, (meet_member A B (bit_or a b)).1 (a, b, ma, mb, refl), (subsumes_union n c a b).1 (ha, hb))

-- a digit, exchanged, has each literal whose complement the digit lacks
swap_literals : (d : ℕ) → d < 4 → (swap d < 4) × (swap d % 2 ≡ 1 - d / 2) × (swap d / 2 ≡ 1 - d % 2)
unfolding swap
swap_literals zero l = (omega arith, refl, refl)
swap_literals (suc zero) l = (omega arith, refl, refl)
swap_literals (suc (suc zero)) l = (omega arith, refl, refl)
swap_literals (suc (suc (suc d))) l = omega arith

-- the digit worth 4 ^ j of a number whose digits come from another's
digit_map : (f : ℕ → ℕ) (n x c j : ℕ) → digits 4 n x ≡ map f (digits 4 n c) → j < n → x / 4 ^ j % 4 ≡ f (c / 4 ^ j % 4)
unfolding digits
digit_map f zero x c j e l = absurd (omega arith)
digit_map f (suc n) x c j e l =
    ⊎_elim (λ e'. rw e' (head-eq_of_cons-eq e)) (λ l'. digit_map f n x c j (tail-eq_of_cons-eq e) l') (eq-or-lt_of_le (le_of_suc-le-suc l))

module _ (n c : ℕ) where
  swap_below : Below 4 (map swap (digits 4 n c))
  swap_below d m =
      let (a, ma, e) = Memᴰ.of_map swap (digits 4 n c) m in
      rw (← e) (swap_literals a (digits_below 4 (omega arith) n c a ma)).0

  swap_length : length (map swap (digits 4 n c)) ≡ n
  swap_length = length-map (digits 4 n c) swap ∙ digits_length 4 (omega arith) n c

  -- an exchanged code is below 4 ^ n
  pub exchange_lt : exchange n c < 4 ^ n
  unfolding exchange
  exchange_lt = rw swap_length at (number_lt 4 (omega arith) (map swap (digits 4 n c)) swap_below)

  exchange_digits : digits 4 n (exchange n c) ≡ map swap (digits 4 n c)
  unfolding exchange
  exchange_digits = rw swap_length at (digits_number 4 (omega arith) (map swap (digits 4 n c)) swap_below)

  -- an exchanged code has ~x exactly where c lacks x
  pub exchange_complement : (j : ℕ) → j < n → has (exchange n c) (2 * j) ≡ 1 - has c (suc (2 * j))
  exchange_complement j l =
      rw (← digit_complement (exchange n c) j, ← digit_plain c j, digit_map swap n (exchange n c) c j exchange_digits l)
      (swap_literals (c / 4 ^ j % 4) (omega arith)).1

  -- and x exactly where c lacks ~x
  pub exchange_plain : (j : ℕ) → j < n → has (exchange n c) (suc (2 * j)) ≡ 1 - has c (2 * j)
  exchange_plain j l =
      rw (← digit_plain (exchange n c) j, ← digit_complement c j, digit_map swap n (exchange n c) c j exchange_digits l)
      (swap_literals (c / 4 ^ j % 4) (omega arith)).2

  -- it has exactly the literals whose complements c lacks
  pub exchange_flip : (k : ℕ) → k < 2 * n → has (exchange n c) k ≡ 1 - has c (flip k)
  unfolding flip
  exchange_flip k l = ⊎_elim even odd (eq-zero-or-pos (k % 2))
    where
      even : k % 2 ≡ 0 → has (exchange n c) k ≡ 1 - has c (flip k)
      even e =
          let j : k ≡ 2 * (k / 2) = omega arith in
          let f : suc (2 * (k / 2)) ≡ flip k = omega arith in
          ap (has (exchange n c)) j ∙ exchange_complement (k / 2) (omega arith) ∙ ap (λ m. 1 - has c m) f

      odd : 0 < k % 2 → has (exchange n c) k ≡ 1 - has c (flip k)
      odd z =
          let j : k ≡ suc (2 * (k / 2)) = omega arith in
          let f : 2 * (k / 2) ≡ flip k = omega arith in
          ap (has (exchange n c)) j ∙ exchange_plain (k / 2) (omega arith) ∙ ap (λ m. 1 - has c m) f

-- the complement of a literal of n variables is a literal of n variables
pub flip_lt : (n k : ℕ) → k < 2 * n → flip k < 2 * n
unfolding flip
flip_lt n k l = omega arith

-- q is the complement of a literal of p
abbrev pub Complement : ℕ → ℕ → ℕ → Type 0
Complement n p q = (k : ℕ) × (k < 2 * n) × (has p k ≡ 1) × (q ≡ 2 ^ flip k)

-- the phrases of a phrase's complement are the complements of its literals
pub neg_member : (n p q : ℕ) → Memᴰ q (neg_phrase n p) ↔ Complement n p q
unfolding neg_phrase
neg_member n p q = (to, from)
  where
    has? : ℕ → Bool
    has? k = eqb (has p k) 1

    to : Memᴰ q (neg_phrase n p) → Complement n p q
    to m =
        let (k, mk, e) = Memᴰ.of_map (λ k. 2 ^ flip k) (select has? 0 (2 * n)) m in
        let (z, l, h) = (select_member has? (2 * n) 0 k).0 mk in
        (k, omega arith, eqb_eq (has p k) 1 h, sym e)

    from : Complement n p q → Memᴰ q (neg_phrase n p)
    from (k, l, h, e) =
        let mk = (select_member has? (2 * n) 0 k).1 (omega arith, omega arith, eq-eqb (has p k) 1 h) in
        Memᴰ.cast e (Memᴰ.map (λ k. 2 ^ flip k) mk)

-- some complemented literal is within c exactly when the phrase is not within c, exchanged
within_neg : (n p c : ℕ) → Within n (neg_phrase n p) c ↔ ¬ Subsumes n (exchange n c) p
within_neg n p c = (to, from)
  where
    to : Within n (neg_phrase n p) c → ¬ Subsumes n (exchange n c) p
    to (q, m, h) s =
        let (k, l, e, eq) = (neg_member n p q).0 m in
        let one : has c (flip k) ≡ 1 = (subsumes_one n c (flip k) (flip_lt n k l)).0 (rw eq at h) in
        omega (arith, s k l, exchange_flip n c k l)

    from : ¬ Subsumes n (exchange n c) p → Within n (neg_phrase n p) c
    from out = at (subsumes_or_lacks n (exchange n c) p)
      where
        at : Subsumes n (exchange n c) p ⊎ ((k : ℕ) × (k < 2 * n) × (has (exchange n c) k < has p k)) → Within n (neg_phrase n p) c
        at (inl h) = absurd (out h)
        at (inr (k, l, h)) =
            let one : (has p k ≡ 1) × (has c (flip k) ≡ 1) = omega (arith, exchange_flip n c k l, has_lt p k, has_lt c (flip k)) in
            (2 ^ flip k, (neg_member n p (2 ^ flip k)).1 (k, l, one.0, refl), (subsumes_one n c (flip k) (flip_lt n k l)).1 one.1)

-- some phrase of the complement is within c exactly when none of the sheet is within c, exchanged
pub within_complement : (n : ℕ) (F : List ℕ) (c : ℕ) → Within n (complement_sheet n F) c ↔ ¬ Within n F (exchange n c)
unfolding complement_sheet
within_complement n [] c = (λ w v. Memᴰ.not-nil v.1, λ none. within_one n c)
within_complement n (p ∷ F) c =
    Iff.trans (within_meet n (neg_phrase n p) (complement_sheet n F) c)
    (Iff.trans (Iff.and (within_neg n p c) (within_complement n F c)) (to, from))
  where
    to : (¬ Subsumes n (exchange n c) p) × (¬ Within n F (exchange n c)) → ¬ Within n (p ∷ F) (exchange n c)
    to (out, none) (q, m, h) = ⊎_elim (λ e. out (rw e at h)) (λ m'. none (q, m', h)) (Memᴰ.cases_cons m)

    from : ¬ Within n (p ∷ F) (exchange n c) → (¬ Subsumes n (exchange n c) p) × (¬ Within n F (exchange n c))
    from none = (λ h. none (p, Memᴰ.head refl, h), λ w. none (w.0, Memᴰ.tail w.1, w.2))
