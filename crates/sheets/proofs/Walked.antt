-- The walk over marks leaves the marks of the cover, and the flags say what it left.
-- What is left is kept as marks. Leaving a mark out is `without` (`marks_without`). The loops run over the primes from the last to the first, once for
-- each number of literals: `ahead` is what they have yet to meet.
use mathlib.Core.Path.{◌≡◌, refl, sym, ap, ◌∙◌}
use mathlib.Core.Bool.{Bool, true, false, cond, not, ◌&&◌, false≢true}
use mathlib.Core.Logic.Iff
use mathlib.Core.Logic.{◌⊎◌, inl, inr, ◌↔◌, ◌≢◌, ⊎_elim}
use mathlib.Core.List.{List, [], ◌∷◌, ◌++◌, map, reverse, reverse-append, append_assoc}
use mathlib.Core.List.Memᴰ
use mathlib.Core.List.{Memᴰ}
use Prim.Native.Nat.{ℕ, zero, suc, ◌+◌, ◌^◌, ◌≤◌, ◌<◌}
use native.Mathlib.Nat.{lt_of_lt_of_le, pow-le-pow_right}
use native.Mathlib.Omega.{arith}
use borrow.Author.Tests.{ne_eqb}
use lib.Count.{ones}
use lib.Dec.{eqb}
use lib.ListN.{length, get_or, take}
use Rattle.std.proofs.lemmas.List.{get_or-take, length-take-le}
use lib.Seq.{take-length, take-suc}
use Rattle.fuzzy.specs.Phrase.{literals, Simple}
use Rattle.fuzzy.specs.Function.{Fn, sheet_fn, OfSheet}
use Rattle.fuzzy.specs.Vector.{implicant?}
use Rattle.fuzzy.specs.Primes.{select, primes, Rising}
use Rattle.fuzzy.specs.Cover.{those, without, is_one_of, walk, strike, cover, flags}
use Rattle.fuzzy.proofs.Search.{known, both, both_first, both_second, eqb_eq, eq-eqb, eqb_ne, select_member, select_same, those_member, without_member, one_of}
use Rattle.fuzzy.proofs.Literals.{literals_ones}
use Rattle.fuzzy.proofs.Order.{at_member, member_at, reverse_member}
use Rattle.fuzzy.proofs.Walk.{rounds_member}
use Rattle.fuzzy.proofs.Decide.{decided}
use Rattle.fuzzy.proofs.List.{in_primes, exactly}
use Rattle.fuzzy.proofs.Fast.{simple}
use Rattle.fuzzy.proofs.Wider.{same_truth}
use Rattle.std.proofs.lemmas.List.{get_or-map}
use Rattle.rows.proofs.Stage.{square_lt}
use Rattle.rows.specs.Square.{square, Marked}
use Rattle.rows.specs.Pass.{Removed}
use Rattle.rows.specs.Read.{is_marked, marks_of}
use Rattle.sheets.specs.Walk.{ahead}

-- the marked codes are the members of their list
pub marks_member : (m : List ℕ) (c : ℕ) → Memᴰ c (marks_of m 4096) ↔ Marked m c
marks_member m c = (
  λ h. let (a, b, y) = held.0 h in (omega arith, eqb_eq (square m c) 1 y),
  λ (l, e). held.1 (omega arith, omega arith, eq-eqb (square m c) 1 e),
)
  where
    held : Memᴰ c (marks_of m 4096) ↔ ((0 ≤ c) × (c < 0 + 4096) × (is_marked m c ≡ true))
    held = select_member (is_marked m) 4096 0 c

-- a choice from what was chosen is the choice by both tests
pub those_select : (u t : ℕ → Bool) (m k : ℕ) → those u (select t k m) ≡ select (λ c. t c && u c) k m
unfolding those select
those_select u t zero k = refl
those_select u t (suc m) k = rw (← those_select u t m (suc k)) (at (t k))
  where
    at : (b : Bool) → those u (cond b (k ∷ []) [] ++ select t (suc k) m) ≡ cond (b && u k) (k ∷ []) [] ++ those u (select t (suc k) m)
    at true = refl
    at false = refl

-- leaving a mark out leaves its code out of the list
pub marks_without : (m r : List ℕ) (p : ℕ) → Removed m p r → marks_of r 4096 ≡ without p (marks_of m 4096)
unfolding without
marks_without m r p is =
    select_same (is_marked r) (λ c. is_marked m c && not (eqb c p)) 4096 0 (λ c l. same c (omega arith))
    ∙ sym (those_select (λ q. not (eqb q p)) (is_marked m) 4096 0)
  where
    other : (c : ℕ) (b : Bool) → eqb c p ≡ b → (not b ≡ true) ↔ (c ≢ p)
    other c true y = (λ e. absurd (false≢true e), λ d. absurd (d (eqb_eq c p y)))
    other c false y = (λ e. eqb_ne c p y, λ d. refl)

    same : (c : ℕ) → c < 4096 → is_marked r c ≡ is_marked m c && not (eqb c p)
    same c l = same_truth (is_marked r c) (is_marked m c && not (eqb c p)) (
      λ y. let ((lc, e), d) = (is c l).0 (l, eqb_eq (square r c) 1 y) in both (eq-eqb (square m c) 1 e) ((other c (eqb c p) refl).1 d),
      λ y. eq-eqb (square r c) 1 ((is c l).1 (
        (l, eqb_eq (square m c) 1 (both_first (is_marked m c) (not (eqb c p)) y)),
        (other c (eqb c p) refl).0 (both_second (is_marked m c) (not (eqb c p)) y),
      )).1,
    )

-- a simple prime is never struck: what is left without it has no phrase within it
pub simple_stays : (n : ℕ) (f : Fn) → OfSheet n f → (p : ℕ) (left : List ℕ) → Memᴰ p (primes n f)
    → ((q : ℕ) → Memᴰ q left → Memᴰ q (primes n f)) → Simple n p → implicant? n (sheet_fn n (without p left)) p ≡ false
simple_stays n f o p left prime among plain = at (known (implicant? n (sheet_fn n W) p))
  where
    W : List ℕ
    W = without p left

    at : (implicant? n (sheet_fn n W) p ≡ true) ⊎ (implicant? n (sheet_fn n W) p ≡ false) → implicant? n (sheet_fn n W) p ≡ false
    at (inl y) =
        let (q, m, sub) = (simple n W p plain).0 ((decided n (sheet_fn n W) (W, λ s h v g. refl) p).0 y) in
        let (mq, other) = (without_member p q left).0 m in
        let (lq, r) = (exactly n f o q).0 (among q mq) in
        absurd (other (((exactly n f o p).0 prime).1.alone q lq r.implicant sub))
    at (inr y) = y

-- phrases met one after the other are met in two parts
pub strike_append : (n : ℕ) (xs ys left : List ℕ) → strike n (xs ++ ys) left ≡ strike n ys (strike n xs left)
unfolding strike
strike_append n [] ys left = refl
strike_append n (p ∷ xs) ys left = strike_append n xs ys (cond (implicant? n (sheet_fn n (without p left)) p) (without p left) left)

-- a phrase that the rest makes superfluous is struck
pub strike_struck : (n p : ℕ) (ps left : List ℕ) → implicant? n (sheet_fn n (without p left)) p ≡ true
    → strike n (p ∷ ps) left ≡ strike n ps (without p left)
unfolding strike
strike_struck n p ps left y = rw y

-- any other stays
pub strike_kept : (n p : ℕ) (ps left : List ℕ) → implicant? n (sheet_fn n (without p left)) p ≡ false → strike n (p ∷ ps) left ≡ strike n ps left
unfolding strike
strike_kept n p ps left y = rw y

-- a choice from two lists one after the other
those_append : (t : ℕ → Bool) (xs ys : List ℕ) → those t (xs ++ ys) ≡ those t xs ++ those t ys
unfolding those
those_append t [] ys = refl
those_append t (x ∷ xs) ys = rw (those_append t xs ys) (sym (append_assoc (cond (t x) (x ∷ []) []) (those t xs) (those t ys)))

-- one phrase more is met first
pub round_next : (t : ℕ → Bool) (ps : List ℕ) (i : ℕ) → i < length ps
    → reverse (those t (take (suc i) ps)) ≡ cond (t (get_or ps i 0)) (get_or ps i 0 ∷ []) [] ++ reverse (those t (take i ps))
unfolding those
round_next t ps i l =
    ap (λ (xs : List ℕ). reverse (those t xs)) (take-suc ps i 0 l) ∙ ap reverse (those_append t (take i ps) (get_or ps i 0 ∷ []))
    ∙ reverse-append (those t (take i ps)) (those t (get_or ps i 0 ∷ [])) ∙ at (t (get_or ps i 0))
  where
    at : (b : Bool) → reverse (cond b (get_or ps i 0 ∷ []) [] ++ []) ++ reverse (those t (take i ps))
        ≡ cond b (get_or ps i 0 ∷ []) [] ++ reverse (those t (take i ps))
    at true = refl
    at false = refl

module _ (n : ℕ) (ps : List ℕ) (k : ℕ) where
  -- at the end of a round those with fewer literals are ahead
  pub ahead_none : ahead n ps k 0 ≡ walk n k ps
  unfolding those
  ahead_none = refl

  -- at its start those with k literals are too
  pub ahead_all : ahead n ps k (length ps) ≡ walk n (suc k) ps
  unfolding walk
  ahead_all = ap (λ (xs : List ℕ). reverse (those (λ p. eqb (literals n p) k) xs) ++ walk n k ps) (take-length ps)

  -- a phrase with k literals is met next
  pub ahead_meets : (i : ℕ) → i < length ps → literals n (get_or ps i 0) ≡ k → ahead n ps k (suc i) ≡ get_or ps i 0 ∷ ahead n ps k i
  ahead_meets i l e = rw (round_next (λ p. eqb (literals n p) k) ps i l, eq-eqb (literals n (get_or ps i 0)) k e)

  -- any other is passed
  pub ahead_passes : (i : ℕ) → i < length ps → literals n (get_or ps i 0) ≢ k → ahead n ps k (suc i) ≡ ahead n ps k i
  ahead_passes i l d = rw (round_next (λ p. eqb (literals n p) k) ps i l, ne_eqb (literals n (get_or ps i 0)) k d)

-- a phrase is not ahead of itself
pub ahead_not : (n : ℕ) (ps : List ℕ) (k i : ℕ) → Rising ps → i < length ps → literals n (get_or ps i 0) ≡ k → ¬ Memᴰ (get_or ps i 0) (ahead n ps k i)
ahead_not n ps k i rising l e m = ⊎_elim same fewer (Memᴰ.append_cases (reverse among) m)
  where
    among : List ℕ
    among = those (λ p. eqb (literals n p) k) (take i ps)

    same : Memᴰ (get_or ps i 0) (reverse among) → ⊥
    same h =
        let (j, lj, is) = member_at ((those_member (λ p. eqb (literals n p) k) (take i ps) (get_or ps i 0)).0 ((reverse_member among (get_or ps i 0)).0 h)).0 in
        let few : j < i = omega (arith, length-take-le i ps (omega arith)) in
        omega (arith, rising j i few l, sym (get_or-take i ps j 0 few) ∙ is)

    fewer : Memᴰ (get_or ps i 0) (walk n k ps) → ⊥
    fewer h = omega (arith, ((rounds_member n ps k (get_or ps i 0)).0 h).1)

-- a prime is a phrase over n variables
pub prime_lt : (n : ℕ) (f : Fn) (i : ℕ) → i < length (primes n f) → get_or (primes n f) i 0 < 4 ^ n
prime_lt n f i l = ((in_primes n f (get_or (primes n f) i 0)).0 (at_member (primes n f) i l)).0

-- and has as many literals as its code has ones
pub prime_ones : (n : ℕ) (f : Fn) (i : ℕ) → i < length (primes n f) → literals n (get_or (primes n f) i 0) ≡ ones (get_or (primes n f) i 0)
prime_ones n f i l = literals_ones n (get_or (primes n f) i 0) (prime_lt n f i l)

-- a map acts at each index
map_at : (g : ℕ → ℕ) (ps : List ℕ) (i : ℕ) → i < length ps → get_or (map g ps) i 0 ≡ g (get_or ps i 0)
map_at g [] i h = absurd (omega arith)
map_at g (p ∷ ps) zero h = refl
map_at g (p ∷ ps) (suc i) h = map_at g ps i (omega arith)

-- a prime's flag is whether it is one of the cover
pub flags_at : (n : ℕ) (f : Fn) (i : ℕ) → i < length (primes n f)
    → get_or (flags n f) i 0 ≡ cond (is_one_of (get_or (primes n f) i 0) (cover n f)) 1 0
unfolding flags
flags_at n f i l = get_or-map (λ p. cond (is_one_of p (cover n f)) 1 0) (primes n f) i 0 0 l

module _ (n : ℕ) (f : Fn) (kept : List ℕ) (e : marks_of kept 4096 ≡ cover n f) where
  -- a code is one of the cover exactly when it is marked
  pub kept_marked : (c : ℕ) → (is_one_of c (cover n f) ≡ true) ↔ Marked kept c
  kept_marked c = Iff.trans (one_of c (cover n f)) (rw (← e) (marks_member kept c))

  -- so a prime's flag is its mark
  pub flags_square : n ≤ 6 → (i : ℕ) → i < length (primes n f) → get_or (flags n f) i 0 ≡ square kept (get_or (primes n f) i 0)
  flags_square few i l = flags_at n f i l ∙ at (is_one_of p (cover n f)) (kept_marked p)
    where
      p : ℕ
      p = get_or (primes n f) i 0

      six : p < 4096
      six = lt_of_lt_of_le (prime_lt n f i l) (pow-le-pow_right {n = 4} (omega arith) {j = 6} few)

      at : (b : Bool) → (b ≡ true) ↔ Marked kept p → cond b 1 0 ≡ square kept p
      at true h = sym (h.0 refl).1
      at false h = sym (low (square kept p) (square_lt kept p) (λ y. false≢true (h.1 (six, y))))
        where
          low : (x : ℕ) → x < 2 → x ≢ 1 → x ≡ 0
          low x b d = omega arith
