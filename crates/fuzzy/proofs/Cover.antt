-- The walk meets each prime once, those with more literals first.
-- The cover is made of primes, rising, keeps the function's value at all grades, and loses some of it without any one of its phrases.
-- A phrase is struck where it is never above the rest, so no value changes. A phrase that stays was met by the walk and kept: it was
-- above the rest at some vector of scale 2, and what the cover has besides it is part of that rest.
use mathlib.Core.Path.{◌≡◌, refl, sym, ap, ◌∙◌}
use mathlib.Core.Bool.{Bool, true, false, cond, not, false≢true}
use mathlib.Core.Logic.{◌⊎◌, inl, inr, ◌↔◌, ◌≢◌}
use mathlib.Core.List.Memᴰ
use mathlib.Core.List.{List, [], ◌∷◌, map, Memᴰ}
use Prim.Native.Nat.{ℕ, zero, suc, ◌*◌, ◌≤◌, ◌<◌}
use native.Mathlib.Nat.{le_trans, le_antisymm}
use native.Mathlib.Omega.{arith}
use lib.Dec.{eqb}
use lib.ListN.{length, get_or, length-map}
use Rattle.fuzzy.specs.Grade.{Grades, phrase_value, sheet_value}
use Rattle.fuzzy.specs.Function.{Fn, sheet_fn, Same, OfSheet}
use Rattle.fuzzy.specs.Vector.{vector, lowest, implicant?}
use Rattle.fuzzy.specs.Primes.{primes, InOrder, Rising}
use Rattle.fuzzy.specs.Cover.{without, is_one_of, walk, Before, strike, cover, flags}
use Rattle.fuzzy.proofs.Search.{known, eqb_eq, eqb_ne, without_member, one_of}
use Rattle.fuzzy.proofs.Sheet.{sheet_upper, sheet_least}
use Rattle.fuzzy.proofs.Scale.{raised}
use Rattle.fuzzy.proofs.Decide.{vector_grades, on_two, decided}
use Rattle.fuzzy.proofs.Lowest.{lowest_above}
use Rattle.fuzzy.proofs.List.{rising, keeps as list_keeps}
use Rattle.fuzzy.proofs.Order.{Ordered, by_index, by_member, those_order}
use Rattle.fuzzy.proofs.Walk.{walk_member, walk_once, walk_order}

-- every phrase of A is one of B
abbrev Among : List ℕ → List ℕ → Type 0
Among A B = (p : ℕ) → Memᴰ p A → Memᴰ p B

sheet_among : (s n : ℕ) (v A B : List ℕ) → Among A B → sheet_value s n A v ≤ sheet_value s n B v
sheet_among s n v A B h = sheet_least s n v A (sheet_value s n B v) (λ p m. sheet_upper s n v B p (h p m))

without_among : (p : ℕ) (A B : List ℕ) → Among A B → Among (without p A) (without p B)
without_among p A B h q m = let k = (without_member p q A).0 m in (without_member p q B).1 (h q k.0, k.1)

module _ (n : ℕ) where
  -- whether p is superfluous: an implicant of the phrases left without it
  abbrev superfluous : List ℕ → ℕ → Bool
  superfluous left p = implicant? n (sheet_fn n (without p left)) p

  -- what holds of the phrases left, and still holds when a superfluous one is left out, holds at the end
  strike_keeps : (Q : List ℕ → Type 0) → ((left : List ℕ) (p : ℕ) → superfluous left p ≡ true → Q left → Q (without p left))
      → (ps left : List ℕ) → Q left → Q (strike n ps left)
  unfolding strike
  strike_keeps Q step [] left h = h
  strike_keeps Q step (p ∷ ps) left h = strike_keeps Q step ps (cond (superfluous left p) (without p left) left) (at (known (superfluous left p)))
    where
      at : (superfluous left p ≡ true) ⊎ (superfluous left p ≡ false) → Q (cond (superfluous left p) (without p left) left)
      at (inl y) = rw y (step left p y h)
      at (inr y) = rw y h

  strike_among : (ps left : List ℕ) → Among (strike n ps left) left
  strike_among ps left = strike_keeps (λ now. Among now left) (λ now p y h q m. h q ((without_member p q now).0 m).0) ps left (λ q m. m)

  -- leaving a superfluous phrase out changes no value
  superfluous_same : (left : List ℕ) (p : ℕ) → superfluous left p ≡ true → Same n (sheet_fn n (without p left)) (sheet_fn n left)
  superfluous_same left p y s h v g = le_antisymm
      (sheet_among s n v (without p left) left (λ q m. ((without_member p q left).0 m).0))
      (sheet_least s n v left (sheet_value s n (without p left) v) (λ q m. at q m (known (eqb q p))))
    where
      at : (q : ℕ) → Memᴰ q left → (eqb q p ≡ true) ⊎ (eqb q p ≡ false) → phrase_value s n q v ≤ sheet_value s n (without p left) v
      at q m (inl e) = rw (eqb_eq q p e) ((decided n (sheet_fn n (without p left)) (without p left, λ t k w b. refl) p).0 y s h v g)
      at q m (inr e) = sheet_upper s n v (without p left) q ((without_member p q left).1 (m, eqb_ne q p e))

  -- a phrase that is not superfluous is not superfluous among fewer phrases
  needed : (left now : List ℕ) (p : ℕ) → Among now left → superfluous left p ≡ false → superfluous now p ≡ false
  needed left now p h e = at (known (superfluous now p))
    where
      at : (superfluous now p ≡ true) ⊎ (superfluous now p ≡ false) → superfluous now p ≡ false
      at (inl y) = absurd (false≢true (sym e ∙ (on_two n (sheet_fn n (without p left)) p).1
          (λ v g. le_trans ((on_two n (sheet_fn n (without p now)) p).0 y v g) (sheet_among 2 n v _ _ (without_among p now left h)))))
      at (inr y) = y

  -- what was met and stays is not superfluous at the end
  stays : (ps left : List ℕ) (p : ℕ) → Memᴰ p ps → Memᴰ p (strike n ps left) → superfluous (strike n ps left) p ≡ false
  unfolding strike
  stays [] left p met m = absurd (Memᴰ.not-nil met)
  stays (q ∷ ps) left p met m = at (Memᴰ.cases_cons met) (known (superfluous left q)) (λ later. stays ps next p later m)
    where
      next : List ℕ
      next = cond (superfluous left q) (without q left) left

      at : (p ≡ q) ⊎ Memᴰ p ps → (superfluous left q ≡ true) ⊎ (superfluous left q ≡ false)
          → (Memᴰ p ps → superfluous (strike n ps next) p ≡ false) → superfluous (strike n (q ∷ ps) left) p ≡ false
      at (inl e) (inl y) ih = absurd (((without_member q p left).0 (rw y at (strike_among ps next p m))).1 e)
      at (inl e) (inr y) ih = needed left (strike n (q ∷ ps) left) p (strike_among (q ∷ ps) left) (ap (superfluous left) e ∙ y)
      at (inr later) c ih = ih later

-- a map acts at each index
map_at : (g : ℕ → ℕ) (ps : List ℕ) (i : ℕ) → i < length ps → get_or (map g ps) i 0 ≡ g (get_or ps i 0)
map_at g [] i h = absurd (omega arith)
map_at g (p ∷ ps) zero h = refl
map_at g (p ∷ ps) (suc i) h = map_at g ps i (omega arith)

-- a flag says what was decided
flag_says : (b : Bool) (x : ℕ) (M : Type 0) → x ≡ cond b 1 0 → (b ≡ true) ↔ M → ((x ≡ 1) ↔ M) × ((x ≡ 0) ↔ (¬ M))
flag_says true x M e d = ((λ y. d.0 refl, λ m. e), (λ y m. omega arith, λ none. absurd (none (d.0 refl))))
flag_says false x M e d = ((λ y. absurd (omega arith), λ m. absurd (false≢true (d.1 m))), (λ y m. false≢true (d.1 m), λ none. e))

module _ (n : ℕ) (f : Fn) where
  -- the primes as the walk meets them
  abbrev order : List ℕ
  order = walk n (suc (2 * n)) (primes n f)

  -- the walk meets each prime and no other phrase
  pub meets_each : (p : ℕ) → Memᴰ p (walk n (suc (2 * n)) (primes n f)) ↔ Memᴰ p (primes n f)
  meets_each = walk_member n (primes n f)

  -- it meets none of them twice
  pub meets_once : InOrder ◌≢◌ (walk n (suc (2 * n)) (primes n f))
  meets_once = walk_once n (primes n f) (rising n f)

  -- it meets those with more literals first, among equals the larger code
  pub meets_in_order : InOrder (Before n) (walk n (suc (2 * n)) (primes n f))
  meets_in_order = walk_order n (primes n f) (rising n f)

  -- the cover is made of primes
  pub cover_member : (p : ℕ) → Memᴰ p (cover n f) → Memᴰ p (primes n f)
  unfolding cover
  cover_member = strike_among n order (primes n f)

  -- the cover is rising
  pub cover_rising : Rising (cover n f)
  unfolding cover without
  cover_rising = by_index ◌<◌ (cover n f) (strike_keeps n (Ordered ◌<◌) (λ left p y o. those_order ◌<◌ (λ q. not (eqb q p)) left o)
      order (primes n f) (by_member ◌<◌ (primes n f) (rising n f)))

  -- the cover's value is the function's at all grades
  pub keeps : OfSheet n f → Same n (sheet_fn n (cover n f)) f
  unfolding cover
  keeps o = strike_keeps n (λ left. Same n (sheet_fn n left) f)
      (λ left p y h s l v g. superfluous_same n left p y s l v g ∙ h s l v g) order (primes n f) (list_keeps n f o)

  -- without any one of its phrases the cover's value is lower at some vector of scale 2
  pub needs_each : (p : ℕ) → Memᴰ p (cover n f)
      → (v : List ℕ) × Grades 2 n v × (sheet_value 2 n (without p (cover n f)) v < sheet_value 2 n (cover n f) v)
  unfolding cover
  needs_each p m =
      let k = lowest n (sheet_fn n (without p (cover n f))) p in (
        vector n k,
        vector_grades n k,
        le_trans (lowest_above n (sheet_fn n (without p (cover n f))) p alone).1 (sheet_upper 2 n (vector n k) (cover n f) p m),
      )
    where
      alone : superfluous n (cover n f) p ≡ false
      alone = stays n order (primes n f) p ((meets_each p).1 (cover_member p m)) m

  -- without any one of its phrases the cover's value is lower at some vector of every scale from 2
  pub needs_each_everywhere : (s : ℕ) → 2 ≤ s → (p : ℕ) → Memᴰ p (cover n f)
      → (v : List ℕ) × Grades s n v × (sheet_value s n (without p (cover n f)) v < sheet_value s n (cover n f) v)
  needs_each_everywhere s h p m = let a = needs_each p m in raised s n h (without p (cover n f)) (cover n f) a.0 a.1 a.2

  -- there is one flag for each prime
  pub flags_length : length (flags n f) ≡ length (primes n f)
  unfolding flags
  flags_length = length-map (primes n f) (λ p. cond (is_one_of p (cover n f)) 1 0)

  module _ (i : ℕ) (h : i < length (primes n f)) where
    flag_at : ((get_or (flags n f) i 0 ≡ 1) ↔ Memᴰ (get_or (primes n f) i 0) (cover n f))
        × ((get_or (flags n f) i 0 ≡ 0) ↔ (¬ Memᴰ (get_or (primes n f) i 0) (cover n f)))
    unfolding flags
    flag_at =
        let p = get_or (primes n f) i 0 in
        flag_says (is_one_of p (cover n f)) (get_or (flags n f) i 0) (Memᴰ p (cover n f))
        (map_at (λ q. cond (is_one_of q (cover n f)) 1 0) (primes n f) i h) (one_of p (cover n f))

    -- a prime's flag is 1 exactly when it is in the cover
    pub flags_say : (get_or (flags n f) i 0 ≡ 1) ↔ Memᴰ (get_or (primes n f) i 0) (cover n f)
    flags_say = flag_at.0

    -- a prime's flag is 0 exactly when it is not in the cover
    pub flags_say_struck : (get_or (flags n f) i 0 ≡ 0) ↔ (¬ Memᴰ (get_or (primes n f) i 0) (cover n f))
    flags_say_struck = flag_at.1
