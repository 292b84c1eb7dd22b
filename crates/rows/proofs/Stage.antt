-- What marks say of a code that are closed over all twelve literals, or raised by one of them; and that one stage after the other makes them so.
-- Closing up and closing down are one walk (`closed_says`): from c over the literals where it is on. Going up, on is having the literal; going
-- down, lacking it. Over the literals below k the walk ends at the codes near c: on nowhere where c is not, and as c is from literal k on.
use mathlib.Core.Path.{◌≡◌, refl, sym, ap, ◌∙◌}
use mathlib.Core.Logic.{◌≢◌, ◌↔◌}
use mathlib.Core.List.{List}
use Prim.Native.Nat.{ℕ, zero, suc, ◌+◌, ◌-◌, ◌/◌, ◌%◌, ◌^◌, ◌≤◌, ◌<◌, min, max}
use native.Mathlib.Nat.{le_refl, le_of_eq}
use native.Mathlib.Decide.{ℕ_discrete}
use native.Mathlib.Omega.{arith}
use lib.ListN.{get_or}
use Rattle.fuzzy.specs.Phrase.{has, less, Subsumes}
use Rattle.fuzzy.proofs.Literals.{has_lt, has_zero, has_next, less_has, less_others, same_literals}
use Rattle.rows.specs.Square.{square}
use Rattle.rows.specs.Stage.{raise, lower, closed_up, closed_down, raised}

-- a literal that is added is there
pub more_has : (p k : ℕ) → has p k ≡ 0 → has (p + 2 ^ k) k ≡ 1
more_has p zero h = omega (arith, has_zero p, has_zero (p + 2 ^ 0))
more_has p (suc k) h =
    let half : (p + 2 ^ suc k) / 2 ≡ p / 2 + 2 ^ k = omega arith in
    rw (has_next (p + 2 ^ suc k) k, half) (more_has (p / 2) k (rw (has_next p k) at h))

-- adding a literal leaves the others
pub more_others : (p k j : ℕ) → has p k ≡ 0 → j ≢ k → has (p + 2 ^ k) j ≡ has p j
more_others p k j h d =
    let back : less (p + 2 ^ k) k ≡ p = omega arith in
    sym (less_others (p + 2 ^ k) k j (more_has p k h) d) ∙ ap (λ (x : ℕ). has x j) back

-- adding a literal below m that a code below 2 ^ m lacks keeps it below
pub more_lt : (m p k : ℕ) → p < 2 ^ m → k < m → has p k ≡ 0 → p + 2 ^ k < 2 ^ m
more_lt zero p k l lk h = absurd (omega arith)
more_lt (suc m) p zero l lk h = omega (arith, has_zero p)
more_lt (suc m) p (suc k) l lk h = omega (arith, more_lt m (p / 2) k (omega arith) (omega arith) (rw (has_next p k) at h))

-- one direction: `on c k` is 1 where c can be moved at literal k, to `to c k`; `closed k` is f closed over the literals below k
module _ (on to : ℕ → ℕ → ℕ) (bit : (c k : ℕ) → on c k < 2) (there : (c k : ℕ) → on c k ≡ 1 → on (to c k) k ≡ 0)
    (others : (c k j : ℕ) → on c k ≡ 1 → j ≢ k → on (to c k) j ≡ on c j)
    (stays : (c k : ℕ) → c < 4096 → k < 12 → on c k ≡ 1 → to c k < 4096)
    (same : (p q : ℕ) → p < 4096 → q < 4096 → ((k : ℕ) → k < 12 → on p k ≡ on q k) → p ≡ q)
    (f : ℕ → ℕ) (low : (c : ℕ) → f c < 2) (closed : ℕ → ℕ → ℕ) (none : (c : ℕ) → closed 0 c ≡ f c)
    (next : (k c : ℕ) → closed (suc k) c ≡ max (closed k c) (min (on c k) (closed k (to c k)))) where
  -- q is on nowhere where c is not, and agrees with c from literal k on
  abbrev Near : ℕ → ℕ → ℕ → Type 0
  Near k c q = (j : ℕ) → j < 12 → (on q j ≤ on c j) × (k ≤ j → on q j ≡ on c j)

  closed_lt : (k c : ℕ) → closed k c < 2
  closed_lt zero c = rw (none c) (low c)
  closed_lt (suc k) c = rw (next k c) (omega (arith, closed_lt k c, bit c k))

  -- one move, then a near code
  near_move : (k c q : ℕ) → on c k ≡ 1 → Near k (to c k) q → Near (suc k) c q
  near_move k c q o n j l = at (ℕ_discrete j k)
    where
      at : Dec (j ≡ k) → (on q j ≤ on c j) × (suc k ≤ j → on q j ≡ on c j)
      at (yes e) = (omega (arith, (n j l).0, ap (on (to c k)) e, there c k o), λ h. absurd (omega arith))
      at (no d) = rw (← (others c k j o d)) ((n j l).0, λ h. (n j l).1 (omega arith))

  -- a code near c that agrees with it at literal k too
  near_here : (k c q : ℕ) → on q k ≡ on c k → Near (suc k) c q → Near k c q
  near_here k c q e n j l = at (ℕ_discrete j k)
    where
      at : Dec (j ≡ k) → (on q j ≤ on c j) × (k ≤ j → on q j ≡ on c j)
      at (yes i) = ((n j l).0, λ h. rw i e)
      at (no d) = ((n j l).0, λ h. (n j l).1 (omega arith))

  -- and one that does not is near the code moved there
  near_there : (k c q : ℕ) → on c k ≡ 1 → on q k ≡ 0 → Near (suc k) c q → Near k (to c k) q
  near_there k c q o z n j l = at (ℕ_discrete j k)
    where
      at : Dec (j ≡ k) → (on q j ≤ on (to c k) j) × (k ≤ j → on q j ≡ on (to c k) j)
      at (yes i) = let e : on q j ≡ on (to c k) j = rw i (z ∙ sym (there c k o)) in (le_of_eq e, λ h. e)
      at (no d) = rw (others c k j o d) ((n j l).0, λ h. (n j l).1 (omega arith))

  -- what is marked once closed over the literals below k is near a code that f marks
  closed_near : (k c : ℕ) → k ≤ 12 → c < 4096 → closed k c ≡ 1 → (q : ℕ) × ((q < 4096) × (f q ≡ 1)) × Near k c q
  closed_near zero c l b h = (c, (b, rw (none c) at h), λ j lj. (le_refl (on c j), λ z. refl))
  closed_near (suc k) c l b h = at (λ p lp. closed_near k p (omega arith) lp) (ℕ_discrete (closed k c) 1)
    where
      at : ((p : ℕ) → p < 4096 → closed k p ≡ 1 → (q : ℕ) × ((q < 4096) × (f q ≡ 1)) × Near k p q) → Dec (closed k c ≡ 1)
          → (q : ℕ) × ((q < 4096) × (f q ≡ 1)) × Near (suc k) c q
      at before (yes e) =
          let (q, m, n) = before c b e in
          (q, m, λ j lj. ((n j lj).0, λ z. (n j lj).1 (omega arith)))
      at before (no d) =
          let o : on c k ≡ 1 = omega (arith, next k c, closed_lt k c, bit c k) in
          let (q, m, n) = before (to c k) (stays c k b l o) (omega (arith, next k c, closed_lt k c, closed_lt k (to c k))) in
          (q, m, near_move k c q o n)

  -- and what is near a code that f marks is marked
  near_closed : (k c q : ℕ) → k ≤ 12 → c < 4096 → q < 4096 → f q ≡ 1 → Near k c q → closed k c ≡ 1
  near_closed zero c q l b lq e n = rw (none c, same c q b lq (λ j lj. sym ((n j lj).1 (omega arith)))) e
  near_closed (suc k) c q l b lq e n = at (λ p lp. near_closed k p q (omega arith) lp lq e) (ℕ_discrete (on q k) (on c k))
    where
      at : ((p : ℕ) → p < 4096 → Near k p q → closed k p ≡ 1) → Dec (on q k ≡ on c k) → closed (suc k) c ≡ 1
      at before (yes i) =
          let m = before c b (near_here k c q i n) in
          omega (arith, next k c, bit c k)
      at before (no d) =
          let z : on q k ≡ 0 = omega (arith, (n k l).0, bit c k) in
          let o : on c k ≡ 1 = omega (arith, (n k l).0, bit c k) in
          let m = before (to c k) (stays c k b l o) (near_there k c q o z n) in
          omega (arith, next k c, closed_lt k c)

  -- closed over all literals, the codes are marked that are on wherever some marked code is
  closed_says : (c : ℕ) → c < 4096
      → (closed 12 c ≡ 1) ↔ ((q : ℕ) × ((q < 4096) × (f q ≡ 1)) × ((j : ℕ) → j < 12 → on q j ≤ on c j))
  closed_says c b = (
    λ h. let (q, m, n) = closed_near 12 c (le_refl 12) b h in (q, m, λ j l. (n j l).0),
    λ (q, m, s). near_closed 12 c q (le_refl 12) b m.0 m.1 (λ j l. (s j l, λ z. absurd (omega arith))),
  )

-- a code of six variables stays one without a literal
less_stays : (c k : ℕ) → c < 4096 → k < 12 → has c k ≡ 1 → less c k < 4096
less_stays c k b l o = omega arith

-- 1 where the code lacks literal k
abbrev lacks : ℕ → ℕ → ℕ
lacks c k = 1 - has c k

-- the code with literal k, where it lacks it
abbrev more : ℕ → ℕ → ℕ
more c k = c + 2 ^ k

lacks_lt : (c k : ℕ) → lacks c k < 2
lacks_lt c k = omega arith

lacks_there : (c k : ℕ) → lacks c k ≡ 1 → lacks (more c k) k ≡ 0
lacks_there c k o = rw (more_has c k (omega arith))

lacks_others : (c k j : ℕ) → lacks c k ≡ 1 → j ≢ k → lacks (more c k) j ≡ lacks c j
lacks_others c k j o d = rw (more_others c k j (omega arith) d)

lacks_stays : (c k : ℕ) → c < 4096 → k < 12 → lacks c k ≡ 1 → more c k < 4096
lacks_stays c k b l o = more_lt 12 c k b l (omega arith)

lacks_same : (p q : ℕ) → p < 4096 → q < 4096 → ((k : ℕ) → k < 12 → lacks p k ≡ lacks q k) → p ≡ q
lacks_same p q lp lq h = same_literals 6 p q lp lq (λ k l. omega (arith, h k l, has_lt p k, has_lt q k))

-- the literal after literal 6 + k
step : (k : ℕ) → 6 + (k + 1) ≡ suc (6 + k)
step k = omega arith

module _ (f : ℕ → ℕ) where
  up_next : (k c : ℕ) → closed_up (suc k) f c ≡ max (closed_up k f c) (min (has c k) (closed_up k f (less c k)))
  unfolding closed_up raise
  up_next k c = refl

  down_none : (c : ℕ) → closed_down 0 f c ≡ f c
  unfolding closed_down
  down_none c = refl

  down_next : (k c : ℕ) → closed_down (suc k) f c ≡ max (closed_down k f c) (min (lacks c k) (closed_down k f (more c k)))
  unfolding closed_down lower
  down_next k c = refl

  -- marks that are closed upwards over the literals below 6 + k, and raised by the next, are closed over one more
  pub up_step : (k : ℕ) {s t : ℕ → ℕ} → ((c : ℕ) → c < 4096 → s c ≡ closed_up (6 + k) f c) → ((c : ℕ) → c < 4096 → t c ≡ max (s c) (raise (6 + k) s c))
      → (c : ℕ) → c < 4096 → t c ≡ closed_up (6 + (k + 1)) f c
  unfolding raise closed_up
  up_step k hs ht c b = rw (step k, ht c b, hs c b, hs (less c (6 + k)) (omega arith))

  -- marks that are closed downwards over the literals below 6 + k, and lowered by the next, are closed over one more
  pub down_step : (k : ℕ) → k < 6 → {s t : ℕ → ℕ} → ((c : ℕ) → c < 4096 → s c ≡ closed_down (6 + k) f c)
      → ((c : ℕ) → c < 4096 → t c ≡ max (s c) (lower (6 + k) s c)) → (c : ℕ) → c < 4096 → t c ≡ closed_down (6 + (k + 1)) f c
  unfolding lower
  down_step k l {s} {t} hs ht c b = rw (step k) (at (ℕ_discrete (lacks c (6 + k)) 1))
    where
      at : Dec (lacks c (6 + k) ≡ 1) → t c ≡ closed_down (suc (6 + k)) f c
      at (yes o) = rw (ht c b, down_next (6 + k) c, hs c b, hs (more c (6 + k)) (lacks_stays c (6 + k) b (omega arith) o))
      at (no d) = omega (arith, ht c b, down_next (6 + k) c, hs c b, lacks_lt c (6 + k))

  -- marks that are f raised by the literals below 6 + k, and f raised by the next, are f raised by one more
  pub raised_step : (k : ℕ) {s t : ℕ → ℕ} → ((c : ℕ) → c < 4096 → s c ≡ raised (6 + k) f c)
      → ((c : ℕ) → c < 4096 → t c ≡ max (s c) (raise (6 + k) f c)) → (c : ℕ) → c < 4096 → t c ≡ raised (6 + (k + 1)) f c
  unfolding raised
  raised_step k hs ht c b = rw (step k, ht c b, hs c b)

  raised_lt : (n c : ℕ) → raised n f c < 2
  unfolding raised raise
  raised_lt zero c = omega arith
  raised_lt (suc n) c = omega (arith, raised_lt n c, has_lt c n)

  module _ (low : (c : ℕ) → f c < 2) where
    -- closed upwards, the codes are marked that have some marked code within them
    pub closed_up_lem : (c : ℕ) → c < 4096 → (closed_up 12 f c ≡ 1) ↔ ((q : ℕ) × ((q < 4096) × (f q ≡ 1)) × Subsumes 6 c q)
    unfolding closed_up
    closed_up_lem = closed_says has less has_lt less_has less_others less_stays (same_literals 6) f low (λ k c. closed_up k f c) (λ c. refl) up_next

    -- closed downwards, those that are within some marked code
    pub closed_down_lem : (c : ℕ) → c < 4096 → (closed_down 12 f c ≡ 1) ↔ ((q : ℕ) × ((q < 4096) × (f q ≡ 1)) × Subsumes 6 q c)
    closed_down_lem c b = (
      λ h. let (q, m, s) = says.0 h in (q, m, λ k l. omega (arith, s k l, has_lt c k, has_lt q k)),
      λ (q, m, s). says.1 (q, m, λ k l. omega (arith, s k l)),
    )
      where
        says : (closed_down 12 f c ≡ 1) ↔ ((q : ℕ) × ((q < 4096) × (f q ≡ 1)) × ((k : ℕ) → k < 12 → lacks q k ≤ lacks c k))
        says =
            closed_says lacks more lacks_lt lacks_there lacks_others lacks_stays lacks_same f low (λ k c. closed_down k f c) down_none down_next c b

    -- raised by the literals below n, the codes are marked that are marked without one of them
    pub raised_says : (n c : ℕ) → (raised n f c ≡ 1) ↔ ((k : ℕ) × (k < n) × (has c k ≡ 1) × (f (less c k) ≡ 1))
    unfolding raised raise
    raised_says zero c = (λ h. absurd (omega arith), λ (k, l, o, m). absurd (omega arith))
    raised_says (suc n) c = (
      λ h. there (raised_says n c).0 h (ℕ_discrete (raised n f c) 1),
      λ (k, l, o, m). back (raised_says n c).1 k l o m (ℕ_discrete k n),
    )
      where
        there : (raised n f c ≡ 1 → (k : ℕ) × (k < n) × (has c k ≡ 1) × (f (less c k) ≡ 1)) → raised (suc n) f c ≡ 1
            → Dec (raised n f c ≡ 1) → (k : ℕ) × (k < suc n) × (has c k ≡ 1) × (f (less c k) ≡ 1)
        there before h (yes e) = let (k, l, o, m) = before e in (k, omega arith, o, m)
        there before h (no d) =
            let one : min (has c n) (f (less c n)) ≡ 1 = omega (arith, raised_lt n c) in
            (n, le_refl (suc n), omega (arith, has_lt c n), omega (arith, low (less c n)))

        back : ((k : ℕ) × (k < n) × (has c k ≡ 1) × (f (less c k) ≡ 1) → raised n f c ≡ 1)
            → (k : ℕ) → k < suc n → has c k ≡ 1 → f (less c k) ≡ 1 → Dec (k ≡ n) → raised (suc n) f c ≡ 1
        back before k l o m (yes e) = omega (arith, rw e at o, rw e at m, raised_lt n c)
        back before k l o m (no d) = omega (arith, before (k, omega arith, o, m), has_lt c n)

    -- marks without f raised by all literals are those of f that are marked no longer once any one literal is left out
    pub least_says : {s t : ℕ → ℕ} → ((c : ℕ) → c < 4096 → s c ≡ raised 12 f c) → ((c : ℕ) → c < 4096 → t c ≡ min (f c) (1 - s c))
        → (c : ℕ) → c < 4096
        → ((c < 4096) × (t c ≡ 1)) ↔ (((c < 4096) × (f c ≡ 1)) × ((k : ℕ) → k < 12 → has c k ≡ 1 → ¬ ((less c k < 4096) × (f (less c k) ≡ 1))))
    least_says {s} {t} hs ht c b = (
      λ (i, m). (
        (b, omega (arith, ht c b, low c)),
        λ k l o n. absurd (omega (arith, ht c b, hs c b, (raised_says 12 c).1 (k, l, o, n.1))),
      ),
      λ (i, none). (b, at none i.1 (ℕ_discrete (raised 12 f c) 1)),
    )
      where
        at : ((k : ℕ) → k < 12 → has c k ≡ 1 → ¬ ((less c k < 4096) × (f (less c k) ≡ 1))) → f c ≡ 1 → Dec (raised 12 f c ≡ 1) → t c ≡ 1
        at none m (yes e) = let (k, l, o, n) = (raised_says 12 c).0 e in absurd (none k l o (omega arith, n))
        at none m (no d) = omega (arith, ht c b, hs c b, raised_lt 12 c)

-- a code of six variables is marked where what its mark equals is 1
pub marked_as : {A : Type 0} {c x y : ℕ} → c < 4096 → x ≡ y → (y ≡ 1) ↔ A → ((c < 4096) × (x ≡ 1)) ↔ A
marked_as b e h = (λ m. h.0 (sym e ∙ m.1), λ a. (b, e ∙ h.1 a))

-- a code is marked or not
pub square_lt : (m : List ℕ) (c : ℕ) → square m c < 2
unfolding square
square_lt m c = has_lt (get_or m (c / 64) 0) (c % 64)
