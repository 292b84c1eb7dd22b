-- From a within map over six variables to the list: the marks that the passes leave are the primes.
-- The codes within some simple or full code outside the map are the phrases that are no implicants (`Fast.outside_of`), the least of the others are the
-- primes over six variables, and those below 4 ^ n are the primes over n (`Wider.wider`).
use mathlib.Core.Path.{◌≡◌, refl, sym, ap, ap₂, ◌∙◌}
use mathlib.Core.Bool.{Bool, true, false, false≢true}
use mathlib.Core.List.Memᴰ
use mathlib.Core.Logic.Iff
use mathlib.Core.Logic.{◌⊎◌, inl, inr, ◌↔◌, ⊎_elim}
use mathlib.Core.List.{List, [], ◌++◌, append-nil, Memᴰ}
use Prim.Native.Nat.{ℕ, zero, suc, ◌+◌, ◌^◌, ◌≤◌, ◌<◌}
use native.Mathlib.Nat.{lt_trans, not-le_of_lt, le_dest, pow-le-pow_right}
use native.Mathlib.Omega.{arith}
use Rattle.fuzzy.specs.Phrase.{has, less}
use Rattle.fuzzy.specs.Function.{Fn, sheet_fn, Same}
use Rattle.fuzzy.specs.Implicant.{Implicant}
use Rattle.fuzzy.specs.Vector.{implicant?, spare, prime?}
use Rattle.fuzzy.specs.Primes.{select, primes}
use Rattle.fuzzy.proofs.Search.{known, eqb_eq, eq-eqb, select_same}
use Rattle.fuzzy.proofs.Literals.{less_smaller}
use Rattle.fuzzy.proofs.Decide.{decided, refused}
use Rattle.fuzzy.proofs.Prime.{prime_test, spare_says}
use Rattle.fuzzy.proofs.Within.{meet_sheet, complement_sheet, exchange, exchange_lt, within_join, within_meet, within_complement}
use Rattle.fuzzy.proofs.Fast.{outside_of}
use Rattle.fuzzy.proofs.Wider.{Widens, same_truth, wider}
use Rattle.rows.proofs.Selected.{select_split}
use Rattle.rows.specs.Square.{square, Marked}
use Rattle.rows.specs.Pass.{ClosedUp, ClosedDown, Exchanged, Outside, Least, Others, Either, Both, OfSheet, Cut}
use Rattle.rows.specs.Read.{is_marked, marks_of}
use Rattle.sheets.specs.Maps.{Maps, EitherMaps, PrimesOf}

-- a sheet's codes, closed upwards, are its map
pub maps_sheet : (F m u : List ℕ) → ((q : ℕ) → Memᴰ q F → q < 4096) → OfSheet F m → ClosedUp m u → Maps F u
maps_sheet F m u below holds up c l = (
  λ h. let (q, (lq, sq), s) = (up c l).0 h in (q, (holds q lq).0 (lq, sq), s),
  λ w. let (q, mq, s) = w in (up c l).1 (q, (holds q (below q mq)).1 mq, s),
)

-- the or of two sheets' marks marks the codes of both
pub marks_both : (A B m o r : List ℕ) → OfSheet A m → OfSheet B o → Either m o r → OfSheet (A ++ B) r
marks_both A B m o r a b e c l = (
  λ h. ⊎_elim (λ x. Memᴰ.append_left B ((a c l).0 x)) (λ x. Memᴰ.append_right A ((b c l).0 x)) ((e c l).0 h),
  λ h. (e c l).1 (⊎_elim (λ x. inl ((a c l).1 x)) (λ x. inr ((b c l).1 x)) (Memᴰ.append_cases A h)),
)

-- the map of both sheets' phrases is the or of their two maps
pub maps_either : (A B u : List ℕ) → Maps (A ++ B) u → EitherMaps A B u
maps_either A B u maps c l = Iff.trans (maps c l) (within_join 6 A B c)

-- the and of two maps is the map of the meet
pub maps_meet : (A B u v r : List ℕ) → Maps A u → Maps B v → Both u v r → Maps (meet_sheet A B) r
maps_meet A B u v r a b e c l =
    Iff.trans (e c l) (Iff.trans (λ w. ((a c l).0 w.0, (b c l).0 w.1), λ w. ((a c l).1 w.0, (b c l).1 w.1)) (Iff.symm (within_meet 6 A B c)))

-- a map exchanged and turned over is the map of the complement
pub maps_complement : (A u x r : List ℕ) → Maps A u → Exchanged u x → Others x r → Maps (complement_sheet 6 A) r
maps_complement A u x r a e o c l =
    Iff.trans (o c l) (Iff.trans (λ w y. w ((e c l).1 ((a (exchange 6 c) (exchange_lt 6 c)).1 y)), λ w y. w ((a (exchange 6 c) (exchange_lt 6 c)).0 ((e c l).0 y)))
    (Iff.symm (within_complement 6 A c)))

module _ (G : List ℕ) (g : Fn) (same : Same 6 g (sheet_fn 6 G)) (u o d i m : List ℕ) (maps : Maps G u) (outside : Outside u o) (down : ClosedDown o d)
    (others : Others d i) (least : Least i m) where
  -- what is within a simple or full code outside the map is no implicant, and nothing else
  marks_none : (c : ℕ) → c < 4096 → Marked d c ↔ (¬ Implicant 6 g c)
  marks_none c l = (
    λ h. let (q, (lq, sq), s) = (down c l).0 h in
        let (kind, out) = (outside q lq).0 (lq, sq) in
        (outside_of 6 g G same c).1 (q, lq, kind, (λ w. out ((maps q lq).1 w)), s),
    λ none. let (q, lq, kind, out, s) = (outside_of 6 g G same c).0 none in
        (down c l).1 (q, (outside q lq).1 (kind, (λ w. out ((maps q lq).0 w))), s),
  )

  -- the others are the implicants
  marks_implicants : (c : ℕ) → c < 4096 → Marked i c ↔ (implicant? 6 g c ≡ true)
  marks_implicants c l = (
    λ h. at (known (implicant? 6 g c)) ((others c l).0 h),
    λ y. (others c l).1 (λ h. (marks_none c l).0 h ((decided 6 g (G, same) c).0 y)),
  )
    where
      at : (implicant? 6 g c ≡ true) ⊎ (implicant? 6 g c ≡ false) → (¬ Marked d c) → implicant? 6 g c ≡ true
      at (inl y) h = y
      at (inr y) h = absurd (h ((marks_none c l).1 ((refused 6 g (G, same) c).0 y)))

  -- and the least of them the primes over six variables
  pub marks_primes : (c : ℕ) → c < 4096 → Marked m c ↔ (prime? 6 g c ≡ true)
  marks_primes c l = (
    λ h. let (y, none) = (least c l).0 h in (prime_test 6 g c).1 ((marks_implicants c l).0 y, λ k lk. to none k lk (known (spare 6 g c k))),
    λ y. let (im, none) = (prime_test 6 g c).0 y in
        (least c l).1 ((marks_implicants c l).1 im, λ k lk h mk. false≢true (sym (none k lk) ∙ (spare_says 6 g c k).1 (h, (marks_implicants (less c k) (lower k h)).0 mk))),
  )
    where
      lower : (k : ℕ) → has c k ≡ 1 → less c k < 4096
      lower k h = lt_trans (less_smaller c k h) l

      to : ((k : ℕ) → k < 12 → has c k ≡ 1 → ¬ Marked i (less c k)) → (k : ℕ) → k < 12 → (spare 6 g c k ≡ true) ⊎ (spare 6 g c k ≡ false) → spare 6 g c k ≡ false
      to none k lk (inl y) = let (h, im) = (spare_says 6 g c k).0 y in absurd (none k lk h ((marks_implicants (less c k) (lower k h)).1 im))
      to none k lk (inr y) = y

-- where nothing passes nothing is chosen
select_none : (t : ℕ → Bool) (m k : ℕ) → ((j : ℕ) → k ≤ j → j < k + m → t j ≡ false) → select t k m ≡ []
unfolding select
select_none t zero k none = refl
select_none t (suc m) k none = rw (none k (omega arith) (omega arith), select_none t m (suc k) (λ j l b. none j (omega arith) (omega arith)))

-- the passes together give the primes below 4 ^ n
pub primes_of : (n : ℕ) (u o d i m r : List ℕ) → Outside u o → ClosedDown o d → Others d i → Least i m → Cut m n r → PrimesOf n u r
primes_of n u o d i m r outside down others least cut G g same maps c l =
    Iff.trans (cut c l) (Iff.and (marks_primes G g same u o d i m maps outside down others least c l) Iff.rfl)

-- the marks of the primes over six variables below 4 ^ n are the list over n variables
pub marks_list : (n k : ℕ) (f g : Fn) (r : List ℕ) → k + n ≡ 6 → Widens k n f g
    → ((c : ℕ) → c < 4096 → Marked r c ↔ ((prime? 6 g c ≡ true) × (c < 4 ^ n))) → marks_of r 4096 ≡ primes n f
marks_list n k f g r six w is =
    let (rest, e) = le_dest small in
    ap (select (is_marked r) 0) (sym e) ∙ select_split (is_marked r) (4 ^ n) rest 0
    ∙ ap₂ ◌++◌ (select_same (is_marked r) (prime? (k + n) g) (4 ^ n) 0 (λ c l. same_mark c (omega arith))) (select_none (is_marked r) rest (0 + 4 ^ n) (λ c l b. beyond c (omega arith) (omega arith)))
    ∙ append-nil (select (prime? (k + n) g) 0 (4 ^ n)) ∙ sym (wider k n f g w)
  where
    small : 4 ^ n ≤ 4096
    small = pow-le-pow_right {n = 4} (omega arith) {j = 6} (omega arith)

    at : (c : ℕ) → c < 4096 → (is_marked r c ≡ true) ↔ ((prime? (k + n) g c ≡ true) × (c < 4 ^ n))
    at c l = (
      λ y. let (p, b) = (is c l).0 (l, eqb_eq (square r c) 1 y) in (rw six p, b),
      λ (y, b). eq-eqb (square r c) 1 ((is c l).1 (rw six at y, b)).1,
    )

    same_mark : (c : ℕ) → c < 4 ^ n → is_marked r c ≡ prime? (k + n) g c
    same_mark c b =
        let l : c < 4096 = omega (arith, small) in
        same_truth (is_marked r c) (prime? (k + n) g c) (λ y. ((at c l).0 y).0, λ y. (at c l).1 (y, b))

    beyond : (c : ℕ) → 4 ^ n ≤ c → c < 4096 → is_marked r c ≡ false
    beyond c b l = ⊎_elim (λ y. absurd (not-le_of_lt ((at c l).0 y).1 b)) (λ y. y) (known (is_marked r c))
