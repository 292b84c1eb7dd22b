-- The table of the simple or full codes is right at each of the 4,096 codes, by a test that is computed, row by row.
use mathlib.Core.Path.{◌≡◌, refl, sym, ◌∙◌}
use mathlib.Core.Bool.{Bool, true, not, ◌||◌}
use mathlib.Core.Logic.{◌⊎◌, inl, inr, ◌↔◌, ⊎_elim}
use mathlib.Core.List.{List, [], ◌∷◌, Memᴰ}
use Prim.Native.Nat.{ℕ, ◌+◌, ◌-◌, ◌*◌, ◌/◌, ◌%◌, ◌<◌, min}
use native.Mathlib.Omega.{arith}
use lib.Dec.{eqb}
use lib.ListN.{get_or}
use Rattle.fuzzy.specs.Phrase.{digits, has, Simple}
use Rattle.fuzzy.specs.Cover.{is_one_of}
use Rattle.fuzzy.proofs.Fast.{Full}
use Rattle.fuzzy.proofs.Literals.{has_lt}
use Rattle.fuzzy.proofs.Search.{no_says, one_of, eqb_eq, eq-eqb}
use Rattle.std.proofs.lemmas.Bool.{agree_below, agree_below_at, not-true, not_from_false, or_cases, or_left, or_right}
use Rattle.rows.specs.Pass.{Outside}
use Rattle.rows.specs.Square.{square}

-- the codes that have no digit 3, or no digit 0, as 64 rows
unfoldable pub table : List ℕ
table =
    0x0000_0777_0777_0777 ∷ 0x0000_0777_0777_0777 ∷ 0x0000_0777_0777_0777 ∷ 0x0000_0000_0000_0000 ∷
    0x0000_0777_0777_0777 ∷ 0x0000_0777_0777_0777 ∷ 0x0000_0777_0777_0777 ∷ 0x0000_0000_0000_0000 ∷
    0x0000_0777_0777_0777 ∷ 0x0000_0777_0777_0777 ∷ 0x0000_0777_0777_0777 ∷ 0x0000_0000_0000_0000 ∷
    0x0000_0000_0000_0000 ∷ 0x0000_0000_0000_0000 ∷ 0x0000_0000_0000_0000 ∷ 0x0000_0000_0000_0000 ∷
    0x0000_0777_0777_0777 ∷ 0x0000_0777_0777_0777 ∷ 0x0000_0777_0777_0777 ∷ 0x0000_0000_0000_0000 ∷
    0x0000_0777_0777_0777 ∷ 0xeee0_eff7_eff7_0777 ∷ 0xeee0_eff7_eff7_0777 ∷ 0xeee0_eee0_eee0_0000 ∷
    0x0000_0777_0777_0777 ∷ 0xeee0_eff7_eff7_0777 ∷ 0xeee0_eff7_eff7_0777 ∷ 0xeee0_eee0_eee0_0000 ∷
    0x0000_0000_0000_0000 ∷ 0xeee0_eee0_eee0_0000 ∷ 0xeee0_eee0_eee0_0000 ∷ 0xeee0_eee0_eee0_0000 ∷
    0x0000_0777_0777_0777 ∷ 0x0000_0777_0777_0777 ∷ 0x0000_0777_0777_0777 ∷ 0x0000_0000_0000_0000 ∷
    0x0000_0777_0777_0777 ∷ 0xeee0_eff7_eff7_0777 ∷ 0xeee0_eff7_eff7_0777 ∷ 0xeee0_eee0_eee0_0000 ∷
    0x0000_0777_0777_0777 ∷ 0xeee0_eff7_eff7_0777 ∷ 0xeee0_eff7_eff7_0777 ∷ 0xeee0_eee0_eee0_0000 ∷
    0x0000_0000_0000_0000 ∷ 0xeee0_eee0_eee0_0000 ∷ 0xeee0_eee0_eee0_0000 ∷ 0xeee0_eee0_eee0_0000 ∷
    0x0000_0000_0000_0000 ∷ 0x0000_0000_0000_0000 ∷ 0x0000_0000_0000_0000 ∷ 0x0000_0000_0000_0000 ∷
    0x0000_0000_0000_0000 ∷ 0xeee0_eee0_eee0_0000 ∷ 0xeee0_eee0_eee0_0000 ∷ 0xeee0_eee0_eee0_0000 ∷
    0x0000_0000_0000_0000 ∷ 0xeee0_eee0_eee0_0000 ∷ 0xeee0_eee0_eee0_0000 ∷ 0xeee0_eee0_eee0_0000 ∷
    0x0000_0000_0000_0000 ∷ 0xeee0_eee0_eee0_0000 ∷ 0xeee0_eee0_eee0_0000 ∷ 0xeee0_eee0_eee0_0000 ∷
    []

-- whether no variable of the phrase is a pair, or none is absent
allowed : ℕ → Bool
allowed c = not (is_one_of 3 (digits 4 6 c)) || not (is_one_of 0 (digits 4 6 c))

lacks : (d c : ℕ) → (not (is_one_of d (digits 4 6 c)) ≡ true) ↔ (¬ Memᴰ d (digits 4 6 c))
lacks d c =
    let no = no_says (is_one_of d (digits 4 6 c)) (Memᴰ d (digits 4 6 c)) (one_of d (digits 4 6 c)) in
    (λ e. no.0 (not-true _ e), λ h. not_from_false _ (no.1 h))

allowed_says : (c : ℕ) → (allowed c ≡ true) ↔ (Simple 6 c ⊎ Full 6 c)
unfolding allowed
allowed_says c = (
  λ e. ⊎_elim (λ s. inl ((lacks 3 c).0 s)) (λ f. inr ((lacks 0 c).0 f)) (or_cases _ _ e),
  ⊎_elim (λ (s : Simple 6 c). or_left _ _ ((lacks 3 c).1 s)) (λ (f : Full 6 c). or_right _ _ ((lacks 0 c).1 f)),
)

right_row : ℕ → Bool
right_row i = agree_below (λ k. eqb (has (get_or table i 0) k) 1) (λ k. allowed (i * 64 + k)) 64

all_right : agree_below right_row (λ i. true) 64 ≡ true
unfolding right_row allowed table is_one_of digits has
all_right = refl

-- the table has exactly the simple or full codes
pub table_has : (i : ℕ) → i < 64 → (k : ℕ) → k < 64 → (has (get_or table i 0) k ≡ 1) ↔ (Simple 6 (i * 64 + k) ⊎ Full 6 (i * 64 + k))
unfolding right_row
table_has i li k lk =
    let right = agree_below_at right_row (λ i. true) 64 i all_right li in
    let same = agree_below_at (λ k. eqb (has (get_or table i 0) k) 1) (λ k. allowed (i * 64 + k)) 64 k right lk in (
      λ h. (allowed_says (i * 64 + k)).0 (sym same ∙ eq-eqb (has (get_or table i 0) k) 1 h),
      λ h. eqb_eq (has (get_or table i 0) k) 1 (same ∙ (allowed_says (i * 64 + k)).1 h),
    )

-- rows that have the table's, each without m's, mark what is outside
pub outside_rows : (m r : List ℕ)
    → ((i : ℕ) → i < 64 → (k : ℕ) → k < 64 → has (get_or r i 0) k ≡ min (has (get_or table i 0) k) (1 - has (get_or m i 0) k)) → Outside m r
unfolding square
outside_rows m r h c l =
    let row = get_or table (c / 64) 0 in
    let e : c / 64 * 64 + c % 64 ≡ c = omega arith in
    let i : (has row (c % 64) ≡ 1) ↔ (Simple 6 c ⊎ Full 6 c) = rw e at (table_has (c / 64) (omega arith) (c % 64) (omega arith)) in
    let v = h (c / 64) (omega arith) (c % 64) (omega arith) in (
      λ x. (i.0 (omega (arith, v, x.1, has_lt row (c % 64))), λ z. omega (arith, v, x.1, z.1)),
      λ x. (l, omega (arith, v, i.1 x.0, zero_of (has (get_or m (c / 64) 0) (c % 64)) (has_lt (get_or m (c / 64) 0) (c % 64)) (λ z. x.1 (l, z)))),
    )
  where
    zero_of : (b : ℕ) → b < 2 → ¬ (b ≡ 1) → b ≡ 0
    zero_of b lb d = omega arith
