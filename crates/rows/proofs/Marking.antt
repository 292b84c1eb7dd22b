-- Setting a code's bit marks the code and no other; so the codes of a sheet are marked one after the other.
-- The bit stands in another row, or at another place of the same row, than any other code's.
use mathlib.Core.Path.{◌≡◌}
use mathlib.Core.Logic.{◌⊎◌, inl, inr, ◌↔◌, ◌≢◌, ⊎_elim}
use mathlib.Core.List.Memᴰ
use mathlib.Core.List.{List, [], ◌∷◌, ◌++◌, Memᴰ}
use Prim.Native.Nat.{ℕ, ◌+◌, ◌*◌, ◌/◌, ◌%◌, ◌^◌, ◌≤◌, ◌<◌}
use native.Mathlib.Decide.{ℕ_discrete}
use native.Mathlib.Numerals.{add-one}
use native.Mathlib.Omega.{arith}
use lib.Bits.{bit_or}
use lib.Pow.{pow_pos}
use lib.ListN.{length, get_or, set, take, replicate, get_or-replicate, length-set}
use lib.Seq.{get_or-set_same, get_or-set_other, take-suc, take-length}
use Rattle.fuzzy.proofs.Literals.{has_lt, has_or, has_itself, has_one, has_none}
use Rattle.std.proofs.lemmas.Nat.{one_shl}
use Rattle.rows.specs.Square.{square, Marked}
use Rattle.rows.specs.Pass.{OfSheet}

-- r marks the code, and what m marks
abbrev pub Added : List ℕ → ℕ → List ℕ → Type 0
Added m code r = (c : ℕ) → c < 4096 → Marked r c ↔ (Marked m c ⊎ (c ≡ code))

-- the marks with a code's bit set
abbrev pub plus : List ℕ → ℕ → List ℕ
plus m code = set m (code / 64) (bit_or (get_or m (code / 64) 0) (1 * 2 ^ (code % 64) % 2 ^ 64))

module _ (m : List ℕ) (code : ℕ) (rows : length m ≡ 64) (six : code < 4096) where
  abbrev row : ℕ
  row = get_or m (code / 64) 0

  abbrev new : ℕ
  new = bit_or row (1 * 2 ^ (code % 64) % 2 ^ 64)

  plus_same : square (plus m code) code ≡ 1
  unfolding square
  plus_same =
      rw (
        get_or-set_same m (code / 64) new 0 (omega arith),
        one_shl (code % 64) 64 (omega arith),
        has_or row (2 ^ (code % 64)) (code % 64),
        has_itself (code % 64),
      )
      (omega (arith, has_lt row (code % 64)))

  plus_other : (c : ℕ) → c ≢ code → square (plus m code) c ≡ square m c
  unfolding square
  plus_other c d = at (ℕ_discrete (c / 64) (code / 64))
    where
      at : Dec (c / 64 ≡ code / 64) → square (plus m code) c ≡ square m c
      at (yes e) =
          rw (
            e,
            get_or-set_same m (code / 64) new 0 (omega arith),
            one_shl (code % 64) 64 (omega arith),
            has_or row (2 ^ (code % 64)) (c % 64),
            has_one (code % 64) (c % 64) (λ f. d (omega arith)),
          )
          (omega arith)
      at (no f) = rw (get_or-set_other m (code / 64) (c / 64) new 0 f)

  -- setting a code's bit marks it and no other
  pub added : Added m code (plus m code)
  added c l = at (ℕ_discrete c code)
    where
      at : Dec (c ≡ code) → Marked (plus m code) c ↔ (Marked m c ⊎ (c ≡ code))
      at (yes e) = (λ h. inr e, λ h. (l, rw e plus_same))
      at (no d) = (
        λ h. inl (l, rw (plus_other c d) at h.1),
        ⊎_elim (λ (h : Marked m c). (l, rw (plus_other c d) h.1)) (λ (e : c ≡ code). absurd (d e)),
      )

-- a code of 4,096 or more changes nothing
pub unadded : (m : List ℕ) (code : ℕ) → 4096 ≤ code → Added m code m
unadded m code h c l = (λ x. inl x, ⊎_elim (λ (x : Marked m c). x) (λ (e : c ≡ code). absurd (omega arith)))

-- so it is of whatever is the marks with the bit set, the row taken below 64
pub added_as : (m r : List ℕ) (code : ℕ) → length m ≡ 64 → code < 4096
    → r ≡ set m (code / 64 % 64) (bit_or (get_or m (code / 64 % 64) 0) (1 * 2 ^ (code % 64) % 2 ^ 64)) → (length r ≡ 64) × Added m code r
added_as m r code rows six e =
    let row : code / 64 % 64 ≡ code / 64 = omega arith in
    rw (e, row) (simp length-set rows, added m code rows six)

-- and of whatever is the marks unchanged
pub unadded_as : (m r : List ℕ) (code : ℕ) → length m ≡ 64 → 4096 ≤ code → r ≡ m → (length r ≡ 64) × Added m code r
unadded_as m r code rows l e = rw e (rows, unadded m code l)

-- one code more of a sheet
pub sheet_more : (F m r : List ℕ) (i : ℕ) → i < length F → OfSheet (take i F) m → Added m (get_or F i 0) r → OfSheet (take (i + 1) F) r
sheet_more F m r i l before more c lc = rw (add-one i, take-suc F i 0 l) (to, from)
  where
    to : Marked r c → Memᴰ c (take i F ++ (get_or F i 0 ∷ []))
    to h =
        ⊎_elim (λ (x : Marked m c). Memᴰ.append_left (get_or F i 0 ∷ []) ((before c lc).0 x))
        (λ (e : c ≡ get_or F i 0). Memᴰ.append_right (take i F) (Memᴰ.head e)) ((more c lc).0 h)

    from : Memᴰ c (take i F ++ (get_or F i 0 ∷ [])) → Marked r c
    from h =
        (more c lc).1 (⊎_elim (λ (x : Memᴰ c (take i F)). inl ((before c lc).1 x))
        (λ (x : Memᴰ c (get_or F i 0 ∷ [])). inr (Memᴰ.eq_of_singleton x)) (Memᴰ.append_cases (take i F) h))

-- past the last all are marked
pub sheet_all : (F m : List ℕ) (i : ℕ) → i ≡ length F → OfSheet (take i F) m → OfSheet F m
sheet_all F m i e = rw (e, take-length F) (λ h. h)

-- no code is marked before the first
pub sheet_none : (F m : List ℕ) → ((c : ℕ) → c < 4096 → square m c ≡ 0) → OfSheet (take 0 F) m
sheet_none F m h c l = (λ x. absurd (omega (arith, h c l)), λ x. absurd (Memᴰ.not-nil x))

-- nor is any in rows that are all 0
pub none_marked : (c : ℕ) → c < 4096 → square (replicate 64 0) c ≡ 0
unfolding square
none_marked c l = rw (get_or-replicate {A = ℕ} 64 (c / 64) 0 0 (omega arith)) (has_none 0 (c % 64) (pow_pos (c % 64)))
