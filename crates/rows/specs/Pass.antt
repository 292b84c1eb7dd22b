-- What the passes promise of the marks m (and o, or the code, or the sheet F) that they are given and the marks r, or the answer b, that they give.
--   ClosedUp m r      r marks the codes that have some marked code within them
--   ClosedDown m r    r marks the codes that are within some marked code
--   Exchanged m r     r marks the codes that are marked once their digits 0 and 3 are exchanged
--   Outside m r       r marks the simple or full codes that are not marked
--   Least m r         r marks the marked codes that are marked no longer once any one literal is left out
--   Others m r        r marks the codes that are not marked
--   Either m o r      r marks the codes that are marked in either
--   Both m o r        r marks the codes that are marked in both
--   OfSheet F r       r marks the codes of the sheet
--   Cut m n r         r marks the marked codes below 4 ^ n
--   Removed m code r  r marks the marked codes other than the code
--   Held m code b     b is whether the code is marked
--   Covered m code b  b is whether the code is one of the 4,096 and some marked code has all its literals
use Rattle.std.specs.Prelude.{◌≡◌, ◌⊎◌, ◌↔◌, ◌≢◌, Bool, true, ℕ, ◌^◌, ◌<◌}
use mathlib.Core.List.{List, Memᴰ}
use Rattle.fuzzy.specs.Phrase.{has, less, Simple, Subsumes}
use Rattle.fuzzy.proofs.Within.{exchange}
use Rattle.fuzzy.proofs.Fast.{Full}
use Rattle.rows.specs.Square.{Marked}

-- r marks the codes that have some marked code within them
abbrev pub ClosedUp : List ℕ → List ℕ → Type 0
ClosedUp m r = (c : ℕ) → c < 4096 → Marked r c ↔ ((q : ℕ) × Marked m q × Subsumes 6 c q)

-- r marks the codes that are within some marked code
abbrev pub ClosedDown : List ℕ → List ℕ → Type 0
ClosedDown m r = (c : ℕ) → c < 4096 → Marked r c ↔ ((q : ℕ) × Marked m q × Subsumes 6 q c)

-- r marks the codes that are marked once their digits 0 and 3 are exchanged
abbrev pub Exchanged : List ℕ → List ℕ → Type 0
Exchanged m r = (c : ℕ) → c < 4096 → Marked r c ↔ Marked m (exchange 6 c)

-- r marks the simple or full codes that are not marked
abbrev pub Outside : List ℕ → List ℕ → Type 0
Outside m r = (c : ℕ) → c < 4096 → Marked r c ↔ ((Simple 6 c ⊎ Full 6 c) × ¬ Marked m c)

-- r marks the marked codes that are marked no longer once any one literal is left out
abbrev pub Least : List ℕ → List ℕ → Type 0
Least m r = (c : ℕ) → c < 4096 → Marked r c ↔ (Marked m c × ((k : ℕ) → k < 12 → has c k ≡ 1 → ¬ Marked m (less c k)))

-- r marks the codes that are not marked
abbrev pub Others : List ℕ → List ℕ → Type 0
Others m r = (c : ℕ) → c < 4096 → Marked r c ↔ (¬ Marked m c)

-- r marks the codes that are marked in either
abbrev pub Either : List ℕ → List ℕ → List ℕ → Type 0
Either m o r = (c : ℕ) → c < 4096 → Marked r c ↔ (Marked m c ⊎ Marked o c)

-- r marks the codes that are marked in both
abbrev pub Both : List ℕ → List ℕ → List ℕ → Type 0
Both m o r = (c : ℕ) → c < 4096 → Marked r c ↔ (Marked m c × Marked o c)

-- r marks the codes of the sheet
abbrev pub OfSheet : List ℕ → List ℕ → Type 0
OfSheet F r = (c : ℕ) → c < 4096 → Marked r c ↔ Memᴰ c F

-- r marks the marked codes below 4 ^ n
abbrev pub Cut : List ℕ → ℕ → List ℕ → Type 0
Cut m n r = (c : ℕ) → c < 4096 → Marked r c ↔ (Marked m c × (c < 4 ^ n))

-- r marks the marked codes other than code
abbrev pub Removed : List ℕ → ℕ → List ℕ → Type 0
Removed m code r = (c : ℕ) → c < 4096 → Marked r c ↔ (Marked m c × (c ≢ code))

-- b is whether the code is marked
abbrev pub Held : List ℕ → ℕ → Bool → Type 0
Held m code b = (b ≡ true) ↔ Marked m code

-- b is whether the code is one of the 4,096 and some marked code has all its literals
abbrev pub Covered : List ℕ → ℕ → Bool → Type 0
Covered m code b = (b ≡ true) ↔ ((code < 4096) × ((q : ℕ) × Marked m q × Subsumes 6 q code))
