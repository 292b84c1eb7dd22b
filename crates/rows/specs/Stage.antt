-- Marks, as functions from codes to 0 or 1, moved by one literal, and closed over the literals below k.
--   raise k f c        f's mark at c without literal k, where c has it, else 0
--   lower k f c        f's mark at c with literal k, where c lacks it, else 0
--   closed_up k f      f closed upwards over the literals below k
--   closed_down k f    f closed downwards over the literals below k
--   raised k f c       1 where f marks c without one of its literals below k
use Rattle.std.specs.Prelude.{ℕ, zero, suc, ◌+◌, ◌-◌, ◌^◌, min, max}
use Rattle.fuzzy.specs.Phrase.{has}

-- f's mark at c without literal k, where c has it, else 0
unfoldable pub raise : ℕ → (ℕ → ℕ) → ℕ → ℕ
raise k f c = min (has c k) (f (c - 2 ^ k))

-- f's mark at c with literal k, where c lacks it, else 0
unfoldable pub lower : ℕ → (ℕ → ℕ) → ℕ → ℕ
lower k f c = min (1 - has c k) (f (c + 2 ^ k))

-- f closed upwards over the literals below k
unfoldable pub closed_up : ℕ → (ℕ → ℕ) → ℕ → ℕ
closed_up zero f c = f c
closed_up (suc k) f c = max (closed_up k f c) (raise k (closed_up k f) c)

-- f closed downwards over the literals below k
unfoldable pub closed_down : ℕ → (ℕ → ℕ) → ℕ → ℕ
closed_down zero f c = f c
closed_down (suc k) f c = max (closed_down k f c) (lower k (closed_down k f) c)

-- 1 where f marks c without one of its literals below k
unfoldable pub raised : ℕ → (ℕ → ℕ) → ℕ → ℕ
raised zero f c = 0
raised (suc k) f c = max (raised k f c) (raise k f c)
