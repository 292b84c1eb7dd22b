-- Vectors of scale 2 by number, and the decisions that they allow.
--   vector n k        the vector with number k: its n digits in base 3
--   above n f p k     whether the phrase is above f at vector k
--   first_from t k m  the first of the m numbers from k on that passes the test, k + m where none does
--   first t m         the least number below m that passes the test, m where none does
--   lowest n f p      the lowest vector at which the phrase is above f, 3 ^ n where there is none
--   implicant? n f p  whether the phrase is above f at no vector
--   spare n f p k     whether the phrase has literal k and is an implicant without it
--   prime? n f p      whether the phrase is an implicant that can lose no literal
use Rattle.std.specs.Prelude.{ℕ, zero, suc, ◌*◌, ◌^◌, Bool, cond, ◌&&◌, List, ltb, eqb}
use Rattle.fuzzy.specs.Phrase.{digits, has, less}
use Rattle.fuzzy.specs.Grade.{phrase_value}
use Rattle.fuzzy.specs.Function.{Fn}

-- the vector with number k
unfoldable pub vector : ℕ → ℕ → List ℕ
vector n k = digits 3 n k

-- whether the phrase is above f at vector k
unfoldable pub above : ℕ → Fn → ℕ → ℕ → Bool
above n f p k = ltb (f 2 (vector n k)) (phrase_value 2 n p (vector n k))

-- the first of the m numbers from k on that passes the test, k + m where none does
unfoldable pub first_from : (ℕ → Bool) → ℕ → ℕ → ℕ
first_from t k zero = k
first_from t k (suc m) = cond (t k) k (first_from t (suc k) m)

-- the least number below m that passes the test, m where none does
unfoldable pub first : (ℕ → Bool) → ℕ → ℕ
first t m = first_from t 0 m

-- the lowest vector at which the phrase is above f, 3 ^ n where there is none
unfoldable pub lowest : ℕ → Fn → ℕ → ℕ
lowest n f p = first (above n f p) (3 ^ n)

-- whether the phrase is above f at no vector
unfoldable pub implicant? : ℕ → Fn → ℕ → Bool
implicant? n f p = eqb (lowest n f p) (3 ^ n)

-- whether the phrase has literal k and is an implicant without it
unfoldable pub spare : ℕ → Fn → ℕ → ℕ → Bool
spare n f p k = eqb (has p k) 1 && implicant? n f (less p k)

-- whether the phrase is an implicant that can lose no literal
unfoldable pub prime? : ℕ → Fn → ℕ → Bool
prime? n f p = implicant? n f p && eqb (first (spare n f p) (2 * n)) (2 * n)
