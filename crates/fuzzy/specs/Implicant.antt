-- Implicants and primes, over every scale.
--   ImplicantOn s n f p   on scale s the phrase is never above f
--   Implicant n f p       on no scale from 2 is the phrase ever above f
--   Prime n f p           an implicant that subsumes no other implicant
--   LosesNone n f p       an implicant that can lose no literal
use Rattle.std.specs.Prelude.{◌≡◌, ℕ, ◌*◌, ◌^◌, ◌≤◌, ◌<◌, List}
use Rattle.fuzzy.specs.Phrase.{has, less, Subsumes}
use Rattle.fuzzy.specs.Grade.{Grades, phrase_value}
use Rattle.fuzzy.specs.Function.{Fn}

-- on scale s the phrase is never above f
abbrev pub ImplicantOn : ℕ → ℕ → Fn → ℕ → Type 0
ImplicantOn s n f p = (v : List ℕ) → Grades s n v → phrase_value s n p v ≤ f s v

-- on no scale from 2 is the phrase ever above f
abbrev pub Implicant : ℕ → Fn → ℕ → Type 0
Implicant n f p = (s : ℕ) → 2 ≤ s → ImplicantOn s n f p

-- an implicant that subsumes no other implicant; codes from 4 ^ n on are no phrases over n variables
pub record Prime (n : ℕ) (f : Fn) (p : ℕ) : Type 0 where
  pub implicant : Implicant n f p
  pub alone : (q : ℕ) → q < 4 ^ n → Implicant n f q → Subsumes n p q → q ≡ p

-- an implicant that can lose no literal
pub record LosesNone (n : ℕ) (f : Fn) (p : ℕ) : Type 0 where
  pub implicant : Implicant n f p
  pub needed : (k : ℕ) → k < 2 * n → has p k ≡ 1 → ¬ Implicant n f (less p k)
