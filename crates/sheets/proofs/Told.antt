-- What the checks answer where their tests hold and where they fail, and that a refusal is never told as done.
use mathlib.Core.Path.{◌≡◌}
use mathlib.Core.Bool.{Bool, true, false, ◌&&◌}
use mathlib.Core.Logic.{◌⊎◌, inl, inr}
use Prim.Native.Nat.{ℕ, ◌≤◌, ◌<◌}
use native.Mathlib.Omega.{arith}
use borrow.Author.Tests.{le-leb, lt-leb}
use lib.Dec.{leb}
use Rattle.sheets.specs.declared.refusal.Refusal.{Refusal}
use Rattle.sheets.specs.declared.refusal.Refusal.TheVariants.{BadVariables, LongSheet, ForeignCode, NoRoom, BadScale, WrongCount, HighGrade, ForeignPhrase}
use Rattle.sheets.specs.Answer.{done, unless}
use Rattle.sheets.specs.Told.{answer_of}

-- a check whose test holds is done
pub unless_holds : {holds : Bool} (k d : ℕ) → holds ≡ true → done ≡ unless holds k d
unfolding unless
unless_holds k d e = rw e

-- one whose test fails refuses
pub unless_fails : {holds : Bool} (k d : ℕ) → holds ≡ false → record { number = k; detail = d } ≡ unless holds k d
unfolding unless
unless_fails k d e = rw e

-- a refusal has a number that is not 0
pub refuses : (e : Refusal) → (answer_of e).number ≡ 0 → ⊥
refuses (BadVariables given) z = omega arith
refuses (LongSheet length) z = omega arith
refuses (ForeignCode index) z = omega arith
refuses (NoRoom needed) z = omega arith
refuses (BadScale scale) z = omega arith
refuses (WrongCount came) z = omega arith
refuses (HighGrade index) z = omega arith
refuses (ForeignPhrase code) z = omega arith

-- a number between two bounds passes the test for them
pub inside : {low x high : ℕ} → low ≤ x → x ≤ high → (leb low x && leb x high) ≡ true
inside {low} {x} {high} l h = rw (le-leb low x l, le-leb x high h)

-- one beyond either fails it
pub outside : {low x high : ℕ} → (x < low) ⊎ ((low ≤ x) × (high < x)) → (leb low x && leb x high) ≡ false
outside {low} {x} {high} (inl l) = rw (lt-leb low x l)
outside {low} {x} {high} (inr (l, h)) = rw (le-leb low x l, lt-leb x high h)
