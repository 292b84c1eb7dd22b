-- The first refusal that applies, and what is known where none does.
use mathlib.Core.Path.{◌≡◌, refl, sym, ap, ◌∙◌}
use mathlib.Core.Bool.{Bool, true, false, cond}
use mathlib.Core.Logic.{◌⊎◌, inl, inr}
use mathlib.Core.List.Memᴰ
use mathlib.Core.List.{List, [], ◌∷◌, ◌++◌, Memᴰ}
use Prim.Native.Nat.{ℕ, suc, ◌<◌}
use native.Mathlib.Decide.{ℕ_discrete}
use native.Mathlib.Omega.{arith}
use borrow.Author.Tests.{eq-eqb, ne_eqb, eqb-true, eqb-false, leb-false}
use lib.Dec.{eqb, leb}
use lib.ListN.{length}
use Rattle.std.specs.Prelude.{Result, Ok, Err, IsErrAnd}
use Rattle.fuzzy.proofs.Search.{known}
use Rattle.sheets.specs.declared.refusal.Refusal.{Refusal}
use Rattle.sheets.specs.Answer.{Answer, done, unless, or_else, first_of}
use Rattle.sheets.specs.Told.{answer_of, told}
use Rattle.sheets.specs.Refusal.{first_at_least}
use Rattle.sheets.proofs.Told.{refuses}

-- a refusal stands
pub stands : (a b : Answer) → (a.number ≡ 0 → ⊥) → or_else a b ≡ a
unfolding or_else
stands a b d = rw (ne_eqb a.number 0 d)

-- after done comes the next
pub passes : (a b : Answer) → a.number ≡ 0 → or_else a b ≡ b
unfolding or_else
passes a b e = rw (eq-eqb a.number 0 e)

-- the last check needs none after it
last_check : (holds : Bool) (k d : ℕ) → 0 < k → or_else (unless holds k d) done ≡ unless holds k d
unfolding or_else unless
last_check true k d l = refl
last_check false k d l = rw (ne_eqb k 0 (λ e. omega arith))

-- a first refusal is the answer
pub first_stands : (a x : Answer) (rest : List Answer) → a ≡ x → (a.number ≡ 0 → ⊥) → a ≡ first_of (x ∷ rest)
unfolding first_of
first_stands a x rest e d = e ∙ sym (stands x (first_of rest) (rw e at d))

-- after a first check that passes the others decide
pub first_passes : (a x r : Answer) (rest : List Answer) → a ≡ x → a.number ≡ 0 → r ≡ first_of rest → r ≡ first_of (x ∷ rest)
unfolding first_of
first_passes a x r rest e z er = er ∙ sym (passes x (first_of rest) (rw e at z))

-- the last check stands alone
pub last_link : (q : Answer) (holds : Bool) (k d : ℕ) → 0 < k → q ≡ unless holds k d → q ≡ first_of (unless holds k d ∷ [])
unfolding first_of
last_link q holds k d l e = e ∙ sym (last_check holds k d l)

-- a result that hands a refusal on tells it
pub told_err : {A : Type 0} (r : Result A Refusal) (e : Refusal) → IsErrAnd r (λ y. y ≡ e) → told r ≡ answer_of e
told_err (Ok x) e h = absurd h
told_err (Err x) e h = ap answer_of h

-- a first check that refuses is the answer
pub err_stands : (e : Refusal) (x : Answer) (rest : List Answer) → answer_of e ≡ x → answer_of e ≡ first_of (x ∷ rest)
err_stands e x rest is = first_stands (answer_of e) x rest is (refuses e)

-- after a first check that passes the others decide
pub ok_next : (r x : Answer) (rest : List Answer) → done ≡ x → r ≡ first_of rest → r ≡ first_of (x ∷ rest)
ok_next r x rest e er = first_passes done x r rest e refl er

-- the first refusal of two lists of checks
first_append : (xs ys : List Answer) → first_of (xs ++ ys) ≡ or_else (first_of xs) (first_of ys)
unfolding first_of
first_append [] ys = sym (passes done (first_of ys) refl)
first_append (x ∷ xs) ys = at (first_append xs ys) (ℕ_discrete x.number 0)
  where
    at : first_of (xs ++ ys) ≡ or_else (first_of xs) (first_of ys) → Dec (x.number ≡ 0)
        → or_else x (first_of (xs ++ ys)) ≡ or_else (or_else x (first_of xs)) (first_of ys)
    at ih (yes e) = passes x (first_of (xs ++ ys)) e ∙ ih ∙ sym (ap (λ (a : Answer). or_else a (first_of ys)) (passes x (first_of xs) e))
    at ih (no d) =
        stands x (first_of (xs ++ ys)) d
        ∙ sym (ap (λ (a : Answer). or_else a (first_of ys)) (stands x (first_of xs) d) ∙ stands x (first_of ys) d)

-- a refusal of the first checks is one of them all
pub err_early : (e : Refusal) (xs ys : List Answer) → answer_of e ≡ first_of xs → answer_of e ≡ first_of (xs ++ ys)
err_early e xs ys is = sym (first_append xs ys ∙ rw (← is) (stands (answer_of e) (first_of ys) (refuses e)))

-- where the first checks pass the others decide
pub ok_early : (r : Answer) (xs ys : List Answer) → done ≡ first_of xs → r ≡ first_of ys → r ≡ first_of (xs ++ ys)
ok_early r xs ys is e = e ∙ sym (first_append xs ys ∙ rw (← is) (passes done (first_of ys) refl))

-- where a check does not refuse, its test holds
pub holds_of : (holds : Bool) (k d : ℕ) → 0 < k → (unless holds k d).number ≡ 0 → holds ≡ true
unfolding unless
holds_of true k d l e = refl
holds_of false k d l e = absurd (omega arith)

-- where none of the checks refuses, neither the first nor the others do
pub all_pass : (a : Answer) (rest : List Answer) → (first_of (a ∷ rest)).number ≡ 0 → (a.number ≡ 0) × ((first_of rest).number ≡ 0)
unfolding first_of or_else
all_pass a rest e = at (known (eqb a.number 0)) e
  where
    at : (eqb a.number 0 ≡ true) ⊎ (eqb a.number 0 ≡ false) → (cond (eqb a.number 0) (first_of rest) a).number ≡ 0
        → (a.number ≡ 0) × ((first_of rest).number ≡ 0)
    at (inl y) h = (eqb-true a.number 0 y, rw y at h)
    at (inr y) h = absurd (eqb-false a.number 0 y (rw y at h))

-- where the scan finds nothing, all entries are below the limit
pub all_below : (limit : ℕ) (xs : List ℕ) → first_at_least limit xs ≡ length xs → (x : ℕ) → Memᴰ x xs → x < limit
unfolding first_at_least
all_below limit [] e x m = absurd (Memᴰ.not-nil m)
all_below limit (y ∷ xs) e x m = at (known (leb limit y)) e (λ e' m'. all_below limit xs e' x m') (Memᴰ.cases_cons m)
  where
    at : (leb limit y ≡ true) ⊎ (leb limit y ≡ false) → cond (leb limit y) 0 (suc (first_at_least limit xs)) ≡ suc (length xs)
        → (first_at_least limit xs ≡ length xs → Memᴰ x xs → x < limit) → (x ≡ y) ⊎ Memᴰ x xs → x < limit
    at (inl t) h ih w = let z : 0 ≡ suc (length xs) = rw t at h in absurd (omega arith)
    at (inr t) h ih (inl w) = rw w (leb-false limit y t)
    at (inr t) h ih (inr w) = let z : suc (first_at_least limit xs) ≡ suc (length xs) = rw t at h in ih (omega arith) w
