-- What it means that one of the checks applies, and that none does: an answer is the first check that applies, number and detail.
--   Done a, Refused a       the answer's number is 0; it is not
--   FirstApplies checks a   a is a check that applies, and none before it does
--   Variables n             n is a number of variables: 1 to 6
--   Valid n F               F passes every check on a sheet over n variables
use mathlib.Core.Path.{◌≡◌, refl, ap, ◌∙◌}
use mathlib.Core.Bool.{Bool, true, ◌&&◌}
use mathlib.Core.Logic.Iff
use mathlib.Core.Logic.{◌⊎◌, inl, inr, ◌↔◌, ◌≢◌}
use mathlib.Core.List.Memᴰ
use mathlib.Core.List.{List, [], ◌∷◌, ◌++◌, Memᴰ}
use Prim.Native.Nat.{ℕ, ◌+◌, ◌^◌, ◌≤◌, ◌<◌}
use native.Mathlib.Decide.{ℕ_discrete}
use native.Mathlib.Omega.{arith}
use borrow.Author.Tests.{eq-eqb, eqb-true, leb-true, le-leb, lt-leb, ltb-true, lt-ltb}
use lib.Dec.{eqb, leb, ltb}
use lib.ListN.{length}
use Rattle.fuzzy.proofs.Search.{both, both_first, both_second}
use Rattle.sheets.specs.Answer.{Answer, done, unless, first_of}
use Rattle.sheets.specs.Refusal.{first_at_least, variables, phrases, codes, scaled, counted, graded, phrased}
use Rattle.sheets.specs.Listing.{fitted, of_sheet, of_pair}
use Rattle.sheets.proofs.Refused.{stands, passes, holds_of, all_pass, all_below}
use Rattle.sheets.proofs.Lists.{Codes}

-- the call is done
abbrev pub Done : Answer → Type 0
Done a = a.number ≡ 0

-- the call is refused
abbrev pub Refused : Answer → Type 0
Refused a = a.number ≢ 0

-- nothing is refused exactly when no check applies
pub first_done : (checks : List Answer) → Done (first_of checks) ↔ ((a : Answer) → Memᴰ a checks → Done a)
unfolding first_of
first_done [] = (λ z a m. absurd (Memᴰ.not-nil m), λ h. refl)
first_done (x ∷ rest) = to_fro (first_done rest)
  where
    to_fro : Done (first_of rest) ↔ ((a : Answer) → Memᴰ a rest → Done a)
        → Done (first_of (x ∷ rest)) ↔ ((a : Answer) → Memᴰ a (x ∷ rest) → Done a)
    to_fro ih = (
      λ z a m. let (here, there) = all_pass x rest z in at a here (ih.0 there) (Memᴰ.cases_cons m),
      λ h. rw (passes x (first_of rest) (h x (Memᴰ.head refl))) (ih.1 (λ a m. h a (Memᴰ.tail m))),
    )
      where
        at : (a : Answer) → Done x → ((b : Answer) → Memᴰ b rest → Done b) → (a ≡ x) ⊎ Memᴰ a rest → Done a
        at a here there (inl e) = rw e here
        at a here there (inr m) = there a m

-- a is a check that applies, and none before it does
pub record FirstApplies (checks : List Answer) (a : Answer) : Type 0 where
  pub earlier : List Answer
  pub later : List Answer
  pub in_order : checks ≡ earlier ++ (a ∷ later)
  pub earlier_pass : (b : Answer) → Memᴰ b earlier → Done b
  pub applies : Refused a

-- a refusal is the first check that applies, number and detail
pub first_refused : (checks : List Answer) → Refused (first_of checks) → FirstApplies checks (first_of checks)
unfolding first_of
first_refused [] d = absurd (d refl)
first_refused (x ∷ rest) d = at (ℕ_discrete x.number 0) (first_refused rest)
  where
    at : Dec (Done x) → (Refused (first_of rest) → FirstApplies rest (first_of rest)) → FirstApplies (x ∷ rest) (first_of (x ∷ rest))
    at (no e) ih = rw (stands x (first_of rest) e) record {
      earlier = [];
      later = rest;
      in_order = refl;
      earlier_pass = λ b m. absurd (Memᴰ.not-nil m);
      applies = e;
    }
    at (yes e) ih =
        let is = passes x (first_of rest) e in
        let f = ih (λ z. d (rw is z)) in
        rw is record {
          earlier = x ∷ f.earlier;
          later = f.later;
          in_order = ap (λ (xs : List Answer). x ∷ xs) f.in_order;
          earlier_pass = λ b m. before b f.earlier f.earlier_pass (Memᴰ.cases_cons m);
          applies = f.applies;
        }
      where
        before : (b : Answer) (xs : List Answer) → ((c : Answer) → Memᴰ c xs → Done c) → (b ≡ x) ⊎ Memᴰ b xs → Done b
        before b xs h (inl y) = rw y e
        before b xs h (inr m) = h b m

-- done has detail 0
pub done_plain : (checks : List Answer) → Done (first_of checks) → first_of checks ≡ done
unfolding first_of
done_plain [] z = refl
done_plain (x ∷ rest) z = let (here, there) = all_pass x rest z in passes x (first_of rest) here ∙ done_plain rest there

-- what stands between two parts of a list is a member of it
between : (checks earlier later : List Answer) (a : Answer) → checks ≡ earlier ++ (a ∷ later) → Memᴰ a checks
between checks earlier later a e = rw e (Memᴰ.append_right earlier (Memᴰ.head refl))

module _ (checks : List Answer) (a : Answer) (is : a ≡ first_of checks) where
  -- an answer that is the first of the checks is a refusal exactly when some check applies
  pub some_applies : Refused a ↔ ((b : Answer) × Memᴰ b checks × Refused b)
  some_applies = (to, λ (b, m, d) z. d ((first_done checks).0 (rw is at z) b m))
    where
      to : Refused a → (b : Answer) × Memᴰ b checks × Refused b
      to d =
          let f = first_refused checks (rw is at d) in
          (first_of checks, between checks f.earlier f.later (first_of checks) f.in_order, f.applies)

  -- and then it is the first that applies
  pub is_first : Refused a → FirstApplies checks a
  is_first d = rw is (first_refused checks (rw is at d))

-- n is a number of variables
abbrev pub Variables : ℕ → Type 0
Variables n = (1 ≤ n) × (n ≤ 6)

-- a check passes exactly when its test holds
check_passes : (holds : Bool) (k d : ℕ) → 0 < k → Done (unless holds k d) ↔ (holds ≡ true)
unfolding unless
check_passes holds k d l = (holds_of holds k d l, λ e. rw e)

-- several pass exactly when the first does and the others do
pub next_passes : {P Q : Type 0} (a : Answer) (rest : List Answer) → Done a ↔ P → Done (first_of rest) ↔ Q → Done (first_of (a ∷ rest)) ↔ (P × Q)
unfolding first_of
next_passes a rest here there = (
  λ e. let (x, y) = all_pass a rest e in (here.0 x, there.0 y),
  λ h. rw (passes a (first_of rest) (here.1 h.0)) (there.1 h.1),
)

-- the last passes alone
pub last_passes : {P : Type 0} (a : Answer) → Done a ↔ P → Done (first_of (a ∷ [])) ↔ P
unfolding first_of
last_passes a here = (λ e. here.0 (all_pass a [] e).0, λ h. rw (passes a done (here.1 h)))

-- the scan finds nothing where all entries are below the limit
none_at_least : (limit : ℕ) (xs : List ℕ) → ((x : ℕ) → Memᴰ x xs → x < limit) → first_at_least limit xs ≡ length xs
unfolding first_at_least
none_at_least limit [] h = refl
none_at_least limit (x ∷ xs) h =
    rw (lt-leb limit x (h x (Memᴰ.head refl)), none_at_least limit xs (λ y m. h y (Memᴰ.tail m)))

-- the check of entries passes exactly when all are below the limit, whatever its detail
entries_pass : (limit k d : ℕ) (xs : List ℕ) → 0 < k
    → Done (unless (eqb (first_at_least limit xs) (length xs)) k d) ↔ ((x : ℕ) → Memᴰ x xs → x < limit)
entries_pass limit k d xs l =
    let test = check_passes (eqb (first_at_least limit xs) (length xs)) k d l in (
      λ e. all_below limit xs (eqb-true (first_at_least limit xs) (length xs) (test.0 e)),
      λ h. test.1 (eq-eqb (first_at_least limit xs) (length xs) (none_at_least limit xs h)),
    )

-- 1 is answered exactly when the variables are not 1 to 6
pub variables_pass : (n : ℕ) → Done (variables n) ↔ Variables n
variables_pass n =
    let test = check_passes (leb 1 n && leb n 6) 1 n (omega arith) in (
      λ e. (leb-true 1 n (both_first (leb 1 n) (leb n 6) (test.0 e)), leb-true n 6 (both_second (leb 1 n) (leb n 6) (test.0 e))),
      λ h. test.1 (both (le-leb 1 n h.0) (le-leb n 6 h.1)),
    )

-- 2 exactly when there are more than 4,096 phrases
pub phrases_pass : (F : List ℕ) → Done (phrases F) ↔ (length F ≤ 4096)
phrases_pass F =
    let test = check_passes (leb (length F) 4096) 2 (length F) (omega arith) in
    (λ e. leb-true (length F) 4096 (test.0 e), λ h. test.1 (le-leb (length F) 4096 h))

-- 3 exactly when some code is 4 ^ n or more
pub codes_pass : (n : ℕ) (F : List ℕ) → Done (codes n F) ↔ Codes n F
codes_pass n F = entries_pass (4 ^ n) 3 _ F (omega arith)

-- 4 exactly when the entries do not fit
pub fitted_pass : (k room : ℕ) → Done (fitted k room) ↔ (k ≤ room)
fitted_pass k room =
    let test = check_passes (leb k room) 4 k (omega arith) in (λ e. leb-true k room (test.0 e), λ h. test.1 (le-leb k room h))

-- 5 exactly when the scale is not 2 to 1,000
pub scaled_pass : (s : ℕ) → Done (scaled s) ↔ ((2 ≤ s) × (s ≤ 1000))
scaled_pass s =
    let test = check_passes (leb 2 s && leb s 1000) 5 s (omega arith) in (
      λ e. (leb-true 2 s (both_first (leb 2 s) (leb s 1000) (test.0 e)), leb-true s 1000 (both_second (leb 2 s) (leb s 1000) (test.0 e))),
      λ h. test.1 (both (le-leb 2 s h.0) (le-leb s 1000 h.1)),
    )

-- 6 exactly when the grades are not n in number
pub counted_pass : (n : ℕ) (v : List ℕ) → Done (counted n v) ↔ (length v ≡ n)
counted_pass n v =
    let test = check_passes (eqb (length v) n) 6 (length v) (omega arith) in
    (λ e. eqb-true (length v) n (test.0 e), λ h. test.1 (eq-eqb (length v) n h))

-- 7 exactly when some grade is above the scale
pub graded_pass : (s : ℕ) (v : List ℕ) → Done (graded s v) ↔ ((g : ℕ) → Memᴰ g v → g ≤ s)
graded_pass s v =
    let test = entries_pass (s + 1) 7 _ v (omega arith) in
    (λ e g m. omega (arith, test.0 e g m), λ h. test.1 (λ g m. omega (arith, h g m)))

-- 12 exactly when the phrase asked about is 4 ^ n or more
pub phrased_pass : (n p : ℕ) → Done (phrased n p) ↔ (p < 4 ^ n)
phrased_pass n p =
    let test = check_passes (ltb p (4 ^ n)) 12 p (omega arith) in
    (λ e. ltb-true p (4 ^ n) (test.0 e), λ h. test.1 (lt-ltb p (4 ^ n) h))

-- F passes every check on a sheet over n variables
abbrev pub Valid : ℕ → List ℕ → Type 0
Valid n F = Variables n × (length F ≤ 4096) × Codes n F

module _ {Q : Type 0} (n : ℕ) (rest : List Answer) (after : Done (first_of rest) ↔ Q) where
  -- one sheet and the checks that follow it
  pub sheet_passes : (F : List ℕ) → Done (first_of (of_sheet n F ++ rest)) ↔ (Valid n F × Q)
  sheet_passes F =
      let c = next_passes (codes n F) rest (codes_pass n F) after in
      let b = next_passes (phrases F) (codes n F ∷ rest) (phrases_pass F) c in
      let a = next_passes (variables n) (phrases F ∷ codes n F ∷ rest) (variables_pass n) b in
      Iff.trans a (λ (x, (y, (z, q))). ((x, y, z), q), λ ((x, y, z), q). (x, (y, (z, q))))

  -- two sheets and the checks that follow them
  pub pair_passes : (A B : List ℕ) → Done (first_of (of_pair n A B ++ rest)) ↔ (Valid n A × Valid n B × Q)
  pair_passes A B =
      let e = next_passes (codes n B) rest (codes_pass n B) after in
      let d = next_passes (codes n A) (codes n B ∷ rest) (codes_pass n A) e in
      let c = next_passes (phrases B) (codes n A ∷ codes n B ∷ rest) (phrases_pass B) d in
      let b = next_passes (phrases A) (phrases B ∷ codes n A ∷ codes n B ∷ rest) (phrases_pass A) c in
      let a = next_passes (variables n) (phrases A ∷ phrases B ∷ codes n A ∷ codes n B ∷ rest) (variables_pass n) b in
      Iff.trans a (
        λ (w, (x, (y, (u, (v, q))))). ((w, x, u), (w, y, v), q),
        λ ((w, x, u), (w', y, v), q). (w, (x, (y, (u, (v, q))))),
      )

-- the room is the last check: it passes exactly when the entries fit
pub room_passes : (k room : ℕ) → Done (first_of (fitted k room ∷ [])) ↔ (k ≤ room)
room_passes k room = last_passes (fitted k room) (fitted_pass k room)
