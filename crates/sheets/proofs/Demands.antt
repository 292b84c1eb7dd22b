-- The three demands, from the promises alone, in the user's words.
-- Demand 1: an answer is not 0 exactly when a check applies, and is then the first that does; a refused call changes nothing and gives 0.
-- Demand 2: a list that is given holds exactly the primes, rising, and its flags mark a cover that no phrase can be left out of.
-- Demand 3: the lists of join, meet and complement are sheets over the same variables, and the laws hold for them.
-- `Checks` says what each check means, `Given` what a call that is done gave, `Flagged` which phrases the flags mark.
use mathlib.Core.Path.{◌≡◌, refl, sym, ap, ◌∙◌}
use mathlib.Core.Bool.{false}
use mathlib.Core.Logic.Iff
use mathlib.Core.Logic.{◌⊎◌, ◌↔◌}
use mathlib.Core.List.{List, [], ◌∷◌, ◌++◌, Memᴰ}
use Prim.Native.Nat.{ℕ, ◌^◌, ◌≤◌, ◌<◌, min}
use native.Mathlib.Nat.{le_trans, le-min, pow-le-pow_right}
use native.Mathlib.Omega.{arith}
use borrow.Author.Tests.{ne_eqb}
use lib.ListN.{length}
use Rattle.fuzzy.specs.Grade.{Grades, sheet_value}
use Rattle.fuzzy.specs.Function.{Fn, sheet_fn, join_fn, meet_fn, complement_fn, zero_fn, one_fn, Same, OfSheet}
use Rattle.fuzzy.specs.Implicant.{Prime}
use Rattle.fuzzy.specs.Primes.{primes, listed, joined, met, complemented, Rising}
use Rattle.fuzzy.specs.Cover.{without, cover, flags}
use Rattle.fuzzy.proofs.Closure.{of_sheet_lem, of_joined, of_met, of_complemented}
use Rattle.fuzzy.proofs.List as ListLaws
use Rattle.fuzzy.proofs.Cover as CoverLaws
use Rattle.fuzzy.proofs.Lattice as Lattice
use Rattle.fuzzy.proofs.Constant as Constant
use Rattle.sheets.specs.Answer.{Answer, Valued, Asked, Listed, first_of}
use Rattle.sheets.specs.Refusal.{variables, phrases, codes, scaled, counted, graded, phrased, value_refusal, question_refusal}
use Rattle.sheets.specs.Value.{value_answer, ValuePromise}
use Rattle.sheets.specs.Implicant.{implicant_answer, ImplicantPromise}
use Rattle.sheets.specs.Listing.{fitted, of_sheet, of_pair, ListPromise, PairPromise, JoinPromise, MeetPromise, ComplementPromise}
use Rattle.sheets.proofs.Published.{afterwards_refused}
use Rattle.sheets.proofs.Checks.{Done, Refused, FirstApplies, some_applies, is_first, Variables, Valid}
use Rattle.sheets.proofs.Checks.{variables_pass, phrases_pass, codes_pass, scaled_pass, counted_pass, graded_pass, phrased_pass}
use Rattle.sheets.proofs.Checks.{next_passes, last_passes, sheet_passes, pair_passes, room_passes}
use Rattle.sheets.proofs.Given.{Begins, first_answers, none_given, begins, ListGave, PairGave, JoinGave, MeetGave, ComplementGave}
use Rattle.sheets.proofs.Given.{Gave, by_list, by_join, by_meet, by_complement, list_list, list_flags, join_list, meet_list, complement_list}
use Rattle.sheets.proofs.Flagged.{flagged, flagged_cover}

-- Demand 1. The checks of each call, in order.

-- what `value` checks
abbrev pub value_checks : ℕ → List ℕ → ℕ → List ℕ → List Answer
value_checks n F s v = variables n ∷ phrases F ∷ codes n F ∷ scaled s ∷ counted n v ∷ graded s v ∷ []

-- what `implicant` checks
abbrev pub implicant_checks : ℕ → List ℕ → ℕ → List Answer
implicant_checks n F p = variables n ∷ phrases F ∷ codes n F ∷ phrased n p ∷ []

-- what `list` checks
abbrev pub list_checks : ℕ → List ℕ → List ℕ → List ℕ → List Answer
list_checks n F cs fs = of_sheet n F ++ (fitted (length (listed n F)) (min (length cs) (length fs)) ∷ [])

-- what `join` and `meet` check, whose lists are joined and met
abbrev pub pair_checks : (ℕ → List ℕ → List ℕ → List ℕ) → ℕ → List ℕ → List ℕ → List ℕ → List Answer
pair_checks made n A B cs = of_pair n A B ++ (fitted (length (made n A B)) (length cs) ∷ [])

-- what `join` checks
abbrev pub join_checks : ℕ → List ℕ → List ℕ → List ℕ → List Answer
join_checks = pair_checks joined

-- what `meet` checks
abbrev pub meet_checks : ℕ → List ℕ → List ℕ → List ℕ → List Answer
meet_checks = pair_checks met

-- what `complement` checks
abbrev pub complement_checks : ℕ → List ℕ → List ℕ → List Answer
complement_checks n A cs = of_sheet n A ++ (fitted (length (complemented n A)) (length cs) ∷ [])

module _ (n : ℕ) (F : List ℕ) (s : ℕ) (v : List ℕ) (r : Valued) (F' v' : List ℕ) (h : ValuePromise n F s v r F' v') where
  -- `value` answers the first of its checks that applies
  pub value_answers : r.answer ≡ first_of (value_checks n F s v)
  unfolding value_answer value_refusal
  value_answers = ap (λ (q : Valued). q.answer) h.answered

  -- it is not 0 exactly when one of them applies
  pub value_applies : Refused r.answer ↔ ((b : Answer) × Memᴰ b (value_checks n F s v) × Refused b)
  value_applies = some_applies (value_checks n F s v) r.answer value_answers

  -- and then it is the first that does, number and detail
  pub value_first : Refused r.answer → FirstApplies (value_checks n F s v) r.answer
  value_first = is_first (value_checks n F s v) r.answer value_answers

  -- it is done exactly when the sheet, the scale and the grades are in order
  pub value_done : Done r.answer ↔ (Valid n F × ((2 ≤ s) × (s ≤ 1000)) × Grades s n v)
  value_done =
      let c = next_passes (counted n v) (graded s v ∷ []) (counted_pass n v) (last_passes (graded s v) (graded_pass s v)) in
      let b = next_passes (scaled s) (counted n v ∷ graded s v ∷ []) (scaled_pass s) c in
      let a = sheet_passes n (scaled s ∷ counted n v ∷ graded s v ∷ []) b F in
      rw value_answers (Iff.trans a (λ (x, (y, g)). (x, y, g), λ (x, y, g). (x, (y, g))))

  -- where it is refused the lent buffers are as they came, and the value is 0
  pub value_refused : Refused r.answer → (F' ≡ F) × (v' ≡ v) × (r.value ≡ 0)
  unfolding value_answer
  value_refused d =
      let z : Refused (value_refusal n F s v) = rw h.answered at d in
      (h.sheet_kept, h.grades_kept, ap (λ (q : Valued). q.value) h.answered ∙ rw (ne_eqb _ 0 z))

module _ (n : ℕ) (F : List ℕ) (p : ℕ) (r : Asked) (F' : List ℕ) (h : ImplicantPromise n F p r F') where
  -- `implicant` answers the first of its checks that applies
  pub implicant_answers : r.answer ≡ first_of (implicant_checks n F p)
  unfolding implicant_answer question_refusal
  implicant_answers = ap (λ (q : Asked). q.answer) h.answered

  -- it is not 0 exactly when one of them applies
  pub implicant_applies : Refused r.answer ↔ ((b : Answer) × Memᴰ b (implicant_checks n F p) × Refused b)
  implicant_applies = some_applies (implicant_checks n F p) r.answer implicant_answers

  -- and then it is the first that does, number and detail
  pub implicant_first : Refused r.answer → FirstApplies (implicant_checks n F p) r.answer
  implicant_first = is_first (implicant_checks n F p) r.answer implicant_answers

  -- it is done exactly when the sheet and the phrase are in order
  pub implicant_done : Done r.answer ↔ (Valid n F × (p < 4 ^ n))
  implicant_done = rw implicant_answers (sheet_passes n (phrased n p ∷ []) (last_passes (phrased n p) (phrased_pass n p)) F)

  -- where it is refused the lent sheet is as it came, the verdict is no and the vector 0
  pub implicant_refused : Refused r.answer → (F' ≡ F) × (r.verdict ≡ false) × (r.vector ≡ 0)
  unfolding implicant_answer
  implicant_refused d =
      let z : Refused (question_refusal n F p) = rw h.answered at d in (
        h.sheet_kept,
        ap (λ (q : Asked). q.verdict) h.answered ∙ rw (ne_eqb _ 0 z),
        ap (λ (q : Asked). q.vector) h.answered ∙ rw (ne_eqb _ 0 z),
      )

module _ (n : ℕ) (F cs fs : List ℕ) (r : Listed) (F' cs' fs' : List ℕ) (h : ListPromise n F cs fs r F' cs' fs') where
  -- `list` answers the first of its checks that applies
  pub list_answers : r.answer ≡ first_of (list_checks n F cs fs)
  list_answers = first_answers (of_sheet n F) (listed n F) _ h.answered

  -- it is not 0 exactly when one of them applies
  pub list_applies : Refused r.answer ↔ ((b : Answer) × Memᴰ b (list_checks n F cs fs) × Refused b)
  list_applies = some_applies (list_checks n F cs fs) r.answer list_answers

  -- and then it is the first that does, number and detail
  pub list_first : Refused r.answer → FirstApplies (list_checks n F cs fs) r.answer
  list_first = is_first (list_checks n F cs fs) r.answer list_answers

  -- it is done exactly when the sheet is in order and the list fits both buffers
  pub list_done : Done r.answer ↔ (Valid n F × (length (listed n F) ≤ min (length cs) (length fs)))
  list_done = rw list_answers (sheet_passes n _ (room_passes (length (listed n F)) (min (length cs) (length fs))) F)

  -- room for 4 ^ n entries is always enough
  pub list_room : Valid n F → 4 ^ n ≤ length cs → 4 ^ n ≤ length fs → Done r.answer
  list_room a l k = list_done.1 (a, le_trans (ListLaws.few n (sheet_fn n F)) (le-min l k))

  -- where it is refused every lent buffer is as it came, and no entry is given
  pub list_refused : Refused r.answer → (cs' ≡ cs) × (fs' ≡ fs) × (F' ≡ F) × (r.count ≡ 0)
  list_refused d = (
    h.codes_after ∙ afterwards_refused r (listed n F) cs d,
    h.flags_after ∙ afterwards_refused r (flags n (sheet_fn n F)) fs d,
    h.sheet_kept,
    none_given (of_sheet n F) (listed n F) _ h.answered d,
  )

  -- where it is done the codes begin with the list and the flags with its flags, and the rest is as it came
  pub list_given : Done r.answer → Begins r (listed n F) cs cs' × Begins r (flags n (sheet_fn n F)) fs fs' × (F' ≡ F)
  list_given d = (
    begins (of_sheet n F) (listed n F) _ h.answered (listed n F) cs cs' refl h.codes_after d,
    begins (of_sheet n F) (listed n F) _ h.answered (flags n (sheet_fn n F)) fs fs' (CoverLaws.flags_length n (sheet_fn n F)) h.flags_after d,
    h.sheet_kept,
  )

-- `join` is the case where made is joined, `meet` the one where it is met.
module _ (made : ℕ → List ℕ → List ℕ → List ℕ) (n : ℕ) (A B cs : List ℕ) (r : Listed) (A' B' cs' : List ℕ)
    (h : PairPromise made n A B cs r A' B' cs') where
  -- a call that makes a list of two sheets answers the first of its checks that applies
  pub pair_answers : r.answer ≡ first_of (pair_checks made n A B cs)
  pair_answers = first_answers (of_pair n A B) (made n A B) _ h.answered

  -- it is not 0 exactly when one of them applies
  pub pair_applies : Refused r.answer ↔ ((b : Answer) × Memᴰ b (pair_checks made n A B cs) × Refused b)
  pair_applies = some_applies (pair_checks made n A B cs) r.answer pair_answers

  -- and then it is the first that does, number and detail
  pub pair_first : Refused r.answer → FirstApplies (pair_checks made n A B cs) r.answer
  pair_first = is_first (pair_checks made n A B cs) r.answer pair_answers

  -- it is done exactly when both sheets are in order and the list fits
  pub pair_done : Done r.answer ↔ (Valid n A × Valid n B × (length (made n A B) ≤ length cs))
  pair_done = rw pair_answers (pair_passes n _ (room_passes (length (made n A B)) (length cs)) A B)

  -- where it is refused every lent buffer is as it came, and no entry is given
  pub pair_refused : Refused r.answer → (cs' ≡ cs) × (A' ≡ A) × (B' ≡ B) × (r.count ≡ 0)
  pair_refused d = (
    h.codes_after ∙ afterwards_refused r (made n A B) cs d,
    h.first_kept,
    h.second_kept,
    none_given (of_pair n A B) (made n A B) (length cs) h.answered d,
  )

  -- where it is done the codes begin with the list, and the rest is as it came
  pub pair_given : Done r.answer → Begins r (made n A B) cs cs' × (A' ≡ A) × (B' ≡ B)
  pair_given d = (begins (of_pair n A B) (made n A B) _ h.answered (made n A B) cs cs' refl h.codes_after d, h.first_kept, h.second_kept)

-- The laws above of `join`.
module _ (n : ℕ) (A B cs : List ℕ) (r : Listed) (A' B' cs' : List ℕ) (h : JoinPromise n A B cs r A' B' cs') where
  pub join_answers : r.answer ≡ first_of (join_checks n A B cs)
  join_answers = pair_answers joined n A B cs r A' B' cs' h

  pub join_applies : Refused r.answer ↔ ((b : Answer) × Memᴰ b (join_checks n A B cs) × Refused b)
  join_applies = pair_applies joined n A B cs r A' B' cs' h

  pub join_first : Refused r.answer → FirstApplies (join_checks n A B cs) r.answer
  join_first = pair_first joined n A B cs r A' B' cs' h

  pub join_done : Done r.answer ↔ (Valid n A × Valid n B × (length (joined n A B) ≤ length cs))
  join_done = pair_done joined n A B cs r A' B' cs' h

  -- room for 4 ^ n entries is always enough
  pub join_room : Valid n A → Valid n B → 4 ^ n ≤ length cs → Done r.answer
  join_room a b l = join_done.1 (a, b, le_trans (ListLaws.few n (join_fn (sheet_fn n A) (sheet_fn n B))) l)

  pub join_refused : Refused r.answer → (cs' ≡ cs) × (A' ≡ A) × (B' ≡ B) × (r.count ≡ 0)
  join_refused = pair_refused joined n A B cs r A' B' cs' h

  pub join_given : Done r.answer → Begins r (joined n A B) cs cs' × (A' ≡ A) × (B' ≡ B)
  join_given = pair_given joined n A B cs r A' B' cs' h

-- The laws above of `meet`.
module _ (n : ℕ) (A B cs : List ℕ) (r : Listed) (A' B' cs' : List ℕ) (h : MeetPromise n A B cs r A' B' cs') where
  pub meet_answers : r.answer ≡ first_of (meet_checks n A B cs)
  meet_answers = pair_answers met n A B cs r A' B' cs' h

  pub meet_applies : Refused r.answer ↔ ((b : Answer) × Memᴰ b (meet_checks n A B cs) × Refused b)
  meet_applies = pair_applies met n A B cs r A' B' cs' h

  pub meet_first : Refused r.answer → FirstApplies (meet_checks n A B cs) r.answer
  meet_first = pair_first met n A B cs r A' B' cs' h

  pub meet_done : Done r.answer ↔ (Valid n A × Valid n B × (length (met n A B) ≤ length cs))
  meet_done = pair_done met n A B cs r A' B' cs' h

  -- room for 4 ^ n entries is always enough
  pub meet_room : Valid n A → Valid n B → 4 ^ n ≤ length cs → Done r.answer
  meet_room a b l = meet_done.1 (a, b, le_trans (ListLaws.few n (meet_fn (sheet_fn n A) (sheet_fn n B))) l)

  pub meet_refused : Refused r.answer → (cs' ≡ cs) × (A' ≡ A) × (B' ≡ B) × (r.count ≡ 0)
  meet_refused = pair_refused met n A B cs r A' B' cs' h

  pub meet_given : Done r.answer → Begins r (met n A B) cs cs' × (A' ≡ A) × (B' ≡ B)
  meet_given = pair_given met n A B cs r A' B' cs' h

module _ (n : ℕ) (A cs : List ℕ) (r : Listed) (A' cs' : List ℕ) (h : ComplementPromise n A cs r A' cs') where
  -- `complement` answers the first of its checks that applies
  pub complement_answers : r.answer ≡ first_of (complement_checks n A cs)
  complement_answers = first_answers (of_sheet n A) (complemented n A) _ h.answered

  -- it is not 0 exactly when one of them applies
  pub complement_applies : Refused r.answer ↔ ((b : Answer) × Memᴰ b (complement_checks n A cs) × Refused b)
  complement_applies = some_applies (complement_checks n A cs) r.answer complement_answers

  -- and then it is the first that does, number and detail
  pub complement_first : Refused r.answer → FirstApplies (complement_checks n A cs) r.answer
  complement_first = is_first (complement_checks n A cs) r.answer complement_answers

  -- it is done exactly when the sheet is in order and the list fits
  pub complement_done : Done r.answer ↔ (Valid n A × (length (complemented n A) ≤ length cs))
  complement_done = rw complement_answers (sheet_passes n _ (room_passes (length (complemented n A)) (length cs)) A)

  -- room for 4 ^ n entries is always enough
  pub complement_room : Valid n A → 4 ^ n ≤ length cs → Done r.answer
  complement_room a l = complement_done.1 (a, le_trans (ListLaws.few n (complement_fn (sheet_fn n A))) l)

  -- where it is refused every lent buffer is as it came, and no entry is given
  pub complement_refused : Refused r.answer → (cs' ≡ cs) × (A' ≡ A) × (r.count ≡ 0)
  complement_refused d = (
    h.codes_after ∙ afterwards_refused r (complemented n A) cs d,
    h.sheet_kept,
    none_given (of_sheet n A) (complemented n A) (length cs) h.answered d,
  )

  -- where it is done the codes begin with the list, and the rest is as it came
  pub complement_given : Done r.answer → Begins r (complemented n A) cs cs' × (A' ≡ A)
  complement_given d = (begins (of_sheet n A) (complemented n A) _ h.answered (complemented n A) cs cs' refl h.codes_after d, h.sheet_kept)

-- Demand 2. The list, and the cover that its flags mark.

-- `list` was asked about a sheet in order
pub list_asked : {n : ℕ} {F ps fs : List ℕ} → ListGave n F ps fs → Valid n F
list_asked {n = n} {F = F} c = ((list_done n F _ _ c.answer _ _ _ c.promised).0 c.is_done).0

module _ {n : ℕ} {F ps fs : List ℕ} (c : ListGave n F ps fs) where
  -- the list given holds exactly the sheet's primes over every scale
  pub list_exact : (p : ℕ) → Memᴰ p ps ↔ ((p < 4 ^ n) × Prime n (sheet_fn n F) p)
  list_exact p = rw (list_list c) (ListLaws.exactly n (sheet_fn n F) (of_sheet_lem n F) p)

  -- it rises strictly
  pub list_rises : Rising ps
  list_rises = rw (list_list c) (ListLaws.rising n (sheet_fn n F))

  -- it has the sheet's value everywhere on every scale
  pub list_keeps : Same n (sheet_fn n ps) (sheet_fn n F)
  list_keeps = rw (list_list c) (ListLaws.keeps n (sheet_fn n F) (of_sheet_lem n F))

  -- there is one flag for each entry
  pub one_flag_each : length fs ≡ length ps
  one_flag_each = rw (list_list c, list_flags c) (CoverLaws.flags_length n (sheet_fn n F))

  -- the flags mark the cover
  pub list_cover : flagged ps fs ≡ cover n (sheet_fn n F)
  list_cover = rw (list_list c, list_flags c) (flagged_cover n (sheet_fn n F))

  -- the cover has the sheet's value everywhere on every scale
  pub cover_keeps : Same n (sheet_fn n (flagged ps fs)) (sheet_fn n F)
  cover_keeps = rw list_cover (CoverLaws.keeps n (sheet_fn n F) (of_sheet_lem n F))

  -- without any one of its phrases its value is too low at some vector of every scale from 2
  pub cover_needs_each : (s : ℕ) → 2 ≤ s → (p : ℕ) → Memᴰ p (flagged ps fs)
      → (v : List ℕ) × Grades s n v × (sheet_value s n (without p (flagged ps fs)) v < sheet_value s n F v)
  cover_needs_each s h p m =
      let (v, g, low) = CoverLaws.needs_each_everywhere n (sheet_fn n F) s h p (rw list_cover at m) in
      (v, g, rw list_cover (rw (CoverLaws.keeps n (sheet_fn n F) (of_sheet_lem n F) s h v g) at low))

-- Demand 3. The lists of join, meet and complement.

-- `join` and `meet` were asked about sheets in order
pub pair_asked : {made : ℕ → List ℕ → List ℕ → List ℕ} {n : ℕ} {A B ps : List ℕ} → PairGave made n A B ps → Valid n A × Valid n B
pair_asked {made = made} {n = n} {A = A} {B = B} c =
    let (a, b, fits) = (pair_done made n A B _ c.answer _ _ _ c.promised).0 c.is_done in (a, b)

module _ {n : ℕ} {A B ps : List ℕ} where
  pub join_asked : JoinGave n A B ps → Valid n A × Valid n B
  join_asked = pair_asked

  pub meet_asked : MeetGave n A B ps → Valid n A × Valid n B
  meet_asked = pair_asked

  -- the list that `join` gives has the larger value everywhere
  pub join_value : JoinGave n A B ps → Same n (sheet_fn n ps) (join_fn (sheet_fn n A) (sheet_fn n B))
  join_value c = rw (join_list c) (Lattice.joined_value n A B)

  -- the list that `meet` gives has the smaller value everywhere
  pub meet_value : MeetGave n A B ps → Same n (sheet_fn n ps) (meet_fn (sheet_fn n A) (sheet_fn n B))
  meet_value c = rw (meet_list c) (Lattice.met_value n A B)

  -- `join` gives exactly the primes of the larger value
  pub join_exact : JoinGave n A B ps → (p : ℕ) → Memᴰ p ps ↔ ((p < 4 ^ n) × Prime n (join_fn (sheet_fn n A) (sheet_fn n B)) p)
  join_exact c p = rw (join_list c) (ListLaws.exactly n (join_fn (sheet_fn n A) (sheet_fn n B)) (of_joined n A B) p)

  -- `meet` gives exactly the primes of the smaller value
  pub meet_exact : MeetGave n A B ps → (p : ℕ) → Memᴰ p ps ↔ ((p < 4 ^ n) × Prime n (meet_fn (sheet_fn n A) (sheet_fn n B)) p)
  meet_exact c p = rw (meet_list c) (ListLaws.exactly n (meet_fn (sheet_fn n A) (sheet_fn n B)) (of_met n A B) p)

module _ {n : ℕ} {A ps : List ℕ} (c : ComplementGave n A ps) where
  -- `complement` was asked about a sheet in order
  pub complement_asked : Valid n A
  complement_asked = ((complement_done n A _ c.answer _ _ c.promised).0 c.is_done).0

  -- the list that `complement` gives has the complement value everywhere
  pub complement_value : Same n (sheet_fn n ps) (complement_fn (sheet_fn n A))
  complement_value = rw (complement_list c) (Lattice.complemented_value n A)

  -- `complement` gives exactly the primes of the complement value
  pub complement_exact : (p : ℕ) → Memᴰ p ps ↔ ((p < 4 ^ n) × Prime n (complement_fn (sheet_fn n A)) p)
  complement_exact p = rw (complement_list c) (ListLaws.exactly n (complement_fn (sheet_fn n A)) (of_complemented n A) p)

-- a list that a call gave is the list of the primes of a sheet's function, over 1 to 6 variables
gave_primes : {n : ℕ} {ps : List ℕ} → Gave n ps → Variables n × ((f : Fn) × OfSheet n f × (ps ≡ primes n f))
gave_primes {n = n} (by_list F fs c) = ((list_asked c).0, (sheet_fn n F, of_sheet_lem n F, list_list c))
gave_primes {n = n} (by_join A B c) = ((pair_asked c).0.0, (join_fn (sheet_fn n A) (sheet_fn n B), of_joined n A B, join_list c))
gave_primes {n = n} (by_meet A B c) = ((pair_asked c).0.0, (meet_fn (sheet_fn n A) (sheet_fn n B), of_met n A B, meet_list c))
gave_primes {n = n} (by_complement A c) = ((complement_asked c).0, (complement_fn (sheet_fn n A), of_complemented n A, complement_list c))

module _ {n : ℕ} {ps : List ℕ} (c : Gave n ps) where
  -- what a call gave is a sheet in order over the same variables, so it can be given to the next call
  pub gave_valid : Valid n ps
  gave_valid =
      let (few, (f, o, e)) = gave_primes c in
      rw e (
        few,
        le_trans (ListLaws.few n f) (pow-le-pow_right {n = 4} (omega arith) {j = 6} few.1),
        λ q m. ((ListLaws.in_primes n f q).0 m).0,
      )

  -- the checks on it pass
  pub gave_passes : Done (variables n) × Done (phrases ps) × Done (codes n ps)
  gave_passes = let (few, short, below) = gave_valid in ((variables_pass n).1 few, (phrases_pass ps).1 short, (codes_pass n ps).1 below)

  -- it rises strictly
  pub gave_rises : Rising ps
  gave_rises = let (few, (f, o, e)) = gave_primes c in rw e (ListLaws.rising n f)

  -- it is its own list
  gave_again : listed n ps ≡ ps
  gave_again = let (few, (f, o, e)) = gave_primes c in rw e (ListLaws.equal_lists n (sheet_fn n (primes n f)) f (ListLaws.keeps n f o))

  -- `list` gives it again
  pub list_again : {qs fs : List ℕ} → ListGave n ps qs fs → qs ≡ ps
  list_again d = list_list d ∙ gave_again

-- two lists that calls gave are the same function exactly when they are equal
pub gave_same : {n : ℕ} {ps qs : List ℕ} → Gave n ps → Gave n qs → Same n (sheet_fn n ps) (sheet_fn n qs) ↔ (ps ≡ qs)
gave_same {n = n} {ps = ps} {qs = qs} c d = (
  λ same. sym (gave_again c) ∙ ListLaws.equal_lists n (sheet_fn n ps) (sheet_fn n qs) same ∙ gave_again d,
  λ e s h v g. ap (λ (xs : List ℕ). sheet_value s n xs v) e,
)

-- two sheets are the same function exactly when `list` gives the same for both
pub list_same : {n : ℕ} {F G ps qs fs gs : List ℕ} → ListGave n F ps fs → ListGave n G qs gs → Same n (sheet_fn n F) (sheet_fn n G) ↔ (ps ≡ qs)
list_same {n = n} {F = F} {G = G} c d =
    rw (list_list c, list_list d) (ListLaws.same_lists n (sheet_fn n F) (sheet_fn n G) (of_sheet_lem n F) (of_sheet_lem n G))

-- The laws. What one call gave is the sheet of the next: in `JoinGave n A B ab → JoinGave n ab C left` the list ab goes into the second call.

module _ {n : ℕ} {A B ps qs : List ℕ} where
  -- in a join the two sheets can change places
  pub join_commutes : JoinGave n A B ps → JoinGave n B A qs → ps ≡ qs
  join_commutes p q = rw (join_list p, join_list q) (Lattice.join_commutative n A B)

  -- in a meet the two sheets can change places
  pub meet_commutes : MeetGave n A B ps → MeetGave n B A qs → ps ≡ qs
  meet_commutes p q = rw (meet_list p, meet_list q) (Lattice.meet_commutative n A B)

module _ {n : ℕ} {A B C ab bc left right : List ℕ} where
  -- three sheets can be joined in either grouping
  pub join_associates : JoinGave n A B ab → JoinGave n ab C left → JoinGave n B C bc → JoinGave n A bc right → left ≡ right
  join_associates i l j r = rw (join_list l, join_list r, join_list i, join_list j) (Lattice.join_associative n A B C)

  -- three sheets can be met in either grouping
  pub meet_associates : MeetGave n A B ab → MeetGave n ab C left → MeetGave n B C bc → MeetGave n A bc right → left ≡ right
  meet_associates i l j r = rw (meet_list l, meet_list r, meet_list i, meet_list j) (Lattice.meet_associative n A B C)

module _ {n : ℕ} {A ps qs fs : List ℕ} (own : ListGave n A ps fs) where
  -- a sheet joined with itself gives its own list
  pub join_itself : JoinGave n A A qs → qs ≡ ps
  join_itself q = rw (join_list q, list_list own) (Lattice.join_idempotent n A)

  -- a sheet met with itself gives its own list
  pub meet_itself : MeetGave n A A qs → qs ≡ ps
  meet_itself q = rw (meet_list q, list_list own) (Lattice.meet_idempotent n A)

  -- a sheet joined with its meet with another gives its own list
  pub join_absorbs : {B ab : List ℕ} → MeetGave n A B ab → JoinGave n A ab qs → qs ≡ ps
  join_absorbs {B = B} i q = rw (join_list q, list_list own, meet_list i) (Lattice.join_absorbs n A B)

  -- a sheet met with its join with another gives its own list
  pub meet_absorbs : {B ab : List ℕ} → JoinGave n A B ab → MeetGave n A ab qs → qs ≡ ps
  meet_absorbs {B = B} i q = rw (meet_list q, list_list own, join_list i) (Lattice.meet_absorbs n A B)

  -- a sheet joined with the empty sheet gives its own list
  pub join_zero : JoinGave n A [] qs → qs ≡ ps
  join_zero q = rw (join_list q, list_list own) (Constant.join_zero n A)

  -- a sheet met with [0] gives its own list
  pub meet_one : MeetGave n A (0 ∷ []) qs → qs ≡ ps
  meet_one q = rw (meet_list q, list_list own) (Constant.meet_one n A)

  -- the complement of a sheet's complement is its own list
  pub complement_twice : {no : List ℕ} → ComplementGave n A no → ComplementGave n no qs → qs ≡ ps
  complement_twice i q = rw (complement_list q, list_list own, complement_list i) (Lattice.double_complement n A)

module _ {n : ℕ} {A qs : List ℕ} where
  -- a sheet met with the empty sheet gives the empty list
  pub meet_zero : MeetGave n A [] qs → qs ≡ []
  meet_zero q = rw (meet_list q) (Constant.meet_zero n A)

  -- a sheet joined with [0] gives [0]
  pub join_one : JoinGave n A (0 ∷ []) qs → qs ≡ 0 ∷ []
  join_one q = rw (join_list q) (Constant.join_one n A)

  -- a sheet joined with its complement gives [0] exactly when the sheet is constant 0 or constant 1
  pub constant_one : {no : List ℕ} → ComplementGave n A no → JoinGave n A no qs
      → (qs ≡ 0 ∷ []) ↔ (Same n (sheet_fn n A) zero_fn ⊎ Same n (sheet_fn n A) one_fn)
  constant_one i q = rw (join_list q, complement_list i) (Constant.middle n A)

module _ {n : ℕ} {A B C ab ac bc left right : List ℕ} where
  -- joining with a meet gives the meet of the two joins
  pub join_distributes : MeetGave n B C bc → JoinGave n A bc left → JoinGave n A B ab → JoinGave n A C ac → MeetGave n ab ac right → left ≡ right
  join_distributes i l j k r = rw (join_list l, meet_list r, meet_list i, join_list j, join_list k) (Lattice.join_distributes n A B C)

  -- meeting with a join gives the join of the two meets
  pub meet_distributes : JoinGave n B C bc → MeetGave n A bc left → MeetGave n A B ab → MeetGave n A C ac → JoinGave n ab ac right → left ≡ right
  meet_distributes i l j k r = rw (meet_list l, join_list r, join_list i, meet_list j, meet_list k) (Lattice.meet_distributes n A B C)

module _ {n : ℕ} {A B ab no_a no_b left right : List ℕ} (a : ComplementGave n A no_a) (b : ComplementGave n B no_b) where
  -- the complement of a join is the meet of the complements
  pub de_morgan_join : JoinGave n A B ab → ComplementGave n ab left → MeetGave n no_a no_b right → left ≡ right
  de_morgan_join i l r = rw (complement_list l, meet_list r, join_list i, complement_list a, complement_list b) (Lattice.de_morgan_join n A B)

  -- the complement of a meet is the join of the complements
  pub de_morgan_meet : MeetGave n A B ab → ComplementGave n ab left → JoinGave n no_a no_b right → left ≡ right
  de_morgan_meet i l r = rw (complement_list l, join_list r, meet_list i, complement_list a, complement_list b) (Lattice.de_morgan_meet n A B)
