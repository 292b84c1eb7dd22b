-- The loops that meet the primes: with the walk, from the last prime to the first for each number of literals, and against it.
--   Upto left₀ kept₀ later codes k rest left kept   the codes begin with rest, and meeting the primes with k literals behind it leads to left and kept
--   Passed a j k i                  of the primes met against the walk, up to those with k literals among the first i, is prime j with a literals one
--   Passing n codes k i own later   meeting these gives own and later
use mathlib.Core.Path.{◌≡◌, refl, sym, ap, ◌∙◌}
use mathlib.Core.Logic.Iff
use mathlib.Core.Logic.{◌⊎◌, inl, inr, ◌↔◌, ◌≢◌, ⊎_elim}
use mathlib.Core.List.Memᴰ
use mathlib.Core.List.{List, [], ◌∷◌, ◌++◌, append-nil, append_assoc, Memᴰ}
use Prim.Native.Nat.{ℕ, suc, ◌+◌, ◌*◌, ◌%◌, ◌≤◌, ◌<◌}
use native.Mathlib.Nat.{lt_of_lt_of_le, mod-eq_of_lt, pow-le-pow_right}
use native.Mathlib.Numerals.{add-one}
use native.Mathlib.Decide.{ℕ_discrete, dec_lt}
use native.Mathlib.Omega.{arith}
use lib.Bits.{bit_or}
use lib.Count.{ones}
use lib.ListN.{length, get_or, set, length-append}
use lib.Pow.{pow_pos}
use lib.Seq.{get_or-append_seam, get_or-set_same, get_or-set_other}
use Rattle.fuzzy.specs.Phrase.{has}
use Rattle.fuzzy.specs.Function.{Fn, OfSheet}
use Rattle.fuzzy.specs.Primes.{primes}
use Rattle.fuzzy.specs.Cover.{those, walk, strike, cover}
use Rattle.fuzzy.proofs.Literals.{has_none}
use Rattle.fuzzy.proofs.List.{rising}
use Rattle.fuzzy.proofs.Walk.{walk_member, literals_le}
use Rattle.rows.specs.Read.{marks_of}
use Rattle.sheets.specs.Cell.{pairs_of, Agrees, Own, Owned, Under}
use Rattle.sheets.specs.Walk.{ahead, Kept, Standing, Reads, Later, Behind, Meets, Round, Rounds, Covers}
use Rattle.sheets.proofs.Cells.{pairs_lt}
use Rattle.sheets.proofs.Below.{or_says}
use Rattle.sheets.proofs.Walked.{marks_member, ahead_none, ahead_all, ahead_meets, ahead_passes, prime_lt, prime_ones}

module _ (left₀ kept₀ later codes : List ℕ) (k : ℕ) where
  -- the codes begin with rest, and meeting the primes with k literals behind it leads to left and kept
  abbrev pub Upto : List ℕ → List ℕ → List ℕ → Type 0
  Upto rest left kept = (met : List ℕ) × (codes ≡ rest ++ met) × Round left₀ kept₀ later codes (length codes) k (length rest) left kept

  -- a round begins behind the last prime
  pub round_begins : Upto codes left₀ kept₀
  round_begins = ([], sym (append-nil codes), λ n f few of (e, at) lat s. rw (← e, ahead_all n (primes n f) k, ← (ahead_none n (primes n f) (suc k))) s)

  module _ (rest : List ℕ) (p : ℕ) (left kept : List ℕ) (h : Upto (rest ++ (p ∷ [])) left kept) where
    abbrev i : ℕ
    i = length rest

    whole : codes ≡ rest ++ (p ∷ h.0)
    whole = h.1 ∙ append_assoc rest (p ∷ []) h.0

    is : get_or codes i 0 ≡ p
    is = ap (λ (xs : List ℕ). get_or xs i 0) whole ∙ get_or-append_seam rest p h.0 0

    l : i < length codes
    l = omega (arith, ap length whole, length-append rest (p ∷ h.0))

    round : Round left₀ kept₀ later codes (length codes) k (suc i) left kept
    round = let e : length (rest ++ (p ∷ [])) ≡ suc i = omega (arith, length-append rest (p ∷ [])) in rw e at h.2

    -- a prime with another number of literals is passed
    pub round_passes : ones p ≢ k → Upto rest left kept
    round_passes d = (
      p ∷ h.0,
      whole,
      λ n f few of (e, at) lat s.
          let other : ones (get_or (primes n f) i 0) ≢ k = rw (← (at i l), is) d in
          rw (ahead_passes n (primes n f) k i (rw e l) (λ z. other (sym (prime_ones n f i (rw e l)) ∙ z))) at (round n f few of (e, at) lat s),
    )

    -- one with k literals is met
    pub round_meets : (left' kept' : List ℕ) → ones p ≡ k → Meets left kept later p left' kept' → Upto rest left' kept'
    round_meets left' kept' z meets = (
      p ∷ h.0,
      whole,
      λ n f few of (e, at) lat s.
          let same : p ≡ get_or (primes n f) i 0 = sym is ∙ at i l in
          rw z at (meets n f i few of (rw e l) same (rw same (lat i (rw e l))) (rw z (round n f few of (e, at) lat s))),
    )

  -- a round ends where no code is left
  pub round_ends : (rest left kept : List ℕ) → length rest ≡ 0 → Upto rest left kept → Round left₀ kept₀ later codes (length codes) k 0 left kept
  round_ends rest left kept e h = rw e at h.2

-- prime j with a literals is one of those met up to those with k literals among the first i
abbrev pub Passed : ℕ → ℕ → ℕ → ℕ → Type 0
Passed a j k i = (a < k) ⊎ ((a ≡ k) × (j < i))

-- meeting these against the walk gives own and later
abbrev pub Passing : ℕ → List ℕ → ℕ → ℕ → List ℕ → List ℕ → Type 0
Passing n codes k i own later = (f : Fn) → OfSheet n f → Reads n f codes (length codes) → Owned (ahead n (primes n f) k i) own
    × ((j : ℕ) → j < length (primes n f) → Passed (ones (get_or (primes n f) j 0)) j k i → Later n f j (get_or later (get_or (primes n f) j 0) 0))

-- the points of a phrase more
owned_more : (L own : List ℕ) (p points : ℕ) → length own ≡ 64 → ((x : ℕ) → x < 64 → (has points x ≡ 1) ↔ Agrees p x) → Owned L own
    → Owned (p ∷ L) (set own (pairs_of p) (bit_or (get_or own (pairs_of p) 0) points))
owned_more L own p points len agree owned P x lP lx = at (ℕ_discrete P (pairs_of p))
  where
    split : Own (p ∷ L) P x → Own L P x ⊎ ((pairs_of p ≡ P) × Agrees p x)
    split (q, m, e, a) = ⊎_elim (λ i. inr (rw i at e, rw i at a)) (λ m'. inl (q, m', e, a)) (Memᴰ.cases_cons m)

    join : Own L P x → Own (p ∷ L) P x
    join (q, m, e, a) = (q, Memᴰ.tail m, e, a)

    at : Dec (P ≡ pairs_of p) → (has (get_or (set own (pairs_of p) (bit_or (get_or own (pairs_of p) 0) points)) P 0) x ≡ 1) ↔ Own (p ∷ L) P x
    at (no d) = rw (get_or-set_other own (pairs_of p) P (bit_or (get_or own (pairs_of p) 0) points) 0 d)
        (Iff.trans (owned P x lP lx) (join, λ h. ⊎_elim (λ g. g) (λ (e, a). absurd (d (sym e))) (split h)))
    at (yes same) = rw (same, get_or-set_same own (pairs_of p) (bit_or (get_or own (pairs_of p) 0) points) 0 (omega (arith, pairs_lt p)))
        (Iff.trans (or_says (get_or own (pairs_of p) 0) points x) (
          ⊎_elim (λ h. rw same at (join ((owned P x lP lx).0 (rw same h)))) (λ h. (p, Memᴰ.head refl, refl, (agree x lx).0 h)),
          λ h. ⊎_elim (λ g. inl (rw same at ((owned P x lP lx).1 g))) (λ (e, a). inr ((agree x lx).1 a)) (split (rw same h)),
        ))

-- the points of the same phrases
owned_same : (L L' own : List ℕ) → ((q : ℕ) → Memᴰ q L ↔ Memᴰ q L') → Owned L own → Owned L' own
owned_same L L' own same owned P x lP lx = Iff.trans (owned P x lP lx) (
  λ (q, m, e, a). (q, (same q).0 m, e, a),
  λ (q, m, e, a). (q, (same q).1 m, e, a),
)

module _ (n : ℕ) (codes : List ℕ) where
  -- before any prime is met
  pub passing_begins : (own later : List ℕ) → ((P : ℕ) → P < 64 → get_or own P 0 ≡ 0) → Passing n codes 0 0 own later
  unfolding walk
  passing_begins own later none f of reads = (
    λ P x lP lx. (λ h. absurd (omega (arith, rw (none P lP) at h, has_none 0 x (pow_pos x))), λ (q, m, e, a). absurd (Memᴰ.not-nil (rw (ahead_none n (primes n f) 0) at m))),
    λ j l why. absurd (⊎_elim (λ h. omega arith) (λ (e, h). omega arith) why),
  )

  module _ (k i : ℕ) (own later : List ℕ) (l : i < length codes) (so_far : Passing n codes k i own later) where
    -- a prime with another number of literals is passed
    pub passing_passes : ones (get_or codes i 0) ≢ k → Passing n codes k (i + 1) own later
    passing_passes d f of (e, at) = (
      rw (add-one i, ahead_passes n (primes n f) k i (rw e l) (λ z. other (sym (prime_ones n f i (rw e l)) ∙ z))) (so_far f of (e, at)).0,
      λ j lj why. (so_far f of (e, at)).1 j lj (⊎_elim inl (λ (z, h). inr (z, less j z h)) why),
    )
      where
        other : ones (get_or (primes n f) i 0) ≢ k
        other = rw (← (at i l)) d

        less : (j : ℕ) → ones (get_or (primes n f) j 0) ≡ k → j < i + 1 → j < i
        less j z h = which (ℕ_discrete j i)
          where
            which : Dec (j ≡ i) → j < i
            which (yes same) = absurd (other (rw same at z))
            which (no ne) = omega arith

    -- one with k literals is met
    pub passing_meets : n ≤ 6 → length own ≡ 64 → length later ≡ 4096 → (cell points : ℕ) → ones (get_or codes i 0) ≡ k
        → cell ≡ pairs_of (get_or codes i 0 % 4096) → ((x : ℕ) → x < 64 → (has points x ≡ 1) ↔ Agrees (get_or codes i 0 % 4096) x)
        → Passing n codes k (i + 1) (set own cell (bit_or (get_or own cell 0) points)) (set later (get_or codes i 0 % 4096) (get_or own cell 0))
    passing_meets few len long cell points z pairs agree f of (e, at) = (
      rw (add-one i, ahead_meets n (primes n f) k i li (prime_ones n f i li ∙ here), cell_here) (owned_more _ own p points len agree_here (so_far f of (e, at)).0),
      λ j lj why. met j lj why (ℕ_discrete j i),
    )
      where
        li : i < length (primes n f)
        li = rw e l

        p : ℕ
        p = get_or (primes n f) i 0

        low : (j : ℕ) → j < length (primes n f) → get_or (primes n f) j 0 < 4096
        low j lj = lt_of_lt_of_le (prime_lt n f j lj) (pow-le-pow_right {n = 4} (omega arith) {j = 6} few)

        code : get_or codes i 0 % 4096 ≡ p
        code = ap (λ (c : ℕ). c % 4096) (at i l) ∙ mod-eq_of_lt (low i li)

        here : ones p ≡ k
        here = rw (at i l) at z

        cell_here : cell ≡ pairs_of p
        cell_here = rw code at pairs

        agree_here : (x : ℕ) → x < 64 → (has points x ≡ 1) ↔ Agrees p x
        agree_here = rw code at agree

        met : (j : ℕ) → (lj : j < length (primes n f)) → Passed (ones (get_or (primes n f) j 0)) j k (i + 1) → Dec (j ≡ i)
            → Later n f j (get_or (set later (get_or codes i 0 % 4096) (get_or own cell 0)) (get_or (primes n f) j 0) 0)
        met j lj why (yes same) = rw (same, code, get_or-set_same later p (get_or own cell 0) 0 (omega (arith, low i li)), here, cell_here)
            (λ x lx. (so_far f of (e, at)).0 (pairs_of p) x (pairs_lt p) lx)
        met j lj why (no ne) = rw (code, get_or-set_other later p (get_or (primes n f) j 0) (get_or own cell 0) 0 differ)
            ((so_far f of (e, at)).1 j lj (⊎_elim inl (λ (a, h). inr (a, omega arith)) why))
          where
            differ : get_or (primes n f) j 0 ≢ p
            differ same = which (dec_lt j i)
              where
                which : Dec (j < i) → ⊥
                which (yes less) = omega (arith, rising n f j i less li)
                which (no more) = omega (arith, rising n f i j (omega arith) lj)

  -- a round more
  pub passing_round : (k i : ℕ) (own later : List ℕ) → length codes ≤ i → i ≤ length codes → Passing n codes k i own later → Passing n codes (k + 1) 0 own later
  passing_round k i own later past most so_far f of (e, at) = (
    rw (add-one k, ahead_none n (primes n f) (suc k), ← (ahead_all n (primes n f) k), e, all) (so_far f of (e, at)).0,
    λ j lj why. (so_far f of (e, at)).1 j lj (which j lj (ℕ_discrete (ones (get_or (primes n f) j 0)) k) why),
  )
    where
      all : length codes ≡ i
      all = omega arith

      which : (j : ℕ) → j < length (primes n f) → Dec (ones (get_or (primes n f) j 0) ≡ k) → Passed (ones (get_or (primes n f) j 0)) j (k + 1) 0
          → Passed (ones (get_or (primes n f) j 0)) j k i
      which j lj (yes same) why = inr (same, omega arith)
      which j lj (no ne) (inl h) = inl (omega arith)
      which j lj (no ne) (inr (a, h)) = absurd (omega arith)

  -- once all rounds are done, all primes are met
  pub passing_ends : (own later : List ℕ) (k : ℕ) → k ≡ 2 * n + 1 → Passing n codes k 0 own later → Behind n codes own later
  passing_ends own later k e so_far f of reads = (
    owned_same (walk n (suc (2 * n)) (primes n f)) (primes n f) own (walk_member n (primes n f)) (rw (e, add-one (2 * n), ahead_none n (primes n f) (suc (2 * n))) at (so_far f of reads).0),
    λ j lj. (so_far f of reads).1 j lj (inl (omega (arith, sym (prime_ones n f j lj), literals_le n (get_or (primes n f) j 0)))),
  )

-- meeting all primes, with all of them left, leaves the cover
begins : (n : ℕ) (f : Fn) (left : List ℕ) → marks_of left 4096 ≡ primes n f → strike n (walk n (suc (2 * n)) (primes n f)) (marks_of left 4096) ≡ cover n f
unfolding cover
begins n f left marks = ap (strike n (walk n (suc (2 * n)) (primes n f))) marks

-- and meeting none leaves what is left
ended : (n : ℕ) (f : Fn) (left kept : List ℕ) → Standing n f (ahead n (primes n f) 0 0) left kept → marks_of left 4096 ≡ cover n f
unfolding those walk strike
ended n f left kept s = s.strikes

module _ (n : ℕ) (left₀ codes : List ℕ) (count : ℕ) where
  -- the walk begins with the most literals that there can be, and the points of primes with fewer pairs
  pub rounds_begin : (own later kept : List ℕ) → count ≡ length codes → Behind n codes own later → ((L : List ℕ) → Owned L own → Under L kept) → Rounds n left₀ codes count (2 * n + 1) left₀ kept
  rounds_begin own later kept same behind under f of reads marks =
      rw (add-one (2 * n), ahead_none n (primes n f) (suc (2 * n))) (record {
        strikes = begins n f left₀ marks;
        among = λ q m. rw marks at ((marks_member left₀ q).1 m);
        yet = λ q m. (marks_member left₀ q).0 (rw marks ((walk_member n (primes n f) q).0 m));
        enough = λ c full w. rw marks w;
        covered = λ P x lP lx clear. Iff.trans (under (primes n f) (behind f of (rw same at reads)).0 P x lP lx clear) (inl, ⊎_elim (λ h. h) (λ h. absurd (none P x h)));
      })
    where
      none : (P x : ℕ) → Kept left₀ (walk n (suc (2 * n)) (primes n f)) P x → ⊥
      none P x (q, m, out, e, a) = out ((walk_member n (primes n f) q).1 (rw marks at ((marks_member left₀ q).1 m)))

  -- a round more
  pub rounds_next : n ≤ 6 → (own later : List ℕ) → count ≡ length codes → Behind n codes own later → (k : ℕ) (left kept left' kept' : List ℕ) → Rounds n left₀ codes count (suc k) left kept
      → Round left kept later codes count k 0 left' kept' → Rounds n left₀ codes count k left' kept'
  rounds_next few own later same behind k left kept left' kept' h round f of reads marks = round n f few of reads (behind f of (rw same at reads)).1 (h f of reads marks)

  -- once no round is left, the cover is
  pub rounds_end : (left kept : List ℕ) → Rounds n left₀ codes count 0 left kept → Covers n left₀ codes count left
  rounds_end left kept h f of reads marks = ended n f left kept (h f of reads marks)
