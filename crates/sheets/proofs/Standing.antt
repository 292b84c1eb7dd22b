-- Meeting a prime where the walk stands: it is struck where its points are all covered by those kept and those of the primes behind it with its pairs.
-- What others are left is then within each point that the prime agrees with (`covers`), and by the criterion of its cell it is superfluous (`asked`).
-- What is met and kept, or struck, leads to where the walk stands next (`keeps`, `strikes`).
use mathlib.Core.Path.{◌≡◌, refl, sym, ap, ◌∙◌}
use mathlib.Core.Bool.{true, false, false≢true}
use mathlib.Core.Logic.Iff
use mathlib.Core.Logic.{◌⊎◌, inl, inr, ◌↔◌, ◌≢◌, ⊎_elim}
use mathlib.Core.List.Memᴰ
use mathlib.Core.List.{List, ◌∷◌, Memᴰ}
use Prim.Native.Nat.{ℕ, suc, ◌+◌, ◌-◌, ◌%◌, ◌^◌, ◌≤◌, ◌<◌}
use native.Mathlib.Nat.{lt_of_lt_of_le, mod-eq_of_lt, pow-le-pow_right, sub-add_cancel}
use native.Mathlib.Decide.{ℕ_discrete}
use native.Mathlib.Omega.{arith}
use lib.Bits.{bit_and, bit_or}
use lib.Count.{ones}
use lib.ListN.{length, get_or, set}
use lib.Seq.{get_or-set_same, get_or-set_other}
use Rattle.fuzzy.specs.Phrase.{has, Simple, Subsumes}
use Rattle.fuzzy.specs.Function.{Fn, sheet_fn, OfSheet}
use Rattle.fuzzy.specs.Implicant.{Implicant}
use Rattle.fuzzy.specs.Vector.{implicant?}
use Rattle.fuzzy.specs.Primes.{primes}
use Rattle.fuzzy.specs.Cover.{without, is_one_of, strike}
use Rattle.fuzzy.proofs.Search.{known, without_member, one_of}
use Rattle.fuzzy.proofs.Literals.{has_lt}
use Rattle.fuzzy.proofs.Subsumes.{subsumes_and}
use Rattle.fuzzy.proofs.Decide.{decided}
use Rattle.fuzzy.proofs.List.{in_primes, rising}
use Rattle.fuzzy.proofs.Fast.{Full}
use Rattle.fuzzy.proofs.Within.{Within}
use Rattle.fuzzy.proofs.Wider.{Widens, widens_sheet, wider_implicant}
use Rattle.rows.specs.Square.{Marked}
use Rattle.rows.specs.Pass.{Removed}
use Rattle.rows.specs.Read.{marks_of}
use Rattle.sheets.specs.Cell.{pairs_of, point, Clear, Agrees, Fewer, Own}
use Rattle.sheets.specs.Walk.{ahead, Kept, Standing, Later, Meets}
use Rattle.sheets.proofs.Cells.{pairs_lt, point_full, agrees_clear, reaches, fewer_splits, Halved, full_within, criterion, no_pairs}
use Rattle.sheets.proofs.Below.{or_says}
use Rattle.sheets.proofs.Walked.{marks_member, marks_without, strike_struck, strike_kept, simple_stays, ahead_not, ahead_meets, prime_lt, prime_ones}

-- an implicant over six variables is one over n
six : (n : ℕ) → n ≤ 6 → (L : List ℕ) (p : ℕ) → p < 4 ^ n → ((q : ℕ) → Memᴰ q L → q < 4 ^ n)
    → implicant? 6 (sheet_fn 6 L) p ≡ implicant? n (sheet_fn n L) p
six n few L p l below =
    let w : Widens (6 - n) n (sheet_fn n L) (sheet_fn (6 - n + n) L) = widens_sheet (6 - n) n L below in
    rw (sub-add_cancel few) at (wider_implicant (6 - n) n (sheet_fn n L) (sheet_fn (6 - n + n) L) w p l)

-- a member or not
one_or_not : (q : ℕ) (L : List ℕ) → Memᴰ q L ⊎ (¬ Memᴰ q L)
one_or_not q L = at (known (is_one_of q L))
  where
    at : (is_one_of q L ≡ true) ⊎ (is_one_of q L ≡ false) → Memᴰ q L ⊎ (¬ Memᴰ q L)
    at (inl y) = inl ((one_of q L).0 y)
    at (inr n) = inr (λ m. false≢true (sym n ∙ (one_of q L).1 m))

module _ (n : ℕ) (f : Fn) (p : ℕ) (on : List ℕ) (left kept : List ℕ) (few : n ≤ 6) (o : OfSheet n f) (once : ¬ Memᴰ p on)
    (s : Standing n f (p ∷ on) left kept) where
  abbrev rest : List ℕ
  rest = without p (marks_of left 4096)

  prime : Memᴰ p (primes n f)
  prime = s.among p (s.yet p (Memᴰ.head refl))

  in_rest : (q : ℕ) → Memᴰ q rest ↔ (Marked left q × (q ≢ p))
  in_rest q = Iff.trans (without_member p q (marks_of left 4096)) (Iff.and (marks_member left q) Iff.rfl)

  below : (q : ℕ) → Memᴰ q (primes n f) → q < 4 ^ n
  below q m = ((in_primes n f q).0 m).0

  not_met : (q : ℕ) → Memᴰ q on → q ≢ p
  not_met q m e = once (rw e at m)

  -- the points of phrases with other pairs are those of the rest's
  fewer_same : (x : ℕ) → Clear (pairs_of p) x → Fewer (primes n f) (pairs_of p) x ↔ Fewer rest (pairs_of p) x
  fewer_same x clear = (to, λ (q, m, sub, d). (q, s.among q ((in_rest q).0 m).0, sub, d))
    where
      halved : (k : ℕ) → Halved (primes n f) (pairs_of p) x k → Halved (marks_of left 4096) (pairs_of p) x k
      halved k = ⊎_elim (λ h. inl (s.enough _ (point_full _ _) h)) (λ h. inr (s.enough _ (point_full _ _) h))

      to : Fewer (primes n f) (pairs_of p) x → Fewer rest (pairs_of p) x
      to h =
          let (k, lk, one, w) = (fewer_splits (primes n f) (pairs_of p) x (pairs_lt p) clear).0 h in
          let (q, m, sub, d) = (fewer_splits (marks_of left 4096) (pairs_of p) x (pairs_lt p) clear).1 (k, lk, one, halved k w) in
          (q, (in_rest q).1 ((marks_member left q).0 m, λ e. d (ap pairs_of e)), sub, d)

  -- and those of the rest with its pairs are those kept and those ahead
  own_same : (x : ℕ) → (Kept left (p ∷ on) (pairs_of p) x ⊎ Own on (pairs_of p) x) ↔ Own rest (pairs_of p) x
  own_same x = (
    ⊎_elim (λ (q, m, out, e, a). (q, (in_rest q).1 (m, λ is. out (Memᴰ.head is)), e, a)) (λ (q, m, e, a). (q, (in_rest q).1 (s.yet q (Memᴰ.tail m), not_met q m), e, a)),
    λ (q, m, e, a). at q ((in_rest q).0 m) e a (one_or_not q on),
  )
    where
      at : (q : ℕ) → Marked left q × (q ≢ p) → pairs_of q ≡ pairs_of p → Agrees q x → Memᴰ q on ⊎ (¬ Memᴰ q on)
          → Kept left (p ∷ on) (pairs_of p) x ⊎ Own on (pairs_of p) x
      at q (m, d) e a (inl ahead) = inr (q, ahead, e, a)
      at q (m, d) e a (inr met) = inl (q, m, λ h. ⊎_elim d met (Memᴰ.cases_cons h), e, a)

  module _ (later points : ℕ) (fits : points < 18446744073709551616) (is : (x : ℕ) → x < 64 → (has later x ≡ 1) ↔ Own on (pairs_of p) x)
      (agree : (x : ℕ) → x < 64 → (has points x ≡ 1) ↔ Agrees p x) where
    abbrev others : ℕ
    others = bit_or (get_or kept (pairs_of p) 0) later

    -- what covers a point are the others left
    covers : (x : ℕ) → x < 64 → Agrees p x → (has others x ≡ 1) ↔ Within 6 rest (point (pairs_of p) x)
    covers x lx a = Iff.trans (or_says (get_or kept (pairs_of p) 0) later x) (
      λ h. (reaches rest (pairs_of p) x clear).1 (to h),
      λ h. from ((reaches rest (pairs_of p) x clear).0 h),
    )
      where
        clear : Clear (pairs_of p) x
        clear = agrees_clear p x a

        kept_says : (has (get_or kept (pairs_of p) 0) x ≡ 1) ↔ (Fewer (primes n f) (pairs_of p) x ⊎ Kept left (p ∷ on) (pairs_of p) x)
        kept_says = s.covered (pairs_of p) x (pairs_lt p) lx clear

        to : (has (get_or kept (pairs_of p) 0) x ≡ 1) ⊎ (has later x ≡ 1) → Fewer rest (pairs_of p) x ⊎ Own rest (pairs_of p) x
        to (inl h) = ⊎_elim (λ g. inl ((fewer_same x clear).0 g)) (λ g. inr ((own_same x).0 (inl g))) (kept_says.0 h)
        to (inr h) = inr ((own_same x).0 (inr ((is x lx).0 h)))

        from : Fewer rest (pairs_of p) x ⊎ Own rest (pairs_of p) x → (has (get_or kept (pairs_of p) 0) x ≡ 1) ⊎ (has later x ≡ 1)
        from (inl h) = inl (kept_says.1 (inl ((fewer_same x clear).1 h)))
        from (inr h) = ⊎_elim (λ g. inl (kept_says.1 (inr g))) (λ g. inr ((is x lx).1 g)) ((own_same x).1 h)

    -- with pairs, it is superfluous exactly when the others cover its points
    asked : pairs_of p ≢ 0 → (bit_and others points ≡ points) ↔ (implicant? n (sheet_fn n rest) p ≡ true)
    asked some = Iff.trans (Iff.symm (subsumes_and 32 others points fits)) (Iff.trans each
        (Iff.trans (Iff.symm (criterion rest p some)) (rw (six n few rest p (below p prime) (λ q m. below q (s.among q ((in_rest q).0 m).0))) at (Iff.symm (decided 6 (sheet_fn 6 rest) (rest, λ t v w g. refl) p)))))
      where
        each : Subsumes 32 others points ↔ ((x : ℕ) → x < 64 → Agrees p x → Within 6 rest (point (pairs_of p) x))
        each = (
          λ sub x lx a. (covers x lx a).0 (omega (arith, sub x lx, (agree x lx).1 a, has_lt others x)),
          λ h x lx. at h x lx (ℕ_discrete (has points x) 1),
        )
          where
            at : ((x : ℕ) → x < 64 → Agrees p x → Within 6 rest (point (pairs_of p) x)) → (x : ℕ) → x < 64 → Dec (has points x ≡ 1) → has points x ≤ has others x
            at h x lx (yes e) = let a = (agree x lx).0 e in omega (arith, (covers x lx a).1 (h x lx a))
            at h x lx (no d) = omega (arith, has_lt points x)

    abbrev more : List ℕ
    more = set kept (pairs_of p) (bit_or (get_or kept (pairs_of p) 0) points)

    -- a prime that stays is met and kept
    keeps : length kept ≡ 64 → implicant? n (sheet_fn n rest) p ≡ false → Standing n f on left more
    keeps len needed = record {
      strikes = sym (strike_kept n p on (marks_of left 4096) needed) ∙ s.strikes;
      among = s.among;
      yet = λ q m. s.yet q (Memᴰ.tail m);
      enough = s.enough;
      covered = λ P x lP lx clear. at P x lP lx clear (ℕ_discrete P (pairs_of p));
    }
      where
        stays : (P x : ℕ) → Kept left (p ∷ on) P x → Kept left on P x
        stays P x (q, m, out, e, a) = (q, m, (λ h. out (Memᴰ.tail h)), e, a)

        split : (P x : ℕ) → Kept left on P x → Kept left (p ∷ on) P x ⊎ ((pairs_of p ≡ P) × Agrees p x)
        split P x (q, m, out, e, a) = which (ℕ_discrete q p)
          where
            which : Dec (q ≡ p) → Kept left (p ∷ on) P x ⊎ ((pairs_of p ≡ P) × Agrees p x)
            which (yes i) = inr (rw i at e, rw i at a)
            which (no d) = inl (q, m, λ h. ⊎_elim d out (Memᴰ.cases_cons h), e, a)

        at : (P x : ℕ) → P < 64 → x < 64 → Clear P x → Dec (P ≡ pairs_of p) → (has (get_or more P 0) x ≡ 1) ↔ (Fewer (primes n f) P x ⊎ Kept left on P x)
        at P x lP lx clear (no d) = rw (get_or-set_other kept (pairs_of p) P (bit_or (get_or kept (pairs_of p) 0) points) 0 d) (Iff.trans (s.covered P x lP lx clear) (
          ⊎_elim inl (λ h. inr (stays P x h)),
          ⊎_elim inl (λ h. ⊎_elim inr (λ (e, a). absurd (d (sym e))) (split P x h)),
        ))
        at P x lP lx clear (yes i) = rw (i, get_or-set_same kept (pairs_of p) (bit_or (get_or kept (pairs_of p) 0) points) 0 (omega (arith, pairs_lt p)))
            (Iff.trans (or_says (get_or kept (pairs_of p) 0) points x) (here (rw i at clear)))
          where
            here : Clear (pairs_of p) x → ((has (get_or kept (pairs_of p) 0) x ≡ 1) ⊎ (has points x ≡ 1)) ↔ (Fewer (primes n f) (pairs_of p) x ⊎ Kept left on (pairs_of p) x)
            here c = (
              ⊎_elim (λ h. ⊎_elim inl (λ g. inr (stays _ x g)) ((s.covered (pairs_of p) x (pairs_lt p) lx c).0 h)) (λ h. inr (p, s.yet p (Memᴰ.head refl), once, refl, (agree x lx).0 h)),
              ⊎_elim (λ h. inl ((s.covered (pairs_of p) x (pairs_lt p) lx c).1 (inl h)))
                  (λ h. ⊎_elim (λ g. inl ((s.covered (pairs_of p) x (pairs_lt p) lx c).1 (inr g))) (λ (e, a). inr ((agree x lx).1 a)) (split _ x h)),
            )

  -- a superfluous prime is struck
  strikes : (left' : List ℕ) → Removed left p left' → implicant? n (sheet_fn n rest) p ≡ true → Standing n f on left' kept
  strikes left' removed y = record {
    strikes = ap (strike n on) same ∙ sym (strike_struck n p on (marks_of left 4096) y) ∙ s.strikes;
    among = λ q m. s.among q (back q m).0;
    yet = λ q m. forth q (s.yet q (Memᴰ.tail m)) (not_met q m);
    enough = λ c full w. rw same (enough c full (s.enough c full w));
    covered = λ P x lP lx clear. Iff.trans (s.covered P x lP lx clear) (
      ⊎_elim inl (λ (q, m, out, e, a). inr (q, forth q m (λ i. out (Memᴰ.head i)), (λ h. out (Memᴰ.tail h)), e, a)),
      ⊎_elim inl (λ (q, m, out, e, a). inr (q, (back q m).0, (λ h. ⊎_elim (back q m).1 out (Memᴰ.cases_cons h)), e, a)),
    );
  }
    where
      same : marks_of left' 4096 ≡ rest
      same = marks_without left left' p removed

      back : (q : ℕ) → Marked left' q → Marked left q × (q ≢ p)
      back q m = (removed q m.0).0 m

      forth : (q : ℕ) → Marked left q → q ≢ p → Marked left' q
      forth q m d = (removed q m.0).1 (m, d)

      implicant : Implicant 6 (sheet_fn 6 rest) p
      implicant = (decided 6 (sheet_fn 6 rest) (rest, λ t v w g. refl) p).0 (six n few rest p (below p prime) (λ q m. below q (s.among q ((in_rest q).0 m).0)) ∙ y)

      enough : (c : ℕ) → Full 6 c → Within 6 (marks_of left 4096) c → Within 6 rest c
      enough c full (q, m, sub) = at (ℕ_discrete q p)
        where
          at : Dec (q ≡ p) → Within 6 rest c
          at (yes i) = full_within rest p c full (rw i at sub) implicant
          at (no d) = (q, (in_rest q).1 ((marks_member left q).0 m, d), sub)

  -- a simple prime stays
  simple_no : Simple n p → implicant? n (sheet_fn n rest) p ≡ false
  simple_no plain = simple_stays n f o p (marks_of left 4096) prime (λ q m. s.among q ((marks_member left q).0 m)) plain

module _ (left kept later : List ℕ) (p cell points : ℕ) (pairs : cell ≡ pairs_of (p % 4096)) (fits : points < 18446744073709551616)
    (agree : (x : ℕ) → x < 64 → (has points x ≡ 1) ↔ Agrees (p % 4096) x) where
  module _ (n : ℕ) (f : Fn) (i : ℕ) (few : n ≤ 6) (l : i < length (primes n f)) (is : p ≡ get_or (primes n f) i 0) where
    low : p % 4096 ≡ p
    low = mod-eq_of_lt (lt_of_lt_of_le (rw (← is) at (prime_lt n f i l)) (pow-le-pow_right {n = 4} (omega arith) {j = 6} few))

    alone : ¬ Memᴰ p (ahead n (primes n f) (ones p) i)
    alone = rw (← is) at (ahead_not n (primes n f) (ones p) i (rising n f) l (prime_ones n f i l ∙ ap ones (sym is)))

    next : Standing n f (ahead n (primes n f) (ones p) (suc i)) left kept → Standing n f (p ∷ ahead n (primes n f) (ones p) i) left kept
    next s = rw (ahead_meets n (primes n f) (ones p) i l (prime_ones n f i l ∙ ap ones (sym is)), ← is) at s

    agree_here : (x : ℕ) → x < 64 → (has points x ≡ 1) ↔ Agrees p x
    agree_here = rw low at agree

    later_here : Later n f i (get_or later p 0) → (x : ℕ) → x < 64 → (has (get_or later p 0) x ≡ 1) ↔ Own (ahead n (primes n f) (ones p) i) (pairs_of p) x
    later_here h = rw (← is) at h

    cell_here : cell ≡ pairs_of p
    cell_here = rw low at pairs

  -- a prime with pairs is struck where its points are covered
  pub meets_struck : (left' : List ℕ) → cell ≢ 0 → bit_and (bit_or (get_or kept cell 0) (get_or later (p % 4096) 0)) points ≡ points → Removed left p left'
      → Meets left kept later p left' kept
  meets_struck left' some covered removed n f i few o l is lat s =
      strikes n f p (ahead n (primes n f) (ones p) i) left kept few o (alone n f i few l is) (next n f i few l is s) left' removed
      ((asked n f p (ahead n (primes n f) (ones p) i) left kept few o (alone n f i few l is) (next n f i few l is s) (get_or later p 0) points fits
      (later_here n f i few l is lat) (agree_here n f i few l is) (rw (cell_here n f i few l is) at some)).0
      (rw (cell_here n f i few l is, low n f i few l is) at covered))

  -- any other is kept
  pub meets_kept : length kept ≡ 64 → (cell ≡ 0) ⊎ (bit_and (bit_or (get_or kept cell 0) (get_or later (p % 4096) 0)) points ≢ points)
      → Meets left kept later p left (set kept cell (bit_or (get_or kept cell 0) points))
  meets_kept len why n f i few o l is lat s =
      rw (cell_here n f i few l is)
      (keeps n f p on left kept few o (alone n f i few l is) st (get_or later p 0) points fits (later_here n f i few l is lat) (agree_here n f i few l is) len
      (at (ℕ_discrete (pairs_of p) 0) (rw (cell_here n f i few l is, low n f i few l is) at why) (known (implicant? n (sheet_fn n (without p (marks_of left 4096))) p))))
    where
      on : List ℕ
      on = ahead n (primes n f) (ones p) i

      st : Standing n f (p ∷ on) left kept
      st = next n f i few l is s

      at : Dec (pairs_of p ≡ 0) → (pairs_of p ≡ 0) ⊎ (bit_and (bit_or (get_or kept (pairs_of p) 0) (get_or later p 0)) points ≢ points)
          → (implicant? n (sheet_fn n (without p (marks_of left 4096))) p ≡ true) ⊎ (implicant? n (sheet_fn n (without p (marks_of left 4096))) p ≡ false)
          → implicant? n (sheet_fn n (without p (marks_of left 4096))) p ≡ false
      at d w (inr needed) = needed
      at (yes z) w (inl y) = simple_no n f p on left kept few o (alone n f i few l is) st (no_pairs n p few z)
      at (no d) (inl z) (inl y) = absurd (d z)
      at (no d) (inr out) (inl y) =
          absurd (out ((asked n f p on left kept few o (alone n f i few l is) st (get_or later p 0) points fits (later_here n f i few l is lat) (agree_here n f i few l is) d).1 y))
