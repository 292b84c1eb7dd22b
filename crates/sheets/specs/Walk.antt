-- The walk over marks that `list` takes to its cover.
--   ahead n ps k i            what the walk has yet to meet: of the first i of ps those with k literals, turned round, then those with fewer
--   Kept left on P x          some marked code that is not ahead has the pairs P and agrees with the point x
--   Standing n f on left kept     the marks left and the points kept, where the walk has yet to meet the primes on
--   Reads n f codes count     the first count of the codes are the primes
--   Later n f i points        the points that primes behind prime i with its pairs agree with
--   Laters n f later          at each prime, later has these points
--   Behind n codes own later  own has the points of each set of pairs, and later those of the primes behind
--   Meets left kept later p left' kept'    where later has the points behind p, meeting p leads from left and kept to left' and kept'
--   Round left₀ kept₀ later codes count k i left kept    from left₀ and kept₀, meeting the primes with k literals that are not among the first i leads to left and kept
--   Rounds n left₀ codes count k left kept     from the marks left₀, meeting the primes with k literals or more leads to left and kept
--   Covers n left₀ codes count r       r marks the cover
--   Flagged kept codes count old new   the codes have their flags in new
use Rattle.std.specs.Prelude.{◌≡◌, ◌⊎◌, ◌↔◌, ℕ, suc, ◌≤◌, ◌<◌, eqb, length, get_or, take}
use mathlib.Core.List.{List, ◌++◌, reverse, Memᴰ}
use Rattle.std.specs.Int.Count.{ones}
use Rattle.fuzzy.specs.Phrase.{has, literals}
use Rattle.fuzzy.specs.Function.{Fn, OfSheet}
use Rattle.fuzzy.specs.Primes.{primes}
use Rattle.fuzzy.specs.Cover.{those, walk, strike, cover}
use Rattle.fuzzy.proofs.Within.{Within}
use Rattle.fuzzy.proofs.Fast.{Full}
use Rattle.rows.specs.Square.{square, Marked}
use Rattle.rows.specs.Read.{marks_of}
use Rattle.sheets.specs.Cell.{pairs_of, Clear, Agrees, Fewer, Own, Owned}

-- what the walk has yet to meet
abbrev pub ahead : ℕ → List ℕ → ℕ → ℕ → List ℕ
ahead n ps k i = reverse (those (λ p. eqb (literals n p) k) (take i ps)) ++ walk n k ps

-- some marked code that is not ahead has the pairs P and agrees with the point x
abbrev pub Kept : List ℕ → List ℕ → ℕ → ℕ → Type 0
Kept left on P x = (q : ℕ) × Marked left q × (¬ Memᴰ q on) × (pairs_of q ≡ P) × Agrees q x

-- the marks left and the points kept, where the walk has yet to meet the primes on: meeting these leaves the cover; the marks are marks of primes, those
-- ahead among them, and some is within each full code that a prime is within; kept has the points of primes with fewer pairs and of those met and left
pub record Standing (n : ℕ) (f : Fn) (on : List ℕ) (left kept : List ℕ) : Type 0 where
  pub strikes : strike n on (marks_of left 4096) ≡ cover n f
  pub among : (q : ℕ) → Marked left q → Memᴰ q (primes n f)
  pub yet : (q : ℕ) → Memᴰ q on → Marked left q
  pub enough : (c : ℕ) → Full 6 c → Within 6 (primes n f) c → Within 6 (marks_of left 4096) c
  pub covered : (P x : ℕ) → P < 64 → x < 64 → Clear P x → (has (get_or kept P 0) x ≡ 1) ↔ (Fewer (primes n f) P x ⊎ Kept left on P x)

-- the first count of the codes are the primes
abbrev pub Reads : ℕ → Fn → List ℕ → ℕ → Type 0
Reads n f codes count = (length (primes n f) ≡ count) × ((i : ℕ) → i < count → get_or codes i 0 ≡ get_or (primes n f) i 0)

-- the points that primes behind prime i with its pairs agree with
abbrev pub Later : ℕ → Fn → ℕ → ℕ → Type 0
Later n f i points = let p = get_or (primes n f) i 0 in
    (x : ℕ) → x < 64 → (has points x ≡ 1) ↔ Own (ahead n (primes n f) (ones p) i) (pairs_of p) x

-- at each prime, later has these points
abbrev pub Laters : ℕ → Fn → List ℕ → Type 0
Laters n f later = (i : ℕ) → i < length (primes n f) → Later n f i (get_or later (get_or (primes n f) i 0) 0)

-- own has the points of each set of pairs, and later those of the primes behind
abbrev pub Behind : ℕ → List ℕ → List ℕ → List ℕ → Type 0
Behind n codes own later = (f : Fn) → OfSheet n f → Reads n f codes (length codes) → Owned (primes n f) own × Laters n f later

-- meeting p, of those left, leads from left and kept to left' and kept'
abbrev pub Meets : List ℕ → List ℕ → List ℕ → ℕ → List ℕ → List ℕ → Type 0
Meets left kept later p left' kept' = (n : ℕ) (f : Fn) (i : ℕ) → n ≤ 6 → OfSheet n f → i < length (primes n f) → p ≡ get_or (primes n f) i 0
    → Later n f i (get_or later p 0) → Standing n f (ahead n (primes n f) (ones p) (suc i)) left kept → Standing n f (ahead n (primes n f) (ones p) i) left' kept'

-- from left₀ and kept₀, meeting the primes with k literals that are not among the first i leads to left and kept
abbrev pub Round : List ℕ → List ℕ → List ℕ → List ℕ → ℕ → ℕ → ℕ → List ℕ → List ℕ → Type 0
Round left₀ kept₀ later codes count k i left kept = (n : ℕ) (f : Fn) → n ≤ 6 → OfSheet n f → Reads n f codes count → Laters n f later
    → Standing n f (ahead n (primes n f) (suc k) 0) left₀ kept₀ → Standing n f (ahead n (primes n f) k i) left kept

-- from the marks left₀ of the primes, meeting those with k literals or more leads to left and kept
abbrev pub Rounds : ℕ → List ℕ → List ℕ → ℕ → ℕ → List ℕ → List ℕ → Type 0
Rounds n left₀ codes count k left kept = (f : Fn) → OfSheet n f → Reads n f codes count → marks_of left₀ 4096 ≡ primes n f
    → Standing n f (ahead n (primes n f) k 0) left kept

-- r marks the cover of the primes that left₀ marks
abbrev pub Covers : ℕ → List ℕ → List ℕ → ℕ → List ℕ → Type 0
Covers n left₀ codes count r = (f : Fn) → OfSheet n f → Reads n f codes count → marks_of left₀ 4096 ≡ primes n f → marks_of r 4096 ≡ cover n f

-- each of the first count codes below 4,096 has its flag in new, 1 where it is kept, and the rest is as in old
abbrev pub Flagged : List ℕ → List ℕ → ℕ → List ℕ → List ℕ → Type 0
Flagged kept codes count old new =
    (length new ≡ length old)
    × ((i : ℕ) → i < count → get_or codes i 0 < 4096 → get_or new i 0 ≡ square kept (get_or codes i 0)) × ((i : ℕ) → count ≤ i → get_or new i 0 ≡ get_or old i 0)
