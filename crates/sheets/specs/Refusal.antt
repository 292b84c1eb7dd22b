-- Refusals: when each is given, with its detail, and in which order the calls give them.
--   first_at_least limit xs   the index of the first entry that is at least the limit, how many there are where none is
--   variables n               1: variables not 1 to 6; the number given
--   phrases F                 2: more than 4,096 phrases; the sheet's length
--   codes n F                 3: a code that is 4 ^ n or more; the index of the first
--   scaled s                  5: scale not 2 to 1,000; the scale
--   counted n v               6: grades not n in number; how many came
--   graded s v                7: a grade above the scale; the index of the first
--   phrased n p               12: the phrase asked about is 4 ^ n or more; its code
--   value_refusal n F s v     what `value` refuses, done where it refuses nothing
--   question_refusal n F p    what `implicant` refuses, done where it refuses nothing
use Rattle.std.specs.Prelude.{ℕ, suc, ◌+◌, ◌^◌, cond, ◌&&◌, List, [], ◌∷◌, eqb, leb, ltb, length}
use Rattle.sheets.specs.Answer.{Answer, unless, first_of}

-- the index of the first entry that is at least the limit, how many there are where none is
unfoldable pub first_at_least : ℕ → List ℕ → ℕ
first_at_least limit [] = 0
first_at_least limit (x ∷ xs) = cond (leb limit x) 0 (suc (first_at_least limit xs))

-- 1: variables not 1 to 6; the number given
abbrev pub variables : ℕ → Answer
variables n = unless (leb 1 n && leb n 6) 1 n

-- 2: more than 4,096 phrases; the sheet's length
abbrev pub phrases : List ℕ → Answer
phrases F = unless (leb (length F) 4096) 2 (length F)

-- 3: a code that is 4 ^ n or more; the index of the first
abbrev pub codes : ℕ → List ℕ → Answer
codes n F = unless (eqb (first_at_least (4 ^ n) F) (length F)) 3 (first_at_least (4 ^ n) F)

-- 5: scale not 2 to 1,000; the scale
abbrev pub scaled : ℕ → Answer
scaled s = unless (leb 2 s && leb s 1000) 5 s

-- 6: grades not n in number; how many came
abbrev pub counted : ℕ → List ℕ → Answer
counted n v = unless (eqb (length v) n) 6 (length v)

-- 7: a grade above the scale; the index of the first
abbrev pub graded : ℕ → List ℕ → Answer
graded s v = unless (eqb (first_at_least (s + 1) v) (length v)) 7 (first_at_least (s + 1) v)

-- 12: the phrase asked about is 4 ^ n or more; its code
abbrev pub phrased : ℕ → ℕ → Answer
phrased n p = unless (ltb p (4 ^ n)) 12 p

-- what `value` refuses, done where it refuses nothing
unfoldable pub value_refusal : ℕ → List ℕ → ℕ → List ℕ → Answer
value_refusal n F s v = first_of (variables n ∷ phrases F ∷ codes n F ∷ scaled s ∷ counted n v ∷ graded s v ∷ [])

-- what `implicant` refuses, done where it refuses nothing
unfoldable pub question_refusal : ℕ → List ℕ → ℕ → Answer
question_refusal n F p = first_of (variables n ∷ phrases F ∷ codes n F ∷ phrased n p ∷ [])
