-- The known sheets C1 to C12 of document 01, and further ones, proved of the definitions by computing them.
-- The further rows fix what C1 to C12 leave open: the walk's ties and that it strikes one phrase after the other, the last vector, and,
-- outside the table because it is larger, that the walk meets most literals first.
use mathlib.Core.Path.{◌≡◌, refl}
use mathlib.Core.Bool.{false}
use mathlib.Core.List.{List, [], ◌∷◌}
use Prim.Native.Nat.{ℕ}
use Rattle.fuzzy.specs.Phrase.{digits, literals_of, literals, has}
use Rattle.fuzzy.specs.Grade.{literal, least, phrase_value, sheet_value}
use Rattle.fuzzy.specs.Function.{sheet_fn}
use Rattle.fuzzy.specs.Vector.{vector, above, first_from, first, lowest, implicant?, spare, prime?}
use Rattle.fuzzy.specs.Primes.{select, primes, listed, joined, met, complemented}
use Rattle.fuzzy.specs.Cover.{those, without, is_one_of, walk, strike, cover, flags}

-- a row of the table: what is asked over n variables, and the answer
pub data Row : Type 0 where
  -- the list and cover of a sheet
  lists : (n : ℕ) (sheet list cover flags : List ℕ) → Row
  -- a phrase that is no implicant of a sheet, and the number and grades of the lowest vector that shows it
  asks : (n : ℕ) (sheet : List ℕ) (phrase lowest : ℕ) (grades : List ℕ) → Row
  -- the lists of the complement of a sheet and of that list's complement
  complements : (n : ℕ) (sheet list back : List ℕ) → Row
  -- the list of the meet of two sheets
  meets : (n : ℕ) (first second list : List ℕ) → Row
  -- the list of the join of two sheets
  joins : (n : ℕ) (first second list : List ℕ) → Row
  -- the value of a sheet
  values : (n scale : ℕ) (sheet grades : List ℕ) (value : ℕ) → Row

-- what a row claims of the definitions
abbrev pub Holds : Row → Type 0
Holds (lists n sheet list kept flag) =
    (listed n sheet ≡ list) × (cover n (sheet_fn n sheet) ≡ kept) × (flags n (sheet_fn n sheet) ≡ flag)
Holds (asks n sheet phrase number grades) =
    (implicant? n (sheet_fn n sheet) phrase ≡ false) × (lowest n (sheet_fn n sheet) phrase ≡ number) × (vector n number ≡ grades)
Holds (complements n sheet list back) = (complemented n sheet ≡ list) × (complemented n list ≡ back)
Holds (meets n a b list) = met n a b ≡ list
Holds (joins n a b list) = joined n a b ≡ list
Holds (values n scale sheet grades value) = sheet_value scale n sheet grades ≡ value

-- what the table claims: a fact for each row
abbrev pub Every : List Row → Type 0
Every [] = Unit {0}
Every (r ∷ rs) = Holds r × Every rs

-- the table
abbrev pub table : List Row
table =
    lists 2 (10 ∷ 9 ∷ []) (9 ∷ 10 ∷ 12 ∷ []) (9 ∷ 10 ∷ []) (1 ∷ 1 ∷ 0 ∷ [])  -- C1
    ∷ asks 2 (10 ∷ 9 ∷ []) 8 7 (2 ∷ 1 ∷ [])  -- C2
    ∷ lists 2 (8 ∷ 4 ∷ []) (3 ∷ 4 ∷ 8 ∷ []) (4 ∷ 8 ∷ []) (0 ∷ 1 ∷ 1 ∷ [])  -- C3
    ∷ lists 3 (6 ∷ 41 ∷ 53 ∷ 58 ∷ []) (6 ∷ 35 ∷ 41 ∷ 44 ∷ 48 ∷ []) (6 ∷ 41 ∷ 48 ∷ []) (1 ∷ 0 ∷ 1 ∷ 0 ∷ 1 ∷ [])  -- C4
    ∷ lists 3 (46 ∷ 29 ∷ 58 ∷ 22 ∷ []) (14 ∷ 22 ∷ 28 ∷ 50 ∷ []) (14 ∷ 22 ∷ 28 ∷ 50 ∷ []) (1 ∷ 1 ∷ 1 ∷ 1 ∷ [])  -- C5
    ∷ lists 3 (56 ∷ 55 ∷ []) (51 ∷ 56 ∷ []) (51 ∷ 56 ∷ []) (1 ∷ 1 ∷ [])  -- C6
    ∷ lists 3 (36 ∷ 24 ∷ 40 ∷ 20 ∷ 3 ∷ []) (3 ∷ 12 ∷ 20 ∷ 24 ∷ 36 ∷ 40 ∷ 48 ∷ []) (20 ∷ 24 ∷ 36 ∷ 40 ∷ []) (0 ∷ 0 ∷ 1 ∷ 1 ∷ 1 ∷ 1 ∷ 0 ∷ [])  -- C7
    ∷ lists 1 [] [] [] []  -- C8
    ∷ lists 1 (0 ∷ []) (0 ∷ []) (0 ∷ []) (1 ∷ [])  -- C8
    ∷ complements 2 (10 ∷ 9 ∷ []) (3 ∷ 4 ∷ []) (9 ∷ 10 ∷ 12 ∷ [])  -- C9
    ∷ meets 2 (8 ∷ []) (2 ∷ []) (10 ∷ [])  -- C10
    ∷ joins 2 (8 ∷ []) (4 ∷ []) (3 ∷ 4 ∷ 8 ∷ [])  -- C11
    ∷ values 3 10 (36 ∷ 50 ∷ 40 ∷ 25 ∷ []) (4 ∷ 6 ∷ 8 ∷ []) 4  -- C12
    ∷ lists 3 (5 ∷ 10 ∷ 52 ∷ []) (3 ∷ 5 ∷ 10 ∷ 12 ∷ 50 ∷ 52 ∷ []) (5 ∷ 10 ∷ 50 ∷ []) (0 ∷ 1 ∷ 1 ∷ 0 ∷ 1 ∷ 0 ∷ [])  -- ties, one after the other
    ∷ asks 1 (3 ∷ []) 2 2 (2 ∷ [])  -- the last vector
    ∷ []

-- opens every definition that the rows compute with
computed : Unit {0}
unfolding digits literals_of literals has literal least phrase_value sheet_value vector above
    first_from first lowest implicant? spare prime? select primes those without is_one_of walk strike cover flags
computed = tt

infixr 5 ◌and◌
-- a pair, written so that the facts of the table stand in one column
abbrev ◌and◌ : {A B : Type 0} → A → B → A × B
a and b = (a, b)

-- each row holds
pub table_holds : Every table
unfolding computed
table_holds =
    (refl, refl, refl)  -- C1
    and (refl, refl, refl)  -- C2
    and (refl, refl, refl)  -- C3
    and (refl, refl, refl)  -- C4
    and (refl, refl, refl)  -- C5
    and (refl, refl, refl)  -- C6
    and (refl, refl, refl)  -- C7
    and (refl, refl, refl)  -- C8
    and (refl, refl, refl)  -- C8
    and (refl, refl)  -- C9
    and refl  -- C10
    and refl  -- C11
    and refl  -- C12
    and (refl, refl, refl)  -- ties, one after the other
    and (refl, refl, refl)  -- the last vector
    and tt

-- a sheet over four variables whose cover fixes that the walk meets most literals first
abbrev pub larger : List ℕ
larger = 39 ∷ 72 ∷ 82 ∷ 164 ∷ []

-- its list
abbrev pub larger_list : List ℕ
larger_list = 39 ∷ 44 ∷ 54 ∷ 67 ∷ 72 ∷ 82 ∷ 164 ∷ 194 ∷ 224 ∷ []

-- the definitions give this list
pub larger_list_lem : listed 4 larger ≡ larger_list
unfolding computed
larger_list_lem = refl

-- what the walk leaves of that list
larger_walk : strike 4 (walk 4 9 larger_list) larger_list ≡ 67 ∷ 72 ∷ 82 ∷ 164 ∷ []
unfolding computed
larger_walk = refl

-- so the cover is what the walk leaves of it
pub larger_cover : cover 4 (sheet_fn 4 larger) ≡ 67 ∷ 72 ∷ 82 ∷ 164 ∷ []
unfolding cover
larger_cover = rw (larger_list_lem) larger_walk
