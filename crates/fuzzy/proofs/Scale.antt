-- The verdict is the same on every scale from 2, and where two sheets differ on scale 2 they differ on every scale from 2.
-- A map between scales that keeps 0, order and complement keeps the value of every phrase and sheet (`Scaling`). One family of such maps
-- serves every direction: `cut s t` takes scale s to scale 2 by [t ≤ x] + [s - t < x]. Where a phrase is above a sheet on scale s, the cut at
-- the phrase's value keeps it above on scale 2; back, 0, 1, 2 are embedded as 0, 1, s, and the cut at 1 undoes that.
use mathlib.Core.Path.{◌≡◌, refl, sym, ap, ap₂, ◌∙◌, subst₂}
use mathlib.Core.Logic.{⊎_elim}
use mathlib.Core.List.Memᴰ
use mathlib.Core.List.{List, [], ◌∷◌, map, Memᴰ}
use Prim.Native.Nat.{ℕ, zero, suc, ◌+◌, ◌-◌, ◌≤◌, ◌<◌, min, max}
use native.Mathlib.Nat.{le_refl, le_trans, min-eq_left, max-eq_right, min_comm, max_comm, min-le_left, sub-le, sub-zero, add-le-add}
use native.Mathlib.Decide.{dec_le}
use native.Mathlib.Omega.{arith}
use lib.Arith.{sub-sub_self}
use Rattle.fuzzy.specs.Phrase.{digits}
use Rattle.fuzzy.specs.Grade.{Grades, literal, least, phrase_value, sheet_value}
use Rattle.fuzzy.specs.Function.{Fn, sheet_fn, OfSheet}
use Rattle.fuzzy.specs.Implicant.{ImplicantOn}
use Rattle.fuzzy.proofs.Sheet.{least_le, phrase_le, sheet_le}

-- h takes grades of scale s to grades of scale t, keeping 0, order and complement
pub record Scaling (s t : ℕ) (h : ℕ → ℕ) : Type 0 where
  pub zeros : h 0 ≡ 0
  pub rises : (x y : ℕ) → x ≤ y → y ≤ s → h x ≤ h y
  pub turns : (x : ℕ) → x ≤ s → h (s - x) ≡ t - h x

-- the parts of a vector are grades too
head_grade : (s n g : ℕ) (v : List ℕ) → Grades s n (g ∷ v) → g ≤ s
head_grade s n g v h = h.1 g (Memᴰ.head refl)

tail_grades : (s n g : ℕ) (v : List ℕ) → Grades s (suc n) (g ∷ v) → Grades s n v
tail_grades s n g v h = (omega (arith, h.0), λ x m. h.1 x (Memᴰ.tail m))

-- a grade before a vector makes a vector one longer
pub cons_grades : (s n g : ℕ) (v : List ℕ) → g ≤ s → Grades s n v → Grades s (suc n) (g ∷ v)
cons_grades s n g v l h = (ap suc h.0, λ x m. ⊎_elim (λ (e : x ≡ g). rw e l) (λ (r : Memᴰ x v). h.1 x r) (Memᴰ.cases_cons m))

-- a map that takes grades to grades takes vectors to vectors
map_grades : (s t : ℕ) (h : ℕ → ℕ) → ((x : ℕ) → x ≤ s → h x ≤ t) → (n : ℕ) (v : List ℕ) → Grades s n v → Grades t n (map h v)
map_grades s t h to n [] g = (g.0, λ x m. absurd (Memᴰ.not-nil m))
map_grades s t h to zero (x ∷ v) g = absurd (omega (arith, g.0))
map_grades s t h to (suc n) (x ∷ v) g =
    cons_grades t n (h x) (map h v) (to x (head_grade s (suc n) x v g)) (map_grades s t h to n v (tail_grades s n x v g))

literal_le : (s d g : ℕ) → g ≤ s → literal s d g ≤ s
unfolding literal
literal_le s zero g l = le_refl s
literal_le s (suc zero) g l = sub-le s g
literal_le s (suc (suc zero)) g l = l
literal_le s (suc (suc (suc d))) g l = le_trans (min-le_left g (s - g)) l

module _ (s t : ℕ) (h : ℕ → ℕ) (scaling : Scaling s t h) where
  keeps_scale : h s ≡ t
  keeps_scale = ap h (sym (sub-zero s)) ∙ scaling.turns 0 (omega arith) ∙ ap (λ (x : ℕ). t - x) scaling.zeros ∙ sub-zero t

  -- an operation that gives the lesser, or the greater, of its arguments is kept
  keeps_choice : (op side : ℕ → ℕ → ℕ) → ((x y : ℕ) → op x y ≡ op y x) → ((x y : ℕ) → x ≤ y → op x y ≡ side x y)
      → ((x y : ℕ) → h (side x y) ≡ side (h x) (h y)) → (x y : ℕ) → x ≤ s → y ≤ s → h (op x y) ≡ op (h x) (h y)
  keeps_choice op side comm chooses kept x y a b = at (dec_le x y)
    where
      ordered : (x y : ℕ) → x ≤ y → y ≤ s → h (op x y) ≡ op (h x) (h y)
      ordered x y l b = ap h (chooses x y l) ∙ kept x y ∙ sym (chooses (h x) (h y) (scaling.rises x y l b))

      at : Dec (x ≤ y) → h (op x y) ≡ op (h x) (h y)
      at (yes l) = ordered x y l b
      at (no d) = ap h (comm x y) ∙ ordered y x (omega arith) a ∙ comm (h y) (h x)

  keeps_min : (x y : ℕ) → x ≤ s → y ≤ s → h (min x y) ≡ min (h x) (h y)
  keeps_min = keeps_choice min (λ x y. x) min_comm (λ x y l. min-eq_left l) (λ x y. refl)

  keeps_max : (x y : ℕ) → x ≤ s → y ≤ s → h (max x y) ≡ max (h x) (h y)
  keeps_max = keeps_choice max (λ x y. y) max_comm (λ x y l. max-eq_right l) (λ x y. refl)

  keeps_literal : (d g : ℕ) → g ≤ s → h (literal s d g) ≡ literal t d (h g)
  unfolding literal
  keeps_literal zero g l = keeps_scale
  keeps_literal (suc zero) g l = scaling.turns g l
  keeps_literal (suc (suc zero)) g l = refl
  keeps_literal (suc (suc (suc d))) g l = keeps_min g (s - g) l (sub-le s g) ∙ ap (min (h g)) (scaling.turns g l)

  -- the map keeps the least of literals
  keeps_least : (n : ℕ) (ds v : List ℕ) → Grades s n v → h (least s ds v) ≡ least t ds (map h v)
  unfolding least
  keeps_least n [] v g = keeps_scale
  keeps_least n (d ∷ ds) [] g = keeps_scale
  keeps_least zero (d ∷ ds) (x ∷ v) g = absurd (omega (arith, g.0))
  keeps_least (suc n) (d ∷ ds) (x ∷ v) g =
      let l : x ≤ s = head_grade s (suc n) x v g in
      keeps_min (literal s d x) (least s ds v) (literal_le s d x l) (least_le s ds v)
      ∙ ap₂ min (keeps_literal d x l) (keeps_least n ds v (tail_grades s n x v g))

  -- and so a phrase's value
  pub keeps_phrase : (n p : ℕ) (v : List ℕ) → Grades s n v → h (phrase_value s n p v) ≡ phrase_value t n p (map h v)
  unfolding phrase_value
  keeps_phrase n p v g = keeps_least n (digits 4 n p) v g

  -- and a sheet's
  pub keeps_sheet : (n : ℕ) (F v : List ℕ) → Grades s n v → h (sheet_value s n F v) ≡ sheet_value t n F (map h v)
  unfolding sheet_value
  keeps_sheet n [] v g = scaling.zeros
  keeps_sheet n (p ∷ F) v g =
      keeps_max (phrase_value s n p v) (sheet_value s n F v) (phrase_le s n p v) (sheet_le s n v F)
      ∙ ap₂ max (keeps_phrase n p v g) (keeps_sheet n F v g)

  -- the images of grades are grades
  pub keeps_grades : (n : ℕ) (v : List ℕ) → Grades s n v → Grades t n (map h v)
  keeps_grades n v g = map_grades s t h (λ x l. rw (← keeps_scale) (scaling.rises x s l (le_refl s))) n v g

-- 1 from a on, 0 below
step : ℕ → ℕ → ℕ
step a x = min 1 (suc x - a)

step_in : (a x : ℕ) → a ≤ x → step a x ≡ 1
unfolding step
step_in a x h = omega arith

step_rises : (a x y : ℕ) → x ≤ y → step a x ≤ step a y
unfolding step
step_rises a x y h = omega arith

step_out : (a x : ℕ) → x < a → step a x ≡ 0
unfolding step
step_out a x h = omega arith

step_turns : (s t x : ℕ) → t ≤ s → x ≤ s → step t (s - x) + step (suc (s - t)) x ≡ 1
unfolding step
step_turns s t x h l = omega arith

-- the cut of scale s at t, onto scale 2
cut : ℕ → ℕ → ℕ → ℕ
cut s t x = step t x + step (suc (s - t)) x

cut_scaling : (s t : ℕ) → 0 < t → t ≤ s → Scaling s 2 (cut s t)
unfolding cut
cut_scaling s t z h = record {
  zeros = omega (arith, step_out t 0 z, step_out (suc (s - t)) 0 (omega arith));
  rises = λ x y l m. add-le-add (step_rises t x y l) (step_rises (suc (s - t)) x y l);
  turns = λ x l.
      let low : step t (s - x) + step (suc (s - t)) x ≡ 1 = step_turns s t x h l in
      let high : step t x + step (suc (s - t)) (s - x) ≡ 1 = rw (sub-sub_self l) at (step_turns s t (s - x) h (sub-le s x)) in
      omega arith;
}

-- the cut at a keeps what is below a below it
cut_below : (s a b : ℕ) → b < a → cut s a b < cut s a a
unfolding cut
cut_below s a b l = omega (arith, step_in a a (le_refl a), step_out a b l, step_rises (suc (s - a)) b a (omega arith))

-- on scale 2 never above, on scale s never above: cut at the phrase's value
from_two : (n s : ℕ) (F : List ℕ) (p : ℕ) → ImplicantOn 2 n (sheet_fn n F) p → ImplicantOn s n (sheet_fn n F) p
from_two n s F p on v g = at (dec_le (phrase_value s n p v) (sheet_value s n F v))
  where
    a : ℕ
    a = phrase_value s n p v

    b : ℕ
    b = sheet_value s n F v

    cuts : b < a → Scaling s 2 (cut s a)
    cuts l = cut_scaling s a (omega arith) (phrase_le s n p v)

    under : b < a → cut s a a ≤ cut s a b
    under l =
        rw (keeps_phrase s 2 (cut s a) (cuts l) n p v g, keeps_sheet s 2 (cut s a) (cuts l) n F v g)
        (on (map (cut s a) v) (keeps_grades s 2 (cut s a) (cuts l) n v g))

    at : Dec (a ≤ b) → a ≤ b
    at (yes l) = l
    at (no d) = let l : b < a = omega arith in absurd (omega (arith, cut_below s a b l, under l))

-- the grades of scale 2 on scale s
embed : ℕ → ℕ → ℕ
embed s zero = 0
embed s (suc zero) = 1
embed s (suc (suc g)) = s

embed_le : (s g : ℕ) → 2 ≤ s → embed s g ≤ s
unfolding embed
embed_le s zero h = omega arith
embed_le s (suc zero) h = omega arith
embed_le s (suc (suc g)) h = le_refl s

-- the cut at 1 undoes it
cut_embed : (s g : ℕ) → 2 ≤ s → g ≤ 2 → cut s 1 (embed s g) ≡ g
unfolding cut embed
cut_embed s zero h l = omega (arith, step_out 1 0 (omega arith), step_out (suc (s - 1)) 0 (omega arith))
cut_embed s (suc zero) h l = omega (arith, step_in 1 1 (omega arith), step_out (suc (s - 1)) 1 (omega arith))
cut_embed s (suc (suc zero)) h l = omega (arith, step_in 1 s (omega arith), step_in (suc (s - 1)) s (omega arith))
cut_embed s (suc (suc (suc g))) h l = absurd (omega arith)

cut_embeds : (s n : ℕ) → 2 ≤ s → (v : List ℕ) → Grades 2 n v → map (cut s 1) (map (embed s) v) ≡ v
cut_embeds s n h [] g = refl
cut_embeds s zero h (x ∷ v) g = absurd (omega (arith, g.0))
cut_embeds s (suc n) h (x ∷ v) g =
    ap₂ ◌∷◌ (cut_embed s x h (head_grade 2 (suc n) x v g)) (cut_embeds s n h v (tail_grades 2 n x v g))

module _ (s n : ℕ) (fits : 2 ≤ s) (v : List ℕ) (g : Grades 2 n v) where
  embedded : Grades s n (map (embed s) v)
  embedded = map_grades 2 s (embed s) (λ x l. embed_le s x fits) n v g

  collapses : Scaling s 2 (cut s 1)
  collapses = cut_scaling s 1 (omega arith) (omega arith)

  back_phrase : (p : ℕ) → cut s 1 (phrase_value s n p (map (embed s) v)) ≡ phrase_value 2 n p v
  back_phrase p = keeps_phrase s 2 (cut s 1) collapses n p (map (embed s) v) embedded ∙ ap (phrase_value 2 n p) (cut_embeds s n fits v g)

  back_sheet : (F : List ℕ) → cut s 1 (sheet_value s n F (map (embed s) v)) ≡ sheet_value 2 n F v
  back_sheet F = keeps_sheet s 2 (cut s 1) collapses n F (map (embed s) v) embedded ∙ ap (sheet_value 2 n F) (cut_embeds s n fits v g)

-- on scale s never above, on scale 2 never above
to_two : (n s : ℕ) → 2 ≤ s → (F : List ℕ) (p : ℕ) → ImplicantOn s n (sheet_fn n F) p → ImplicantOn 2 n (sheet_fn n F) p
to_two n s h F p on v g =
    subst₂ (λ (x y : ℕ). x ≤ y) (back_phrase s n h v g p) (back_sheet s n h v g F)
    ((collapses s n h v g).rises (phrase_value s n p (map (embed s) v)) (sheet_value s n F (map (embed s) v))
    (on (map (embed s) v) (embedded s n h v g)) (sheet_le s n (map (embed s) v) F))

-- where one sheet is below another on scale 2, it is so on every scale from 2
pub raised : (s n : ℕ) → 2 ≤ s → (A B v : List ℕ) → Grades 2 n v → sheet_value 2 n A v < sheet_value 2 n B v
    → (w : List ℕ) × Grades s n w × (sheet_value s n A w < sheet_value s n B w)
raised s n h A B v g l = (map (embed s) v, embedded s n h v g, at (dec_le b a))
  where
    a : ℕ
    a = sheet_value s n A (map (embed s) v)

    b : ℕ
    b = sheet_value s n B (map (embed s) v)

    at : Dec (b ≤ a) → a < b
    at (no d) = omega arith
    at (yes y) =
        let under : sheet_value 2 n B v ≤ sheet_value 2 n A v =
        subst₂ (λ (x y : ℕ). x ≤ y) (back_sheet s n h v g B) (back_sheet s n h v g A)
        ((collapses s n h v g).rises b a y (sheet_le s n (map (embed s) v) A)) in
        absurd (omega arith)

-- the verdict is the same on all scales from 2
pub decides : (n : ℕ) (f : Fn) → OfSheet n f → (p s t : ℕ) → 2 ≤ s → 2 ≤ t → ImplicantOn s n f p → ImplicantOn t n f p
decides n f (F, same) p s t hs ht on v g =
    rw (same t ht v g) (from_two n t F p (to_two n s hs F p (λ w g'. rw (← (same s hs w g')) (on w g'))) v g)
