-- A part of a table that was lent and came back changed: what is read in it, before it and after it. Assumes nothing.
use Prim.Native.Nat.{ℕ, ◌+◌, ◌-◌, ◌≤◌, ◌<◌}
use native.Mathlib.Omega.{arith}
use mathlib.Core.Path.{◌≡◌, sym, ap, ◌∙◌}
use mathlib.Core.List.{List, ◌++◌}
use lib.ListN.{length, get_or, take, drop, length-append, length-drop, get_or-append}
use lib.Seq.{get_or-take, get_or-drop, get_or-append-add, length-take-le}

-- the n entries from a on, as they are lent
pub lent_at : (a n : ℕ) (xs : List ℕ) (d : ℕ) → d < n → get_or (take n (drop a xs)) d 0 ≡ get_or xs (a + d) 0
lent_at a n xs d l = get_or-take n (drop a xs) d 0 l ∙ get_or-drop a xs d 0

-- the table after they came back as ys
abbrev pub back : ℕ → ℕ → List ℕ → List ℕ → List ℕ
back a n xs ys = take a xs ++ (ys ++ drop n (drop a xs))

module _ (a n : ℕ) (xs ys : List ℕ) (h : a + n ≤ length xs) (k : length ys ≡ n) where
  first_long : length (take a xs) ≡ a
  first_long = length-take-le a xs (omega arith)

  past : (j : ℕ) → get_or (back a n xs ys) (a + j) 0 ≡ get_or (ys ++ drop n (drop a xs)) j 0
  past j = ap (λ (k : ℕ). get_or (back a n xs ys) (k + j) 0) (sym first_long) ∙ get_or-append-add (take a xs) _ j 0

  pub back_long : length (back a n xs ys) ≡ length xs
  back_long =
      length-append (take a xs) _
      ∙ omega (arith, length-append ys (drop n (drop a xs)), first_long, k, length-drop n (drop a xs), length-drop a xs)

  pub back_before : (o : ℕ) → o < a → get_or (back a n xs ys) o 0 ≡ get_or xs o 0
  back_before o l = get_or-append (take a xs) _ 0 o (omega (arith, first_long)) ∙ get_or-take a xs o 0 l

  pub back_within : (o : ℕ) → a ≤ o → o < a + n → get_or (back a n xs ys) o 0 ≡ get_or ys (o - a) 0
  back_within o l u =
      let e : o ≡ a + (o - a) = omega arith in
      ap (λ (k : ℕ). get_or (back a n xs ys) k 0) e ∙ past (o - a) ∙ get_or-append ys _ 0 (o - a) (omega (arith, k))

  pub back_after : (o : ℕ) → a + n ≤ o → get_or (back a n xs ys) o 0 ≡ get_or xs o 0
  back_after o l =
      let j = o - a - n in
      let e : o ≡ a + (n + j) = omega arith in
      ap (λ (k : ℕ). get_or (back a n xs ys) k 0) e ∙ past (n + j)
      ∙ ap (λ (k : ℕ). get_or (ys ++ drop n (drop a xs)) (k + j) 0) (sym k)
      ∙ get_or-append-add ys _ j 0 ∙ get_or-drop n (drop a xs) j 0 ∙ get_or-drop a xs (n + j) 0 ∙ ap (λ (k : ℕ). get_or xs k 0) (sym e)
