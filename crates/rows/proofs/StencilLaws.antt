-- Laws of the rows of a stencil: how many there are, and how one is written after the other. Assumes nothing.
use Prim.Native.Nat.{ℕ, ◌+◌, ◌*◌, ◌≤◌, ◌<◌}
use native.Mathlib.Omega.{arith}
use mathlib.Core.Path.{◌≡◌, refl, sym, ap, ◌∙◌}
use mathlib.Core.Bool.{Bool, true, false, beq}
use mathlib.Core.List.{List, [], ◌∷◌, ◌++◌, append-nil}
use lib.ListN.{length, get_or, set, length-append}
use native.Mathlib.Numerals.{towards_suc}
use lib.Seq.{sets, length-sets}
use lib.Dec.{eqb}
use borrow.Author.Tests.{lt-leb, ne_eqb}
use Rattle.basics.specs.Lists.{gather}
use Rattle.std.specs.Prelude.{if◌then◌else◌}
use Rattle.basics.specs.inner.Writing.{Wrote}
use Rattle.basics.proofs.Stores.{sets_append}
use Rattle.moving.specs.declared.Label.{Label}
use Rattle.moving.specs.declared.Label.TheVariants.{Minus, Zero, Plus}
use Rattle.stencil.specs.Stencil.{Stencil, no_plus, plus_zero_only, +++-, ++--, ++-0, +---, +--0, +-00, stencil_of}
use Rattle.rows.specs.declared.Tetra.{Tetra}
use Rattle.rows.specs.inner.Picks.{weight, weight_in, sum, picked, chosen, ordered, inversion, is_even}
use Rattle.rows.specs.inner.Corners.{point_id}
use Rattle.rows.specs.inner.Stencils.{lines_by, turned, stencil_ids, row_count, tetra_ids, InOrder, solid, tetra_most}

count_most : (st : Stencil) → row_count st ≤ 3
unfolding row_count
count_most no_plus = omega arith
count_most plus_zero_only = omega arith
count_most +++- = omega arith
count_most ++-- = omega arith
count_most ++-0 = omega arith
count_most +--- = omega arith
count_most +--0 = omega arith
count_most +-00 = omega arith

-- four ids a row
stencil_long : (t : Tetra) (o : List ℕ) (k : Bool) (st : Stencil) → length (stencil_ids t o k st) ≡ 4 * row_count st
unfolding stencil_ids lines_by gather turned row_count
stencil_long t o k no_plus = refl
stencil_long t o true plus_zero_only = refl
stencil_long t o false plus_zero_only = refl
stencil_long t o true +++- = refl
stencil_long t o false +++- = refl
stencil_long t o true ++-- = refl
stencil_long t o false ++-- = refl
stencil_long t o true ++-0 = refl
stencil_long t o false ++-0 = refl
stencil_long t o true +--- = refl
stencil_long t o false +--- = refl
stencil_long t o true +--0 = refl
stencil_long t o false +--0 = refl
stencil_long t o true +-00 = refl
stencil_long t o false +-00 = refl

pub tetra_long : (wound : Bool) (t : Tetra) (l : List Label) → length (tetra_ids wound t l) ≡ 4 * row_count (stencil_of (sum l))
unfolding tetra_ids
tetra_long wound t l = stencil_long t (ordered l) (beq wound (is_even l)) (stencil_of (sum l))

pub tetra_most_law : (wound : Bool) (t : Tetra) (l : List Label) → length (tetra_ids wound t l) ≤ tetra_most
tetra_most_law wound t l = omega (arith, tetra_long wound t l, count_most (stencil_of (sum l)))

-- a list without entries
pub empty : (l : List ℕ) → length l ≡ 0 → l ≡ []
empty [] e = refl
empty (x ∷ l) e = absurd (omega arith)

-- a tetrahedron without rows
pub none_for : (wound : Bool) (t : Tetra) (l : List Label) (c : ℕ) → c ≡ row_count (stencil_of (sum l)) → c ≡ 0 → (rows : List ℕ) (i : ℕ)
    → Wrote (tetra_ids wound t l) rows i rows i
none_for wound t l c e z rows i =
    let long = tetra_long wound t l in
    record { now_is = rw (empty (tetra_ids wound t l) (omega arith)) refl; to_is = omega arith }

-- ids written after others
pub then_written : {a b l mid now : List ℕ} {i j k : ℕ} → Wrote a l i mid j → Wrote b mid j now k → Wrote (a ++ b) l i now k
then_written {a} {b} {l} {i = i} v w =
    record {
      now_is = w.now_is ∙ rw (v.now_is, v.to_is) (sym (sets_append l i a b));
      to_is = omega (arith, v.to_is, w.to_is, length-append a b);
    }

pub last_written : {a l now : List ℕ} {i k : ℕ} → Wrote a l i now k → Wrote (a ++ []) l i now k
last_written {a} w = rw (append-nil a) w

-- a row takes four entries
pub turned_long : (k : Bool) (r : List ℕ) → length (turned k r) ≡ 4
unfolding turned
turned_long true r = refl
turned_long false r = refl

pub after_row : {ids l now : List ℕ} {i to : ℕ} → length ids ≡ 4 → Wrote ids l i now to → (to ≡ i + 4) × (length now ≡ length l)
after_row {ids} {l} {i = i} four w = (omega (arith, w.to_is, four), ap length w.now_is ∙ length-sets l i ids)

-- four stores
pub four_stores : (l : List ℕ) (i a b c d : ℕ) → set (set (set (set l i a) (i + 1) b) (i + 2) c) (i + 3) d ≡ sets l i (a ∷ b ∷ c ∷ d ∷ [])
four_stores l i a b c d = simp towards_suc refl

-- an order that is made of corners stays among them
pick_among : (b : Bool) (v : ℕ) (o : List ℕ) → v < 4 → InOrder o → InOrder (picked b v o)
unfolding picked
pick_among true v o h a = record { first_in = h; second_in = a.first_in; third_in = a.second_in; fourth_in = a.third_in }
pick_among false v o h a = a

choose_among : (k : Label) (l : List Label) (o : List ℕ) → InOrder o → InOrder (chosen k l o)
unfolding chosen
choose_among k l o a =
    pick_among (eqb (weight_in l 0) (weight k)) 0 _ (omega arith) (pick_among (eqb (weight_in l 1) (weight k)) 1 _ (omega arith)
    (pick_among (eqb (weight_in l 2) (weight k)) 2 _ (omega arith) (pick_among (eqb (weight_in l 3) (weight k)) 3 o (omega arith) a)))

pub ordered_among : (l : List Label) → InOrder (ordered l)
unfolding ordered
ordered_among l =
    choose_among Plus l _ (choose_among Minus l _ (choose_among Zero l _
    (record { first_in = omega arith; second_in = omega arith; third_in = omega arith; fourth_in = omega arith })))

-- a pattern with a plus that is none of those with two rows or three has one
pub count_one : (n : ℕ) → 4 < n → (n ≡ 11 → ⊥) → (n ≡ 12 → ⊥) → (n ≡ 16 → ⊥) → 1 ≡ row_count (stencil_of n)
unfolding stencil_of row_count
count_one n h p q r =
    rw (lt-leb n 4 h, ne_eqb n 11 p, ne_eqb n 12 q, ne_eqb n 16 r) (go (eqb n 6) (eqb n 7) (eqb n 8))
  where
    go : (a b c : Bool) → 1 ≡ row_count (if a then +-00 else if b then +--0 else if c then +--- else plus_zero_only)
    go true b c = refl
    go false true c = refl
    go false false true = refl
    go false false false = refl

-- a pattern with a plus that is none of the table's others has plus and zero corners only
pub all_left : (n : ℕ) → 4 < n → (n ≡ 6 → ⊥) → (n ≡ 7 → ⊥) → (n ≡ 8 → ⊥) → (n ≡ 11 → ⊥) → (n ≡ 12 → ⊥) → (n ≡ 16 → ⊥)
    → stencil_of n ≡ plus_zero_only
unfolding stencil_of
all_left n h p q r s t u = simp (lt-leb n 4 h, ne_eqb n 6 p, ne_eqb n 7 q, ne_eqb n 8 r, ne_eqb n 11 s, ne_eqb n 12 t, ne_eqb n 16 u)

beq_right : (b : Bool) → beq b true ≡ b
beq_right true = refl
beq_right false = refl

-- four plus corners: the order is the ascending one, and the tetrahedron itself is the row
module _ (wound : Bool) (t : Tetra) where
  abbrev pub solid_row : List ℕ
  solid_row = turned wound (get_or t.corners 0 0 ∷ get_or t.corners 1 0 ∷ get_or t.corners 2 0 ∷ get_or t.corners 3 0 ∷ [])

  pub solid_is : solid_row ≡ tetra_ids wound t solid
  unfolding tetra_ids stencil_ids stencil_of sum weight lines_by gather ordered chosen picked is_even inversion point_id
  solid_is = rw (beq_right wound) (sym (append-nil solid_row))

  pub solid_long : length (tetra_ids wound t solid) ≡ 4
  unfolding stencil_of sum weight row_count
  solid_long = tetra_long wound t solid
