-- Demand 3, volumes: where points and cuts stand as the moving step leaves them, the rows of a lattice tetrahedron are
-- oriented as their pattern and the type say, whatever the moves and the cut bytes, and every six-volume is above zero.
-- Assumes nothing.
use Prim.Native.Nat.{ℕ, zero, suc, ◌<◌}
use mathlib.Core.Path.{◌≡◌, refl, sym, ◌∙◌}
use mathlib.Core.Bool.{Bool, true, false, beq}
use mathlib.Core.List.{List, [], ◌∷◌, map, map-map}
use native.Mathlib.Omega.{arith}
use lib.Dec.{ltb, ltb→lt}
use lib.ListN.{length, get_or}
use lib.IntN.{ℤ, pos, negsuc, neg_ℤ}
use lib.Signed.{lt_z, ◌<ℤ◌}
use Rattle.std.specs.Prelude.{if◌then◌else◌}
use Rattle.basics.proofs.Test.{F-false, Member, here, there}
use Rattle.lattice.specs.declared.Sizes.{Sizes}
use Rattle.moving.specs.declared.Label.{Label}
use Rattle.stencil.specs.Tetrahedron.{Tetrahedron, Vertex, corner_number}
use Rattle.stencil.specs.Row.{Row, row, swapped, map_row}
use Rattle.stencil.specs.Stencil.{Entry, rows_for}
use Rattle.stencil.specs.Id.{id_of}
use Rattle.stencil.specs.inner.Sign.{signed, winds}
use Rattle.stencil.proofs.Valid.{Valid}
use Rattle.geometry.specs.Place.{Place}
use Rattle.geometry.proofs.Determinant.{volume_swap}
use Rattle.filling.specs.Mesh.{row_volume, oriented}
use Rattle.volumes.proofs.Sound.{Sound}
use Rattle.volumes.proofs.Built.{is_even}
use Rattle.volumes.proofs.Rows.{turned_by, row_sign}

-- a positive number is not below zero, and one whose negative is positive is
not_below : (z : ℤ) → pos 0 <ℤ z → lt_z z (pos 0) ≡ false
not_below (pos n) h = F-false (ltb n 0) (λ t. absurd (omega (arith, ltb→lt n 0 t)))
not_below (negsuc n) h = absurd h.lt

below : (z : ℤ) → pos 0 <ℤ neg_ℤ z → lt_z z (pos 0) ≡ true
below (pos zero) h = absurd h.lt
below (pos (suc n)) h = absurd h.lt
below (negsuc n) h = refl

-- a row as it is (true) or with its last two corners exchanged: its six-volume, and what the rule of orientation makes
-- of it
module _ (place : ℕ → Place) (id : Entry Vertex → ℕ) where
  swapped_volume : (b : Bool) (r : Row (Entry Vertex))
      → row_volume place (map_row id (if b then r else swapped r)) ≡ turned_by b (row_volume place (map_row id r))
  unfolding row_volume
  swapped_volume true r = refl
  swapped_volume false (row a b c d) = volume_swap (place (id a)) (place (id b)) (place (id c)) (place (id d))

  oriented_by : (b : Bool) (r : Row (Entry Vertex)) → pos 0 <ℤ turned_by b (row_volume place (map_row id r))
      → oriented place (map_row id r) ≡ map_row id (if b then r else swapped r)
  unfolding oriented
  oriented_by true r h = rw (not_below (row_volume place (map_row id r)) h)
  oriented_by false (row a b c d) h = rw (below (row_volume place (map_row id (row a b c d))) h)

-- lists
map_same : {A B : Type 0} (f g : A → B) (l : List A) → ((a : A) → Member a l → f a ≡ g a) → map f l ≡ map g l
map_same f g [] h = refl
map_same f g (x ∷ l) h = λ i. h x here i ∷ map_same f g l (λ a m. h a (there m)) i

pub get_d_member : {A : Type 0} (l : List A) (n : ℕ) (d : A) → n < length l → Member (get_or l n d) l
get_d_member [] n d h = absurd (omega arith)
get_d_member (x ∷ l) zero d h = here
get_d_member (x ∷ l) (suc n) d h = there (get_d_member l n d (omega arith))

module _ {s : Sizes} {label : ℕ → Label} {byte : ℕ → ℕ} {place : ℕ → Place}
    (Q : Sound s label byte place) (t : Tetrahedron) (h : Valid s t) where
  abbrev rows : List (Row (Entry Vertex))
  rows = rows_for (λ v. label (corner_number s t v))

  -- "The last two corners change places exactly if the six-volume would be negative": exactly if the type and the
  -- pattern's row say so
  pub oriented_rows :
      map (oriented place) (map (map_row (id_of s t)) rows) ≡ map (map_row (id_of s t)) (map (signed (winds t.edge)) rows)
  unfolding signed
  oriented_rows =
      map-map (oriented place) (map_row (id_of s t)) rows
      ∙ map_same (λ r. oriented place (map_row (id_of s t) r)) (λ r. map_row (id_of s t) (signed (winds t.edge) r)) rows
      (λ r m. oriented_by place (id_of s t) (beq (winds t.edge) (is_even r)) r (row_sign Q t h r m))
      ∙ sym (map-map (map_row (id_of s t)) (signed (winds t.edge)) rows)

  -- "each row's volume, with points moved, is above zero"
  pub positive : (r : ℕ) → r < length rows → (d : Row (Entry Vertex))
      → pos 0 <ℤ row_volume place (map_row (id_of s t) (signed (winds t.edge) (get_or rows r d)))
  unfolding signed
  positive r l d =
      rw (swapped_volume place (id_of s t) (beq (winds t.edge) (is_even (get_or rows r d))) (get_or rows r d))
      (row_sign Q t h (get_or rows r d) (get_d_member rows r d l))
