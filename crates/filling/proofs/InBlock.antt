-- The place call answers places in the block: along each axis from 0 to 512 times the size, and so at most 32,768; a refusal's are zeros.
-- Assumes nothing but that cut bytes are bytes, which their type says in code.
use Prim.Native.Nat.{ℕ, ◌*◌, ◌-◌, ◌/◌, ◌%◌, ◌≤◌, ◌<◌}
use native.Mathlib.Omega.{arith}
use mathlib.Core.Path.{◌≡◌, refl}
use mathlib.Core.Bool.{Bool, true, false}
use mathlib.Core.List.{List}
use lib.IntN.{ℤ, nat_abs}
use lib.ListN.{get_or}
use lib.Dec.{leb, ltb}
use borrow.Author.Tests.{ltb-true, ltb-false, leb-false, eqb-true, not-false}
use Rattle.std.specs.Prelude.{if◌then◌else◌, Option, Some, None}
use Rattle.basics.proofs.Test.{true_T}
use Rattle.lattice.specs.declared.Sizes.{Sizes}
use Rattle.lattice.specs.Axis.{Axis, along_x, along_y, along_z, xyz}
use Rattle.lattice.specs.Counts.{size, sizes_fit, points}
use Rattle.lattice.specs.Direction.{Code, as_start}
use Rattle.lattice.specs.Edge.{neighbour, byte_at, edge_byte}
use Rattle.lattice.proofs.Sized.{fits_sized, size_high}
use Rattle.moving.specs.State.{is_move}
use Rattle.moving.specs.Block.{Bytes}
use Rattle.moving.proofs.Bytes.{move_code}
use Rattle.geometry.specs.Place.{rest, cut_place, moved_place, point_place, place_of}
use Rattle.geometry.proofs.InBlock.{cube_steps, Steps, rest_in, cut_in, moved_in}
use Rattle.filling.specs.declared.Placed.{Placed}
use Rattle.filling.specs.Located.{placed, unplaced, believable, stands_to, stands, id_fault, locate_order, locate}
use Rattle.filling.proofs.Refusing.{whichever}

-- no coordinate of any block is further from 0: 512 steps for each of 64 cubes
abbrev pub most_steps : ℕ
most_steps = 32768

-- the coordinate of an answer along an axis
abbrev pub coordinate : Placed → Axis → ℕ
coordinate p = xyz p.x p.y p.z

module _ (s : Sizes) (cuts state : List ℕ) (bytes : Bytes cuts) where
  -- a point, whatever its state byte says
  point_in : (p : ℕ) → p < points s → (a : Axis) → Steps (size s a) (point_place s cuts state p a)
  unfolding point_place
  point_in p h a = go (is_move (get_or state p 0)) refl
    where
      moved : (n : Option ℕ) → neighbour s p (get_or state p 0) ≡ n → Code (get_or state p 0)
          → Steps (size s a) (moved_place s cuts p (get_or state p 0) n a)
      moved None e k = unfold moved_place in rest_in s p h a
      moved (Some q) e k = moved_in s cuts p (get_or state p 0) q h k e (omega (arith, bytes (edge_byte p (get_or state p 0) q))) a

      go : (b : Bool) → is_move (get_or state p 0) ≡ b
          → Steps (size s a) ((if b then moved_place s cuts p (get_or state p 0) (neighbour s p (get_or state p 0)) else rest s p) a)
      go true e = moved (neighbour s p (get_or state p 0)) refl (move_code (get_or state p 0) e)
      go false e = rest_in s p h a

  -- a cut whose edge exists
  stands_in : (o : ℕ) → o < 7 * points s → stands s cuts state o ≡ true → (a : Axis) → Steps (size s a) (cut_place s cuts (o / 7) (o % 7) a)
  unfolding stands stands_to
  stands_in o h e a = go (neighbour s (o / 7) (as_start (o % 7))) refl e
    where
      go : (n : Option ℕ) → neighbour s (o / 7) (as_start (o % 7)) ≡ n → stands_to s cuts state (o / 7) (o % 7) n ≡ true
          → Steps (size s a) (cut_place s cuts (o / 7) (o % 7) a)
      go None x y = absurd (true_T false y)
      go (Some q) x y = cut_in s (o / 7) (omega arith) a cuts (o % 7) q (omega arith) x (omega (arith, bytes (byte_at (o / 7) (o % 7))))

  -- the number of an id's refusal: by whether it is a point's, whether that is believable, past the last, of a cut that stands
  abbrev fault_by : Bool → Bool → Bool → Bool → ℕ
  fault_by point sound past there = if point then (if sound then 0 else 9) else if past then 8 else if there then 0 else 8

  -- an id without a fault
  pub place_in : (id : ℕ) → id_fault s cuts state id ≡ 0 → (a : Axis) → Steps (size s a) (place_of s cuts state id a)
  unfolding id_fault place_of
  place_in id e a = go (ltb id n) refl (leb (8 * n) id) refl (stands s cuts state (id - n)) refl e
    where
      n : ℕ
      n = points s

      go : (b : Bool) → ltb id n ≡ b → (past : Bool) → leb (8 * n) id ≡ past → (there : Bool) → stands s cuts state (id - n) ≡ there
          → fault_by b (believable s cuts state id) past there ≡ 0
          → Steps (size s a) ((if b then point_place s cuts state id else cut_place s cuts ((id - n) / 7) ((id - n) % 7)) a)
      go true b past p there t f = point_in id (ltb-true id n b) a
      go false b true p there t f = absurd (omega (arith, f))
      go false b false p false t f = absurd (omega (arith, f))
      go false b false p true t f = stands_in (id - n) (omega (arith, leb-false (8 * n) id p, ltb-false id n b)) t a

  pub located_in : (id : ℕ) (a : Axis) → coordinate (locate s cuts state id) a ≤ cube_steps * size s a
  unfolding locate
  located_in id a =
      whichever (λ n at. unplaced n) (λ p. coordinate p a ≤ cube_steps * size s a) (locate_order s cuts state id)
      (placed (place_of s cuts state id)) (λ n at. zeros n a)
      (λ (sized, (cut, (stated, (fine, end)))). inside (place_in id (eqb-true _ _ (not-false _ fine))) a)
    where
      zeros : (n : ℕ) (a : Axis) → coordinate (unplaced n) a ≤ cube_steps * size s a
      zeros n along_x = omega arith
      zeros n along_y = omega arith
      zeros n along_z = omega arith

      steps : (z : ℤ) (n : ℕ) → Steps n z → nat_abs z ≤ cube_steps * n
      steps z n t = rw t.is t.most

      inside : ((a : Axis) → Steps (size s a) (place_of s cuts state id a)) → (a : Axis)
          → coordinate (placed (place_of s cuts state id)) a ≤ cube_steps * size s a
      inside t along_x = steps _ _ (t along_x)
      inside t along_y = steps _ _ (t along_y)
      inside t along_z = steps _ _ (t along_z)

  -- whatever the sizes: those outside 1 to 64 are refused
  pub located_small : (id : ℕ) (a : Axis) → coordinate (locate s cuts state id) a ≤ most_steps
  located_small id a = go (sizes_fit s) refl
    where
      go : (f : Bool) → sizes_fit s ≡ f → coordinate (locate s cuts state id) a ≤ most_steps
      go true e = omega (arith, located_in id a, size_high s (fits_sized s e) a)
      go false e = unfold locate in rw e (zero a)
        where
          zero : (a : Axis) → coordinate (unplaced 1) a ≤ most_steps
          zero along_x = omega arith
          zero along_y = omega arith
          zero along_z = omega arith
