-- Places of points, of cuts and of moved points lie in the block: along each axis a whole number of steps, from 0 to 512 times the size.
-- Assumes nothing.
--
-- rest_in    a point at rest
-- edge_in    what stands between the two ends of an edge
-- cut_in     a cut
-- moved_in   a point on the cut of the edge that its code names
use Prim.Native.Nat.{ℕ, ◌+◌, ◌*◌, ◌-◌, ◌≤◌, ◌<◌}
use native.Mathlib.Omega.{arith}
use native.Mathlib.Nat.{mul-le-mul, mul-le-mul_right}
use mathlib.Core.Path.{◌≡◌, refl, sym}
use mathlib.Core.Logic.{◌⊎◌, inl, inr}
use mathlib.Core.Bool.{Bool, true, false}
use mathlib.Core.List.{List}
use lib.IntN.{ℤ, pos, ◌+ℤ◌, ◌-ℤ◌, ◌*ℤ◌}
use lib.ListN.{get_or}
use borrow.Author.Tests.{leb-true, leb-false}
use Rattle.std.specs.Prelude.{if◌then◌else◌, Some}
use Rattle.basics.proofs.Integer.{ring, nat, ◌⊕◌, ◌⊖◌, ◌⊗◌}
use Rattle.lattice.specs.declared.Sizes.{Sizes}
use Rattle.lattice.specs.Axis.{Axis}
use Rattle.lattice.specs.Counts.{size, points}
use Rattle.lattice.specs.Point.{doubled, kind_of, index_of}
use Rattle.lattice.specs.Direction.{Code, as_start, is_start, direction_of, step, opposite}
use Rattle.lattice.specs.Edge.{neighbour, byte_at, edge_byte}
use Rattle.lattice.proofs.Number.{inside_of}
use Rattle.lattice.proofs.Codes.{one_way, direction_lt, start_step}
use Rattle.lattice.proofs.Edge.{far, doubled_le, neighbour_lt, neighbour_back}
use Rattle.geometry.specs.Place.{lattice_place, rest, signed, cut_place, moved_place}

-- a cube's side
abbrev pub cube_steps : ℕ
cube_steps = 512

-- a coordinate in a block of n cubes
pub record Steps (n : ℕ) (z : ℤ) : Type 0 where
  pub steps : ℕ
  pub is : z ≡ pos steps
  pub most : steps ≤ cube_steps * n

-- t 256ths of the way from the doubled coordinate x to y
between : (n x y up down t : ℕ) → t ≤ 256 → (up ≡ 0) ⊎ (down ≡ 0) → y + down ≡ x + up → x ≤ 2 * n → y ≤ 2 * n
    → Steps n (pos (256 * x) +ℤ pos t *ℤ (pos up -ℤ pos down))
between n x y up down t h way leads lx ly =
    record {
      steps = 256 * x + t * up - t * down;
      is = ring (nat (256 * x) ⊕ nat t ⊗ (nat up ⊖ nat down)) (nat (256 * x + t * up - t * down)) (omega (arith, low way));
      most = omega (arith, high way);
    }
  where
    low : (up ≡ 0) ⊎ (down ≡ 0) → t * down ≤ 256 * x
    low (inl z) = mul-le-mul h (omega arith)
    low (inr z) = rw z (omega arith)

    high : (up ≡ 0) ⊎ (down ≡ 0) → 256 * x + t * up ≤ cube_steps * n
    high (inl z) = rw z (omega arith)
    high (inr z) = omega (arith, mul-le-mul_right up h)

module _ (s : Sizes) (p : ℕ) (h : p < points s) (a : Axis) where
  -- its doubled coordinate
  abbrev at : ℕ
  at = doubled (kind_of s p) (index_of s p a)

  at_most : at ≤ 2 * size s a
  at_most = doubled_le s (kind_of s p) (index_of s p) (inside_of s p h) a

  pub rest_in : Steps (size s a) (rest s p a)
  unfolding lattice_place
  rest_in = record { steps = 256 * at; is = refl; most = omega (arith, at_most) }

  pub edge_in : (c q t : ℕ) → Code c → neighbour s p c ≡ Some q → t ≤ 256
      → Steps (size s a) (rest s p a +ℤ pos t *ℤ signed (step c a))
  unfolding lattice_place
  edge_in c q t g e l =
      let f = far s p c q h g e in
      between (size s a) at (doubled f.kind (f.index a)) (step c a).up (step c a).down t l (one_way c g a) (f.leads a) at_most
      (doubled_le s f.kind f.index f.inside a)

  pub cut_in : (cuts : List ℕ) (d q : ℕ) → d < 7 → neighbour s p (as_start d) ≡ Some q → get_or cuts (byte_at p d) 0 ≤ 256
      → Steps (size s a) (cut_place s cuts p d a)
  unfolding cut_place
  cut_in cuts d q g e l =
      let code : Code (as_start d) = record { low = omega arith; high = omega arith } in
      rw (start_step d g a) at (edge_in (as_start d) q (get_or cuts (byte_at p d) 0) code e l)

-- from the point's own side the edge starts at the point, or at its other end
module _ (s : Sizes) (cuts : List ℕ) (p c q : ℕ) (h : p < points s) (g : Code c) (e : neighbour s p c ≡ Some q)
    (byte : get_or cuts (edge_byte p c q) 0 ≤ 256) where
  as_start_law : is_start c ≡ true → c ≡ as_start (direction_of c)
  unfolding is_start direction_of
  as_start_law b = omega (arith, g.low, leb-true c 7 b)

  as_end_law : is_start c ≡ false → opposite c ≡ as_start (direction_of c)
  unfolding is_start direction_of opposite
  as_end_law b = rw b (omega (arith, g.high, leb-false c 7 b))

  pub moved_in : (a : Axis) → Steps (size s a) (moved_place s cuts p c (Some q) a)
  unfolding moved_place edge_byte
  moved_in a = go (is_start c) refl
    where
      go : (b : Bool) → is_start c ≡ b → Steps (size s a) (cut_place s cuts (if b then p else q) (direction_of c) a)
      go true b = cut_in s p h a cuts (direction_of c) q (direction_lt c g) (rw (sym (as_start_law b)) e) (rw b at byte)
      go false b =
          cut_in s q (neighbour_lt s p c q h g e) a cuts (direction_of c) p (direction_lt c g)
          (rw (sym (as_end_law b)) (neighbour_back s p c q h g e)) (rw b at byte)
