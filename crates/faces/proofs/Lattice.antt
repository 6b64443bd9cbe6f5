-- The lattice tetrahedra of a block fit together: four corners belong to one, and a side belongs to one other, wound
-- the opposite way, or is on the rim. Assumes nothing.
use Prim.Native.Nat.{ℕ, ◌+◌, ◌-◌, ◌≤◌, ◌<◌}
use native.Mathlib.Omega.{arith}
use mathlib.Core.Path.{◌≡◌, refl, sym, ◌∙◌, ap}
use mathlib.Core.Logic.{◌⊎◌, inl, inr}
use mathlib.Core.Bool.{Bool, ◌||◌}
use lib.Dec.{T, eqb}
use Rattle.basics.proofs.Test.{lt_or, or_l, or_r, eqb_of}
use Rattle.lattice.specs.declared.Sizes.{Sizes}
use Rattle.lattice.specs.declared.Kind.{Kind}
use Rattle.lattice.specs.declared.Kind.TheVariants.{Corner, Centre}
use Rattle.lattice.specs.Axis.{Axis, along_x, along_y, along_z, somewhere}
use Rattle.lattice.specs.Counts.{size, along, grid}
use Rattle.lattice.specs.Point.{number}
use Rattle.lattice.specs.Rim.{outermost, rim_at}
use Rattle.lattice.proofs.Number.{number_inj}
use Rattle.stencil.specs.Tetrahedron.{Tetrahedron, Vertex, v2, unit, offset, kind, corner, corner_number}
use Rattle.stencil.specs.Row.{Third, t0}
use Rattle.stencil.proofs.Valid.{Valid, corner_inside}
use Rattle.faces.proofs.Pattern.{side}
use Rattle.faces.proofs.Neighbour.{Neighbour, Side, next_to, side_of, side_offset, side_kind}
use Rattle.faces.proofs.NeighbourLaws.{next_kind, next_offset, next_low, next_high, next_only, same_type_law}

pub tetrahedron_path : (t u : Tetrahedron) → t.axis ≡ u.axis → t.edge ≡ u.edge
    → ((c : Axis) → t.cube c ≡ u.cube c) → t ≡ u
tetrahedron_path t u a e h = λ i. record { axis = a i; cube = λ c. h c i; edge = e i }

abbrev pub side_at : Tetrahedron → Vertex → Side
side_at t q = (t.axis, (t.edge, q))

abbrev pub beyond : Tetrahedron → Vertex → Neighbour
beyond t q = next_to (side_at t q)

-- u is the neighbour of t across q
pub record Beside (t : Tetrahedron) (q : Vertex) (u : Tetrahedron) : Type 0 where
  pub axis : u.axis ≡ (beyond t q).axis
  pub edge : u.edge ≡ (beyond t q).edge
  pub cube : (c : Axis) → u.cube c + (beyond t q).down c ≡ t.cube c + (beyond t q).up c

pub beside_one : (t : Tetrahedron) (q : Vertex) (u w : Tetrahedron) → Beside t q u → Beside t q w → u ≡ w
beside_one t q u w x y =
    tetrahedron_path u w (x.axis ∙ sym y.axis) (x.edge ∙ sym y.edge) (λ c. omega (arith, x.cube c, y.cube c))

module _ (s : Sizes) where
  -- where a corner stands; its number gives its kind and that
  abbrev stood : Tetrahedron → Vertex → Axis → ℕ
  stood t v c = t.cube c + offset t.axis t.edge v c

  corner_of_law : (t u : Tetrahedron) → Valid s t → Valid s u → (v w : Vertex) → corner_number s t v ≡ corner_number s u w
      → (kind v ≡ kind w) × ((c : Axis) → stood t v c ≡ stood u w c)
  unfolding corner_number corner
  corner_of_law t u ht hu v w e =
      number_inj s (kind v) (kind w) (corner t v) (corner u w) (corner_inside s t ht v) (corner_inside s u hu w) e

  -- the same corners: the same tetrahedron
  pub same_tetrahedron : (t u : Tetrahedron) → Valid s t → Valid s u
      → ((v : Vertex) → corner_number s t v ≡ corner_number s u v) → t ≡ u
  unfolding offset
  same_tetrahedron t u ht hu e = tetrahedron_path t u k.0 k.1 cubes
    where
      at : (v : Vertex) (c : Axis) → stood t v c ≡ stood u v c
      at v = (corner_of_law t u ht hu v v (e v)).1

      cubes : (c : Axis) → t.cube c ≡ u.cube c
      cubes c = omega (arith, at v2 c)

      k : (t.axis ≡ u.axis) × (t.edge ≡ u.edge)
      k = same_type_law t.axis u.axis t.edge u.edge (λ v c. omega (arith, at v c, cubes c))

  -- who has the side is the tetrahedron itself or its neighbour
  pub who_shares : (t u : Tetrahedron) (q w : Vertex) → Valid s t → Valid s u
      → ((i : Third) → corner_number s u (side w i) ≡ corner_number s t (side q i)) → (u ≡ t) ⊎ Beside t q u
  who_shares t u q w ht hu e = elim which [
    | inl p ↦ inl (tetrahedron_path u t (ap (λ (x : Side). x.0) p) (ap (λ (x : Side). x.1.0) p)
        (λ c. omega (arith, (at t0).1 c, ap (λ (x : Side). side_offset x t0 c) p)))
    | inr p ↦ inr (record {
      axis = ap (λ (x : Side). x.0) p;
      edge = ap (λ (x : Side). x.1.0) p;
      cube = λ c. omega (arith, (at t0).1 c, next_offset (side_at t q) t0 c, ap (λ (x : Side). side_offset x t0 c) p);
    })
  ]
    where
      at : (i : Third) → (side_kind (side_at u w) i ≡ side_kind (side_at t q) i)
          × ((c : Axis) → u.cube c + side_offset (side_at u w) i c ≡ t.cube c + side_offset (side_at t q) i c)
      at i = corner_of_law u t hu ht (side w i) (side q i) (e i)

      which : (side_at u w ≡ side_at t q) ⊎ (side_at u w ≡ side_of (beyond t q))
      which =
          next_only (side_at t q) (side_at u w) (λ i. sym (at i).0) (λ i c. omega (arith, (at i).1 c, (at t0).1 c))

  -- the neighbour has the side
  pub beside_shares : (t u : Tetrahedron) (q : Vertex) → Beside t q u → (i : Third)
      → corner_number s u (side (beyond t q).corner i) ≡ corner_number s t (side q i)
  unfolding corner_number corner
  beside_shares t u q b i = λ x. number s (sym (next_kind (side_at t q) i) x) (λ c. at c x)
    where
      at : (c : Axis) → stood u (side (beyond t q).corner i) c ≡ t.cube c + side_offset (side_at t q) i c
      at c =
          let e : offset u.axis u.edge (side (beyond t q).corner i) c ≡ side_offset (side_of (beyond t q)) i c
          = λ x. offset (b.axis x) (b.edge x) (side (beyond t q).corner i) c in
          omega (arith, b.cube c, next_offset (side_at t q) i c)

  -- along an axis the neighbour stays in the block, or it does not and the side is outermost
  abbrev Stays : Tetrahedron → Vertex → Axis → Type 0
  Stays t q c =
      ((beyond t q).down c ≤ t.cube c + (beyond t q).up c)
      × (t.cube c + (beyond t q).up c + unit (beyond t q).axis c < size s c + (beyond t q).down c)

  abbrev Leaves : Tetrahedron → Vertex → Axis → Type 0
  Leaves t q c =
      (Stays t q c → ⊥)
      × ((i : Third) → (corner t (side q i) c ≡ 0) ⊎ (corner t (side q i) c + 1 ≡ grid s (kind (side q i)) c))

  grid_is : (k : Kind) (c : Axis) → grid s k c ≡ size s c + along k 0
  grid_is Corner c = refl
  grid_is Centre c = omega arith

  stays_or : (t : Tetrahedron) (q : Vertex) → Valid s t → (c : Axis) → Stays t q c ⊎ Leaves t q c
  unfolding corner
  stays_or t q h c = go (lt_or first (N.down c)) (lt_or last (size s c + N.down c))
    where
      N : Neighbour
      N = beyond t q

      first : ℕ
      first = t.cube c + N.up c

      last : ℕ
      last = first + unit N.axis c

      go : (first < N.down c) ⊎ (N.down c ≤ first) → (last < size s c + N.down c) ⊎ (size s c + N.down c ≤ last)
          → Stays t q c ⊎ Leaves t q c
      go (inl l) m =
          let r = next_low (side_at t q) c (omega arith) in
          inr (λ f. omega (arith, f.0), λ i. inl (omega (arith, r.0, r.1 i)))
      go (inr l) (inl m) = inl (l, m)
      go (inr l) (inr m) =
          let r = next_high (side_at t q) c (omega (arith, h c)) in
          inr (λ f. omega (arith, f.1), λ i. inr (omega (arith, r.0, r.1 i, h c, grid_is (kind (side q i)) c)))

-- along every axis, or not along some one
every_or : (A B : Axis → Type 0) → ((c : Axis) → A c ⊎ B c) → ((c : Axis) → A c) ⊎ ((c : Axis) × B c)
every_or A B f = go (f along_x) (f along_y) (f along_z)
  where
    at : A along_x → A along_y → A along_z → (c : Axis) → A c
    at x y z along_x = x
    at x y z along_y = y
    at x y z along_z = z

    go : A along_x ⊎ B along_x → A along_y ⊎ B along_y → A along_z ⊎ B along_z → ((c : Axis) → A c) ⊎ ((c : Axis) × B c)
    go (inl x) (inl y) (inl z) = inl (at x y z)
    go (inl x) (inl y) (inr z) = inr (along_z, z)
    go (inl x) (inr y) z = inr (along_y, y)
    go (inr x) y z = inr (along_x, x)

somewhere_i : (f : Axis → Bool) (c : Axis) → T (f c) → T (somewhere f)
somewhere_i f along_x t = or_l (f along_x) _ t
somewhere_i f along_y t = or_r (f along_x) _ (or_l (f along_y) (f along_z) t)
somewhere_i f along_z t = or_r (f along_x) _ (or_r (f along_y) (f along_z) t)

-- a side has its neighbour in the block, or none and it is on the rim
pub data Next (s : Sizes) (t : Tetrahedron) (q : Vertex) : Type 0 where
  inside : (u : Tetrahedron) → Valid s u → Beside t q u → Next s t q
  on_rim : ((u : Tetrahedron) → Valid s u → Beside t q u → ⊥)
      → ((i : Third) → T (rim_at s (kind (side q i)) (corner t (side q i)))) → Next s t q

pub next_of : (s : Sizes) (t : Tetrahedron) (q : Vertex) → Valid s t → Next s t q
unfolding rim_at outermost
next_of s t q h = go (every_or (Stays s t q) (Leaves s t q) (stays_or s t q h))
  where
    outer : (m i : ℕ) → (i ≡ 0) ⊎ (i + 1 ≡ m) → T (eqb i 0 || eqb (i + 1) m)
    outer m i (inl e) = or_l (eqb i 0) _ (eqb_of i 0 e)
    outer m i (inr e) = or_r (eqb i 0) _ (eqb_of (i + 1) m e)

    go : ((c : Axis) → Stays s t q c) ⊎ ((c : Axis) × Leaves s t q c) → Next s t q
    go (inl f) =
        let n = beyond t q in
        inside (record { axis = n.axis; edge = n.edge; cube = λ c. t.cube c + n.up c - n.down c })
        (λ c. omega (arith, f c)) (record { axis = refl; edge = refl; cube = λ c. omega (arith, f c) })
    go (inr l) =
        on_rim (λ u v b. l.1.0 (omega (arith, b.cube l.0, v l.0, ap (λ (a : Axis). unit a l.0) b.axis)))
        (λ i. somewhere_i (λ c. outermost (grid s (kind (side q i)) c) (corner t (side q i) c)) l.0
        (outer _ _ (l.1.1 i)))
