-- Ids are one to one: entries of two tetrahedra have the same id exactly if they stand on the same lattice points.
-- Assumes nothing.
use Prim.Native.Nat.{ℕ, ◌+◌, ◌*◌, ◌<◌, min, max}
use native.Mathlib.Omega.{arith}
use mathlib.Core.Path.{◌≡◌, sym, ◌∙◌, ap}
use mathlib.Core.Logic.{inl, inr}
use mathlib.Core.Bool.{Bool, true, false}
use lib.Dec.{eqb, eqb→eq, T_not}
use Rattle.std.specs.Prelude.{if◌then◌else◌}
use Rattle.basics.specs.Lists.{first_from}
use Rattle.basics.proofs.Test.{decide, T_true, F-false, eqb_of, lt_or}
use Rattle.lattice.specs.declared.Sizes.{Sizes}
use Rattle.lattice.specs.Axis.{Axis, along_x, everywhere}
use Rattle.lattice.specs.Counts.{points}
use Rattle.lattice.specs.Point.{doubled, number}
use Rattle.lattice.specs.Direction.{direction, is_start, direction_of, step}
use Rattle.lattice.proofs.Number.{number_inj, number_lt}
use Rattle.lattice.proofs.Edge.{doubled_inj}
use Rattle.stencil.specs.Tetrahedron.{Tetrahedron, Vertex, kind, corner, corner_number}
use Rattle.stencil.specs.Stencil.{Entry, point, between, rank}
use Rattle.stencil.specs.Id.{leads_to, code_between, start_of, cut_id, id_of}
use Rattle.stencil.proofs.Entries.{Ordered}
use Rattle.stencil.proofs.Edges.{counted, counted_corner, code_in, start, finish, way, way_lt, edge_leads}
use Rattle.stencil.proofs.Valid.{Valid, corner_inside, ascending}
use Rattle.faces.proofs.Ascending.{rank_le, Alike, on_one, on_two}

-- tests of equal numbers that say the same
eqb_iff : (a b c d : ℕ) → (a ≡ b → c ≡ d) → (c ≡ d → a ≡ b) → eqb a b ≡ eqb c d
eqb_iff a b c d f g = elim (decide (eqb a b)) [
  | inl t ↦ T_true (eqb a b) t ∙ sym (T_true (eqb c d) (eqb_of c d (f (eqb→eq a b t))))
  | inr t ↦ (
      let no = T_not (eqb a b) t in
      F-false (eqb a b) no ∙ sym (F-false (eqb c d) (λ x. no (eqb_of a b (g (eqb→eq c d x))))))
]

-- one tetrahedron
abbrev twice : Tetrahedron → Vertex → Axis → ℕ
twice t v x = doubled (kind v) (corner t v x)

module _ (s : Sizes) (t : Tetrahedron) (h : Valid s t) where
  pub point_low : (v : Vertex) → corner_number s t v < points s
  unfolding corner_number
  point_low v = number_lt s (kind v) (corner t v) (corner_inside s t h v)

  less : (u v : Vertex) → rank u < rank v → corner_number s t u < corner_number s t v
  less u v l = elim (lt_or (corner_number s t u) (corner_number s t v)) [
    | inl x ↦ x
    | inr x ↦ absurd (omega (arith, rank_le (corner_number s t) (ascending s t h) v u x))
  ]

  -- of a cut's start and its other end, the lower number is that of the entry's first corner
  ends : (u v : Vertex) → rank u < rank v
      → (corner_number s t u ≡ min (corner_number s t (start t u v)) (corner_number s t (finish t u v)))
      × (corner_number s t v ≡ max (corner_number s t (start t u v)) (corner_number s t (finish t u v)))
  ends u v l = go (is_start (code_in t u v)) (less u v l)
    where
      n : Vertex → ℕ
      n = corner_number s t

      go : (b : Bool) → n u < n v
          → (n u ≡ min (n (if b then u else v)) (n (if b then v else u)))
          × (n v ≡ max (n (if b then u else v)) (n (if b then v else u)))
      go true m = (omega arith, omega arith)
      go false m = (omega arith, omega arith)

-- two tetrahedra
module _ (s : Sizes) (t u : Tetrahedron) (ht : Valid s t) (hu : Valid s u) where
  abbrev Same : Vertex → Vertex → Type 0
  Same v w = corner_number s t v ≡ corner_number s u w

  twice_same : (v w : Vertex) → Same v w → (x : Axis) → twice t v x ≡ twice u w x
  unfolding corner_number
  twice_same v w e x = λ i. doubled (p.0 i) (p.1 x i)
    where
      p : (kind v ≡ kind w) × ((c : Axis) → corner t v c ≡ corner u w c)
      p = number_inj s (kind v) (kind w) (corner t v) (corner u w) (corner_inside s t ht v) (corner_inside s u hu w) e

  same_twice : (v w : Vertex) → ((x : Axis) → twice t v x ≡ twice u w x) → Same v w
  unfolding corner_number
  same_twice v w e = λ i. number s ((p along_x).0 i) (λ x. (p x).1 i)
    where
      p : (x : Axis) → (kind v ≡ kind w) × (corner t v x ≡ corner u w x)
      p x = doubled_inj (kind v) (kind w) (corner t v x) (corner u w x) (e x)

  -- cuts with the same start and direction have the same other end
  cut_inj : (a b c d : Vertex) → rank a < rank b → rank c < rank d → id_of s t (between a b) ≡ id_of s u (between c d)
      → Same a c × Same b d
  unfolding id_of
  cut_inj a b c d l m e = (
    (ends s t ht a b l).0 ∙ (λ i. min (first i) (last i)) ∙ sym (ends s u hu c d m).0,
    (ends s t ht a b l).1 ∙ (λ i. max (first i) (last i)) ∙ sym (ends s u hu c d m).1,
  )
    where
      both : Same (start t a b) (start u c d) × (way t a b ≡ way u c d)
      both = omega (arith, e, way_lt t a b l, way_lt u c d m)

      first : Same (start t a b) (start u c d)
      first = both.0

      last : Same (finish t a b) (finish u c d)
      last = same_twice (finish t a b) (finish u c d) (λ x.
          let down = ap (λ (k : ℕ). (direction k x).down) both.1 in
          let up = ap (λ (k : ℕ). (direction k x).up) both.1 in
          omega (arith, edge_leads t a b l x, edge_leads u c d m x, twice_same (start t a b) (start u c d) first x))

  -- the same id: the same points
  pub id_inj : (x y : Entry Vertex) → Ordered x → Ordered y → id_of s t x ≡ id_of s u y
      → Alike (corner_number s t) (corner_number s u) x y
  unfolding id_of
  id_inj (point a) (point c) l m e = on_one e
  id_inj (point a) (between c d) l m e = absurd (omega (arith, e, point_low s t ht a))
  id_inj (between a b) (point c) l m e = absurd (omega (arith, e, point_low s u hu c))
  id_inj (between a b) (between c d) l m e = let f = cut_inj a b c d l m e in on_two f.0 f.1

  -- the same points: the same id
  cut_same : (a b c d : Vertex) → Same a c → Same b d → id_of s t (between a b) ≡ id_of s u (between c d)
  unfolding id_of code_between leads_to
  cut_same a b c d e f = λ i. cut_id s (first i) (direction_of (codes i))
    where
      shifted : (v w : Vertex) → Same v w → (x : Axis) → 2 * t.cube x + counted t v x ≡ 2 * u.cube x + counted u w x
      shifted v w p x = sym (counted_corner t v x) ∙ twice_same v w p x ∙ counted_corner u w x

      -- a code leads between the one's corners if it does between the other's
      at : (k : ℕ) (x : Axis)
          → eqb (counted t b x + (step k x).down) (counted t a x + (step k x).up)
          ≡ eqb (counted u d x + (step k x).down) (counted u c x + (step k x).up)
      at k x =
          let p = shifted a c e x in
          let q = shifted b d f x in
          eqb_iff (counted t b x + (step k x).down) (counted t a x + (step k x).up)
          (counted u d x + (step k x).down) (counted u c x + (step k x).up) (λ g. omega arith) (λ g. omega arith)

      codes : code_in t a b ≡ code_in u c d
      codes = λ i. first_from (λ k. everywhere (λ x. at k x i)) 14 1

      begins : (k : Bool) → Same (if k then a else b) (if k then c else d)
      begins true = e
      begins false = f

      first : Same (start t a b) (start u c d)
      first = begins (is_start (code_in t a b)) ∙ ap (λ (k : ℕ). corner_number s u (start_of k c d)) codes

  pub id_same : (x y : Entry Vertex) → Alike (corner_number s t) (corner_number s u) x y → id_of s t x ≡ id_of s u y
  unfolding id_of
  id_same (point a) (between c d) e = elim e [ ]
  id_same (between a b) (point c) e = elim e [ ]
  id_same (point a) (point c) (on_one e) = e
  id_same (between a b) (between c d) (on_two e f) = cut_same a b c d e f
