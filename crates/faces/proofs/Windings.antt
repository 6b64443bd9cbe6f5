-- Rows and faces under a map, and faces wound opposite ways. Assumes nothing.
use mathlib.Core.Path.{◌≡◌, refl, sym, ◌∙◌, ap}
use mathlib.Core.Bool.{Bool, true, false, not}
use Rattle.stencil.specs.Tetrahedron.{Vertex, v0, v1, v2, v3}
use Rattle.stencil.specs.Row.{Row, row, Face, face, Third, t0, t1, t2, row_at, face_at, face_of}
use Rattle.stencil.specs.Row.{cycled, exchanged, Opposite, Holds, map_row}

module _ {A B : Type 0} (f : A → B) where
  abbrev pub map_face : Face A → Face B
  map_face (face x y z) = face (f x) (f y) (f z)

  pub row_at_map : (r : Row A) (v : Vertex) → row_at (map_row f r) v ≡ f (row_at r v)
  row_at_map (row a b c d) v0 = refl
  row_at_map (row a b c d) v1 = refl
  row_at_map (row a b c d) v2 = refl
  row_at_map (row a b c d) v3 = refl

  pub face_of_map : (r : Row A) (v : Vertex) → face_of (map_row f r) v ≡ map_face (face_of r v)
  face_of_map (row a b c d) v0 = refl
  face_of_map (row a b c d) v1 = refl
  face_of_map (row a b c d) v2 = refl
  face_of_map (row a b c d) v3 = refl

  pub face_at_map : (g : Face A) (t : Third) → face_at (map_face g) t ≡ f (face_at g t)
  face_at_map (face x y z) t0 = refl
  face_at_map (face x y z) t1 = refl
  face_at_map (face x y z) t2 = refl

  exchanged_map : (g : Face A) (t : Third) → map_face (exchanged (cycled t g)) ≡ exchanged (cycled t (map_face g))
  exchanged_map (face x y z) t0 = refl
  exchanged_map (face x y z) t1 = refl
  exchanged_map (face x y z) t2 = refl

  pub opposite_map : {g h : Face A} → Opposite g h → Opposite (map_face g) (map_face h)
  opposite_map {g = g} o = (o.0, ap map_face o.1 ∙ exchanged_map g o.0)

module _ {A : Type 0} where
  -- a row holds its own faces
  pub holds_own : (r : Row A) (v : Vertex) → Holds r (face_of r v)
  holds_own (row a b c d) v0 t0 = (v1, refl)
  holds_own (row a b c d) v0 t1 = (v2, refl)
  holds_own (row a b c d) v0 t2 = (v3, refl)
  holds_own (row a b c d) v1 t0 = (v0, refl)
  holds_own (row a b c d) v1 t1 = (v3, refl)
  holds_own (row a b c d) v1 t2 = (v2, refl)
  holds_own (row a b c d) v2 t0 = (v0, refl)
  holds_own (row a b c d) v2 t1 = (v1, refl)
  holds_own (row a b c d) v2 t2 = (v3, refl)
  holds_own (row a b c d) v3 t0 = (v0, refl)
  holds_own (row a b c d) v3 t1 = (v2, refl)
  holds_own (row a b c d) v3 t2 = (v1, refl)

  -- the other winding has the same corners
  exchanged_at : (f : Face A) (r t : Third) → (u : Third) × (face_at f u ≡ face_at (exchanged (cycled r f)) t)
  exchanged_at (face x y z) t0 t0 = (t0, refl)
  exchanged_at (face x y z) t0 t1 = (t2, refl)
  exchanged_at (face x y z) t0 t2 = (t1, refl)
  exchanged_at (face x y z) t1 t0 = (t1, refl)
  exchanged_at (face x y z) t1 t1 = (t0, refl)
  exchanged_at (face x y z) t1 t2 = (t2, refl)
  exchanged_at (face x y z) t2 t0 = (t2, refl)
  exchanged_at (face x y z) t2 t1 = (t1, refl)
  exchanged_at (face x y z) t2 t2 = (t0, refl)

  pub holds_opposite : (r : Row A) {f g : Face A} → Opposite f g → Holds r f → Holds r g
  holds_opposite r {f = f} o h t =
      let u = exchanged_at f o.0 t in
      let w = h u.0 in
      (w.0, w.1 ∙ u.1 ∙ ap (λ (x : Face A). face_at x t) (sym o.1))

  -- the winding itself, or the other one
  abbrev pub wound : Bool → Face A → Face A
  wound true f = f
  wound false f = exchanged f

  opposite_cycled : (f : Face A) (r t : Third) → Opposite (cycled r f) (cycled t (exchanged f))
  opposite_cycled (face x y z) t0 t0 = (t0, refl)
  opposite_cycled (face x y z) t0 t1 = (t2, refl)
  opposite_cycled (face x y z) t0 t2 = (t1, refl)
  opposite_cycled (face x y z) t1 t0 = (t2, refl)
  opposite_cycled (face x y z) t1 t1 = (t1, refl)
  opposite_cycled (face x y z) t1 t2 = (t0, refl)
  opposite_cycled (face x y z) t2 t0 = (t1, refl)
  opposite_cycled (face x y z) t2 t1 = (t0, refl)
  opposite_cycled (face x y z) t2 t2 = (t2, refl)

  -- wound one way and the other, however they are turned round
  pub opposite_wound : (b : Bool) (f : Face A) (r t : Third)
      → Opposite (cycled r (wound b f)) (cycled t (wound (not b) f))
  opposite_wound true f r t = opposite_cycled f r t
  opposite_wound false (face x y z) r t = opposite_cycled (face x z y) r t
