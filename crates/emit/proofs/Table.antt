-- What the code writes for a block is the table of its rows, oriented by type and parity. Assumes nothing.
use Prim.Native.Nat.{ℕ, ◌+◌, ◌*◌, ◌-◌, ◌/◌, ◌≤◌}
use native.Mathlib.Omega.{arith}
use mathlib.Core.Path.{◌≡◌, refl, sym, ap, ◌∙◌}
use mathlib.Core.List.{List, [], ◌∷◌, ◌++◌, map}
use lib.ListN.{length}
use lib.Seq.{sets, sets-eq}
use Rattle.basics.specs.Lists.{gather, from, below}
use Rattle.basics.specs.inner.Writing.{Wrote}
use Rattle.basics.proofs.Gather.{gather_append}
use Rattle.basics.proofs.Mapped.{gather_same}
use Rattle.lattice.specs.declared.Sizes.{Sizes}
use Rattle.lattice.specs.Axis.{Axis, along_x, along_y, along_z}
use Rattle.lattice.specs.Counts.{size, points}
use Rattle.moving.specs.declared.Label.{Label}
use Rattle.stencil.specs.Tetrahedron.{Tetrahedron, Vertex, Quarter, q0, q1, q2, q3, unit, corner_number, axes}
use Rattle.stencil.specs.Tetrahedron.{in_turn, in_cube, in_line, in_layer, in_axis, tetrahedra_of}
use Rattle.stencil.specs.Row.{Row, row, map_row}
use Rattle.stencil.specs.Stencil.{Entry, rows_for}
use Rattle.stencil.specs.Id.{id_of}
use Rattle.stencil.specs.inner.Sign.{signed, winds}
use Rattle.filling.specs.Mesh.{ids, table}
use Rattle.filling.specs.Fill.{overwritten}
use Rattle.rows.specs.inner.Corners.{axis_at, quarter_at, corner_of}
use Rattle.rows.specs.inner.Stencils.{tetra_ids}
use Rattle.rows.proofs.Patterns.{listed}
use Rattle.rows.proofs.Ids.{id_by, id_is, tetra_is}
use Rattle.emit.specs.declared.Cube.{Cube}
use Rattle.emit.specs.inner.Cubes.{cube_labels, edge_number, quarter_of, quarter_labels, edge_ids, cube_ids, Room}
use Rattle.emit.specs.inner.Passes.{moved_cube, shifted, first_cube, step_by, pass_of}
use Rattle.emit.specs.inner.Passes.{placed_ids, run_ids, line_ids, layer_ids, pass_ids, block_ids}
use Rattle.emit.specs.inner.Mesh.{signed_rows, row_total, signed_table}
use Rattle.emit.proofs.Numbers.{cube_of, tetrahedron, numbers_are, counts_are, step_own}

-- parts of parts
pub gather_gather : {A B : Type 0} (f : B → List ℕ) (g : A → List B) (l : List A) → gather f (gather g l) ≡ gather (λ x. gather f (g x)) l
unfolding gather
gather_gather f g [] = refl
gather_gather f g (x ∷ l) = gather_append f (g x) (gather g l) ∙ ap (λ (r : List ℕ). gather f (g x) ++ r) (gather_gather f g l)

edge_back : (e : Quarter) → quarter_at (edge_number e) ≡ e
edge_back q0 = refl
edge_back q1 = refl
edge_back q2 = refl
edge_back q3 = refl

pass_axis : (s : Sizes) (a : Axis) → axis_at (pass_of s a).step.axis ≡ a
unfolding pass_of step_by
pass_axis s along_x = refl
pass_axis s along_y = refl
pass_axis s along_z = refl

module _ (s : Sizes) (label : ℕ → Label) where
  abbrev pub table_of : Tetrahedron → List ℕ
  table_of t = table (signed_rows s label t)

  labels_are : (c : Cube) (e : Quarter)
      → quarter_labels (cube_labels label c) e ≡ listed (λ v. label (corner_of (quarter_of c e) v))
  unfolding cube_labels
  labels_are c q0 = refl
  labels_are c q1 = refl
  labels_are c q2 = refl
  labels_are c q3 = refl

  module _ (a : Axis) where
    axis_is : (z y x : ℕ) → axis_at (cube_of s a z y x).axis ≡ a
    unfolding shifted first_cube moved_cube
    axis_is z y x = pass_axis s a

    own_points : (z y x : ℕ) → (cube_of s a z y x).n ≡ points s
    unfolding shifted first_cube moved_cube
    own_points z y x = (step_own s a).0

    -- one tetrahedron
    edge_table : (z y x : ℕ) (e : Quarter)
        → edge_ids (cube_of s a z y x) (cube_labels label (cube_of s a z y x)) (edge_number e)
        ≡ table_of (tetrahedron s a z y x e)
    unfolding edge_ids signed_rows
    edge_table z y x e =
        ap (λ (q : Quarter). tetra_ids (winds q) (quarter_of c q) (quarter_labels (cube_labels label c) q)) (edge_back e)
        ∙ ap (tetra_ids (winds e) (quarter_of c e)) (labels_are c e)
        ∙ tetra_is (quarter_of c e) (winds e) (λ v. label (corner_of (quarter_of c e) v))
        ∙ (λ i. table (map (map_row (λ r. ids_are r i)) (map (signed (winds e)) (rows_for (λ v. label (same v i))))))
      where
        c : Cube
        c = cube_of s a z y x

        same : (v : Vertex) → corner_of (quarter_of c e) v ≡ corner_number s (tetrahedron s a z y x e) v
        same v = numbers_are s a z y x e v

        ids_are : (r : Entry Vertex) → id_by (quarter_of c e) r ≡ id_of s (tetrahedron s a z y x e) r
        ids_are = id_is s (tetrahedron s a z y x e) (quarter_of c e) (own_points z y x) (axis_is z y x) (edge_back e) same

    cube_table : (z y x : ℕ) → cube_ids label (cube_of s a z y x) ≡ gather table_of (in_cube a z y x)
    unfolding cube_ids gather from in_cube in_turn
    cube_table z y x =
        λ i. edge_table z y x q0 i ++ (edge_table z y x q1 i ++ (edge_table z y x q2 i ++ (edge_table z y x q3 i ++ [])))

    line_table : (z y : ℕ) → line_ids s (pass_of s a) label z y ≡ gather table_of (in_line s a z y)
    unfolding line_ids run_ids placed_ids in_line
    line_table z y =
        ap (λ (k : ℕ). gather (placed_ids label (first_cube s (pass_of s a) y z)) (below k)) (counts_are s a).0
        ∙ gather_same (placed_ids label (first_cube s (pass_of s a) y z)) (λ x. gather table_of (in_cube a z y x))
        (below (size s along_x - unit a along_x)) (λ x m. cube_table z y x)
        ∙ sym (gather_gather table_of (in_cube a z y) (below (size s along_x - unit a along_x)))

    layer_table : (z : ℕ) → layer_ids s (pass_of s a) label z ≡ gather table_of (in_layer s a z)
    unfolding layer_ids in_layer
    layer_table z =
        ap (λ (k : ℕ). gather (line_ids s (pass_of s a) label z) (below k)) (counts_are s a).1
        ∙ gather_same (line_ids s (pass_of s a) label z) (λ y. gather table_of (in_line s a z y))
        (below (size s along_y - unit a along_y)) (λ y m. line_table z y)
        ∙ sym (gather_gather table_of (in_line s a z) (below (size s along_y - unit a along_y)))

    pass_table : pass_ids s (pass_of s a) label ≡ gather table_of (in_axis s a)
    unfolding pass_ids in_axis
    pass_table =
        ap (λ (k : ℕ). gather (layer_ids s (pass_of s a) label) (below k)) (counts_are s a).2
        ∙ gather_same (layer_ids s (pass_of s a) label) (λ z. gather table_of (in_layer s a z))
        (below (size s along_z - unit a along_z)) (λ z m. layer_table z)
        ∙ sym (gather_gather table_of (in_layer s a) (below (size s along_z - unit a along_z)))

  pub block_table : block_ids s label ≡ signed_table s label
  unfolding block_ids signed_table tetrahedra_of
  block_table =
      gather_same (λ a. pass_ids s (pass_of s a) label) (λ a. gather table_of (in_axis s a)) axes (λ a m. pass_table a)
      ∙ sym (gather_gather table_of (in_axis s) axes)
      ∙ sym (gather_gather ids (signed_rows s label) (gather (in_axis s) axes))

-- four numbers a row
pub table_long : (l : List (Row ℕ)) → length (table l) ≡ 4 * length l
unfolding gather
table_long [] = refl
table_long (row a b c d ∷ l) = omega (arith, table_long l)

module _ (s : Sizes) (label : ℕ → Label) where
  pub block_long : length (block_ids s label) ≡ 4 * row_total s label
  unfolding signed_table row_total
  block_long = ap length (block_table s label) ∙ table_long (gather (signed_rows s label) (tetrahedra_of s))

  pub overwritten_is : {l now : List ℕ} {end : ℕ} → 4 * row_total s label ≤ length l → Wrote (block_ids s label) l 0 now end
      → now ≡ overwritten (signed_table s label) l
  unfolding overwritten
  overwritten_is {l} h w =
      let z : 0 + length (signed_table s label) ≡ length (signed_table s label) = omega arith in
      let long = ap length (block_table s label) in
      w.now_is
      ∙ ap (sets l 0) (block_table s label)
      ∙ sets-eq (signed_table s label) l 0 (omega (arith, block_long))
      ∙ rw z refl

  -- counting, and the room that a table needs
  pub count_is : {l now : List ℕ} {end : ℕ} → Wrote (block_ids s label) l 0 now end → end / 4 ≡ row_total s label
  count_is w = omega (arith, block_long, w.to_is)

  pub write_room : (l : List ℕ) → 4 * row_total s label ≤ length l → Room l 0 (length (block_ids s label))
  write_room l h = record { fits = λ some. omega (arith, block_long) }
