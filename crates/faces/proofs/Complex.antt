-- An abstract complex: cells with four ascending vertex numbers, a winding, labels of the numbers and ids of the
-- entries. If the same four vertices are those of one cell only, and each side is shared with one other cell that winds
-- it the opposite way, or with none and then has no plus, every face of every row fits. Assumes nothing.
--
--   Complex, Fits   such a complex, and what is asked of it
--   Held            a row that holds a face
--   Across          what is on the other side of a side
--   Fine            what is claimed of a face, and every_face shows of all of them
use Prim.Native.Nat.{ℕ, ◌<◌}
use mathlib.Core.Path.{◌≡◌, refl, sym, ◌∙◌, ap, subst, subst₂}
use mathlib.Core.Logic.{◌⊎◌, inl, inr}
use mathlib.Core.Bool.{Bool, not}
use mathlib.Core.List.{List}
use lib.Dec.{T, T_not}
use lib.ListN.{length, get_or}
use Rattle.basics.proofs.Test.{decide}
use Rattle.basics.proofs.Tested.{any_i}
use Rattle.moving.specs.declared.Label.{Label}
use Rattle.moving.specs.declared.Label.TheVariants.{Plus}
use Rattle.moving.specs.Label.{is_plus}
use Rattle.stencil.specs.Tetrahedron.{Vertex}
use Rattle.stencil.specs.Row.{Row, Face, face, Third, row_at, face_at, face_of, cycled, Opposite, Holds, map_row}
use Rattle.stencil.specs.Stencil.{Entry, point, between}
use Rattle.stencil.proofs.Corners.{the_vertices}
use Rattle.stencil.proofs.Entries.{Ordered, stands_ordered}
use Rattle.faces.proofs.Windings.{map_face, row_at_map, face_of_map, face_at_map, wound}
use Rattle.faces.proofs.Windings.{opposite_map, opposite_wound, holds_own, holds_opposite}
use Rattle.faces.proofs.Pattern.{signed_for, row_in, tip, map_entry, side, outward}
use Rattle.faces.proofs.Pattern.{on_triangle, on_side, shown, no_face, lift}
use Rattle.faces.proofs.PatternTests.{has_plus}
use Rattle.faces.proofs.PatternLaws.{is_plus_i, Covers, ZeroPoint, Zeros, Alone, Fate, inner, free, on_side_law, fate}
use Rattle.faces.proofs.PatternLaws.{Showing, shown_once, has_plus_law, stands_at}
use Rattle.faces.proofs.Ascending.{Ascending, Alike, on_one, on_two, alike_tip, entry_inj, same_side_law, same_four}

pub record Complex : Type 1 where
  pub Cell : Type 0
  pub In : Cell → Type 0
  pub vertex : Cell → Vertex → ℕ
  pub winding : Cell → Bool
  pub label : ℕ → Label
  pub id : Cell → Entry Vertex → ℕ
  pub Skin : ℕ → Type 0

-- the rows of a cell, by corners and by ids
abbrev pub labels_of : (C : Complex) → C.Cell → Vertex → Label
labels_of C i v = C.label (C.vertex i v)

abbrev pub cell_rows : (C : Complex) → C.Cell → List (Row (Entry Vertex))
cell_rows C i = signed_for (C.winding i) (labels_of C i)

abbrev pub entry_in : (C : Complex) → C.Cell → ℕ → Vertex → Entry Vertex
entry_in C i r w = row_at (row_in (cell_rows C i) r) w

abbrev pub id_row : (C : Complex) → C.Cell → ℕ → Row ℕ
id_row C i r = map_row (C.id i) (row_in (cell_rows C i) r)

abbrev pub cell_face : (C : Complex) → C.Cell → ℕ → Vertex → Face (Entry Vertex)
cell_face C i r v = face_of (row_in (cell_rows C i) r) v

abbrev pub id_face : (C : Complex) → C.Cell → ℕ → Vertex → Face ℕ
id_face C i r v = face_of (id_row C i r) v

-- the side u of the cell m is the side q of the cell i
abbrev pub Shares : (C : Complex) → C.Cell → Vertex → C.Cell → Vertex → Type 0
Shares C m u i q = (t : Third) → C.vertex m (side u t) ≡ C.vertex i (side q t)

-- the k-th row of the cell m holds a face
pub record Held (C : Complex) (m : C.Cell) (k : ℕ) (f : Face ℕ) : Type 0 where
  pub cell : C.In m
  pub inside : k < length (cell_rows C m)
  pub holds : Holds (id_row C m k) f

pub data Across (C : Complex) (i : C.Cell) (q : Vertex) : Type 0 where
  neighbour : (j : C.Cell) (u : Vertex) → C.In j → (i ≡ j → ⊥) → Shares C j u i q
      → outward (C.winding j) u ≡ not (outward (C.winding i) q)
      → ((m : C.Cell) (w : Vertex) → C.In m → Shares C m w i q → (m ≡ i) ⊎ (m ≡ j)) → Across C i q
  outside : ((m : C.Cell) (w : Vertex) → C.In m → Shares C m w i q → m ≡ i)
      → ((t : Third) → labels_of C i (side q t) ≡ Plus → ⊥) → Across C i q

-- entries of two cells that stand on the same vertices
abbrev pub SameEntry : (C : Complex) → C.Cell → C.Cell → Entry Vertex → Entry Vertex → Type 0
SameEntry C i j = Alike (C.vertex i) (C.vertex j)

pub record Fits (C : Complex) : Type 0 where
  pub ascending : (i : C.Cell) → C.In i → Ascending (C.vertex i)
  pub same : (i j : C.Cell) → C.In i → C.In j → ((v : Vertex) → C.vertex i v ≡ C.vertex j v) → i ≡ j
  pub across : (i : C.Cell) → C.In i → (q : Vertex) → Across C i q
  pub id_inj : (i j : C.Cell) → C.In i → C.In j → (x y : Entry Vertex) → Ordered x → Ordered y
      → C.id i x ≡ C.id j y → SameEntry C i j x y
  pub id_same : (i j : C.Cell) → C.In i → C.In j → (x y : Entry Vertex) → SameEntry C i j x y → C.id i x ≡ C.id j y
  pub skin : (i : C.Cell) → C.In i → (x : Entry Vertex) → ZeroPoint (labels_of C i) x → C.Skin (C.id i x)

-- a face of the r-th row of the cell i: in exactly one other row, wound the opposite way; or in no other and on the skin
pub data Fine (C : Complex) (i : C.Cell) (r : ℕ) (v : Vertex) : Type 0 where
  two : (j : C.Cell) (s : ℕ) (w : Vertex) → C.In j → s < length (cell_rows C j) → (i ≡ j → r ≡ s → ⊥)
      → Opposite (id_face C i r v) (id_face C j s w)
      → ((m : C.Cell) (k : ℕ) → Held C m k (id_face C i r v) → ((m ≡ i) × (k ≡ r)) ⊎ ((m ≡ j) × (k ≡ s)))
      → Fine C i r v
  one : ((m : C.Cell) (k : ℕ) → Held C m k (id_face C i r v) → (m ≡ i) × (k ≡ r))
      → ((t : Third) → C.Skin (face_at (id_face C i r v) t)) → Fine C i r v

-- the ends of a cut in a row ascend
pub ordered : (C : Complex) (i : C.Cell) (r : ℕ) → r < length (cell_rows C i) → (w : Vertex) → Ordered (entry_in C i r w)
ordered C i r h w = stands_ordered (labels_of C i) (entry_in C i r w) (stands_at (C.winding i) (labels_of C i) r h w)

map_face_lift : {A B D : Type 0} (g : B → D) (f : A → B) (x : Face A)
    → map_face g (map_face f x) ≡ map_face (λ y. g (f y)) x
map_face_lift g f (face x y z) = refl

opposite_rows : {A B : Type 0} (f : A → B) (x y : Row A) (v w : Vertex) → Opposite (face_of x v) (face_of y w)
    → Opposite (face_of (map_row f x) v) (face_of (map_row f y) w)
opposite_rows f x y v w o = subst₂ Opposite (sym (face_of_map f x v)) (sym (face_of_map f y w)) (opposite_map f o)

module _ (C : Complex) (F : Fits C) where
  module _ (i : C.Cell) (hi : C.In i) (r : ℕ) (hr : r < length (cell_rows C i)) (v : Vertex) where
    face_at_law : (t : Third) → face_at (id_face C i r v) t ≡ C.id i (face_at (cell_face C i r v) t)
    face_at_law t =
        ap (λ (g : Face ℕ). face_at g t) (face_of_map (C.id i) (row_in (cell_rows C i) r) v)
        ∙ face_at_map (C.id i) (cell_face C i r v) t

    face_ordered : (t : Third) → Ordered (face_at (cell_face C i r v) t)
    face_ordered t = let o = holds_own (row_in (cell_rows C i) r) v t in subst Ordered o.1 (ordered C i r hr o.0)

    -- the entries of a row that holds the face stand on the vertices that the face's entries stand on
    seen : (m : C.Cell) (k : ℕ) → Held C m k (id_face C i r v) → (t : Third)
        → (w : Vertex) × SameEntry C m i (entry_in C m k w) (face_at (cell_face C i r v) t)
    seen m k h t =
        let w = h.holds t in
        let e = sym (row_at_map (C.id m) (row_in (cell_rows C m) k) w.0) ∙ w.1 ∙ face_at_law t in
        (w.0, F.id_inj m i h.cell hi _ _ (ordered C m k h.inside w.0) (face_ordered t) e)

    reached : (m : C.Cell) (k : ℕ) → Held C m k (id_face C i r v) → (u : Vertex) → Covers (cell_face C i r v) u
        → (x : Vertex) × (C.vertex m x ≡ C.vertex i u)
    reached m k h u c =
        let w = seen m k h c.0 in
        (tip c.1 (entry_in C m k w.0), alike_tip w.1 c.1 ∙ ap (C.vertex i) c.2)

    -- in the face's own cell, by corners
    locally : (m : C.Cell) (k : ℕ) → Held C m k (id_face C i r v) → m ≡ i
        → (k < length (cell_rows C i)) × Holds (row_in (cell_rows C i) k) (cell_face C i r v)
    locally m k h e =
        let p : Held C i k (id_face C i r v) = subst (λ (x : C.Cell). Held C x k (id_face C i r v)) e h in
        (p.inside, λ t. let w = seen i k p t in (w.0, entry_inj (C.vertex i) (F.ascending i hi) w.1))

    -- a face on all four vertices is held by rows of its own cell only
    own_cell : ((u : Vertex) → Covers (cell_face C i r v) u) → (m : C.Cell) (k : ℕ) → Held C m k (id_face C i r v)
        → m ≡ i
    own_cell c m k h =
        sym (F.same i m hi h.cell
        (same_four (C.vertex i) (C.vertex m) (F.ascending i hi) (F.ascending m h.cell)
        (λ u. reached m k h u (c u))))

    on_skin : Zeros (labels_of C i) (cell_face C i r v) → (t : Third) → C.Skin (face_at (id_face C i r v) t)
    on_skin z t = subst C.Skin (sym (face_at_law t)) (F.skin i hi (face_at (cell_face C i r v) t) (z t))

  -- a face on a side
  module _ (i : C.Cell) (hi : C.In i) (r : ℕ) (hr : r < length (cell_rows C i)) (v q : Vertex) (n : ℕ) (t : Third)
      (hn : n < length (on_side (labels_of C i) q))
      (e : cell_face C i r v ≡ lift q (cycled t (shown (C.winding i) (labels_of C i) q n)))
      (c : (u : Third) → Covers (cell_face C i r v) (side q u)) (a : Alone (cell_rows C i) r (cell_face C i r v))
      (z : ((u : Third) → labels_of C i (side q u) ≡ Plus → ⊥) → Zeros (labels_of C i) (cell_face C i r v)) where
    -- a cell whose row holds the face has the side
    shares : (m : C.Cell) (k : ℕ) → Held C m k (id_face C i r v) → (w : Vertex) × Shares C m w i q
    shares m k h =
        same_side_law (C.vertex i) (C.vertex m) (F.ascending i hi) (F.ascending m h.cell) q
        (λ u. reached i hi r hr v m k h (side q u) (c u))

    here_once : (m : C.Cell) (k : ℕ) → Held C m k (id_face C i r v) → m ≡ i → (m ≡ i) × (k ≡ r)
    here_once m k h d = let p = locally i hi r hr v m k h d in (d, a k p.0 p.1)

    module _ (j : C.Cell) (u : Vertex) (hj : C.In j) (ne : i ≡ j → ⊥) (sh : Shares C j u i q)
        (o : outward (C.winding j) u ≡ not (outward (C.winding i) q))
        (only : (m : C.Cell) (w : Vertex) → C.In m → Shares C m w i q → (m ≡ i) ⊎ (m ≡ j)) where
      abbrev τ : Face (Entry Third)
      τ = get_or (on_side (labels_of C i) q) n no_face

      abbrev onto : Entry Third → ℕ
      onto x = C.id i (map_entry (side q) x)

      -- the neighbour's three labels put the same faces on the side, with the same ids
      same_faces : on_side (labels_of C j) u ≡ on_side (labels_of C i) q
      unfolding on_side
      same_faces = λ x. on_triangle (λ t. C.label (sh t x))

      same_ids : (x : Entry Third) → C.id j (map_entry (side u) x) ≡ onto x
      same_ids (point a) = F.id_same j i hj hi _ _ (on_one (sh a))
      same_ids (between a b) = F.id_same j i hj hi _ _ (on_two (sh a) (sh b))

      face_here : id_face C i r v ≡ map_face onto (cycled t (wound (outward (C.winding i) q) τ))
      unfolding shown
      face_here =
          face_of_map (C.id i) (row_in (cell_rows C i) r) v ∙ ap (map_face (C.id i)) e
          ∙ map_face_lift (C.id i) (map_entry (side q)) (cycled t (wound (outward (C.winding i) q) τ))

      face_there : (D : Showing (C.winding j) (labels_of C j) u n)
          → id_face C j D.r D.v ≡ map_face onto (cycled D.t (wound (not (outward (C.winding i) q)) τ))
      unfolding shown
      face_there D =
          face_of_map (C.id j) (row_in (cell_rows C j) D.r) D.v ∙ ap (map_face (C.id j)) D.is
          ∙ map_face_lift (C.id j) (map_entry (side u)) (cycled D.t (shown (C.winding j) (labels_of C j) u n))
          ∙ (λ x. map_face (λ y. same_ids y x) (cycled D.t (wound (o x) (get_or (same_faces x) n no_face))))

      paired : Showing (C.winding j) (labels_of C j) u n → Fine C i r v
      paired D =
          two j D.r D.v hj D.inside (λ d _. ne d) opp
          (λ m k h. let w = shares m k h in go m k h (only m w.0 h.cell w.1))
        where
          opp : Opposite (id_face C i r v) (id_face C j D.r D.v)
          opp =
              subst₂ Opposite (sym face_here) (sym (face_there D))
              (opposite_map onto (opposite_wound (outward (C.winding i) q) τ t D.t))

          there : (m : C.Cell) (k : ℕ) → Held C m k (id_face C i r v) → Held C m k (id_face C j D.r D.v)
          there m k h =
              record { cell = h.cell; inside = h.inside; holds = holds_opposite (id_row C m k) opp h.holds }

          go : (m : C.Cell) (k : ℕ) → Held C m k (id_face C i r v) → (m ≡ i) ⊎ (m ≡ j)
              → ((m ≡ i) × (k ≡ r)) ⊎ ((m ≡ j) × (k ≡ D.r))
          go m k h (inl d) = inl (here_once m k h d)
          go m k h (inr d) =
              let p = locally j hj D.r D.inside D.v m k (there m k h) d in
              inr (d, D.only k p.0 p.1)

      -- with no plus the neighbour has no rows, and the side has none
      no_plus : T (not (has_plus (labels_of C j))) → (t : Third) → labels_of C i (side q t) ≡ Plus → ⊥
      unfolding has_plus
      no_plus p t y =
          T_not (has_plus (labels_of C j)) p
          (any_i (λ v. is_plus (labels_of C j v)) (the_vertices.complete (side u t))
          (is_plus_i _ (ap C.label (sh t) ∙ y)))

      lone : T (not (has_plus (labels_of C j))) → Fine C i r v
      lone p =
          one (λ m k h. let w = shares m k h in go m k h (only m w.0 h.cell w.1))
          (on_skin i hi r hr v (z (no_plus p)))
        where
          go : (m : C.Cell) (k : ℕ) → Held C m k (id_face C i r v) → (m ≡ i) ⊎ (m ≡ j) → (m ≡ i) × (k ≡ r)
          go m k h (inl d) = here_once m k h d
          go m k h (inr d) =
              let l : k < length (cell_rows C j) = subst (λ (x : C.Cell). k < length (cell_rows C x)) d h.inside in
              absurd (T_not (has_plus (labels_of C j)) p (has_plus_law (C.winding j) (labels_of C j) k l))

    side_fine : Across C i q → Fine C i r v
    side_fine (neighbour j u hj ne sh o only) = elim (decide (has_plus (labels_of C j))) [
      | inl p ↦ paired j u hj ne sh o only
          (shown_once (C.winding j) (labels_of C j) p u n (rw (same_faces j u hj ne sh o only) hn))
      | inr p ↦ lone j u hj ne sh o only p
    ]
    side_fine (outside only np) =
        one (λ m k h. let w = shares m k h in here_once m k h (only m w.0 h.cell w.1))
        (on_skin i hi r hr v (z np))

  module _ (i : C.Cell) (hi : C.In i) (r : ℕ) (hr : r < length (cell_rows C i)) (v : Vertex) where
    fate_fine : Fate (C.winding i) (labels_of C i) r v → Fine C i r v
    fate_fine (inner m w hm ne o c only) =
        two i m w hi hm (λ _ d. ne d)
        (opposite_rows (C.id i) (row_in (cell_rows C i) r) (row_in (cell_rows C i) m) v w o)
        (λ k s h.
        let d = own_cell i hi r hr v c k s h in
        let p = locally i hi r hr v k s h d in
        elim (only s p.0 p.1) [ inl x ↦ inl (d, x) | inr x ↦ inr (d, x) ])
    fate_fine (free c a z) =
        one
        (λ k s h.
        let d = own_cell i hi r hr v c k s h in
        let p = locally i hi r hr v k s h d in
        (d, a s p.0 p.1))
        (on_skin i hi r hr v z)
    fate_fine (on_side_law q n t hn e c a z) = side_fine i hi r hr v q n t hn e c a z (F.across i hi q)

    pub every_face : Fine C i r v
    every_face = fate_fine (fate (C.winding i) (labels_of C i) r v hr)
