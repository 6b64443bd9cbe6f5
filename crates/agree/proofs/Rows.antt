-- The calls agree on every corner of every row: the place call answers each id of a filled block's rows with 0 and the place that the
-- row is measured by. Assumes nothing.
use Prim.Native.Nat.{ℕ, ◌+◌, ◌<◌}
use native.Mathlib.Omega.{arith}
use mathlib.Core.Path.{◌≡◌, refl, sym, ap, ◌∙◌}
use mathlib.Core.Bool.{Bool, true, false}
use mathlib.Core.List.{List, [], ◌∷◌, map}
use lib.IntN.{pos}
use lib.Signed.{lt_z}
use lib.ListN.{get_or}
use lib.Dec.{T, ltb→lt}
use borrow.Author.Tests.{leb-true, leb-false}
use Rattle.std.specs.Prelude.{if◌then◌else◌, Some}
use Rattle.basics.proofs.Test.{and_l, and_r, every_use, Member, here, there}
use Rattle.basics.proofs.Gather.{gather_part}
use Rattle.lattice.specs.Counts.{points}
use Rattle.lattice.specs.Direction.{Code, as_start, is_start, direction_of, opposite}
use Rattle.lattice.specs.Edge.{neighbour}
use Rattle.lattice.proofs.Number.{number_lt}
use Rattle.lattice.proofs.Codes.{direction_lt}
use Rattle.lattice.proofs.Edge.{leads_near, near_number, neighbour_back}
use Rattle.moving.specs.declared.Label.{Label}
use Rattle.moving.specs.Label.{opposed}
use Rattle.moving.specs.Reading.{Reading, label_after}
use Rattle.moving.specs.Moving.{outset, state_of}
use Rattle.moving.specs.Block.{Block, reading_of}
use Rattle.moving.proofs.Labels.{opposed_sym, opposed_near, opposed_far}
use Rattle.moving.proofs.Settled.{Reached}
use Rattle.moving.proofs.Bytes.{nonzero_still, label_still}
use Rattle.moving.proofs.Moved.{state_reached}
use Rattle.stencil.specs.Tetrahedron.{Tetrahedron, Vertex, v0, v1, v2, v3, kind, corner, corner_number, tetrahedra_of}
use Rattle.stencil.specs.Row.{Row, row, row_at, swapped, map_row}
use Rattle.stencil.specs.Stencil.{Entry, point, between, rank, rows_for}
use Rattle.stencil.specs.Id.{start_of, cut_id, id_of}
use Rattle.stencil.proofs.Entries.{stands}
use Rattle.stencil.proofs.Edges.{code_in, between_code, between_leads}
use Rattle.stencil.proofs.Valid.{Valid, corner_inside}
use Rattle.stencil.proofs.Listed.{listed_valid}
use Rattle.geometry.specs.Place.{Place, place_of}
use Rattle.filling.specs.Check.{Accepted}
use Rattle.filling.specs.Mesh.{row_volume, oriented, labels_in, rows_in, rows_over, rows_with, mesh_of}
use Rattle.filling.proofs.Fits.{Fits, accepted_fits}
use Rattle.volumes.proofs.Built.{fits, built_of, built}
use Rattle.volumes.proofs.BuiltTest.{rows_built_law}
use Rattle.agree.proofs.Agree.{answer_to, stands_at, Asked, point_agrees, cut_agrees}

-- an entry of a row is a corner, or the cut between a plus and a minus corner
built_stands : (l : Vertex → Label) (r : Row (Entry Vertex)) → T (built l r) → (v : Vertex) → T (stands l (row_at r v))
unfolding built built_of fits
built_stands l (row a b c d) t v0 = and_l _ _ (and_l _ _ (and_r _ _ (and_l _ _ t)))
built_stands l (row a b c d) t v1 = and_l _ _ (and_l _ _ (and_r _ _ (and_r _ _ (and_l _ _ t))))
built_stands l (row a b c d) t v2 = and_l _ _ (and_l _ _ (and_r _ _ (and_r _ _ (and_r _ _ (and_l _ _ t)))))
built_stands l (row a b c d) t v3 = and_l _ _ (and_r _ _ (and_r _ _ (and_r _ _ (and_r _ _ (and_l _ _ t)))))

-- the code of an edge at its start is its direction's
start_code : (c : ℕ) → Code c → is_start c ≡ true → c ≡ direction_of c + 1
unfolding is_start direction_of
start_code c g e = omega (arith, leb-true c 7 e, g.low)

end_code : (c : ℕ) → Code c → is_start c ≡ false → opposite c ≡ direction_of c + 1
unfolding opposite is_start direction_of
end_code c g e = rw e (omega (arith, leb-false c 7 e, g.high))

module _ (m : Reading) (asked : Asked m) (fits : Fits m) (codes : List ℕ) (reached : Reached m (outset m) codes) where
  abbrev final : ℕ → Label
  final = label_after m.label codes

  -- an edge between two labels that are opposed after moving: neither end moved, and there is a byte
  edge_agrees : (p d q : ℕ) → p < points m.sizes → d < 7 → neighbour m.sizes p (as_start d) ≡ Some q
      → T (opposed (final p) (final q))
      → answer_to m codes (cut_id m.sizes p d) ≡ stands_at m codes (cut_id m.sizes p d)
  edge_agrees p d q l u e t =
      let before = rw (label_still m.label codes p x, label_still m.label codes q y) at t in
      let some = fits.cut p d q l u e before in
      cut_agrees m asked codes reached p d q l u e (λ z. omega arith) x y
    where
      x : get_or codes p 0 ≡ 0
      x = nonzero_still m.label codes p (opposed_near _ _ t)

      y : get_or codes q 0 ≡ 0
      y = nonzero_still m.label codes q (opposed_far _ _ t)

  module _ (t : Tetrahedron) (valid : Valid m.sizes t) where
    abbrev at : Vertex → ℕ
    at = corner_number m.sizes t

    at_lt : (v : Vertex) → at v < points m.sizes
    unfolding corner_number
    at_lt v = number_lt m.sizes (kind v) (corner t v) (corner_inside m.sizes t valid v)

    joined : (u v : Vertex) → rank u < rank v → neighbour m.sizes (at u) (code_in t u v) ≡ Some (at v)
    unfolding corner_number
    joined u v l =
        near_number m.sizes (kind u) (corner t u) (corner_inside m.sizes t valid u) (code_in t u v)
        ∙ leads_near m.sizes (kind u) (corner t u) (code_in t u v) (kind v) (corner t v) (corner_inside m.sizes t valid u)
        (corner_inside m.sizes t valid v) (between_code t u v l) (between_leads t u v l)

    cut_corner : (u v : Vertex) → rank u < rank v → T (opposed (final (at u)) (final (at v)))
        → answer_to m codes (cut_id m.sizes (at (start_of (code_in t u v) u v)) (direction_of (code_in t u v)))
        ≡ stands_at m codes (cut_id m.sizes (at (start_of (code_in t u v) u v)) (direction_of (code_in t u v)))
    cut_corner u v l o = go (is_start c) refl
      where
        c : ℕ
        c = code_in t u v

        g : Code c
        g = between_code t u v l

        go : (z : Bool) → is_start c ≡ z
            → answer_to m codes (cut_id m.sizes (at (if z then u else v)) (direction_of c))
            ≡ stands_at m codes (cut_id m.sizes (at (if z then u else v)) (direction_of c))
        go true e =
            edge_agrees (at u) (direction_of c) (at v) (at_lt u) (direction_lt c g)
            (ap (λ (n : ℕ). neighbour m.sizes (at u) n) (sym (start_code c g e)) ∙ joined u v l) o
        go false e =
            edge_agrees (at v) (direction_of c) (at u) (at_lt v) (direction_lt c g)
            (ap (λ (n : ℕ). neighbour m.sizes (at v) n) (sym (end_code c g e))
            ∙ neighbour_back m.sizes (at u) c (at v) (at_lt u) g (joined u v l))
            (opposed_sym _ _ o)

    entry_agrees : (x : Entry Vertex) → T (stands (labels_in m.sizes final t) x)
        → answer_to m codes (id_of m.sizes t x) ≡ stands_at m codes (id_of m.sizes t x)
    unfolding stands id_of
    entry_agrees (point v) s = point_agrees m asked codes reached (at v) (at_lt v)
    entry_agrees (between u v) s = cut_corner u v (ltb→lt _ _ (and_l _ _ s)) (and_r _ _ s)

-- what a mapped list holds
mapped : {A B : Type 0} (f : A → B) (l : List A) {y : B} → Member y (map f l) → (x : A) × Member x l × (y ≡ f x)
mapped f [] m = elim m [ ]
mapped f (x ∷ l) here = (x, here, refl)
mapped f (x ∷ l) (there m) = let (z, n, e) = mapped f l m in (z, there n, e)

-- an oriented row has the corners of the row, the last two exchanged or not
oriented_at : (place : ℕ → Place) (r : Row ℕ) (v : Vertex) → (w : Vertex) × (row_at (oriented place r) v ≡ row_at r w)
unfolding oriented
oriented_at place r v = go (lt_z (row_volume place r) (pos 0)) r v
  where
    go : (z : Bool) (r : Row ℕ) (v : Vertex) → (w : Vertex) × (row_at (if z then swapped r else r) v ≡ row_at r w)
    go false r v = (v, refl)
    go true (row a b c d) v0 = (v0, refl)
    go true (row a b c d) v1 = (v1, refl)
    go true (row a b c d) v2 = (v3, refl)
    go true (row a b c d) v3 = (v2, refl)

map_row_at : {A B : Type 0} (f : A → B) (r : Row A) (v : Vertex) → row_at (map_row f r) v ≡ f (row_at r v)
map_row_at f (row a b c d) v0 = refl
map_row_at f (row a b c d) v1 = refl
map_row_at f (row a b c d) v2 = refl
map_row_at f (row a b c d) v3 = refl

-- the theorem
pub row_agrees : (m : Reading) → Asked m → Fits m → (codes : List ℕ) → Reached m (outset m) codes
    → (r : Row ℕ) → Member r (rows_with m codes) → (v : Vertex) → answer_to m codes (row_at r v) ≡ stands_at m codes (row_at r v)
unfolding rows_over rows_in
row_agrees m asked fits codes reached r member v =
    let place = place_of m.sizes m.cuts codes in
    let final = label_after m.label codes in
    let (t, listed, inside) = gather_part (rows_in m.sizes final place) (tetrahedra_of m.sizes) member in
    let labels = labels_in m.sizes final t in
    let ids = id_of m.sizes t in
    let (x, mx, ex) = mapped (oriented place) _ inside in
    let (y, my, ey) = mapped (map_row ids) (rows_for labels) mx in
    let (w, ew) = oriented_at place x v in
    let is = ap (λ (z : Row ℕ). row_at z v) ex ∙ ew ∙ ap (λ (z : Row ℕ). row_at z w) ey ∙ map_row_at ids y w in
    let stand = built_stands labels y (every_use (built labels) (rows_for labels) (rows_built_law labels) my) w in
    rw is (entry_agrees m asked fits codes reached t (listed_valid m.sizes t listed) (row_at y w) stand)

-- after filling an accepted block
pub accepted_agrees : (band : ℕ) (b : Block) → Accepted band b → (r : Row ℕ) → Member r (mesh_of (reading_of band b)) → (v : Vertex)
    → answer_to (reading_of band b) (state_of (reading_of band b)) (row_at r v)
    ≡ stands_at (reading_of band b) (state_of (reading_of band b)) (row_at r v)
accepted_agrees band b h =
    let m = reading_of band b in
    let asked : Asked m = record { sized = h.tabled.sized; cuts_long = h.tabled.cuts_long; rule_is = refl } in
    row_agrees m asked (accepted_fits band b h) (state_of m) (state_reached m)
