-- Entries of rows, as tests, and what a passed test says. Assumes nothing.
--
--   same_entry   two entries are the same: both one corner, or both the cut between the same two
--   stands      an entry is a corner that is not minus, or the cut between a plus and a minus corner, lower first
--   Ordered     if an entry is a cut, its ends ascend
use Prim.Native.Nat.{◌<◌}
use mathlib.Core.Path.{◌≡◌, refl, ap, subst}
use mathlib.Core.Bool.{Bool, false, not}
use lib.Dec.{T, ltb, ltb→lt}
use Rattle.basics.proofs.Test.{◌&◌, and_l, and_r, and_i}
use Rattle.basics.proofs.Tested.{same, same_use, same_i}
use Rattle.moving.specs.declared.Label.{Label}
use Rattle.moving.specs.Label.{is_minus, opposed}
use Rattle.stencil.specs.Tetrahedron.{Vertex}
use Rattle.stencil.specs.Stencil.{Entry, point, between, rank}
use Rattle.stencil.proofs.Corners.{the_vertices}

unfoldable pub same_entry : Entry Vertex → Entry Vertex → Bool
same_entry (point u) (point x) = same the_vertices u x
same_entry (point u) (between x y) = false
same_entry (between u v) (point x) = false
same_entry (between u v) (between x y) = same the_vertices u x & same the_vertices v y

pub same_entry_use : (x y : Entry Vertex) → T (same_entry x y) → x ≡ y
unfolding same_entry
same_entry_use (point u) (point x) t = ap point (same_use the_vertices u x t)
same_entry_use (point u) (between x y) t = absurd t
same_entry_use (between u v) (point x) t = absurd t
same_entry_use (between u v) (between x y) t =
    let r = and_r (same the_vertices u x) _ t in
    λ i. between (same_use the_vertices u x (and_l _ _ t) i) (same_use the_vertices v y r i)

own : (x : Entry Vertex) → T (same_entry x x)
unfolding same_entry
own (point u) = same_i the_vertices u u refl
own (between u v) = and_i (same the_vertices u u) _ (same_i the_vertices u u refl) (same_i the_vertices v v refl)

pub same_entry_i : (x y : Entry Vertex) → x ≡ y → T (same_entry x y)
same_entry_i x y e = subst (λ (z : Entry Vertex). T (same_entry x z)) e (own x)

unfoldable pub stands : (Vertex → Label) → Entry Vertex → Bool
stands l (point v) = not (is_minus (l v))
stands l (between u v) = ltb (rank u) (rank v) & opposed (l u) (l v)

abbrev pub Ordered : Entry Vertex → Type 0
Ordered (point v) = Unit
Ordered (between u v) = rank u < rank v

pub stands_ordered : (l : Vertex → Label) (x : Entry Vertex) → T (stands l x) → Ordered x
unfolding stands
stands_ordered l (point v) t = tt
stands_ordered l (between u v) t = ltb→lt _ _ (and_l _ _ t)
