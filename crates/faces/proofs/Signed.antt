-- The rows of a block wound by the parity of their corners, with no place in sight. Definitions only.
use Prim.Native.Nat.{ℕ}
use mathlib.Core.Path.{◌≡◌}
use mathlib.Core.List.{List, map}
use lib.Dec.{T}
use Rattle.basics.specs.Lists.{gather}
use Rattle.lattice.specs.declared.Sizes.{Sizes}
use Rattle.lattice.specs.declared.Kind.{Kind}
use Rattle.lattice.specs.Axis.{Axis}
use Rattle.lattice.specs.Point.{Inside, number}
use Rattle.lattice.specs.Rim.{rim_at}
use Rattle.moving.specs.declared.Label.{Label}
use Rattle.moving.specs.declared.Label.TheVariants.{Plus}
use Rattle.stencil.specs.Tetrahedron.{Tetrahedron, corner_number, tetrahedra_of}
use Rattle.stencil.specs.Row.{Row, map_row}
use Rattle.stencil.specs.Stencil.{rows_for}
use Rattle.stencil.specs.Id.{id_of}
use Rattle.stencil.specs.inner.Sign.{signed, winds}

unfoldable pub signed_in : Sizes → (ℕ → Label) → Tetrahedron → List (Row ℕ)
signed_in s label t =
    map (map_row (id_of s t)) (map (signed (winds t.edge)) (rows_for (λ v. label (corner_number s t v))))

unfoldable pub signed_rows : Sizes → (ℕ → Label) → List (Row ℕ)
signed_rows s label = gather (signed_in s label) (tetrahedra_of s)

-- no rim point is plus
abbrev pub NoRim : Sizes → (ℕ → Label) → Type 0
NoRim s label = (k : Kind) (i : Axis → ℕ) → Inside s k i → T (rim_at s k i) → label (number s k i) ≡ Plus → ⊥
