-- The computed test: the rows of all 81 patterns of labels are built corner by corner. Assumes nothing.
use mathlib.Core.Bool.{Bool}
use lib.Dec.{T}
use Rattle.basics.proofs.Test.{◌&◌, every}
use Rattle.moving.specs.declared.Label.{Label}
use Rattle.moving.specs.Label.{is_plus, is_minus, is_zero, opposed}
use Rattle.stencil.specs.Tetrahedron.{Vertex}
use Rattle.stencil.specs.Stencil.{cut, choose, stencil_of, rows_of, rows_for}
use Rattle.stencil.specs.inner.Sign.{newcomer, order, even_first, even}
use Rattle.stencil.proofs.Entries.{stands}
use Rattle.stencil.proofs.Patterns.{AllPatterns, all_patterns}
use Rattle.volumes.proofs.Built.{hangs, fits, built_of, same_face, wound_of, built}

abbrev rows_built : (Vertex → Label) → Bool
rows_built l = every (built l) (rows_for l)

all_built : AllPatterns rows_built
unfolding
    ◌&◌ built built_of wound_of same_face fits hangs stands newcomer order even_first even
    rows_for rows_of choose stencil_of cut is_plus is_minus is_zero opposed
all_built = record { passed = tt }

pub rows_built_law : (l : Vertex → Label) → T (every (built l) (rows_for l))
rows_built_law = all_patterns rows_built all_built
