-- Document 01, "Calls and refusals": "measures of a block (N and the count of lattice tetrahedra)"; "Measures: 1 only, with both numbers 0".
use Rattle.std.specs.Prelude.{ℕ, if◌then◌else◌}
use Rattle.lattice.specs.declared.Sizes.{Sizes}
use Rattle.lattice.specs.Counts.{sizes_fit, points, tetrahedra}
use Rattle.yakuemi.specs.declared.measures.Measures.{Measures}

unfoldable pub measure : Sizes → Measures
measure s =
    if sizes_fit s then record { number = 0; points = points s; tetrahedra = tetrahedra s }
    else record { number = 1; points = 0; tetrahedra = 0 }

abbrev pub sizes : ℕ → ℕ → ℕ → Sizes
sizes x y z = record { nx = x; ny = y; nz = z }
