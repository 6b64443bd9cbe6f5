-- The two cases of measures. 64 by 64 by 64 is within them: N 536,769. Assumes nothing.
use Prim.Native.Nat.{ℕ}
use mathlib.Core.Path.{◌≡◌, refl, sym, ◌∙◌}
use mathlib.Core.Bool.{true, false}
use Rattle.lattice.specs.declared.Sizes.{Sizes}
use Rattle.lattice.specs.Counts.{sizes_fit, cells, points, tetrahedra}
use Rattle.yakuemi.specs.Measures.{measure, sizes}

pub measured : (s : Sizes) (p t : ℕ) → sizes_fit s ≡ true → p ≡ points s → t ≡ tetrahedra s
    → record { number = 0; points = p; tetrahedra = t } ≡ measure s
unfolding measure
measured s p t fit e f = (λ i. record { number = 0; points = e i; tetrahedra = f i }) ∙ sym (simp fit)

pub unmeasured : (s : Sizes) → sizes_fit s ≡ false → record { number = 1; points = 0; tetrahedra = 0 } ≡ measure s
unfolding measure
unmeasured s misfit = sym (simp misfit)

-- document 01's numbers: "At 1 by 1 by 1, N is 9; at 64 by 64 by 64 it is 536,769"
smallest : measure (sizes 1 1 1) ≡ record { number = 0; points = 9; tetrahedra = 0 }
unfolding measure sizes_fit points cells tetrahedra
smallest = refl

given : measure (sizes 2 2 2) ≡ record { number = 0; points = 35; tetrahedra = 48 }
unfolding measure sizes_fit points cells tetrahedra
given = refl

largest_block : measure (sizes 64 64 64) ≡ record { number = 0; points = 536769; tetrahedra = 3096576 }
unfolding measure sizes_fit points cells tetrahedra
largest_block = refl

too_large : measure (sizes 64 65 64) ≡ record { number = 1; points = 0; tetrahedra = 0 }
unfolding measure sizes_fit points cells tetrahedra
too_large = refl
