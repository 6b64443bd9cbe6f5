-- Document 01, "The block": "Rim points are corners on the block's outside and centres of cubes with an outside face."
-- Both are the first or the last of their kind along some axis. Rim is document 01's word for the boundary layer of the lattice.
use Rattle.std.specs.Prelude.{ℕ, ◌+◌, Bool, ◌||◌, eqb}
use Rattle.lattice.specs.declared.Sizes.{Sizes}
use Rattle.lattice.specs.declared.Kind.{Kind}
use Rattle.lattice.specs.Axis.{Axis, somewhere}
use Rattle.lattice.specs.Counts.{grid}
use Rattle.lattice.specs.Point.{kind_of, index_of}

unfoldable pub outermost : ℕ → ℕ → Bool
outermost m i = eqb i 0 || eqb (i + 1) m

unfoldable pub rim_at : Sizes → Kind → (Axis → ℕ) → Bool
rim_at s k i = somewhere (λ a. outermost (grid s k a) (i a))

abbrev pub rim : Sizes → ℕ → Bool
rim s p = rim_at s (kind_of s p) (index_of s p)
