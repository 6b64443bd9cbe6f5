-- The far ends of a point's fourteen edges, as the code computes them: strides from the point's own number, and from the number of its
-- indices in the other kind. Each is right if its edge exists.
use Rattle.std.specs.Prelude.{ℕ, ◌+◌, ◌*◌, ◌-◌, List, [], ◌∷◌}
use Rattle.lattice.specs.declared.Sizes.{Sizes}
use Rattle.lattice.specs.declared.Kind.{Kind}
use Rattle.lattice.specs.declared.Kind.TheVariants.{Corner, Centre}
use Rattle.lattice.specs.declared.Site.{Site}

-- no stride leads further, nor does a range of points start further on
abbrev pub range_most : ℕ
range_most = 1100000

-- the ends of the seven edges that start at a point, by direction
abbrev pub ends_of : Kind → Sizes → Site → List ℕ
ends_of Corner s q =
    (q.own + 1)
    ∷ (q.own + (s.nx + 1))
    ∷ (q.own + (s.nx + 1) * (s.ny + 1))
    ∷ q.across
    ∷ (q.across - 1)
    ∷ (q.across - s.nx)
    ∷ (q.across - (s.nx + 1))
    ∷ []
ends_of Centre s q =
    (q.own + 1)
    ∷ (q.own + s.nx)
    ∷ (q.own + s.nx * s.ny)
    ∷ (q.across + (s.nx + 1) * (s.ny + 1) + (s.nx + 1) + 1)
    ∷ (q.across + (s.nx + 1) * (s.ny + 1) + (s.nx + 1))
    ∷ (q.across + (s.nx + 1) * (s.ny + 1) + 1)
    ∷ (q.across + (s.nx + 1) * (s.ny + 1))
    ∷ []

unfoldable pub ends_at : Sizes → Site → List ℕ
ends_at s q = ends_of q.kind s q

-- the starts of the seven edges that end at a point, by direction: along a long edge some numbers before the point's own, along a
-- short one a corner of a face of the other grid, whose lowest corner is `low`
unfoldable pub starts_back : ℕ → ℕ → ℕ → ℕ → ℕ → List ℕ
starts_back line layer wide own low =
    (own - 1) ∷ (own - line) ∷ (own - layer) ∷ low ∷ (low + 1) ∷ (low + wide) ∷ (low + wide + 1) ∷ []

-- the same from the sizes: a corner is the end of edges from the eight centres about it, a centre from the corners of its cube
abbrev pub starts_of : Kind → Sizes → Site → List ℕ
starts_of Corner s q =
    starts_back (s.nx + 1) ((s.nx + 1) * (s.ny + 1)) s.nx q.own (q.across - (s.nx * s.ny + (s.nx + 1)))
starts_of Centre s q = starts_back s.nx (s.nx * s.ny) (s.nx + 1) q.own q.across

unfoldable pub starts_at : Sizes → Site → List ℕ
starts_at s q = starts_of q.kind s q
