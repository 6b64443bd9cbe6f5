-- Counts, one added to another.
use Rattle.std.specs.Prelude.{◌+◌, ◌^◌, ◌<◌, ◌≡◌}
use Rattle.patch.specs.declared.Counts.{Counts}

-- both sums fit
abbrev pub CanAdd : Counts → Counts → Type 0
CanAdd c d = (c.filled + d.filled < 2 ^ 64) × (c.cleared + d.cleared < 2 ^ 64)

abbrev pub Added : Counts → Counts → Counts → Type 0
Added c d z = (z.filled ≡ c.filled + d.filled) × (z.cleared ≡ c.cleared + d.cleared)
