-- A long edge stays in the point's own grid, a short one leads to the other. Assumes nothing.
use native.Mathlib.Omega.{arith}
use Prim.Native.Nat.{ℕ}
use mathlib.Core.Path.{◌≡◌}
use mathlib.Core.Bool.{true}
use Rattle.lattice.specs.declared.Site.{Site}
use Rattle.lattice.specs.declared.Shift.{Shift}
use Rattle.lattice.specs.declared.Lattice.{Lattice}
use Rattle.lattice.specs.declared.edge_code.EdgeCode.{EdgeCode}
use Rattle.lattice.specs.Edge.{exists}
use Rattle.lattice.specs.inner.Site.{Sited, index, odd_of, shift_of}
use Rattle.lattice.proofs.Sites.{Going, reaches_long, reaches_short}
use Rattle.lattice.proofs.Lattice.reach.Goals as goal

going : (g : Lattice) (q : Site) (k : EdgeCode) {t : Shift} {odd : ℕ} → Sited g.sizes q → exists g.sizes q.kind (index q) k.code ≡ true
    → t ≡ shift_of k.code → odd ≡ odd_of q.kind → Going g.sizes q k.code odd t
going g q k h there e f =
    record { sized = g.sized; sited = h; code = k.names_edge; there = there; odd_is = f; shift_is = e }

pub stride-requires : goal.stride-requires
stride-requires c =
    let g = going c.args.self c.args.q c.args.code c.requires.sited c.requires.there c.shift-t.ensures c.odd-odd.ensures in
    (reaches_long g (omega (arith, c.direction.ensures))).stride

pub stride-requires-else-direction-lt-LONG : goal.stride-requires-else-direction-lt-LONG
stride-requires-else-direction-lt-LONG c =
    let g = going c.args.self c.args.q c.args.code c.requires.sited c.requires.there c.shift-t.ensures c.odd-odd.ensures in
    (reaches_short g (omega (arith, c.direction.ensures))).stride

pub returns-then-direction-lt-LONG : goal.returns-then-direction-lt-LONG
returns-then-direction-lt-LONG c =
    let g = going c.args.self c.args.q c.args.code c.requires.sited c.requires.there c.shift-t.ensures c.odd-odd.ensures in
    omega (arith, c.stride.ensures, (reaches_long g (omega (arith, c.direction.ensures))).lands)

pub returns-else-direction-lt-LONG : goal.returns-else-direction-lt-LONG
returns-else-direction-lt-LONG c =
    let g = going c.args.self c.args.q c.args.code c.requires.sited c.requires.there c.shift-t.ensures c.odd-odd.ensures in
    omega (arith, c.stride-else-direction-lt-LONG.ensures, (reaches_short g (omega (arith, c.direction.ensures))).lands)
