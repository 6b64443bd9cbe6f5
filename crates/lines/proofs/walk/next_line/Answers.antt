-- Each way out by the law of the next line. Assumes nothing.
use native.Mathlib.Omega.{arith}
use Rattle.lattice.proofs.Sites.{site_small}
use Rattle.lines.proofs.Points.{sited}
use Rattle.lines.proofs.Lines.{line_stands, line_y, line_z, line_centres}
use Rattle.lines.proofs.walk.next_line.Goals as goal

pub overflow_add-q : goal.overflow_add-q
overflow_add-q c =
    let n = site_small c.args.lattice.sizes c.args.q c.args.lattice.sized (sited (line_stands c.requires.line)) in omega arith

pub site_at-requires : goal.site_at-requires
site_at-requires c =
    let n = site_small c.args.lattice.sizes c.args.q c.args.lattice.sized (sited (line_stands c.requires.line)) in
    (omega arith, omega arith, omega arith)

pub returns-then-q-ny : goal.returns-then-q-ny
returns-then-q-ny c =
    line_y c.requires.line c.args.lattice.sized _ c.odd-odd.ensures c.requires.along_x_bound c.if-q-ny.true c.site_at.ensures

pub overflow_add-q-2 : goal.overflow_add-q-2
overflow_add-q-2 c =
    let n = site_small c.args.lattice.sizes c.args.q c.args.lattice.sized (sited (line_stands c.requires.line)) in omega arith

pub returns-then-q-nz : goal.returns-then-q-nz
returns-then-q-nz c =
    line_z c.requires.line c.args.lattice.sized _ c.odd-odd.ensures c.requires.along_x_bound c.if-q-ny.false c.if-q-nz.true
    c.site_at-then-q-nz.ensures

pub returns : goal.returns
returns c =
    line_centres c.requires.line c.args.lattice.sized _ c.odd-odd.ensures c.requires.along_x_bound c.if-q-ny.false
    c.if-q-nz.false c.site_at-2.ensures
