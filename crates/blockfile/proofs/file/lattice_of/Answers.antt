-- Each way out by the tests that led there. Assumes nothing.
use mathlib.Core.Path.{◌≡◌, refl, sym, ap, ◌∙◌}
use Rattle.lattice.specs.Counts.{sizes_fit}
use Rattle.blockfile.specs.Format.{file_sizes, beyond}
use Rattle.blockfile.specs.inner.Needs.{short, misfit, over}
use Rattle.blockfile.proofs.file.lattice_of.Goals.{After-new}
use Rattle.blockfile.proofs.file.lattice_of.Goals as goal

-- the sizes that the code holds
held : (c : After-new) → record { nx = c.from.result; ny = c.from-2.result; nz = c.from-3.result } ≡ file_sizes c.args.bytes.now
unfolding file_sizes
held c = rw (c.from.ensures, c.from-2.ensures, c.from-3.ensures) refl

pub returns-then-bytes-lt3 : goal.returns-then-bytes-lt3
returns-then-bytes-lt3 c = short c.if-bytes-lt3.true

pub returns-in_default : goal.returns-in_default
returns-in_default c =
    let e = sym (held (goal.at.returns-in_default c).After-new) in
    misfit c.if-bytes-lt3.false (ap sizes_fit e ∙ sym c.in_default.ensures.taken)

pub returns-then-is_beyond : goal.returns-then-is_beyond
returns-then-is_beyond c =
    let e = sym (held (goal.at.returns-then-is_beyond c).After-new) in
    over c.if-bytes-lt3.false (ap sizes_fit e ∙ sym c.in-Some.ensures.taken) (ap (beyond c.args.limit) e ∙ sym c.if-is_beyond.ensures)

pub returns : goal.returns
returns c =
    let e = c.in-Some.ensures.same in
    record {
      long = c.if-bytes-lt3.false;
      is = e ∙ held (goal.at.returns c).After-new;
      fits = ap sizes_fit e ∙ sym c.in-Some.ensures.taken;
      within = ap (beyond c.args.limit) e ∙ sym c.if-is_beyond.ensures;
    }
