-- The parts of a well-formed file are within it, and both tables are written from them. Assumes nothing.
use mathlib.Core.Path.{◌∙◌}
use native.Mathlib.Omega.{arith}
use Rattle.blockfile.proofs.Parts.{well_formed_law, first_end, counted, file_cuts_law}
use Rattle.blockfile.proofs.file.write_tables.Goals as goal

pub write_samples-requires : goal.write_samples-requires
write_samples-requires c =
    let w = well_formed_law c.args.bytes.now c.args.n c.requires.n_le_most_points.1 in
    let f = first_end c.args.bytes.now c.args.n in
    (c.requires.n_le_most_points.0, omega arith, c.requires.n_in_bounds.0)

pub two_at-requires : goal.two_at-requires
two_at-requires c =
    omega (arith, (well_formed_law c.args.bytes.now c.args.n c.requires.n_le_most_points.1).long, first_end c.args.bytes.now c.args.n)

pub write_cuts-requires : goal.write_cuts-requires
write_cuts-requires c =
    let w = counted (well_formed_law c.args.bytes.now c.args.n c.requires.n_le_most_points.1) (c.from-count.ensures ∙ c.two_at.ensures) in
    record {
      count_bound = (omega arith, w.headed);
      count_in_bounds = w.there;
      count_value = w.fits;
      total_in_bounds = c.requires.n_in_bounds.1;
    }

pub returns : goal.returns
returns c = record {
  samples_after = c.write_samples.ensures;
  cuts_after = file_cuts_law _ _ _ (c.from-count.ensures ∙ c.two_at.ensures) c.write_cuts.ensures;
}
