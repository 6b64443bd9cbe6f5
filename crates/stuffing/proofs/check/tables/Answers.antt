-- Refusals 1, 14 and 2 to 4, each by the test that led there. Assumes nothing.
use Prim.Native.Nat.{ℕ, ◌*◌}
use native.Mathlib.Omega.{arith}
use mathlib.Core.Path.{refl, sym, ap, ◌∙◌}
use Rattle.lattice.specs.declared.Sizes.{Sizes}
use Rattle.lattice.specs.Counts.{points}
use Rattle.lattice.proofs.Sized.{lattice_fits}
use Rattle.lattice.proofs.Bounds.{points_small}
use Rattle.moving.specs.Block.{block_of}
use Rattle.moving.proofs.Band.{fits_banded}
use Rattle.refusals.specs.inner.Numbers.{refusal_number, refusal_place}
use Rattle.stuffing.proofs.Refusals.{by_size, by_band, by_samples, by_cuts, by_state}
use Rattle.stuffing.proofs.check.tables.Goals as goal

pub returns-in_default : goal.returns-in_default
unfolding refusal_number refusal_place
returns-in_default c =
    let b = block_of c.args.sizes c.args.samples.now c.args.cuts.now in
    record { is = λ state rows l. by_size c.args.band b state rows (sym c.in_default.ensures.taken) }

pub returns-then-not-band_fits : goal.returns-then-not-band_fits
unfolding refusal_number refusal_place
returns-then-not-band_fits c =
    let b = block_of c.args.sizes c.args.samples.now c.args.cuts.now in
    let fit = lattice_fits c.in-Some.lattice c.in-Some.ensures.same in
    record { is = λ state rows l. by_band c.args.band b state rows fit (sym c.band_fits.ensures ∙ c.if-not-band_fits.true) }

pub returns-then-samples-n : goal.returns-then-samples-n
unfolding refusal_number refusal_place
returns-then-samples-n c =
    let b = block_of c.args.sizes c.args.samples.now c.args.cuts.now in
    let fit = lattice_fits c.in-Some.lattice c.in-Some.ensures.same in
    let banded = sym c.band_fits.ensures ∙ c.if-not-band_fits.false in
    let count = c.point_count-n.ensures ∙ ap points c.in-Some.ensures.same in
    record { is = λ state rows l. by_samples c.args.band b state rows fit banded (λ e. c.if-samples-n.true (e ∙ sym count)) }

pub overflow_mul-n : goal.overflow_mul-n
overflow_mul-n c = omega (arith, c.point_count-n.ensures, points_small c.in-Some.lattice.sizes c.in-Some.lattice.sized)

pub returns-then-cuts-n : goal.returns-then-cuts-n
unfolding refusal_number refusal_place
returns-then-cuts-n c =
    let b = block_of c.args.sizes c.args.samples.now c.args.cuts.now in
    let fit = lattice_fits c.in-Some.lattice c.in-Some.ensures.same in
    let banded = sym c.band_fits.ensures ∙ c.if-not-band_fits.false in
    let count = c.point_count-n.ensures ∙ ap points c.in-Some.ensures.same in
    let long = ap (λ (k : ℕ). 7 * k) (sym count) in
    record {
      is = λ state rows l.
          by_cuts c.args.band b state rows fit banded (c.if-samples-n.false ∙ count) (λ e. c.if-cuts-n.true (e ∙ long));
    }

pub returns-then-state_len-n : goal.returns-then-state_len-n
unfolding refusal_number refusal_place
returns-then-state_len-n c =
    let b = block_of c.args.sizes c.args.samples.now c.args.cuts.now in
    let fit = lattice_fits c.in-Some.lattice c.in-Some.ensures.same in
    let banded = sym c.band_fits.ensures ∙ c.if-not-band_fits.false in
    let count = c.point_count-n.ensures ∙ ap points c.in-Some.ensures.same in
    let long = c.if-cuts-n.false ∙ ap (λ (k : ℕ). 7 * k) count in
    record {
      is = λ state rows l.
          by_state c.args.band b state rows fit banded (c.if-samples-n.false ∙ count) long
          (λ e. c.if-state_len-n.true (l ∙ e ∙ sym count));
    }

pub returns : goal.returns
returns c =
    let same = c.in-Some.ensures.same in
    record {
      band_is = refl;
      block_is = ap (λ (s : Sizes). block_of s c.args.samples.now c.args.cuts.now) same;
      banded = fits_banded _ (sym c.band_fits.ensures ∙ c.if-not-band_fits.false);
      state_long = c.if-state_len-n.false ∙ c.point_count-n.ensures ∙ ap points same;
    }
