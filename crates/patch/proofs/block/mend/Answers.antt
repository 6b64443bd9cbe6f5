-- Refusals 1, 14, 2 and 3, each by the test that led there, and the table. Assumes nothing.
use Prim.Native.Nat.{ℕ, ◌*◌}
use native.Mathlib.Omega.{arith}
use mathlib.Core.Path.{refl, sym, ap, subst, ◌∙◌}
use Rattle.lattice.specs.declared.Sizes.{Sizes}
use Rattle.lattice.specs.Counts.{Sized, points}
use Rattle.lattice.proofs.Bounds.{points_small}
use Rattle.moving.specs.Label.{labels}
use Rattle.refusals.specs.inner.Numbers.{refusal_number}
use Rattle.patch.specs.inner.Mends.{Mends, table_due}
use Rattle.patch.proofs.Whole.{refuses_1, refuses_14, refuses_2, refuses_3, whole}
use Rattle.patch.proofs.block.mend.Goals as goal

pub returns-in_default : goal.returns-in_default
unfolding refusal_number
returns-in_default c =
    let a = c.args in
    let w = refuses_1 a.s a.band a.samples.now a.cuts.now refl (sym c.in_default.ensures.taken) in
    record { answer = w.0; cuts = w.1 }

pub returns-then-not-band_fits : goal.returns-then-not-band_fits
unfolding refusal_number
returns-then-not-band_fits c =
    let a = c.args in
    let h = subst Sized c.in-Some.ensures.same c.in-Some.lattice.sized in
    let w = refuses_14 a.s a.band a.samples.now a.cuts.now h refl (sym c.band_fits.ensures ∙ c.if-not-band_fits.true) in
    record { answer = w.0; cuts = w.1 }

pub returns-then-samples-n : goal.returns-then-samples-n
unfolding refusal_number
returns-then-samples-n c =
    let a = c.args in
    let e = c.in-Some.ensures.same in
    let h = subst Sized e c.in-Some.lattice.sized in
    let k = sym c.band_fits.ensures ∙ c.if-not-band_fits.false in
    let n = c.point_count-n.ensures ∙ ap points e in
    let w = refuses_2 a.s a.band a.samples.now a.cuts.now h k refl (λ l. c.if-samples-n.true (l ∙ sym n)) in
    record { answer = w.0; cuts = w.1 }

pub overflow_mul-n : goal.overflow_mul-n
overflow_mul-n c = let h = points_small _ c.in-Some.lattice.sized in omega (arith, c.point_count-n.ensures)

pub returns-then-cuts-n : goal.returns-then-cuts-n
unfolding refusal_number
returns-then-cuts-n c =
    let a = c.args in
    let e = c.in-Some.ensures.same in
    let h = subst Sized e c.in-Some.lattice.sized in
    let k = sym c.band_fits.ensures ∙ c.if-not-band_fits.false in
    let n = c.point_count-n.ensures ∙ ap points e in
    let w = refuses_3 a.s a.band a.samples.now a.cuts.now h k refl (c.if-samples-n.false ∙ n)
    (λ l. c.if-cuts-n.true (l ∙ sym (ap (λ (k : ℕ). 7 * k) n))) in
    record { answer = w.0; cuts = w.1 }

pub returns : goal.returns
returns c =
    let a = c.args in
    let e = c.in-Some.ensures.same in
    let n = c.point_count-n.ensures ∙ ap points e in
    let due = λ (z : Sizes). table_due z (labels a.band a.samples.now) a.samples.now in
    let m = subst (λ (z : Sizes). Mends (due z) 0 (7 * points z) a.cuts.now c.mend_table.new.cuts c.mend_table.result) e c.mend_table.ensures in
    let w = whole a.s a.band a.samples.now a.cuts.now
    (sym c.band_fits.ensures ∙ c.if-not-band_fits.false)
    (record {
      sized = subst Sized e c.in-Some.lattice.sized;
      samples_long = c.if-samples-n.false ∙ n;
      cuts_long = c.if-cuts-n.false ∙ ap (λ (k : ℕ). 7 * k) n;
    }) m in
    record { answer = w.0; cuts = w.1 }
