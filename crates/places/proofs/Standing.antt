-- Coordinates of lattice points, and of what stands a few steps from one. Assumes nothing.
use Prim.Native.Nat.{ℕ, ◌+◌, ◌*◌, ◌-◌, ◌^◌, ◌≤◌, ◌<◌}
use native.Mathlib.Omega.{arith}
use mathlib.Core.Path.{◌≡◌, sym, ap, subst, ◌∙◌}
use mathlib.Core.Bool.{true, false}
use lib.IntN.{ℤ, pos, ◌+ℤ◌, ◌-ℤ◌, ◌*ℤ◌}
use lib.Signed.{mag}
use Rattle.lattice.specs.declared.Kind.{Kind}
use Rattle.lattice.specs.Axis.{Axis}
use Rattle.lattice.specs.Point.{doubled}
use Rattle.lattice.specs.Direction.{Step, Code, is_start, direction, step}
use Rattle.lattice.specs.inner.Site.{odd_of}
use Rattle.lattice.proofs.Codes.{start_step}
use Rattle.lattice.proofs.Sites.{doubled_odd, odd_small}
use Rattle.moving.specs.Violation.{measured}
use Rattle.geometry.specs.Place.{signed}
use Rattle.triple.specs.inner.Places.{Within, along, lattice_box, place_box}
use Rattle.triple.proofs.Box.{Is, back, held, result_is, nat_within}

-- a lattice coordinate as the code computes it
pub rested : (k : Kind) {odd i : ℕ} {v : ℤ} → odd ≡ odd_of k → i ≤ 64 → mag v < 2 ^ 63 → v ≡ pos (256 * (2 * i + odd))
    → Is lattice_box (back v) (pos (256 * doubled k i))
rested k {odd} {i} {v} o h f e =
    record {
      eq = result_is v f (e ∙ ap (λ (n : ℕ). pos (256 * n)) (ap (λ (n : ℕ). 2 * i + n) o ∙ sym (doubled_odd k i)));
      inside = nat_within lattice_box (256 * doubled k i) (omega (arith, doubled_odd k i, odd_small k));
    }

-- a coordinate t steps away, as the code computes it from the numbers of a step
pub stepped_is : {x v : ℤ} {up down : ℕ} (w : Step) (t : ℕ) → up ≡ w.up → down ≡ w.down → Within lattice_box x → mag v < 2 ^ 63
    → (v ≡ back x +ℤ pos t *ℤ (pos up -ℤ pos down)) × Within place_box v → Is place_box (back v) (x +ℤ pos t *ℤ signed w)
stepped_is {x} {v} w t eu ed h f (e, b) =
    let is : v ≡ x +ℤ pos t *ℤ signed w = e ∙ (λ i. (held h tt).eq i +ℤ pos t *ℤ (pos (eu i) -ℤ pos (ed i))) in
    record { eq = result_is v f is; inside = subst (λ (z : ℤ). Within place_box z) is b }

-- the code of a direction at its start
pub start_code : (d : ℕ) → d < 7 → Code (d + 1)
start_code d h = record { low = omega arith; high = omega arith }

pub start_along : (f : Axis → ℤ) (d t : ℕ) → d < 7 → along f (step (d + 1)) t ≡ along f (direction d) t
start_along f d t h = λ i. along f (λ a. start_step d h a i) t

-- t measured from a point that is the start of its edge, or the end
pub measured_start : (c t : ℕ) → is_start c ≡ true → measured c t ≡ t
unfolding measured
measured_start c t h = simp h

pub measured_end : (c t : ℕ) → is_start c ≡ false → measured c t ≡ 256 - t
unfolding measured
measured_end c t h = simp h
