-- Laws of runs of cubes without a plus. Assumes nothing.
use Prim.Native.Nat.{ℕ, zero, suc, ◌+◌, ◌-◌, ◌<◌, ◌≤◌}
use native.Mathlib.Omega.{arith}
use mathlib.Core.Path.{◌≡◌, refl}
use mathlib.Core.Bool.{true, false}
use mathlib.Core.List.{List}
use mathlib.Core.Logic.{inl, inr}
use lib.IntN.{ℤ, pos}
use lib.ListN.{get_or}
use Rattle.moving.specs.declared.Label.{Label}
use Rattle.moving.specs.Label.{labels}
use Rattle.moving.proofs.Bytes.{same_or}
use Rattle.labelling.specs.inner.Labels.{has_label}
use Rattle.emit.specs.declared.Cube.{Cube}
use Rattle.emit.specs.inner.Cubes.{point_of, Light, plus_at, plus_count}
use Rattle.emit.specs.inner.Passes.{shifted, KnownRun}

-- a line of samples none of which is above the band
pub light_line : (band : ℕ) (samples : List ℤ) (from count : ℕ)
    → ((p : ℕ) → from ≤ p → p < from + count → has_label true band (get_or samples p (pos 0)) ≡ false) → Light (labels band samples) from count
unfolding has_label plus_at labels
light_line band samples from count h x l = simp (h (from + x) (omega arith) (omega (arith, l)))

-- one line more
pub light_more : (label : ℕ → Label) (first : Cube) (count k : ℕ) → ((i : ℕ) → i < k → Light label (point_of first i) count)
    → Light label (point_of first k) count → (i : ℕ) → i < k + 1 → Light label (point_of first i) count
light_more label first count k before last i h =
    elim (same_or i k) [
      | inl e ↦ rw e last
      | inr n ↦ before i (omega (arith, n))
    ]

-- the six points of a cube that is so many on
pub shifted_point : (c : Cube) (x i : ℕ) → i < 6 → point_of (shifted c x) i ≡ point_of c i + x
unfolding shifted
shifted_point c x zero h = refl
shifted_point c x (suc zero) h = refl
shifted_point c x (suc (suc zero)) h = refl
shifted_point c x (suc (suc (suc zero))) h = refl
shifted_point c x (suc (suc (suc (suc zero)))) h = refl
shifted_point c x (suc (suc (suc (suc (suc zero))))) h = refl
shifted_point c x (suc (suc (suc (suc (suc (suc i)))))) h = absurd (omega arith)

-- the six lines of points of cubes side by side, of which none has a plus
pub bare_run : (label : ℕ → Label) (first : Cube) (count : ℕ) → ((i : ℕ) → i < 6 → Light label (point_of first i) count)
    → (x : ℕ) → x < count → plus_count label (shifted first x) ≡ 0
unfolding plus_count shifted
bare_run label first count light x h =
    omega (
      arith,
      light 0 (omega arith) x h,
      light 1 (omega arith) x h,
      light 2 (omega arith) x h,
      light 3 (omega arith) x h,
      light 4 (omega arith) x h,
      light 5 (omega arith) x h,
    )

-- each of them ends among n points
pub run_ends : {n : ℕ} {first : Cube} {count : ℕ} → KnownRun n first count → 1 ≤ count → (i : ℕ) → i < 6 → point_of first i + count ≤ n
run_ends {n} {first} {count} k some i h =
    let last = k.known (count - 1) (omega arith) in
    omega (arith, last.points_in i h, shifted_point first (count - 1) i h)
