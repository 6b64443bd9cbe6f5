-- What `needs` is: a law for each stage of a file, in their order, and between which bounds it lies. The code holds the
-- sizes, N and the run count in locals. Assumes nothing.
use Prim.Native.Nat.{ℕ, ◌+◌, ◌*◌, ◌<◌, ◌≤◌}
use native.Mathlib.Omega.{arith}
use mathlib.Core.Path.{◌≡◌, refl, sym}
use mathlib.Core.Logic.{inl, inr}
use mathlib.Core.Bool.{Bool, true, false}
use mathlib.Core.List.{List}
use lib.ListN.{length}
use borrow.Author.Tests.{lt-ltb, le-ltb}
use Rattle.basics.proofs.Test.{lt_or}
use Rattle.lattice.specs.declared.Sizes.{Sizes}
use Rattle.lattice.specs.Counts.{sizes_fit, points}
use Rattle.blockfile.specs.Format.{file_sizes, headers, run_count, first_byte, end, beyond}
use Rattle.refusals.specs.declared.Refusal.{Refusal}
use Rattle.blockfile.specs.inner.Needs.{needs_after, needs, Opens, Shut, short, misfit as misfit_sizes, over as over_limit}
use Rattle.blockfile.proofs.Parts.{first_end}

-- after the size bytes
module _ (bytes : List ℕ) (n : ℕ) where
  pub up_to_headers : length bytes < headers bytes n → needs_after bytes n ≡ headers bytes n
  unfolding needs_after
  up_to_headers h = simp (lt-ltb (length bytes) (headers bytes n) h)

  pub up_to_runs : {count : ℕ} → count ≡ run_count bytes n → headers bytes n ≤ length bytes
      → length bytes < headers bytes n + 6 * count → needs_after bytes n ≡ headers bytes n + 6 * count
  unfolding needs_after
  up_to_runs {count} p long h =
      rw p (simp (le-ltb (length bytes) (headers bytes n) long, lt-ltb (length bytes) (first_byte bytes n) (rw p at h)))

  pub up_to_end : first_byte bytes n ≤ length bytes → needs_after bytes n ≡ end bytes n
  unfolding needs_after
  up_to_end h =
      simp (le-ltb (length bytes) (headers bytes n) (omega arith), le-ltb (length bytes) (first_byte bytes n) h)

  -- between the headers' place and the end, and no less than the end once that much is there
  pub record Bounds (needed : ℕ) : Type 0 where
    pub low : headers bytes n ≤ needed
    pub counted : headers bytes n ≤ length bytes → first_byte bytes n ≤ needed
    pub high : needed ≤ end bytes n
    pub whole : needed ≤ length bytes → end bytes n ≤ length bytes

  pub bounds : Bounds (needs_after bytes n)
  bounds =
      elim (lt_or (length bytes) (headers bytes n)) [
        | inl h ↦ omega (arith, up_to_headers h, first_end bytes n)
        | inr h ↦
            elim (lt_or (length bytes) (first_byte bytes n)) [
              | inl k ↦ omega (arith, up_to_runs refl h k, first_end bytes n)
              | inr k ↦ omega (arith, up_to_end k, first_end bytes n)
            ]
      ]

-- the sizes are refused, for one of two reasons, or taken
pub data Sizing (limit : ℕ) (s : Sizes) : Type 0 where
  misfit : sizes_fit s ≡ false → Sizing limit s
  over : sizes_fit s ≡ true → beyond limit s ≡ true → Sizing limit s
  within : sizes_fit s ≡ true → beyond limit s ≡ false → Sizing limit s

pub sizing : (limit : ℕ) (s : Sizes) → Sizing limit s
sizing limit s = go (sizes_fit s) (beyond limit s) refl refl
  where
    go : (f o : Bool) → sizes_fit s ≡ f → beyond limit s ≡ o → Sizing limit s
    go false o p q = misfit p
    go true true p q = over p q
    go true false p q = within p q

module _ (bytes : List ℕ) (limit : ℕ) where
  pub up_to_sizes : length bytes < 3 → needs bytes limit ≡ 3
  unfolding needs
  up_to_sizes h = simp (lt-ltb (length bytes) 3 h)

  module _ {s : Sizes} (q : s ≡ file_sizes bytes) (long : 3 ≤ length bytes) where
    pub sizes_refused : sizes_fit s ≡ false → needs bytes limit ≡ 3
    unfolding needs
    sizes_refused e = simp (le-ltb (length bytes) 3 long, ← q, e)

    pub sizes_beyond : sizes_fit s ≡ true → beyond limit s ≡ true → needs bytes limit ≡ 3
    unfolding needs
    sizes_beyond f e = simp (le-ltb (length bytes) 3 long, ← q, f, e)

    pub past_sizes : sizes_fit s ≡ true → beyond limit s ≡ false → needs bytes limit ≡ needs_after bytes (points s)
    unfolding needs
    past_sizes f e = simp (le-ltb (length bytes) 3 long, ← q, f, e)

  -- the sizes are refused, or the stages after them count
  pub shut_needs : {e : Refusal} → Shut bytes limit e → 3 ≡ needs bytes limit
  shut_needs (short h) = sym (up_to_sizes h)
  shut_needs (misfit_sizes h f) = sym (sizes_refused refl h f)
  shut_needs (over_limit h f g) = sym (sizes_beyond refl h f g)

  pub open_needs : {s : Sizes} → Opens bytes limit s → needs bytes limit ≡ needs_after bytes (points s)
  open_needs w = past_sizes w.is w.long w.fits w.within

  -- never less than the sizes
  pub three : 3 ≤ needs bytes limit
  three =
      elim (lt_or (length bytes) 3) [
        | inl h ↦ omega (arith, up_to_sizes h)
        | inr h ↦ go h (sizing limit (file_sizes bytes))
      ]
    where
      go : 3 ≤ length bytes → Sizing limit (file_sizes bytes) → 3 ≤ needs bytes limit
      go h (misfit e) = omega (arith, sizes_refused refl h e)
      go h (over f e) = omega (arith, sizes_beyond refl h f e)
      go h (within f e) = omega (arith, past_sizes refl h f e, (bounds bytes (points (file_sizes bytes))).low)
