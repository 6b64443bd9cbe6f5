-- The parts of a file follow one another, and a well_formed_law file by the checks in their order. Assumes nothing.
use Prim.Native.Nat.{ℕ, ◌+◌, ◌*◌, ◌-◌, ◌<◌, ◌≤◌}
use native.Mathlib.Omega.{arith}
use mathlib.Core.Path.{◌≡◌, refl, sym, ◌∙◌}
use mathlib.Core.Bool.{Bool, true, false}
use mathlib.Core.List.{List}
use lib.ListN.{length, take, drop}
use lib.Seq.{sets}
use lib.Dec.{leb, leb→le}
use borrow.Author.Tests.{le-leb, lt-leb}
use Rattle.basics.proofs.Test.{&&-l, &&-r, T_true, true_T}
use Rattle.blockfile.specs.Format.{fit, lengths, no_zero, runs_from, cuts_from, run_count, file_runs, first_byte, end, file_cuts, well_formed}

module _ (bytes : List ℕ) (n : ℕ) where
  pub first_end : first_byte bytes n ≤ end bytes n
  unfolding end
  first_end = omega arith

  pub ends : {count sum : ℕ} → count ≡ run_count bytes n → sum ≡ lengths (runs_from bytes (5 + 2 * n) count)
      → 5 + 2 * n + 6 * count + sum ≡ end bytes n
  unfolding end
  ends p q = rw (← p, ← q) refl

  pub too_short : length bytes < end bytes n → false ≡ well_formed bytes n
  unfolding well_formed
  too_short h = simp (lt-leb (end bytes n) (length bytes) h)

  -- a run that does not fit, or all of them do; the code holds the run count and the end as numbers
  module _ {count stop : ℕ} (p : count ≡ run_count bytes n) (q : stop ≡ end bytes n) (h : stop ≤ length bytes)
      {f : Bool} (r : f ≡ fit (7 * n) 0 (runs_from bytes (5 + 2 * n) count))
    where
      fits_is : {b : Bool} → f ≡ b → fit (7 * n) 0 (file_runs bytes n) ≡ b
      fits_is e = rw (← p) (sym r ∙ e)

      long_is : leb (end bytes n) (length bytes) ≡ true
      long_is = le-leb (end bytes n) (length bytes) (omega arith)

      pub misfit : f ≡ false → false ≡ well_formed bytes n
      unfolding well_formed
      misfit e = simp (long_is, fits_is e)

      pub all_fit : {z : Bool} → f ≡ true
          → z ≡ no_zero (take (stop - (5 + 2 * n + 6 * count)) (drop (5 + 2 * n + 6 * count) bytes))
          → z ≡ well_formed bytes n
      unfolding well_formed
      all_fit e g = simp (long_is, fits_is e) (rw (← p, ← q) g)

-- what a well_formed_law file is like
pub record WellFormed (bytes : List ℕ) (n : ℕ) : Type 0 where
  pub long : end bytes n ≤ length bytes
  pub fits : fit (7 * n) 0 (file_runs bytes n) ≡ true

pub well_formed_law : (bytes : List ℕ) (n : ℕ) → well_formed bytes n ≡ true → WellFormed bytes n
unfolding well_formed
well_formed_law bytes n e =
    let t = true_T _ e in
    record {
      long = leb→le _ _ (&&-l (leb (end bytes n) (length bytes)) _ t);
      fits = T_true _ (&&-l (fit (7 * n) 0 (file_runs bytes n)) _ (&&-r (leb (end bytes n) (length bytes)) _ t));
    }

-- the same of the parts after the run count, which the code holds as a number
pub record Counted (bytes : List ℕ) (n count : ℕ) : Type 0 where
  pub headed : 5 + 2 * n + 6 * count ≤ length bytes
  pub there : 5 + 2 * n + 6 * count + lengths (runs_from bytes (5 + 2 * n) count) ≤ length bytes
  pub fits : fit (7 * n) 0 (runs_from bytes (5 + 2 * n) count) ≡ true

pub counted : {bytes : List ℕ} {n count : ℕ} → WellFormed bytes n → count ≡ run_count bytes n → Counted bytes n count
unfolding end
counted {bytes} {n} {count} w e = rw e (record { headed = omega (arith, w.long); there = w.long; fits = w.fits })

pub file_cuts_law : (bytes table : List ℕ) (n : ℕ) {t : List ℕ} {count : ℕ} → count ≡ run_count bytes n
    → t ≡ sets table 0 (cuts_from bytes (7 * n) 0 (5 + 2 * n + 6 * count) (runs_from bytes (5 + 2 * n) count))
    → t ≡ sets table 0 (file_cuts bytes n)
unfolding file_cuts
file_cuts_law bytes table n e f = rw (← e) f
