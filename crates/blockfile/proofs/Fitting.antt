-- Runs that fit, in numbers, and the loops that check and add up the runs' headers. Assumes nothing.
use Prim.Native.Nat.{ℕ, ◌+◌, ◌*◌, ◌<◌, ◌≤◌}
use native.Mathlib.Omega.{arith}
use mathlib.Core.Path.{◌≡◌, refl, ap}
use mathlib.Core.Bool.{true, false}
use mathlib.Core.List.{List, [], ◌∷◌}
use lib.Dec.{leb, leb→le}
use borrow.Author.Tests.{le-leb}
use Rattle.basics.proofs.Test.{&&-l, &&-r, T_true, true_T}
use Rattle.blockfile.specs.declared.Run.{Run}
use Rattle.blockfile.specs.Format.{run_fits, fit, lengths, two_at, run_at, runs_from}
use Rattle.blockfile.proofs.Left.{runs_after, runs_left, no_runs_left}

-- what a run that fits says in numbers
pub record RunFits (total least : ℕ) (r : Run) : Type 0 where
  pub filled : 1 ≤ r.length
  pub within : r.offset + r.length ≤ total
  pub after : least ≤ r.offset

pub run_fits_law : (total least : ℕ) (r : Run) → run_fits total least r ≡ true → RunFits total least r
unfolding run_fits
run_fits_law total least r e =
    let t = true_T _ e in
    let u = &&-r (leb 1 r.length) _ t in
    record {
      filled = leb→le _ _ (&&-l (leb 1 r.length) _ t);
      within = leb→le _ _ (&&-l (leb (r.offset + r.length) total) _ u);
      after = leb→le _ _ (&&-r (leb (r.offset + r.length) total) _ u);
    }

pub fits_run : (total least : ℕ) (r : Run) → RunFits total least r → run_fits total least r ≡ true
unfolding run_fits
fits_run total least r w =
    simp (le-leb 1 r.length w.filled, le-leb (r.offset + r.length) total w.within, le-leb least r.offset w.after)

pub fit_none : (total least : ℕ) → fit total least [] ≡ true
unfolding fit
fit_none total least = refl

module _ (total least : ℕ) (r : Run) (rs : List Run) where
  pub fit_head : fit total least (r ∷ rs) ≡ true → RunFits total least r
  unfolding fit
  fit_head e = run_fits_law total least r (T_true _ (&&-l (run_fits total least r) _ (true_T _ e)))

  pub fit_tail : fit total least (r ∷ rs) ≡ true → fit total (r.offset + r.length + 1) rs ≡ true
  unfolding fit
  fit_tail e = T_true _ (&&-r (run_fits total least r) _ (true_T _ e))

  pub fit_cons : RunFits total least r → fit total (r.offset + r.length + 1) rs ≡ true → fit total least (r ∷ rs) ≡ true
  unfolding fit
  fit_cons w e = rw (fits_run total least r w) e

-- runs that fit from `least` on fit from anywhere before it
pub fit_earlier : (total least k : ℕ) (rs : List Run) → k ≤ least → fit total least rs ≡ true → fit total k rs ≡ true
unfolding fit
fit_earlier total least k [] h e = refl
fit_earlier total least k (r ∷ rs) h e =
    let w = fit_head total least r rs e in
    fit_cons total k r rs (record { filled = w.filled; within = w.within; after = omega arith }) (fit_tail total least r rs e)

-- after i runs, all of which fit, the next starting at `least` or later, the rest decides
pub record Fitted (bytes : List ℕ) (head count total least i : ℕ) : Type 0 where
  pub at_most : i ≤ count
  pub same : fit total least (runs_after bytes head count i) ≡ fit total 0 (runs_from bytes head count)

module _ {bytes : List ℕ} {head count total : ℕ} where
  module _ {least i : ℕ} (w : Fitted bytes head count total least i) where
    pub fitted_next : {r : Run} → i < count → r ≡ run_at bytes (head + 6 * i) → run_fits total least r ≡ true
        → Fitted bytes head count total (r.offset + r.length + 1) (i + 1)
    unfolding fit
    fitted_next h e t = record { at_most = omega arith; same = rw (← w.same, runs_left bytes head count i h, ← e, t) }

    pub fitted_not : {r : Run} → i < count → r ≡ run_at bytes (head + 6 * i) → run_fits total least r ≡ false
        → false ≡ fit total 0 (runs_from bytes head count)
    unfolding fit
    fitted_not h e t = rw (← w.same, runs_left bytes head count i h, ← e, t)

    pub fitted_all : count ≤ i → true ≡ fit total 0 (runs_from bytes head count)
    unfolding fit
    fitted_all h = rw (← w.same, no_runs_left bytes head count i h)

-- after i runs, which have `sum` bytes
pub record Summed (bytes : List ℕ) (head count sum i : ℕ) : Type 0 where
  pub at_most : i ≤ count
  pub small : sum ≤ 65535 * i
  pub same : sum + lengths (runs_after bytes head count i) ≡ lengths (runs_from bytes head count)

module _ {bytes : List ℕ} {head count : ℕ} where
  module _ {sum i : ℕ} (w : Summed bytes head count sum i) where
    pub summed_next : {l : ℕ} → i < count → l ≡ two_at bytes (head + 6 * i + 4) → l < 65536 → Summed bytes head count (sum + l) (i + 1)
    unfolding lengths run_at
    summed_next h e f =
        record { at_most = omega arith; small = omega arith; same = omega (arith, ap lengths (runs_left bytes head count i h)) }

    pub summed_all : count ≤ i → sum ≡ lengths (runs_from bytes head count)
    unfolding lengths
    summed_all h = omega (arith, ap lengths (no_runs_left bytes head count i h))
