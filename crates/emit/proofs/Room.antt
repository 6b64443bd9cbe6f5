-- Rows that are only counted, into an empty table, and those that a table has room for. Assumes nothing.
use Prim.Native.Nat.{ℕ, suc, ◌+◌, ◌<◌}
use native.Mathlib.Omega.{arith}
use mathlib.Core.Path.{◌≡◌, refl}
use mathlib.Core.List.{List, [], ◌∷◌}
use lib.ListN.{length}
use lib.Seq.{sets}
use Rattle.basics.specs.Lists.{gather, below}
use Rattle.basics.specs.inner.Writing.{Wrote}
use Rattle.basics.proofs.Written.{Written, kept_long, fits_left}
use Rattle.emit.specs.inner.Cubes.{Room}

-- nothing is written into an empty table: rows are only counted
sets_none : (l vs : List ℕ) (i : ℕ) → length l ≡ 0 → l ≡ sets l i vs
sets_none [] [] i e = refl
sets_none [] (v ∷ vs) i e = sets_none [] vs (suc i) e
sets_none (x ∷ l) vs i e = absurd (omega arith)

pub only_counted : {ids l : List ℕ} {i to : ℕ} → length l ≡ 0 → to ≡ i + length ids → Wrote ids l i l to
only_counted {ids} {l} {i} e f = record { now_is = sets_none l ids i e; to_is = f }

pub room_left : {f : ℕ → List ℕ} {l : List ℕ} {i k : ℕ} {now : List ℕ} {at : ℕ} → Written f l i k now at → (n : ℕ) {vs : List ℕ}
    → vs ≡ f k → k < n → Room l i (length (gather f (below n))) → Room now at (length vs)
room_left w n e h r = record { fits = λ some. fits_left w n e h (r.fits (omega (arith, kept_long w))) }
