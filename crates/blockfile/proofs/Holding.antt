-- What a reader that holds no more than it needs knows of the file, whatever is left of the input. `held_read`: reading what
-- is held answers as reading all would. `held_all`: a file that is taken is all that is held. `held_some`: nothing is held
-- only at the end of the input. Assumes nothing.
use Prim.Native.Nat.{ℕ, ◌≤◌}
use native.Mathlib.Omega.{arith}
use mathlib.Core.Path.{◌≡◌, ap, ◌∙◌}
use mathlib.Core.Logic.{inl, inr}
use mathlib.Core.List.{List, [], ◌++◌, append-nil}
use lib.IntN.{ℤ}
use lib.ListN.{drop}
use lib.Seq.{drop_at}
use Rattle.blockfile.specs.Format.{read}
use Rattle.blockfile.specs.inner.Needs.{Held}
use Rattle.blockfile.proofs.Longest.{NoLonger}
use Rattle.blockfile.proofs.Stages.{up_to_sizes}
use Rattle.blockfile.proofs.Settled.{settled, never, read_end}

module _ {limit most : ℕ} {bytes later : List ℕ} (samples : List ℤ) (cuts : List ℕ) where
  pub held_read : 3 ≤ most → NoLonger limit most → Held limit most bytes later
      → read (bytes ++ later) limit samples cuts ≡ read bytes limit samples cuts
  held_read few enough w =
      elim w.enough [
        | inl h ↦ settled bytes later limit samples cuts h
        | inr (inl h) ↦ never bytes later limit most samples cuts few enough h
        | inr (inr e) ↦ ap (λ (l : List ℕ). read l limit samples cuts) (ap (bytes ++◌) e ∙ append-nil bytes)
      ]

  pub held_all : Held limit most bytes later → (read bytes limit samples cuts).answer.number ≡ 0
      → drop (read bytes limit samples cuts).answer.end (bytes ++ later) ≡ later
  held_all w z =
      let e = read_end bytes limit samples cuts z in
      drop_at bytes later (read bytes limit samples cuts).answer.end (omega (arith, w.no_more, e.0, e.1))

pub held_some : {limit most : ℕ} {later : List ℕ} → Held limit most [] later → 3 ≤ most → later ≡ []
held_some {limit} w few =
    elim w.enough [
      | inl h ↦ absurd (omega (arith, up_to_sizes [] limit (omega arith)))
      | inr (inl h) ↦ absurd (omega (arith, up_to_sizes [] limit (omega arith)))
      | inr (inr e) ↦ e
    ]
