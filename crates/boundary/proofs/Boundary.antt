-- The boundary of rows that conform to demand 3. Assumes nothing.
--     encloses    the volumes of all rows add up to the volume that it encloses
--     closed      as many of its faces run from p to q as from q to p
--     on_skin     its corners lie on the skin
use Prim.Native.Nat.{ℕ}
use native.Mathlib.Decide.{ℕ_discrete}
use mathlib.Core.Path.{◌≡◌, sym, ◌∙◌, ap, subst}
use mathlib.Core.List.{List}
use lib.IntN.{ℤ, pos, ◌+ℤ◌, ◌-ℤ◌, nat_abs, -ℤ-+ℤ_cancel, +ℤ_idl}
use Rattle.basics.proofs.Test.{Member}
use Rattle.stencil.specs.Row.{Row, Face, Third, face_at}
use Rattle.geometry.specs.Place.{Place}
use Rattle.filling.specs.Mesh.{row_volume}
use Rattle.filling.specs.Demand.{Conforms}
use Rattle.boundary.specs.Sum.{sum, how_many}
use Rattle.boundary.specs.Boundary.{boundary_faces, face_volume, runs}
use Rattle.boundary.proofs.Sums.{sum_same, sum_zero}
use Rattle.boundary.proofs.Matched.{alone_on_skin}
use Rattle.boundary.proofs.Cancel.{of_row, boundary_sum}
use Rattle.boundary.proofs.Volume.{row_volume_law, volume_alternating}
use Rattle.boundary.proofs.Runs.{net, net_count, net_alternating, row_closed}
use Rattle.boundary.proofs.Listed.{from_alone}

same_count : (m n : ℕ) → pos m -ℤ pos n ≡ pos 0 → m ≡ n
same_count m n e =
    ap nat_abs (sym (-ℤ-+ℤ_cancel (pos m) (pos n)) ∙ ap (λ (z : ℤ). z +ℤ pos n) e ∙ +ℤ_idl (pos n))

module _ {rows : List (Row ℕ)} {place : ℕ → Place} {Skin : ℕ → Type 0} (c : Conforms rows place Skin) where
  pub encloses : sum (row_volume place) rows ≡ sum (face_volume place) (boundary_faces rows)
  encloses =
      sum_same (row_volume place) (of_row (face_volume place)) rows (λ r m. sym (row_volume_law place r))
      ∙ boundary_sum rows (face_volume place) c (volume_alternating place)

  pub closed : (p q : ℕ) → how_many (runs p q) (boundary_faces rows) ≡ how_many (runs q p) (boundary_faces rows)
  closed p q = either (ℕ_discrete p q)
    where
      either : Dec (p ≡ q) → how_many (runs p q) (boundary_faces rows) ≡ how_many (runs q p) (boundary_faces rows)
      either (yes e) = λ i. how_many (runs (e i) (sym e i)) (boundary_faces rows)
      either (no ne) =
          same_count (how_many (runs p q) (boundary_faces rows)) (how_many (runs q p) (boundary_faces rows))
          (sym (net_count p q (boundary_faces rows)) ∙ sym (boundary_sum rows (net p q) c (net_alternating p q))
          ∙ sum_zero (of_row (net p q)) rows (λ r m. row_closed p q ne r))

  pub on_skin : (g : Face ℕ) → Member g (boundary_faces rows) → (t : Third) → Skin (face_at g t)
  on_skin g m t =
      let (x, p, a, e) = from_alone rows m in
      subst (λ (g : Face ℕ). Skin (face_at g t)) e (alone_on_skin c x p a t)
