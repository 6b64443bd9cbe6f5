-- The lattice of a block whose labels have no plus on the rim is a complex whose sides fit. Assumes nothing.
use Prim.Native.Nat.{ℕ, ◌≤◌, ◌<◌}
use native.Mathlib.Omega.{arith}
use mathlib.Core.Path.{◌≡◌, refl, ◌∙◌, ap}
use mathlib.Core.Logic.{◌⊎◌, inl, inr}
use Rattle.lattice.specs.declared.Sizes.{Sizes}
use Rattle.lattice.specs.Counts.{points}
use Rattle.moving.specs.declared.Label.{Label}
use Rattle.moving.specs.declared.Label.TheVariants.{Zero}
use Rattle.stencil.specs.Tetrahedron.{Tetrahedron, Vertex, Quarter, kind, corner, corner_number}
use Rattle.stencil.specs.Stencil.{Entry, point, between}
use Rattle.stencil.specs.Id.{id_of}
use Rattle.stencil.specs.inner.Sign.{winds}
use Rattle.stencil.proofs.Valid.{Valid, corner_inside, ascending}
use Rattle.faces.proofs.Pattern.{side, outward}
use Rattle.faces.proofs.PatternLaws.{ZeroPoint}
use Rattle.faces.proofs.Complex.{Complex, Across, neighbour, outside, Fits}
use Rattle.faces.proofs.NeighbourLaws.{next_winding, next_differs}
use Rattle.faces.proofs.Lattice.{side_at, beyond, same_tetrahedron, who_shares, beside_shares, beside_one}
use Rattle.faces.proofs.Lattice.{Next, inside, on_rim, next_of}
use Rattle.faces.proofs.Ids.{point_low, id_inj, id_same}
use Rattle.faces.proofs.Signed.{NoRim}

-- an id that is a cut, or a point with the label zero
abbrev pub OnSkin : Sizes → (ℕ → Label) → ℕ → Type 0
OnSkin s label id = (points s ≤ id) ⊎ ((id < points s) × (label id ≡ Zero))

abbrev pub lattice : Sizes → (ℕ → Label) → Complex
lattice s label = record {
  Cell = Tetrahedron;
  In = Valid s;
  vertex = corner_number s;
  winding = λ t. winds t.edge;
  label = label;
  id = id_of s;
  Skin = OnSkin s label;
}

module _ (s : Sizes) (label : ℕ → Label) (rim : NoRim s label) where
  sides : (t : Tetrahedron) → Valid s t → (q : Vertex) → Across (lattice s label) t q
  unfolding corner_number
  sides t h q = go (next_of s t q h)
    where
      go : Next s t q → Across (lattice s label) t q
      go (inside u hu b) =
          neighbour u (beyond t q).corner hu
          (λ e. next_differs (side_at t q)
          (ap (λ (x : Tetrahedron). x.axis) e ∙ b.axis) (ap (λ (x : Tetrahedron). x.edge) e ∙ b.edge))
          (beside_shares s t u q b)
          (ap (λ (e : Quarter). outward (winds e) (beyond t q).corner) b.edge ∙ next_winding (side_at t q))
          (λ m w hm e. elim (who_shares s t m q w h hm e) [ inl p ↦ inl p | inr p ↦ inr (beside_one t q m u p b) ])
      go (on_rim none on) =
          outside (λ m w hm e. elim (who_shares s t m q w h hm e) [ inl p ↦ p | inr p ↦ absurd (none m hm p) ])
          (λ i. rim (kind (side q i)) (corner t (side q i)) (corner_inside s t h (side q i)) (on i))

  skin : (t : Tetrahedron) → Valid s t → (x : Entry Vertex) → ZeroPoint (λ v. label (corner_number s t v)) x
      → OnSkin s label (id_of s t x)
  unfolding id_of
  skin t h (point v) z = inr (point_low s t h v, z v refl)
  skin t h (between u v) z = inl (omega arith)

  pub lattice_fits : Fits (lattice s label)
  lattice_fits = record {
    ascending = ascending s;
    same = same_tetrahedron s;
    across = sides;
    id_inj = id_inj s;
    id_same = id_same s;
    skin = skin;
  }
