-- A point decoded from its number: its site has the point's neighbours and place. Assumes nothing.
use Prim.Native.Nat.{ℕ, ◌≤◌, ◌<◌}
use native.Mathlib.Omega.{arith}
use mathlib.Core.Path.{◌≡◌, sym, ◌∙◌}
use Rattle.std.proofs.Common.{Option}
use Rattle.lattice.specs.declared.Sizes.{Sizes}
use Rattle.lattice.specs.declared.Site.{Site}
use Rattle.lattice.specs.Counts.{Sized, points}
use Rattle.lattice.specs.Edge.{near, neighbour}
use Rattle.lattice.specs.inner.Site.{index, site_of}
use Rattle.lattice.proofs.Sites.{site_small}
use Rattle.lines.proofs.Points.{asked}
use Rattle.lines.proofs.Sites.{siting}
use Rattle.geometry.specs.Place.{lattice_place, rest}

module _ (s : Sizes) (p : ℕ) (q : Site) (is : q ≡ site_of s p) where
  -- what a search from the site found
  pub site_leads : (c : ℕ) {n m : Option ℕ} → n ≡ near s q.kind (index q) c → n ≡ m → neighbour s p c ≡ m
  site_leads c e f = sym (asked s p is (λ k i. near s k i c)) ∙ sym e ∙ f

  pub site_rest : lattice_place q.kind (index q) ≡ rest s p
  site_rest = asked s p is lattice_place

  pub site_le : Sized s → p < points s → (q.x ≤ 64) × (q.y ≤ 64) × (q.z ≤ 64)
  site_le z h = omega (arith, site_small s q z (siting s p q is h).0)
