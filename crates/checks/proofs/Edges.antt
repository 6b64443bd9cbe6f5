-- Edges that cross, by the candidates for their far ends. Assumes nothing.
--     inner_there                    from a point that is not on the rim all edges exist
--     edge_crosses                   an edge that exists leads to its candidate
--     crosses_to_law                     an edge that crosses leads to its candidate
--     no_edge_crosses, calm_crosses  no edge, or a candidate that is not opposed
--     edge_in                        the far end of an edge that exists is a point
--     Marked, marked_more, marked    the seven answers, one after the other
use Prim.Native.Nat.{ℕ, ◌+◌, ◌≤◌, ◌<◌}
use native.Mathlib.Omega.{arith}
use mathlib.Core.Path.{◌≡◌, refl, sym, ap, subst, ◌∙◌}
use mathlib.Core.Bool.{Bool, true, false}
use mathlib.Core.List.{List}
use lib.Dec.{T}
use lib.ListN.{length, get_or, set, length-set}
use lib.Seq.{get_or-set_same, get_or-set_other, ext_get_or}
use borrow.Author.Count.{below_more}
use Rattle.std.proofs.Common.{Some}
use Rattle.lattice.specs.declared.Sizes.{Sizes}
use Rattle.lattice.specs.declared.Site.{Site}
use Rattle.lattice.specs.Counts.{Sized, points}
use Rattle.lattice.specs.Direction.{Code}
use Rattle.lattice.specs.Edge.{exists, neighbour}
use Rattle.lattice.specs.Rim.{rim_at}
use Rattle.lattice.specs.inner.Site.{Sited, index}
use Rattle.lattice.proofs.Edge.{neighbour_lt}
use Rattle.lattice.proofs.Sites.{site_inside, near_yes, near_no}
use Rattle.moving.specs.declared.Label.{Label}
use Rattle.moving.specs.Label.{opposed}
use Rattle.filling.specs.Check.{crosses, crosses_to}
use Rattle.lines.specs.inner.Strides.{ends_at}
use Rattle.lines.proofs.Sites.{site_lt, site_near}
use Rattle.lines.proofs.FarEnds.{end_is}
use Rattle.checks.specs.inner.Faults.{crossings_at}
use Rattle.checks.proofs.Faults.{crossing_at}
use Rattle.checks.proofs.Inner.{inner_exists}

module _ (s : Sizes) (q : Site) (h : Sized s) (g : Sited s q) (d : ℕ) (i : d < 7) where
  abbrev there : Bool
  there = exists s q.kind (index q) (d + 1)

  code : Code (d + 1)
  code = record { low = omega arith; high = omega arith }

  -- all edges of a point that is not on the rim exist
  pub inner_there : rim_at s q.kind (index q) ≡ false → true ≡ there
  inner_there r = sym (inner_exists s q.kind (index q) (site_inside s q h g) r (d + 1) code)

  -- an edge that exists leads to its candidate
  leads : there ≡ true → neighbour s q.own (d + 1) ≡ Some (get_or (ends_at s q) d 0)
  leads t =
      let n = near_yes s q.kind (index q) (d + 1) t in
      site_near s q h g (d + 1) ∙ n ∙ ap Some (sym (end_is s q g d i _ n))

  module _ {far : ℕ} (f : far ≡ get_or (ends_at s q) d 0) where
    pub edge_in : there ≡ true → far < points s
    edge_in t = rw f (neighbour_lt s q.own (d + 1) _ (site_lt s q h g) code (leads t))

    module _ (label : ℕ → Label) where
      pub edge_crosses : there ≡ true → opposed (label q.own) (label far) ≡ crosses s label q.own d
      unfolding crosses_to
      edge_crosses t = ap (λ (m : ℕ). opposed (label q.own) (label m)) f ∙ sym (ap (crosses_to s label q.own) (leads t))

      pub no_edge_crosses : there ≡ false → false ≡ crosses s label q.own d
      unfolding crosses_to
      no_edge_crosses t =
          sym (ap (crosses_to s label q.own) (site_near s q h g (d + 1) ∙ near_no s q.kind (index q) (d + 1) t))

      -- an edge that crosses leads to its candidate, which is a point
      pub crosses_to_law : crosses s label q.own d ≡ true → (neighbour s q.own (d + 1) ≡ Some far) × (far < points s)
      crosses_to_law c = go there refl
        where
          go : (t : Bool) → there ≡ t → (neighbour s q.own (d + 1) ≡ Some far) × (far < points s)
          go true t = (leads t ∙ ap Some (sym f), edge_in t)
          go false t = absurd (subst T (sym (no_edge_crosses t ∙ c)) tt)

      -- a candidate that is not opposed settles it
      pub calm_crosses : opposed (label q.own) (label far) ≡ false → crosses s label q.own d ≡ false
      calm_crosses o = go there refl
        where
          go : (t : Bool) → there ≡ t → crosses s label q.own d ≡ false
          go true t = sym (edge_crosses t) ∙ o
          go false t = sym (no_edge_crosses t)

-- the answers in the directions before d
pub record Marked (s : Sizes) (label : ℕ → Label) (p : ℕ) (must : List Bool) (d : ℕ) : Type 0 where
  pub long : length must ≡ 7
  pub done : (e : ℕ) → e < d → get_or must e false ≡ crosses s label p e

pub marked_more : {s : Sizes} {label : ℕ → Label} {p d : ℕ} {must : List Bool} {b : Bool} → Marked s label p must d → d < 7
    → b ≡ crosses s label p d → Marked s label p (set must d b) (d + 1)
marked_more {d = d} {must = must} {b = b} m h e =
    record {
      long = length-set must d b ∙ m.long;
      done = below_more _ d (λ j l. get_or-set_other must d j b false (λ i. omega arith) ∙ m.done j l)
          (get_or-set_same must d b false (omega (arith, m.long)) ∙ e);
    }

pub marked : {s : Sizes} {label : ℕ → Label} {p d : ℕ} {must : List Bool} → Marked s label p must d → 7 ≤ d
    → must ≡ crossings_at s label p
unfolding crossings_at
marked {s} {label} {p} {d} {must} m h =
    ext_get_or false must (crossings_at s label p) m.long
    (λ j l. m.done j (omega (arith, m.long)) ∙ sym (crossing_at s label p j (omega (arith, m.long))))
