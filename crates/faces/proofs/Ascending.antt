-- Four ascending numbers, those of a tetrahedron's corners: three of them in order are a side, and four are all of
-- them. Assumes nothing.
--
--   Alike                    entries of two tetrahedra that stand on the same numbers
--   vertex_inj, entry_inj    a number is that of one corner; two entries of one tetrahedron on the same numbers are one
--   same_side_law, same_four     three, four numbers that two tetrahedra share
use Prim.Native.Nat.{ℕ, ◌≤◌, ◌<◌}
use native.Mathlib.Omega.{arith}
use mathlib.Core.Path.{◌≡◌, sym, ◌∙◌, ap}
use mathlib.Core.Bool.{Bool, true, false}
use lib.Dec.{T, ltb, lt→ltb}
use Rattle.basics.proofs.Test.{◌&◌, and_l, and_r, and_i, imp, imp_use, any, Member}
use Rattle.basics.proofs.Tested.{Tested, tested, any_find, ◌⊗◌, same, same_use}
use Rattle.stencil.specs.Tetrahedron.{Vertex, v0, v1, v2, v3}
use Rattle.stencil.specs.Row.{Third, t0, t1, t2}
use Rattle.stencil.specs.Stencil.{Entry, point, between, rank}
use Rattle.stencil.proofs.Corners.{the_vertices, rank_inj}
use Rattle.faces.proofs.Pattern.{tip, side}

abbrev pub Ascending : (Vertex → ℕ) → Type 0
Ascending f = (f v0 < f v1) × (f v1 < f v2) × (f v2 < f v3)

-- both stand on one number, or both between the same two
pub data Alike (f g : Vertex → ℕ) : Entry Vertex → Entry Vertex → Type 0 where
  on_one : {u x : Vertex} → f u ≡ g x → Alike f g (point u) (point x)
  on_two : {u v x y : Vertex} → f u ≡ g x → f v ≡ g y → Alike f g (between u v) (between x y)

pub alike_tip : {f g : Vertex → ℕ} {x y : Entry Vertex} → Alike f g x y → (b : Bool) → f (tip b x) ≡ g (tip b y)
alike_tip (on_one p) b = p
alike_tip (on_two p q) true = q
alike_tip (on_two p q) false = p

rank_lt : (v : Vertex) → rank v < 4
rank_lt v0 = omega arith
rank_lt v1 = omega arith
rank_lt v2 = omega arith
rank_lt v3 = omega arith

pub rank_le : (f : Vertex → ℕ) → Ascending f → (u v : Vertex) → f u ≤ f v → rank u ≤ rank v
rank_le f h v0 v0 e = omega arith
rank_le f h v0 v1 e = omega arith
rank_le f h v0 v2 e = omega arith
rank_le f h v0 v3 e = omega arith
rank_le f h v1 v0 e = omega arith
rank_le f h v1 v1 e = omega arith
rank_le f h v1 v2 e = omega arith
rank_le f h v1 v3 e = omega arith
rank_le f h v2 v0 e = omega arith
rank_le f h v2 v1 e = omega arith
rank_le f h v2 v2 e = omega arith
rank_le f h v2 v3 e = omega arith
rank_le f h v3 v0 e = omega arith
rank_le f h v3 v1 e = omega arith
rank_le f h v3 v2 e = omega arith
rank_le f h v3 v3 e = omega arith

module _ (f : Vertex → ℕ) (h : Ascending f) where
  pub vertex_inj : (u v : Vertex) → f u ≡ f v → u ≡ v
  vertex_inj u v e = rank_inj u v (omega (arith, rank_le f h u v (omega arith), rank_le f h v u (omega arith)))

  rank_up : (u v : Vertex) → f u < f v → rank u < rank v
  rank_up u v l = omega (arith, rank_le f h u v (omega arith), ne)
    where
      ne : rank u ≡ rank v → ⊥
      ne e = let q : f u ≡ f v = ap f (rank_inj u v e) in omega arith

  pub entry_inj : {x y : Entry Vertex} → Alike f f x y → x ≡ y
  entry_inj (on_one p) = ap point (vertex_inj _ _ p)
  entry_inj (on_two p q) = λ i. between (vertex_inj _ _ p i) (vertex_inj _ _ q i)

  side_up : (q : Vertex) → (f (side q t0) < f (side q t1)) × (f (side q t1) < f (side q t2))
  side_up v0 = omega arith
  side_up v1 = omega arith
  side_up v2 = omega arith
  side_up v3 = omega arith

-- three ascending corners are a side
abbrev is_side : Vertex → Vertex → Vertex → Vertex → Bool
is_side a b c q = same the_vertices (side q t0) a & (same the_vertices (side q t1) b & same the_vertices (side q t2) c)

abbrev have_side : Vertex → Vertex → Vertex → Bool
have_side a b c = imp (ltb (rank a) (rank b) & ltb (rank b) (rank c)) (any (is_side a b c) the_vertices.all)

sides_ok : Tested (the_vertices ⊗ the_vertices ⊗ the_vertices) (λ c. have_side c.0 c.1.0 c.1.1)
unfolding ◌&◌
sides_ok = record { passed = tt }

side_of_law : (u : Third → Vertex) → rank (u t0) < rank (u t1) → rank (u t1) < rank (u t2)
    → (q : Vertex) × ((t : Third) → side q t ≡ u t)
side_of_law u l m = (q.0, is)
  where
    q : (q : Vertex) × Member q the_vertices.all × T (is_side (u t0) (u t1) (u t2) q)
    q =
        any_find (is_side (u t0) (u t1) (u t2)) the_vertices.all
        (imp_use (ltb (rank (u t0)) (rank (u t1)) & ltb (rank (u t1)) (rank (u t2))) _
        (tested sides_ok (u t0, (u t1, u t2))) (and_i _ _ (lt→ltb _ _ l) (lt→ltb _ _ m)))

    is : (t : Third) → side q.0 t ≡ u t
    is t0 = same_use the_vertices _ _ (and_l _ _ q.2)
    is t1 = same_use the_vertices _ _ (and_l _ _ (and_r _ _ q.2))
    is t2 = same_use the_vertices _ _ (and_r _ _ (and_r _ _ q.2))

module _ (f g : Vertex → ℕ) (hf : Ascending f) (hg : Ascending g) where
  -- corners of g in the places of f's ascend as f's do
  up : (a b u w : Vertex) → g u ≡ f a → g w ≡ f b → f a < f b → rank u < rank w
  up a b u w p q l = rank_up g hg u w (omega arith)

  -- a side of f whose corners g has is a side of g
  pub same_side_law : (q : Vertex) → ((t : Third) → (u : Vertex) × (g u ≡ f (side q t)))
      → (w : Vertex) × ((t : Third) → g (side w t) ≡ f (side q t))
  same_side_law q u = (w.0, λ t. ap g (w.1 t) ∙ (u t).1)
    where
      w : (w : Vertex) × ((t : Third) → side w t ≡ (u t).0)
      w =
          side_of_law (λ t. (u t).0) (up (side q t0) (side q t1) (u t0).0 (u t1).0 (u t0).1 (u t1).1 (side_up f hf q).0)
          (up (side q t1) (side q t2) (u t1).0 (u t2).0 (u t1).1 (u t2).1 (side_up f hf q).1)

  -- if g has all four corners of f, they are its own
  pub same_four : ((v : Vertex) → (u : Vertex) × (g u ≡ f v)) → (v : Vertex) → f v ≡ g v
  same_four u v = sym (u v).1 ∙ ap g (rank_inj (u v).0 v (own v))
    where
      rises : (a b : Vertex) → f a < f b → rank (u a).0 < rank (u b).0
      rises a b = up a b (u a).0 (u b).0 (u a).1 (u b).1

      all : Ascending (λ v. rank (u v).0)
      all = (rises v0 v1 hf.0, rises v1 v2 hf.1, rises v2 v3 hf.2)

      own : (v : Vertex) → rank (u v).0 ≡ rank v
      own v0 = omega (arith, all, rank_lt (u v3).0)
      own v1 = omega (arith, all, rank_lt (u v3).0)
      own v2 = omega (arith, all, rank_lt (u v3).0)
      own v3 = omega (arith, all, rank_lt (u v3).0)
