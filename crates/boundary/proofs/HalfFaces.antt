-- The half-faces of n rows. Assumes nothing.
--     half_once         none stands there twice
--     half_i, half_lt   each corner of each row has one, and no other row
use Prim.Native.Nat.{ℕ, ◌<◌}
use mathlib.Core.Path.{◌≡◌, refl, sym, ◌∙◌, subst}
use mathlib.Core.List.{List, [], ◌∷◌, map}
use Rattle.basics.specs.Lists.{below}
use Rattle.basics.proofs.Test.{◌&◌, Member, here, there}
use Rattle.basics.proofs.Tested.{map_member}
use Rattle.basics.proofs.Gather.{NoRepeats, empty, more, distinct_once, below_lt, below_i, below_once}
use Rattle.basics.proofs.Gather.{gather_i, gather_part, gather_once}
use Rattle.stencil.specs.Tetrahedron.{Vertex}
use Rattle.stencil.proofs.Corners.{the_vertices}
use Rattle.boundary.specs.Boundary.{HalfFace, four_of, half_faces}

-- if nothing stands twice in what a list is mapped to, nothing stands twice in the list
once_by : {A B : Type 0} (g : A → B) (l : List A) → NoRepeats (map g l) → NoRepeats l
once_by g [] p = empty
once_by g (x ∷ l) (more n p) = more (λ m. n (map_member g m)) (once_by g l p)

four_once : (i : ℕ) → NoRepeats (four_of i)
unfolding ◌&◌
four_once i = once_by (λ x. x.1) (four_of i) (distinct_once the_vertices the_vertices.all tt)

four_row : {i : ℕ} {x : HalfFace} → Member x (four_of i) → x.0 ≡ i
four_row {i} = of_row the_vertices.all
  where
    of_row : (l : List Vertex) {x : HalfFace} → Member x (map (λ v. (i, v)) l) → x.0 ≡ i
    of_row [] m = elim m [ ]
    of_row (v ∷ l) here = refl
    of_row (v ∷ l) (there m) = of_row l m

module _ (n : ℕ) where
  pub half_once : NoRepeats (half_faces n)
  unfolding half_faces
  half_once = gather_once four_of (below n) (below_once n) four_once (λ i j x p q. sym (four_row p) ∙ four_row q)

  pub half_i : (i : ℕ) (v : Vertex) → i < n → Member (i, v) (half_faces n)
  unfolding half_faces
  half_i i v h = gather_i four_of (below_i n i h) (map_member (λ (v : Vertex). (i, v)) (the_vertices.complete v))

  pub half_lt : {x : HalfFace} → Member x (half_faces n) → x.0 < n
  unfolding half_faces
  half_lt m =
      let u = gather_part four_of (below n) m in
      subst (λ (k : ℕ). k < n) (sym (four_row u.2)) (below_lt n u.1)
