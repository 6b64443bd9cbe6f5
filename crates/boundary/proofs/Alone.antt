-- A half-face is alone exactly if every row that holds its three ids is its own. Assumes nothing.
--     has_use, has_i            a row has an id at one of its corners
--     belongs_use, belongs_i    a face belongs to a row that holds its three ids
--     OnlyOwn, alone_use, alone_i
use Prim.Native.Nat.{ℕ, zero, suc, ◌<◌}
use native.Mathlib.Omega.{arith}
use mathlib.Core.Path.{◌≡◌, refl, ◌∙◌, ap}
use mathlib.Core.Logic.{inl, inr}
use mathlib.Core.Bool.{Bool, true, false, not}
use mathlib.Core.List.{List}
use lib.Dec.{T, T_not, eqb, eqb→eq}
use lib.ListN.{length}
use borrow.Author.Tests.{eq-eqb}
use Rattle.std.specs.Prelude.{if◌then◌else◌}
use Rattle.basics.specs.Lists.{count}
use Rattle.basics.proofs.Test.{&&-l, &&-r, &&-i, or_cases, or_l, or_r, F-false, false_F, eqb_of, decide, lt_or}
use Rattle.basics.proofs.Search.{count_none}
use Rattle.stencil.specs.Tetrahedron.{Vertex, v0, v1, v2, v3}
use Rattle.stencil.specs.Row.{Row, row, Face, face, t0, t1, t2, row_at, Holds}
use Rattle.filling.specs.Demand.{nth_row}
use Rattle.boundary.specs.Boundary.{HalfFace, has_id, belongs, outward, also_in, alone}

has_use : (r : Row ℕ) (x : ℕ) → T (has_id r x) → (v : Vertex) × (row_at r v ≡ x)
unfolding has_id
has_use (row a b c d) x t =
    elim (or_cases (eqb a x) _ t) [
      | inl p ↦ (v0, eqb→eq a x p)
      | inr u ↦
          elim (or_cases (eqb b x) _ u) [
            | inl p ↦ (v1, eqb→eq b x p)
            | inr w ↦ elim (or_cases (eqb c x) _ w) [ inl p ↦ (v2, eqb→eq c x p) | inr p ↦ (v3, eqb→eq d x p) ]
          ]
    ]

has_i : (r : Row ℕ) (v : Vertex) (x : ℕ) → row_at r v ≡ x → T (has_id r x)
unfolding has_id
has_i (row a b c d) v0 x e = or_l (eqb a x) _ (eqb_of a x e)
has_i (row a b c d) v1 x e = or_r (eqb a x) _ (or_l (eqb b x) _ (eqb_of b x e))
has_i (row a b c d) v2 x e = or_r (eqb a x) _ (or_r (eqb b x) _ (or_l (eqb c x) _ (eqb_of c x e)))
has_i (row a b c d) v3 x e = or_r (eqb a x) _ (or_r (eqb b x) _ (or_r (eqb c x) _ (eqb_of d x e)))

belongs_use : (r : Row ℕ) (f : Face ℕ) → T (belongs r f) → Holds r f
unfolding belongs
belongs_use r (face x y z) t t0 = has_use r x (&&-l (has_id r x) _ t)
belongs_use r (face x y z) t t1 = has_use r y (&&-l (has_id r y) (has_id r z) (&&-r (has_id r x) _ t))
belongs_use r (face x y z) t t2 = has_use r z (&&-r (has_id r y) (has_id r z) (&&-r (has_id r x) _ t))

belongs_i : (r : Row ℕ) (f : Face ℕ) → Holds r f → T (belongs r f)
unfolding belongs
belongs_i r (face x y z) h =
    &&-i (has_id r x) _ (has_i r (h t0).0 x (h t0).1)
    (&&-i (has_id r y) (has_id r z) (has_i r (h t1).0 y (h t1).1) (has_i r (h t2).0 z (h t2).1))

count_zero : (f : ℕ → Bool) (n : ℕ) → count f n ≡ 0 → (j : ℕ) → j < n → f j ≡ false
unfolding count
count_zero f zero e j h = absurd (omega arith)
count_zero f (suc n) e j h =
    elim (lt_or j n) [
      | inl l ↦ count_zero f n (omega arith) j l
      | inr l ↦ ap f (omega arith) ∙ none (f n) (omega arith)
    ]
  where
    none : (b : Bool) → ◌≡◌ {A = ℕ} (if b then 1 else 0) 0 → b ≡ false
    none true e = absurd (omega arith)
    none false e = refl

module _ (rows : List (Row ℕ)) (x : HalfFace) where
  -- every row that holds the three ids is its own
  abbrev pub OnlyOwn : Type 0
  OnlyOwn = (k : ℕ) → k < length rows → Holds (nth_row rows k) (outward rows x) → k ≡ x.0

  pub alone_use : T (alone rows x) → OnlyOwn
  unfolding alone also_in
  alone_use t k l h =
      elim (decide (eqb k x.0)) [
        | inl e ↦ eqb→eq k x.0 e
        | inr n ↦
            let besides = &&-i (not (eqb k x.0)) _ n (belongs_i (nth_row rows k) (outward rows x) h) in
            absurd (false_F (also_in rows x k) (count_zero (also_in rows x) (length rows) (eqb→eq _ 0 t) k l) besides)
      ]

  pub alone_i : OnlyOwn → alone rows x ≡ true
  unfolding alone also_in
  alone_i h = eq-eqb _ 0 (count_none (also_in rows x) (length rows) (λ k l. F-false (also_in rows x k) (besides k l)))
    where
      besides : (k : ℕ) → k < length rows → T (also_in rows x k) → ⊥
      besides k l t =
          let held = belongs_use (nth_row rows k) (outward rows x) (&&-r (not (eqb k x.0)) _ t) in
          T_not (eqb k x.0) (&&-l (not (eqb k x.0)) _ t) (eqb_of k x.0 (h k l held))
