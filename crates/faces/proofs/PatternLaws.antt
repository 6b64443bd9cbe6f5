-- What the computed tests say: every face of every row of a pattern is held by one other row of it, wound the opposite
-- way, or lies free inside with its points zero, or is one that three labels put on a side; and each of those is a face
-- of one row. Assumes nothing.
--
--   Covers, Zeros    a face stands on a corner; its points have the label zero
--   Alone            only one row holds a face
--   Fate, fate       what a face of a row is like
--   Showing          a face that three labels put on a side, as a face of one row
--   has_plus_law         without a plus there is no row
--   stands_at        what an entry of a row stands on
--   differ           the entries of a row differ
use Prim.Native.Nat.{ℕ, ◌<◌}
use native.Mathlib.Omega.{arith}
use native.Mathlib.Nat.{not-suc-le-zero}
use mathlib.Core.Path.{◌≡◌, refl, sym, subst}
use mathlib.Core.Logic.{◌⊎◌, inl, inr}
use mathlib.Core.Bool.{Bool, true, false, not, ◌||◌}
use mathlib.Core.List.{List, [], ◌∷◌}
use lib.Dec.{T, eqb, eqb→eq, T_not}
use lib.ListN.{length}
use Rattle.std.specs.Prelude.{if◌then◌else◌}
use Rattle.basics.specs.Lists.{below}
use Rattle.basics.proofs.Test.{◌&◌, and_l, and_r, and_i, imp_use, or_cases, decide, eqb_of}
use Rattle.basics.proofs.Test.{below_use, any, Member, here, there}
use Rattle.basics.proofs.Finite.{each, each_use, each_i}
use Rattle.basics.proofs.Tested.{any_i, any_find, the_bools, pairs, same, same_use, keep_i, kept}
use Rattle.basics.proofs.Gather.{below_i, below_lt, member_length}
use Rattle.moving.specs.declared.Label.{Label}
use Rattle.moving.specs.declared.Label.TheVariants.{Minus, Zero, Plus}
use Rattle.moving.specs.Label.{is_plus, is_zero}
use Rattle.stencil.specs.Tetrahedron.{Vertex}
use Rattle.stencil.specs.Row.{Row, Face, face, Third, row_at, face_at, cycled, Opposite, Holds}
use Rattle.stencil.specs.Stencil.{Entry, point}
use Rattle.stencil.proofs.Corners.{the_vertices, the_thirds}
use Rattle.stencil.proofs.Entries.{same_entry, same_entry_use, same_entry_i, stands}
use Rattle.stencil.proofs.Patterns.{all_wound}
use Rattle.faces.proofs.Pattern.{signed_for, row_in, face_for, tip, side, on_side, shown, lift}
use Rattle.faces.proofs.PatternTests.{Rows, same_face, holds, others, alone, covers, covers_all, covers_side}
use Rattle.faces.proofs.PatternTests.{zero_point, zeros, plus_on, has_plus, facing, within, showing, beside}
use Rattle.faces.proofs.PatternTests.{fits, fits_at, fitting, shows, shows_in, shows_on, showing_all}
use Rattle.faces.proofs.PatternTests.{differing, proper_at, proper, fitting_ok, showing_all_ok, proper_ok}

-- equal faces
same_face_use : (f g : Face (Entry Vertex)) → T (same_face f g) → f ≡ g
unfolding same_face
same_face_use (face x y z) (face a b c) t =
    let u = and_r (same_entry x a) _ t in
    let w = and_r (same_entry y b) _ u in
    λ i. face (same_entry_use x a (and_l _ _ t) i) (same_entry_use y b (and_l _ _ u) i) (same_entry_use z c w i)

holds_i : (r : Row (Entry Vertex)) (f : Face (Entry Vertex)) → Holds r f → T (holds r f)
unfolding holds
holds_i r f h =
    each_i the_thirds (λ t. any (λ v. same_entry (row_at r v) (face_at f t)) the_vertices.all)
    (λ t. any_i (λ v. same_entry (row_at r v) (face_at f t)) (the_vertices.complete (h t).0) (same_entry_i _ _ (h t).1))

if_cases : (a b c : Bool) → T (if a then b else c) → (T a × T b) ⊎ T c
if_cases true b c t = inl (tt, t)
if_cases false b c t = inr t

-- the labels of a pattern
is_zero_use : (l : Label) → T (is_zero l) → l ≡ Zero
unfolding is_zero
is_zero_use Minus t = absurd t
is_zero_use Zero t = refl
is_zero_use Plus t = absurd t

is_plus_use : (l : Label) → T (is_plus l) → l ≡ Plus
unfolding is_plus
is_plus_use Minus t = absurd t
is_plus_use Zero t = absurd t
is_plus_use Plus t = refl

pub is_plus_i : (l : Label) → l ≡ Plus → T (is_plus l)
unfolding is_plus
is_plus_i l e = subst (λ (x : Label). T (is_plus x)) (sym e) tt

-- a face stands on a corner; its points are zeros
abbrev pub Covers : Face (Entry Vertex) → Vertex → Type 0
Covers f v = (t : Third) × (b : Bool) × (tip b (face_at f t) ≡ v)

abbrev pub ZeroPoint : (Vertex → Label) → Entry Vertex → Type 0
ZeroPoint l x = (v : Vertex) → x ≡ point v → l v ≡ Zero

abbrev pub Zeros : (Vertex → Label) → Face (Entry Vertex) → Type 0
Zeros l f = (t : Third) → ZeroPoint l (face_at f t)

covers_use : (f : Face (Entry Vertex)) (v : Vertex) → T (covers f v) → Covers f v
unfolding covers
covers_use f v t =
    let on : Third × Bool → Bool = λ c. same the_vertices (tip c.1 (face_at f c.0)) v in
    let c = any_find on (pairs the_thirds.all the_bools.all) t in
    (c.0.0, c.0.1, same_use the_vertices _ v c.2)

zeros_use : (l : Vertex → Label) (f : Face (Entry Vertex)) → T (zeros l f) → Zeros l f
unfolding zeros zero_point
zeros_use l f h t v e =
    let z = each_use the_thirds (λ t. zero_point l (face_at f t)) h t in
    is_zero_use (l v) (subst (λ (x : Entry Vertex). T (zero_point l x)) e z)

-- only the r-th row holds a face
abbrev pub Alone : Rows → ℕ → Face (Entry Vertex) → Type 0
Alone rows r f = (m : ℕ) → m < length rows → Holds (row_in rows m) f → m ≡ r

module _ (rows : Rows) (r : ℕ) (f : Face (Entry Vertex)) where
  abbrev other : ℕ → Bool
  other m = not (eqb m r) & holds (row_in rows m) f

  others_i : (m : ℕ) → m < length rows → Holds (row_in rows m) f → (m ≡ r) ⊎ Member m (others rows r f)
  unfolding others
  others_i m h p = elim (decide (eqb m r)) [
    | inl t ↦ inl (eqb→eq m r t)
    | inr t ↦ inr (keep_i other (below_i (length rows) m h) (and_i (not (eqb m r)) _ t (holds_i (row_in rows m) f p)))
  ]

  others_use : (m : ℕ) → Member m (others rows r f) → (m < length rows) × (r ≡ m → ⊥)
  unfolding others
  others_use m p =
      let k = kept other (below (length rows)) p in
      (below_lt (length rows) k.0, λ e. T_not (eqb m r) (and_l _ _ k.1) (eqb_of m r (sym e)))

  alone_of : (o : List ℕ) → others rows r f ≡ o → T (alone o) → Alone rows r f
  unfolding alone
  alone_of [] e t m h p = elim (others_i m h p) [
    | inl d ↦ d
    | inr d ↦ absurd (not-suc-le-zero (member_length (subst (Member m) e d)))
  ]
  alone_of (x ∷ o) e t m h p = absurd t

-- what a face of the r-th row, the one that leaves out v, is like
pub data Fate (s : Bool) (l : Vertex → Label) (r : ℕ) (v : Vertex) : Type 0 where
  inner : (m : ℕ) (w : Vertex) → m < length (signed_for s l) → (r ≡ m → ⊥)
      → Opposite (face_for s l r v) (face_for s l m w)
      → ((u : Vertex) → Covers (face_for s l r v) u)
      → ((k : ℕ) → k < length (signed_for s l) → Holds (row_in (signed_for s l) k) (face_for s l r v) → (k ≡ r) ⊎ (k ≡ m))
      → Fate s l r v
  free : ((u : Vertex) → Covers (face_for s l r v) u)
      → Alone (signed_for s l) r (face_for s l r v)
      → Zeros l (face_for s l r v)
      → Fate s l r v
  on_side_law : (q : Vertex) (n : ℕ) (t : Third) → n < length (on_side l q)
      → face_for s l r v ≡ lift q (cycled t (shown s l q n))
      → ((u : Third) → Covers (face_for s l r v) (side q u))
      → Alone (signed_for s l) r (face_for s l r v)
      → (((u : Third) → l (side q u) ≡ Plus → ⊥) → Zeros l (face_for s l r v))
      → Fate s l r v

module _ (s : Bool) (l : Vertex → Label) (r : ℕ) (v : Vertex) where
  abbrev all_rows : Rows
  all_rows = signed_for s l

  abbrev the_face : Face (Entry Vertex)
  the_face = face_for s l r v

  of_inner : (o : List ℕ) → others all_rows r the_face ≡ o → T (covers_all the_face) → T (within l all_rows the_face o)
      → Fate s l r v
  unfolding within covers_all facing alone
  of_inner [] e c t =
      free (λ u. covers_use the_face u (each_use the_vertices (covers the_face) c u))
      (alone_of all_rows r the_face [] e tt) (zeros_use l the_face t)
  of_inner (m ∷ []) e c t =
      let b = others_use all_rows r the_face m (subst (Member m) (sym e) here) in
      let w = any_find (facing all_rows the_face m) (pairs the_vertices.all the_thirds.all) t in
      inner m w.0.0 b.0 b.1 (w.0.1, same_face_use _ _ w.2)
      (λ u. covers_use the_face u (each_use the_vertices (covers the_face) c u))
      (λ k h p. elim (others_i all_rows r the_face k h p) [
        | inl d ↦ inl d
        | inr d ↦ inr (only_one k (subst (Member k) e d))
      ])
    where
      only_one : (k : ℕ) → Member k (m ∷ []) → k ≡ m
      only_one k here = refl
      only_one k (there p) = absurd (not-suc-le-zero (member_length p))
  of_inner (m ∷ n ∷ o) e c t = absurd t

  of_side : T (alone (others all_rows r the_face)) → (q : Vertex) → T (beside s l the_face q) → Fate s l r v
  unfolding beside covers_side showing plus_on
  of_side a q t =
      let p = and_r (covers_side the_face q) _ t in
      let or-zeros = and_r (any (showing s l the_face q) (below (length (on_side l q)))) _ p in
      let n = any_find (showing s l the_face q) (below (length (on_side l q))) (and_l _ _ p) in
      let u = any_find (λ t. same_face the_face (lift q (cycled t (shown s l q n.0)))) the_thirds.all n.2 in
      on_side_law q n.0 u.0 (below_lt _ n.1) (same_face_use _ _ u.2)
      (λ u. covers_use the_face (side q u) (each_use the_thirds (λ t. covers the_face (side q t)) (and_l _ _ t) u))
      (alone_of all_rows r the_face _ refl a)
      (λ np. elim (or_cases (plus_on l q) (zeros l the_face) or-zeros) [
        | inl z ↦ (
            let x = any_find (λ t. is_plus (l (side q t))) the_thirds.all z in
            absurd (np x.0 (is_plus_use _ x.2)))
        | inr z ↦ zeros_use l the_face z
      ])

  pub fate : r < length (signed_for s l) → Fate s l r v
  unfolding fitting fits_at fits
  fate h = elim (if_cases (covers_all the_face) _ _ t) [
    | inl c ↦ of_inner _ refl c.0 c.1
    | inr c ↦ (
        let q = any_find (beside s l the_face) the_vertices.all (and_r (alone (others all_rows r the_face)) _ c) in
        of_side (and_l _ _ c) q.0 q.2)
  ]
    where
      t : T (fits s l the_face all_rows (others all_rows r the_face))
      t =
          each_use the_vertices (fits_at s l all_rows r)
          (below_use (λ r. each the_vertices (fits_at s l all_rows r)) (length all_rows)
          (all_wound (λ s l. fitting s l (signed_for s l)) fitting_ok s l) r h) v

-- with a plus among the labels, a face that three labels put on a side is a face of one row
pub record Showing (s : Bool) (l : Vertex → Label) (q : Vertex) (n : ℕ) : Type 0 where
  pub r : ℕ
  pub v : Vertex
  pub t : Third
  pub inside : r < length (signed_for s l)
  pub is : face_for s l r v ≡ lift q (cycled t (shown s l q n))
  pub only : Alone (signed_for s l) r (face_for s l r v)

module _ (s : Bool) (l : Vertex → Label) where
  pub shown_once : T (has_plus l) → (q : Vertex) (n : ℕ) → n < length (on_side l q) → Showing s l q n
  unfolding showing_all shows_on shows_in shows showing
  shown_once p q n h =
      let Shows-in = shows s l (signed_for s l) q n in
      let x = any_find (λ r. any (Shows-in r) the_vertices.all) (below (length (signed_for s l))) t in
      let y = any_find (Shows-in x.0) the_vertices.all x.2 in
      let f : Face (Entry Vertex) = face_for s l x.0 y.0 in
      let o : List ℕ = others (signed_for s l) x.0 f in
      let is_it : Third → Bool = λ t. same_face f (lift q (cycled t (shown s l q n))) in
      let z = any_find is_it the_thirds.all (and_r (alone o) _ y.2) in
      record {
        r = x.0;
        v = y.0;
        t = z.0;
        inside = below_lt _ x.1;
        is = same_face_use _ _ z.2;
        only = alone_of (signed_for s l) x.0 f o refl (and_l _ _ y.2);
      }
    where
      t : T (shows_in s l (signed_for s l) q n)
      t =
          below_use (shows_in s l (signed_for s l) q) (length (on_side l q))
          (each_use the_vertices (shows_on s l (signed_for s l))
          (imp_use (has_plus l) _ (all_wound (λ s l. showing_all s l (signed_for s l)) showing_all_ok s l) p) q) n h

  is_proper : T (proper l (signed_for s l))
  is_proper = all_wound (λ s l. proper l (signed_for s l)) proper_ok s l

  -- with no plus there are no rows
  pub has_plus_law : (r : ℕ) → r < length (signed_for s l) → T (has_plus l)
  unfolding proper
  has_plus_law r h = elim (or_cases (has_plus l) (eqb (length (signed_for s l)) 0) (and_l _ _ is_proper)) [
    | inl p ↦ p
    | inr e ↦ absurd (omega (arith, eqb→eq (length (signed_for s l)) 0 e))
  ]

  -- what an entry stands on, and the entries of a row differ
  module _ (r : ℕ) (h : r < length (signed_for s l)) (v : Vertex) where
    abbrev entry : Vertex → Entry Vertex
    entry w = row_at (row_in (signed_for s l) r) w

    proper_at_law : T (proper_at l (signed_for s l) r v)
    unfolding proper
    proper_at_law =
        each_use the_vertices (proper_at l (signed_for s l) r)
        (below_use (λ r. each the_vertices (proper_at l (signed_for s l) r)) (length (signed_for s l))
        (and_r (has_plus l || eqb (length (signed_for s l)) 0) _ is_proper) r h) v

    pub stands_at : T (stands l (row_at (row_in (signed_for s l) r) v))
    unfolding proper_at
    stands_at = and_l _ _ proper_at_law

    pub differ : (w : Vertex) → row_at (row_in (signed_for s l) r) v ≡ row_at (row_in (signed_for s l) r) w → v ≡ w
    unfolding proper_at differing
    differ w e =
        let each-other = and_r (stands l (entry v)) _ proper_at_law in
        same_use the_vertices v w
        (imp_use (same_entry (entry v) (entry w)) _ (each_use the_vertices (differing (signed_for s l) r v) each-other w)
        (same_entry_i _ _ e))
