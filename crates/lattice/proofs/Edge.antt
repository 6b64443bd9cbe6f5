-- Edges of the lattice: the far end is a point of the block, the edge is the same seen from there, and it has one start.
-- Assumes nothing.
use Prim.Native.Nat.{ℕ, ◌+◌, ◌*◌, ◌-◌, ◌/◌, ◌≤◌, ◌<◌}
use native.Mathlib.Omega.{arith}
use mathlib.Core.Path.{◌≡◌, refl, sym, ap, subst, ◌∙◌}
use mathlib.Core.Logic.{inl, inr}
use mathlib.Core.Bool.{Bool, true, false, not}
use lib.Dec.{T, leb, leb→le, le→leb}
use Rattle.std.specs.Prelude.{if◌then◌else◌, Some, None}
use Rattle.basics.proofs.Test.{&&-l, &&-r, &&-i, T_true, true_T}
use Rattle.lattice.specs.declared.Sizes.{Sizes}
use Rattle.lattice.specs.declared.Kind.{Kind}
use Rattle.lattice.specs.declared.Kind.TheVariants.{Corner, Centre}
use Rattle.lattice.specs.Axis.{Axis, along_x}
use Rattle.lattice.specs.Counts.{size, grid, points}
use Rattle.lattice.specs.Point.{doubled, other, Inside, number, kind_of, index_of}
use Rattle.lattice.specs.Direction.{long, Code, is_start, direction_of, step, opposite}
use Rattle.lattice.specs.Edge.{stays_in, exists, far_kind, far_index, near, neighbour, byte_at, edge_byte}
use Rattle.lattice.proofs.Axes.{everywhere_use, everywhere_i}
use Rattle.lattice.proofs.Number.{number_lt, number_inj, number_of, inside_of, kind_number, index_number}
use Rattle.lattice.proofs.Codes.{opposite_code, opposite_start, opposite_direction, opposite_up, opposite_down}
use Rattle.lattice.proofs.Codes.{one_way, long_even, short_one, codes_apart}

-- the point (l, j) lies one step of the code c from the point (k, i)
abbrev pub Leads : Kind → (Axis → ℕ) → ℕ → Kind → (Axis → ℕ) → Type 0
Leads k i c l j = (a : Axis) → doubled l (j a) + (step c a).down ≡ doubled k (i a) + (step c a).up

-- doubled coordinates tell kinds and indices apart
pub doubled_inj : (k l : Kind) (x y : ℕ) → doubled k x ≡ doubled l y → (k ≡ l) × (x ≡ y)
doubled_inj Corner Corner x y e = (refl, omega arith)
doubled_inj Corner Centre x y e = absurd (omega arith)
doubled_inj Centre Corner x y e = absurd (omega arith)
doubled_inj Centre Centre x y e = (refl, omega arith)

pub doubled_le : (s : Sizes) (k : Kind) (i : Axis → ℕ) → Inside s k i → (a : Axis) → doubled k (i a) ≤ 2 * size s a
doubled_le s Corner i h a = omega (arith, h a)
doubled_le s Centre i h a = omega (arith, h a)

doubled_inside : (s : Sizes) (k : Kind) (x : ℕ) (a : Axis) → doubled k x ≤ 2 * size s a → x < grid s k a
doubled_inside s Corner x a h = omega arith
doubled_inside s Centre x a h = omega arith

-- a step that stays above 0 ends at a doubled coordinate of the far kind
far_doubled : (k : Kind) (i : Axis → ℕ) (c : ℕ) → Code c → (a : Axis) → (step c a).down ≤ doubled k (i a)
    → doubled (far_kind k c) (far_index k i c a) + (step c a).down ≡ doubled k (i a) + (step c a).up
unfolding far_kind far_index
far_doubled k i c h a low = go (long (direction_of c)) refl k low
  where
    go : (b : Bool) → long (direction_of c) ≡ b → (k : Kind) → (step c a).down ≤ doubled k (i a)
        → doubled (if b then k else other k) ((doubled k (i a) + (step c a).up - (step c a).down) / 2) + (step c a).down
        ≡ doubled k (i a) + (step c a).up
    go true e Corner l = omega (arith, long_even c h a e)
    go true e Centre l = omega (arith, long_even c h a e)
    go false e Corner l = omega (arith, short_one c h a e)
    go false e Centre l = omega (arith, short_one c h a e)

-- the far end of an edge that exists
pub record FarEnd (s : Sizes) (k : Kind) (i : Axis → ℕ) (c q : ℕ) : Type 0 where
  pub kind : Kind
  pub index : Axis → ℕ
  pub inside : Inside s kind index
  pub is : q ≡ number s kind index
  pub leads : Leads k i c kind index

module _ (s : Sizes) (k : Kind) (i : Axis → ℕ) (c : ℕ) where
  -- the step stays between 0 and twice the size along an axis
  abbrev pub Stays : Axis → Type 0
  Stays a = ((step c a).down ≤ doubled k (i a)) × (doubled k (i a) + (step c a).up ≤ 2 * size s a + (step c a).down)

  pub stays : T (exists s k i c) → (a : Axis) → Stays a
  unfolding stays_in
  stays t a =
      let low = leb (step c a).down (doubled k (i a)) in
      let u = everywhere_use (stays_in s k i c) t a in
      (leb→le _ _ (&&-l low _ u), leb→le _ _ (&&-r low _ u))

  exists_i : ((a : Axis) → Stays a) → T (exists s k i c)
  unfolding stays_in
  exists_i h =
      everywhere_i (stays_in s k i c)
      (λ a. &&-i (leb (step c a).down (doubled k (i a))) _ (le→leb _ _ (h a).0) (le→leb _ _ (h a).1))

  -- the number of the far end
  abbrev far_number : ℕ
  far_number = number s (far_kind k c) (far_index k i c)

  pub near_yes : exists s k i c ≡ true → near s k i c ≡ Some (number s (far_kind k c) (far_index k i c))
  unfolding near
  near_yes e = simp e

  pub near_no : exists s k i c ≡ false → near s k i c ≡ None
  unfolding near
  near_no e = simp e

  near_exists : (q : ℕ) → near s k i c ≡ Some q → T (exists s k i c) × (q ≡ far_number)
  unfolding near
  near_exists q e = go (exists s k i c) refl e
    where
      go : (b : Bool) → exists s k i c ≡ b → (if b then Some far_number else None) ≡ Some q → T (exists s k i c) × (q ≡ far_number)
      go true d x = (true_T _ d, cc)
      go false d x = let z : ◌≡◌ {A = ℕ} 0 1 = cc in absurd (omega arith)

  pub far_end : (q : ℕ) → Inside s k i → Code c → near s k i c ≡ Some q → FarEnd s k i c q
  far_end q h g e =
      let x = near_exists q e in
      let there = stays x.0 in
      let leads : Leads k i c (far_kind k c) (far_index k i c) = (λ a. far_doubled k i c g a (there a).0) in
      record {
        kind = far_kind k c;
        index = far_index k i c;
        inside = λ a. doubled_inside s (far_kind k c) (far_index k i c a) a (omega (arith, there a, leads a));
        is = x.1;
        leads = leads;
      }

  pub leads_near : (l : Kind) (j : Axis → ℕ) → Inside s k i → Inside s l j → Code c → Leads k i c l j
      → near s k i c ≡ Some (number s l j)
  leads_near l j h g d x = near_yes (T_true _ (exists_i room)) ∙ (λ t. Some (number s ((same along_x).0 t) (λ a. (same a).1 t)))
    where
      low : (a : Axis) → (step c a).down ≤ doubled k (i a)
      low a = elim (one_way c d a) [ inl u ↦ omega (arith, x a) | inr u ↦ omega arith ]

      room : (a : Axis) → Stays a
      room a = (low a, omega (arith, x a, doubled_le s l j g a))

      same : (a : Axis) → (far_kind k c ≡ l) × (far_index k i c a ≡ j a)
      same a = doubled_inj (far_kind k c) l (far_index k i c a) (j a) (omega (arith, x a, far_doubled k i c d a (low a)))

-- the neighbour of a number is that of its point
pub near_number : (s : Sizes) (k : Kind) (i : Axis → ℕ) → Inside s k i → (c : ℕ) → neighbour s (number s k i) c ≡ near s k i c
near_number s k i h c = λ t. near s (kind_number s k i h t) (λ a. index_number s k i h a t) c

module _ (s : Sizes) (p c q : ℕ) (h : p < points s) (g : Code c) (e : neighbour s p c ≡ Some q) where
  pub far : FarEnd s (kind_of s p) (index_of s p) c q
  far = far_end s (kind_of s p) (index_of s p) c q (inside_of s p h) g e

  pub neighbour_lt : q < points s
  neighbour_lt = let f = far in subst (λ (n : ℕ). n < points s) (sym f.is) (number_lt s f.kind f.index f.inside)

  -- code c from p leads to q, so the opposite code from q leads to p
  pub neighbour_back : neighbour s q (opposite c) ≡ Some p
  neighbour_back =
      ap (λ (n : ℕ). neighbour s n (opposite c)) far.is ∙ near_number s far.kind far.index far.inside (opposite c)
      ∙ leads_near s far.kind far.index (opposite c) (kind_of s p) (index_of s p) far.inside (inside_of s p h) (opposite_code c g) back
      ∙ ap Some (number_of s p h)
    where
      back : Leads far.kind far.index (opposite c) (kind_of s p) (index_of s p)
      back a = omega (arith, far.leads a, opposite_up c g a, opposite_down c g a)

-- and it has the same byte there
pub byte_back : (p c q : ℕ) → Code c → edge_byte p c q ≡ edge_byte q (opposite c) p
unfolding edge_byte
byte_back p c q h = go (is_start c) (opposite_start c h)
  where
    go : (b : Bool) → is_start (opposite c) ≡ not b
        → byte_at (if b then p else q) (direction_of c) ≡ byte_at (if is_start (opposite c) then q else p) (direction_of (opposite c))
    go true e = simp (e, opposite_direction c h)
    go false e = simp (e, opposite_direction c h)

-- one code leads from p to q: so an edge has one start, and one direction there
pub one_code : (s : Sizes) (p c e q : ℕ) → p < points s → Code c → Code e → neighbour s p c ≡ Some q → neighbour s p e ≡ Some q → c ≡ e
one_code s p c e q h g d x y = codes_apart c e g d way
  where
    f : FarEnd s (kind_of s p) (index_of s p) c q
    f = far s p c q h g x

    f' : FarEnd s (kind_of s p) (index_of s p) e q
    f' = far s p e q h d y

    same : (f.kind ≡ f'.kind) × ((a : Axis) → f.index a ≡ f'.index a)
    same = number_inj s f.kind f'.kind f.index f'.index f.inside f'.inside (sym f.is ∙ f'.is)

    way : (a : Axis) → (step c a).up + (step e a).down ≡ (step e a).up + (step c a).down
    way a =
        let z : doubled f.kind (f.index a) ≡ doubled f'.kind (f'.index a) = (λ t. doubled (same.0 t) (same.1 a t)) in
        omega (arith, f.leads a, f'.leads a)
