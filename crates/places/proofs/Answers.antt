-- The parts of the place call, case by case, and that together they are `locate`. Assumes nothing.
use Prim.Native.Nat.{ℕ, ◌*◌, ◌-◌, ◌/◌, ◌%◌, ◌≤◌, ◌<◌}
use native.Mathlib.Omega.{arith}
use mathlib.Core.Path.{◌≡◌, refl, sym, ap, subst, ◌∙◌}
use mathlib.Core.Bool.{Bool, true, false, not}
use mathlib.Core.List.{List}
use lib.IntN.{ℤ, pos, nat_abs}
use lib.ListN.{length, get_or}
use lib.Dec.{T, eqb}
use borrow.Author.Tests.{eq-eqb, ne_eqb, le-leb, lt-leb, lt-ltb, le-ltb}
use Rattle.std.specs.Prelude.{if◌then◌else◌, Option, Some, None, is_some}
use Rattle.lattice.specs.declared.Sizes.{Sizes}
use Rattle.lattice.specs.Axis.{Axis, along_x, along_y, along_z}
use Rattle.lattice.specs.Counts.{sizes_fit, points}
use Rattle.lattice.specs.Point.{doubled, kind_of, index_of}
use Rattle.lattice.specs.Direction.{Code, as_start, is_start, direction, step}
use Rattle.lattice.specs.Edge.{neighbour, byte_at, edge_byte}
use Rattle.moving.specs.Violation.{rule1, measured, violated, violates}
use Rattle.moving.specs.State.{is_move, no_move, says_zero}
use Rattle.moving.proofs.Bytes.{code_move, code_some, none_rests}
use Rattle.geometry.specs.Place.{lattice_place, rest, cut_place, moved_place, point_place, place_of}
use Rattle.geometry.proofs.InBlock.{edge_in}
use Rattle.filling.specs.Located.{placed, unplaced, reaches, believable, stands_to, stands, id_fault, locate}
use Rattle.triple.specs.declared.Place.{Place}
use Rattle.triple.specs.inner.Places.{place_at, along, Nonnegative}
use Rattle.places.specs.inner.Answer.{moved_answer, point_answer, cut_answer}
use Rattle.places.proofs.FromEnd.{moved_along, cut_along_law}

-- an integer that is a natural number
natural : {z : ℤ} (n : ℕ) → z ≡ pos n → z ≡ pos (nat_abs z)
natural n e = rw e refl

pub upward : (r : Place) (n : Axis → ℕ) → ((a : Axis) → place_at r a ≡ pos (n a)) → Nonnegative r
upward r n h =
    record {
      x_up = natural (n along_x) (h along_x);
      y_up = natural (n along_y) (h along_y);
      z_up = natural (n along_z) (h along_z);
    }

-- a lattice place is not below 0, nor is a place on an edge of the block
pub rest_up : (s : Sizes) (p : ℕ) (r : Place) → place_at r ≡ rest s p → Nonnegative r
unfolding lattice_place
rest_up s p r e = upward r (λ a. 256 * doubled (kind_of s p) (index_of s p a)) (λ a. ap (λ (f : Axis → ℤ). f a) e)

pub along-up : (s : Sizes) (p c q t : ℕ) → p < points s → Code c → neighbour s p c ≡ Some q → t ≤ 256 → (r : Place)
    → place_at r ≡ along (rest s p) (step c) t → Nonnegative r
unfolding along
along-up s p c q t h g e l r is =
    upward r (λ a. (edge_in s p h a c q t g e l).steps) (λ a. ap (λ (f : Axis → ℤ). f a) is ∙ (edge_in s p h a c q t g e l).is)

-- whether a cut violates, as the code asks it
pub violated_none : (v : Option ℕ) {w : Option ℕ} → v ≡ w → is_some v ≡ false → violated w ≡ false
unfolding violated
violated_none None e n = sym (ap violated e)
violated_none (Some d) e n = absurd (subst T n tt)

pub violated_some : (v : Option ℕ) {w : Option ℕ} → v ≡ w → is_some v ≡ true → violated w ≡ true
unfolding violated
violated_some None e n = absurd (subst T (sym n) tt)
violated_some (Some d) e n = sym (ap violated e)

-- a point with a code
pub measured-small : (c t : ℕ) → t ≤ 256 → measured c t ≤ 256
unfolding measured
measured-small c t h = go (is_start c)
  where
    go : (z : Bool) → (if z then t else 256 - t) ≤ 256
    go true = h
    go false = omega arith

module _ (s : Sizes) (cuts : List ℕ) (p c : ℕ) where
  pub moved_none : neighbour s p c ≡ None → unplaced 9 ≡ moved_answer s cuts p c (neighbour s p c)
  unfolding moved_answer
  moved_none e = rw e refl

  module _ (q t : ℕ) (e : neighbour s p c ≡ Some q) (byte : t ≡ get_or cuts (edge_byte p c q) 0) where
    pub moved-far : violates rule1 c t ≡ false → unplaced 9 ≡ moved_answer s cuts p c (neighbour s p c)
    unfolding moved_answer
    moved-far v = rw (e, rw byte at v) refl

    pub moved-answer : p < points s → Code c → t ≤ 256 → violates rule1 c t ≡ true → (r : Place)
        → place_at r ≡ along (rest s p) (step c) (measured c t) → placed (place_at r) ≡ moved_answer s cuts p c (neighbour s p c)
    unfolding moved_answer
    moved-answer h g l v r is =
        let by_byte = ap (λ (n : ℕ). along (rest s p) (step c) (measured c n)) byte in
        rw (e, rw byte at v) (ap placed (is ∙ by_byte ∙ sym (moved_along s cuts p c q h g e (rw byte at l))))

-- a point
module _ (s : Sizes) (cuts state : List ℕ) (p : ℕ) where
  pub point-rests : no_move (get_or state p 0) ≡ true → (r : Place) → place_at r ≡ rest s p → placed (place_at r) ≡ point_answer s cuts state p
  unfolding point_answer believable point_place
  point-rests n r is = rw (n, none_rests (get_or state p 0) n) (ap placed is)

  -- neither a move nor none
  pub point-strange : no_move (get_or state p 0) ≡ false → is_move (get_or state p 0) ≡ false → unplaced 9 ≡ point_answer s cuts state p
  unfolding point_answer believable
  point-strange n m = rw (n, m) refl

  pub point-moved : (c : ℕ) → c ≡ get_or state p 0 → Code c → moved_answer s cuts p c (neighbour s p c) ≡ point_answer s cuts state p
  unfolding point_answer believable point_place moved_answer reaches
  point-moved c e k = rw (sym e, code_some c k, code_move c k) (go (neighbour s p c))
    where
      go : (n : Option ℕ) → moved_answer s cuts p c n ≡ (if reaches s cuts state p c n then placed (moved_place s cuts p c n) else unplaced 9)
      go None = refl
      go (Some q) = refl

-- a cut
module _ (s : Sizes) (cuts state : List ℕ) (o : ℕ) where
  abbrev start : ℕ
  start = o / 7

  abbrev end : Option ℕ
  end = neighbour s (o / 7) (as_start (o % 7))

  own : byte_at (o / 7) (o % 7) ≡ o
  own = omega arith

  pub cut_none : end ≡ None → unplaced 8 ≡ cut_answer s cuts state o
  unfolding cut_answer stands stands_to
  cut_none e = rw e refl

  pub cut-absent : get_or cuts o 0 ≡ 0 → unplaced 8 ≡ cut_answer s cuts state o
  unfolding cut_answer stands stands_to
  cut-absent z = go end
    where
      go : (n : Option ℕ) → unplaced 8 ≡ (if stands_to s cuts state (o / 7) (o % 7) n then placed (cut_place s cuts (o / 7) (o % 7)) else unplaced 8)
      go None = refl
      go (Some q) = rw (own, eq-eqb _ _ z) refl

  pub cut-starts : says_zero (get_or state (o / 7) 0) ≡ true → unplaced 8 ≡ cut_answer s cuts state o
  unfolding cut_answer stands stands_to
  cut-starts n = go end (eqb (get_or cuts (byte_at (o / 7) (o % 7)) 0) 0) refl
    where
      go : (n : Option ℕ) (z : Bool) → eqb (get_or cuts (byte_at (o / 7) (o % 7)) 0) 0 ≡ z
          → unplaced 8 ≡ (if stands_to s cuts state (o / 7) (o % 7) n then placed (cut_place s cuts (o / 7) (o % 7)) else unplaced 8)
      go None z e = refl
      go (Some q) true e = rw e refl
      go (Some q) false e = rw (e, n) refl

  module _ (q : ℕ) (e : end ≡ Some q) (b : get_or cuts o 0 ≡ 0 → ⊥) (n : says_zero (get_or state (o / 7) 0) ≡ false) where
    pub cut-ends : says_zero (get_or state q 0) ≡ true → unplaced 8 ≡ cut_answer s cuts state o
    unfolding cut_answer stands stands_to
    cut-ends m = rw (e, own, ne_eqb _ _ b, n, m) refl

    pub cut-answer : says_zero (get_or state q 0) ≡ false → (r : Place) → place_at r ≡ along (rest s (o / 7)) (direction (o % 7)) (get_or cuts o 0)
        → placed (place_at r) ≡ cut_answer s cuts state o
    unfolding cut_answer stands stands_to
    cut-answer m r is =
        let by-own = ap (λ (i : ℕ). along (rest s (o / 7)) (direction (o % 7)) (get_or cuts i 0)) own in
        rw (e, own, ne_eqb _ _ b, n, m)
        (ap placed (is ∙ sym (cut_along_law s cuts (o / 7) (o % 7) ∙ by-own)))

-- the call
module _ (s : Sizes) (cuts state : List ℕ) (id : ℕ) where
  pub call-size : sizes_fit s ≡ false → unplaced 1 ≡ locate s cuts state id
  unfolding locate
  call-size e = rw e refl

  module _ (f : sizes_fit s ≡ true) where
    pub call-cuts : (length cuts ≡ 7 * points s → ⊥) → unplaced 3 ≡ locate s cuts state id
    unfolding locate
    call-cuts n = rw (f, ne_eqb _ _ n) refl

    module _ (lc : length cuts ≡ 7 * points s) where
      pub call-state : (length state ≡ points s → ⊥) → unplaced 4 ≡ locate s cuts state id
      unfolding locate
      call-state n = rw (f, eq-eqb _ _ lc, ne_eqb _ _ n) refl

      module _ (ls : length state ≡ points s) where
        called : locate s cuts state id
            ≡ (if not (eqb (id_fault s cuts state id) 0) then unplaced (id_fault s cuts state id) else placed (place_of s cuts state id))
        unfolding locate
        called = rw (f, eq-eqb _ _ lc, eq-eqb _ _ ls) refl

        pub call-point : id < points s → point_answer s cuts state id ≡ locate s cuts state id
        unfolding point_answer id_fault place_of
        call-point l = rw (called, lt-ltb _ _ l) (go (believable s cuts state id))
          where
            go : (z : Bool) → (if z then placed (point_place s cuts state id) else unplaced 9)
                ≡ (if not (eqb (if z then 0 else 9) 0) then unplaced (if z then 0 else 9) else placed (point_place s cuts state id))
            go true = refl
            go false = refl

        pub call-cut : points s ≤ id → id < 8 * points s → cut_answer s cuts state (id - points s) ≡ locate s cuts state id
        unfolding cut_answer id_fault place_of
        call-cut l u = rw (called, le-ltb _ _ l, lt-leb _ _ u) (go (stands s cuts state (id - points s)))
          where
            at : Axis → ℤ
            at = cut_place s cuts ((id - points s) / 7) ((id - points s) % 7)

            go : (z : Bool) → (if z then placed at else unplaced 8)
                ≡ (if not (eqb (if z then 0 else 8) 0) then unplaced (if z then 0 else 8) else placed at)
            go true = refl
            go false = refl

        pub call-past : 8 * points s ≤ id → unplaced 8 ≡ locate s cuts state id
        unfolding id_fault
        call-past l = rw (called, le-ltb id (points s) (omega arith), le-leb _ _ l) refl
