-- From the rules of samples, bytes and moves to the hypotheses of the mesh theorem: what is read is sound, and after moving no rim point
-- is plus. Whatever moves reached the codes. Assumes nothing.
use Prim.Native.Nat.{ℕ, ◌+◌, ◌-◌, ◌/◌, ◌%◌, ◌≤◌, ◌<◌}
use native.Mathlib.Omega.{arith}
use mathlib.Core.Path.{◌≡◌, refl, sym, ap, ◌∙◌}
use mathlib.Core.Bool.{Bool, true, false}
use mathlib.Core.List.{List}
use lib.IntN.{ℤ, pos, ◌+ℤ◌, ◌*ℤ◌}
use lib.ListN.{get_or}
use lib.Dec.{T}
use borrow.Author.Tests.{lt-ltb, le-ltb}
use Rattle.std.specs.Prelude.{if◌then◌else◌, Some}
use Rattle.basics.proofs.Test.{true_T}
use Rattle.basics.proofs.Integer.{ring, nat, int, ◌⊕◌, ◌⊗◌}
use Rattle.lattice.specs.declared.Sizes.{Sizes}
use Rattle.lattice.specs.declared.Kind.{Kind}
use Rattle.lattice.specs.Axis.{Axis}
use Rattle.lattice.specs.Counts.{points}
use Rattle.lattice.specs.Point.{doubled, Inside, number}
use Rattle.lattice.specs.Direction.{as_start, direction_of, direction, long, step}
use Rattle.lattice.specs.Edge.{neighbour, byte_at}
use Rattle.lattice.specs.Rim.{rim_at, rim}
use Rattle.lattice.proofs.Number.{number_lt, kind_number, index_number}
use Rattle.lattice.proofs.Codes.{start_step}
use Rattle.lattice.proofs.Edge.{leads_near, near_number}
use Rattle.moving.specs.declared.Label.{Label}
use Rattle.moving.specs.Label.{is_plus, is_zero, opposed}
use Rattle.moving.specs.Violation.{rule1, limit}
use Rattle.moving.specs.State.{is_move}
use Rattle.moving.specs.Reading.{Reading, label_after}
use Rattle.moving.specs.Moving.{outset}
use Rattle.moving.specs.Block.{Bytes}
use Rattle.moving.proofs.Labels.{opposed_near, opposed_far}
use Rattle.moving.proofs.Settled.{NonZero, Reached}
use Rattle.moving.proofs.Bytes.{zero_rests, nonzero_still, label_still}
use Rattle.moving.proofs.Moved.{reached_move}
use Rattle.stencil.specs.Id.{cut_id}
use Rattle.geometry.specs.Place.{Place, lattice_place, signed, cut_place, point_place, place_of}
use Rattle.geometry.proofs.FromEnd.{rest_along}
use Rattle.filling.proofs.Fits.{Fits}
use Rattle.faces.proofs.Signed.{NoRim}
use Rattle.volumes.proofs.Sound.{reach, Moved, Sound}
use Rattle.conformity.proofs.Warp.{moved_within, still_stands}

-- the limits of document 01 lie within those for which the mesh theorem is shown
pub limit_reach : (c : ℕ) → limit rule1 (direction_of c) ≤ reach c
unfolding limit
limit_reach c = go (long (direction_of c))
  where
    go : (l : Bool) → (if l then rule1.long_limit else rule1.short_limit) ≤ (if l then 63 else 127)
    go true = omega arith
    go false = omega arith

-- the rim by the number
rim_number : (s : Sizes) (k : Kind) (i : Axis → ℕ) → Inside s k i → rim s (number s k i) ≡ rim_at s k i
rim_number s k i h = λ t. rim_at s (kind_number s k i h t) (λ a. index_number s k i h a t)

-- after moving: the label of a point, and the place of an id
abbrev pub final_label : Reading → List ℕ → ℕ → Label
final_label m codes = label_after m.label codes

abbrev pub final_place : Reading → List ℕ → ℕ → Place
final_place m codes = place_of m.sizes m.cuts codes

module _ {m : Reading} (codes : List ℕ) (fits : Fits m) where
  -- a label that is not zero after moving is the one before
  unchanged : (p : ℕ) → NonZero (final_label m codes p) → final_label m codes p ≡ m.label p
  unchanged p t = label_still m.label codes p (nonzero_still m.label codes p t)

  -- an edge whose ends are opposed after moving has a byte
  pub edge_byte_law : (p d q : ℕ) → p < points m.sizes → d < 7 → neighbour m.sizes p (as_start d) ≡ Some q
      → T (opposed (final_label m codes p) (final_label m codes q)) → 0 < get_or m.cuts (byte_at p d) 0
  edge_byte_law p d q l u to t =
      let here = unchanged p (opposed_near (final_label m codes p) (final_label m codes q) t) in
      let there = unchanged q (opposed_far (final_label m codes p) (final_label m codes q) t) in
      fits.cut p d q l u to (rw (here, there) at t)

  pub no_rim : NoRim m.sizes (final_label m codes)
  unfolding is_plus is_zero
  no_rim k i x t e = fits.no_plus p (number_lt m.sizes k i x) (rw (rim_number m.sizes k i x) t) plus
    where
      p : ℕ
      p = number m.sizes k i

      plus : T (is_plus (m.label p))
      plus = rw (sym (unchanged p (rw e tt)) ∙ e) tt

  module _ (bytes : Bytes m.cuts) (small : (c : ℕ) → limit m.rule (direction_of c) ≤ reach c)
      (reached : Reached m (outset m) codes) where
    module _ (k : Kind) (i : Axis → ℕ) (inside : Inside m.sizes k i) where
      abbrev p : ℕ
      p = number m.sizes k i

      place_point : final_place m codes p ≡ point_place m.sizes m.cuts codes p
      unfolding place_of
      place_point = rw (lt-ltb _ _ (number_lt m.sizes k i inside)) refl

      standing : is_move (get_or codes p 0) ≡ false → (a : Axis) → final_place m codes p a ≡ lattice_place k i a
      standing e a = ap (λ (f : Place). f a) place_point ∙ still_stands m k i inside codes e a

      moves : Moved k i (final_place m codes p)
      moves = go (is_move (get_or codes p 0)) refl
        where
          -- no step at all, by any code
          none : (x y : ℤ) → x ≡ x +ℤ pos 0 *ℤ y
          none x y = ring (int x) (int x ⊕ nat 0 ⊗ int y) (omega arith)

          go : (t : Bool) → is_move (get_or codes p 0) ≡ t → Moved k i (final_place m codes p)
          go false e =
              record {
                c = 1;
                code = record { low = omega arith; high = omega arith };
                t = 0;
                within = omega arith;
                is = λ a. standing e a ∙ none (lattice_place k i a) (signed (step 1 a));
              }
          go true e =
              let moved = true_T _ e in
              let v = reached_move m reached p (number_lt m.sizes k i inside) moved in
              let w = moved_within m k i inside bytes (outset m) codes v.0 moved v.1 in
              record {
                c = get_or codes p 0;
                code = w.code;
                t = w.t;
                within = omega (arith, w.within, small (get_or codes p 0));
                is = λ a. ap (λ (f : Place). f a) place_point ∙ w.is a;
              }

      -- a cut's place
      cut_place_law : (d : ℕ) → d < 7 → (a : Axis) → final_place m codes (cut_id m.sizes p d) a
          ≡ lattice_place k i a +ℤ pos (get_or m.cuts (byte_at p d) 0) *ℤ signed (direction d a)
      unfolding place_of cut_place
      cut_place_law d h a = rw (le-ltb id (points m.sizes) (omega arith), start, way, rest_along m.sizes k i inside a) refl
        where
          id : ℕ
          id = cut_id m.sizes p d

          start : (id - points m.sizes) / 7 ≡ p
          start = omega arith

          way : (id - points m.sizes) % 7 ≡ d
          way = omega arith

    -- an edge by the kinds and indices of its ends
    edge_near : (k l : Kind) (i j : Axis → ℕ) (d : ℕ) → Inside m.sizes k i → Inside m.sizes l j → d < 7
        → ((a : Axis) → doubled l (j a) + (direction d a).down ≡ doubled k (i a) + (direction d a).up)
        → neighbour m.sizes (number m.sizes k i) (as_start d) ≡ Some (number m.sizes l j)
    edge_near k l i j d x y u e =
        near_number m.sizes k i x (as_start d)
        ∙ leads_near m.sizes k i (as_start d) l j x y (record { low = omega arith; high = omega arith })
        (λ a. rw (start_step d u a) (e a))

    pub sound : Sound m.sizes (final_label m codes) (λ o. get_or m.cuts o 0) (final_place m codes)
    sound =
        record {
          moves = moves;
          still = λ k i x t. standing k i x (zero_rests _ (nonzero_still m.label codes (number m.sizes k i) t));
          bytes = λ k l i j d x y u e t. (
            edge_byte_law (number m.sizes k i) d (number m.sizes l j) (number_lt m.sizes k i x) u (edge_near k l i j d x y u e) t,
            bytes (byte_at (number m.sizes k i) d),
          );
          cut_places = λ k i d x u. cut_place_law k i x d u;
        }
