-- F-8, "Mark points that lie on the skin unmoved", compared: filling without the mark beside today's. Whatever is handed in; nothing is
-- assumed.
--
-- `fill_unmarked` is today's filling without F-8: its state table is `state_unmarked` (F8Points), and M and the skin (`moved_unmarked`,
-- `OnSkinUnmarked`) are in document 01's words, by "non-zero state bytes". Its tests of the rim and of the cut bytes read labels, as F-9
-- says: it is not what stood before F-8, but what would stand today without F-8.
--     only_marked       "Rows and faces do not change": the answer, T and M in it, and the row table of every call are the same; the state
--                       table too, or it differs only in the marks
--     rows_unmarked     the rows are the same
--     moved_unmarked_law    M is the same, counted as bytes that are not 0 or as moves
--     skin_as_before    what lies on the skin of demand 3 lies on it without the mark
--     skin_back         and the other way round
--     place_as_before   every id has the same place
use Prim.Native.Nat.{ℕ, ◌-◌, ◌*◌, ◌/◌, ◌%◌, ◌<◌}
use mathlib.Core.Path.{◌≡◌, refl, sym, ap, ◌∙◌}
use mathlib.Core.Logic.{◌⊎◌, inl, inr}
use mathlib.Core.Bool.{Bool, true, false, not}
use mathlib.Core.List.{List}
use lib.Dec.{ltb, leb, eqb}
use lib.ListN.{length, get_or}
use borrow.Author.Tests.{ne_eqb}
use Rattle.std.specs.Prelude.{if◌then◌else◌, Some}
use Rattle.basics.specs.Lists.{count}
use Rattle.basics.proofs.Test.{false_F, true_T}
use Rattle.basics.proofs.Search.{count_same}
use Rattle.lattice.specs.Counts.{sizes_fit, points}
use Rattle.lattice.specs.Direction.{as_start}
use Rattle.lattice.specs.Edge.{neighbour, byte_at}
use Rattle.moving.specs.declared.Label.TheVariants.{Zero}
use Rattle.moving.specs.Label.{labels, band_fits, is_zero}
use Rattle.moving.specs.State.{is_move, skin_mark}
use Rattle.moving.specs.Reading.{Reading}
use Rattle.moving.specs.Moving.{state_of}
use Rattle.moving.specs.Block.{Block, reading_of}
use Rattle.moving.proofs.Bytes.{zero_rests}
use Rattle.stencil.specs.Id.{cut_id}
use Rattle.geometry.specs.Place.{Place, rest, cut_place, moved_place, point_place, place_of}
use Rattle.filling.specs.Mesh.{rows_over, rows_with, table}
use Rattle.filling.specs.Check.{cut_fault, first_rim, first_cut}
use Rattle.filling.specs.Demand.{OnSkin, a_cut, a_moved_point, a_zero_label}
use Rattle.filling.specs.Fill.{Outcome, moved_count, overwritten, refused, written, fill}
use Rattle.history.proofs.F8Points.{state_unmarked, alike, same_labels, marked_only, same_or_rests, same_move, unmarked_move}

-- "M, the non-zero state bytes"
unfoldable pub moved_unmarked : List ℕ → ℕ
moved_unmarked state = count (λ p. not (eqb (get_or state p 0) 0)) (length state)

module _ (state rows : List ℕ) where
  unfoldable pub written_unmarked : Reading → Outcome
  written_unmarked m =
      let codes = state_unmarked m in
      let mesh = rows_with m codes in
      let fits = leb (4 * length mesh) (length rows) in
      record {
        answer = record { number = if fits then 0 else 10; rows = length mesh; moved = moved_unmarked codes; place = 0 };
        state = codes;
        rows = if fits then overwritten (table mesh) rows else rows;
      }

unfoldable pub fill_unmarked : ℕ → Block → List ℕ → List ℕ → Outcome
fill_unmarked band b state rows =
    let s = b.sizes in
    let label = labels band b.samples in
    let rim = first_rim s label in
    let cut = first_cut s label b.cuts in
    let refuse = refused state rows in
    if not (sizes_fit s) then refuse 1 0
    else if not (band_fits band) then refuse 14 0
    else if not (eqb (length b.samples) (points s)) then refuse 2 0
    else if not (eqb (length b.cuts) (7 * points s)) then refuse 3 0
    else if not (eqb (length state) (points s)) then refuse 4 0
    else if ltb rim (points s) then refuse 5 rim
    else if ltb cut (7 * points s) then refuse (cut_fault s label b.cuts cut) cut
    else written_unmarked state rows (reading_of band b)

pub data OnSkinUnmarked (m : Reading) (id : ℕ) : Type 0 where
  was_cut : (p d q : ℕ) → p < points m.sizes → d < 7 → neighbour m.sizes p (as_start d) ≡ Some q
      → (get_or m.cuts (byte_at p d) 0 ≡ 0 → ⊥) → id ≡ cut_id m.sizes p d → OnSkinUnmarked m id
  was_moved : id < points m.sizes → (get_or (state_unmarked m) id 0 ≡ 0 → ⊥) → OnSkinUnmarked m id
  was_zero : id < points m.sizes → m.label id ≡ Zero → OnSkinUnmarked m id

module _ (m : Reading) where
  -- a point is where it was: it has the same byte, or it did not move
  same_point : (p : ℕ) → point_place m.sizes m.cuts (state_unmarked m) p ≡ point_place m.sizes m.cuts (state_of m) p
  unfolding point_place
  same_point p =
      elim (same_or_rests m p) [
        | inl e ↦ ap (λ (c : ℕ). if is_move c then moved_place m.sizes m.cuts p c (neighbour m.sizes p c) else rest m.sizes p) e
        | inr r ↦ rw (r.0, r.1) refl
      ]

  pub place_as_before : (id : ℕ) → place_of m.sizes m.cuts (state_unmarked m) id ≡ place_of m.sizes m.cuts (state_of m) id
  unfolding place_of
  place_as_before id = go (ltb id (points m.sizes))
    where
      cut : Place
      cut = cut_place m.sizes m.cuts ((id - points m.sizes) / 7) ((id - points m.sizes) % 7)

      go : (b : Bool) → (if b then point_place m.sizes m.cuts (state_unmarked m) id else cut)
          ≡ (if b then point_place m.sizes m.cuts (state_of m) id else cut)
      go true = same_point id
      go false = refl

  -- so every row is what it was
  pub rows_unmarked : rows_with m (state_unmarked m) ≡ rows_with m (state_of m)
  rows_unmarked = λ i. rows_over m.sizes (λ p. same_labels m p i) (λ id. place_as_before id i)

  -- "M, the non-zero state bytes" were those that are moves
  pub moved_unmarked_law : moved_unmarked (state_unmarked m) ≡ moved_count (state_of m)
  unfolding moved_unmarked moved_count
  moved_unmarked_law =
      count_same (λ p. not (eqb (get_or (state_unmarked m) p 0) 0)) (λ p. is_move (get_or (state_of m) p 0)) (length (state_unmarked m))
      (λ p l. sym (unmarked_move m p) ∙ same_move m p)
      ∙ ap (count (λ p. is_move (get_or (state_of m) p 0))) ((alike m).plain_long ∙ sym (alike m).marked_long)

  pub skin_as_before : (id : ℕ) → OnSkin m id → OnSkinUnmarked m id
  skin_as_before id (a_cut p d q l u to n e) = was_cut p d q l u to n e
  skin_as_before id (a_moved_point l t) =
      was_moved l (λ z. false_F _ (sym (same_move m id) ∙ zero_rests (get_or (state_unmarked m) id 0) z) t)
  skin_as_before id (a_zero_label l z) = was_zero l z

  pub skin_back : (id : ℕ) → OnSkinUnmarked m id → OnSkin m id
  skin_back id (was_cut p d q l u to n e) = a_cut p d q l u to n e
  skin_back id (was_moved l n) = a_moved_point l (true_T _ (sym (same_move m id) ∙ unmarked_move m id ∙ ap not (ne_eqb _ _ n)))
  skin_back id (was_zero l z) = a_zero_label l z

-- what one outcome is beside another: the answer and the row table are the same; so is the state table, or it differs only in the marks
pub record OnlyMarked (m : Reading) (after before : Outcome) : Type 0 where
  pub answer : after.answer ≡ before.answer
  pub rows : after.rows ≡ before.rows
  pub state : (after.state ≡ before.state)
      ⊎ ((p : ℕ) → p < points m.sizes → get_or after.state p 0 ≡ (if is_zero (m.label p) then skin_mark else get_or before.state p 0))

-- a call that is refused is refused either way
unless : {m : Reading} (fault : Bool) (r : Outcome) {x y : Outcome} → OnlyMarked m x y
    → OnlyMarked m (if fault then r else x) (if fault then r else y)
unless true r h = record { answer = refl; rows = refl; state = inl refl }
unless false r h = h

written_marked : (state rows : List ℕ) (m : Reading) → OnlyMarked m (written state rows m) (written_unmarked state rows m)
unfolding written written_unmarked
written_marked state rows m =
    record {
      answer = rw (rows_unmarked m, moved_unmarked_law m) refl;
      rows = rw (rows_unmarked m) refl;
      state = inr (marked_only m);
    }

-- the theorem
pub only_marked : (band : ℕ) (b : Block) (state rows : List ℕ)
    → OnlyMarked (reading_of band b) (fill band b state rows) (fill_unmarked band b state rows)
unfolding fill fill_unmarked
only_marked band b state rows =
    let s = b.sizes in
    let label = labels band b.samples in
    let rim = first_rim s label in
    let cut = first_cut s label b.cuts in
    let refuse = refused state rows in
    unless (not (sizes_fit s)) (refuse 1 0)
    (unless (not (band_fits band)) (refuse 14 0)
    (unless (not (eqb (length b.samples) (points s))) (refuse 2 0)
    (unless (not (eqb (length b.cuts) (7 * points s))) (refuse 3 0)
    (unless (not (eqb (length state) (points s))) (refuse 4 0)
    (unless (ltb rim (points s)) (refuse 5 rim)
    (unless (ltb cut (7 * points s)) (refuse (cut_fault s label b.cuts cut) cut)
    (written_marked state rows (reading_of band b))))))))
