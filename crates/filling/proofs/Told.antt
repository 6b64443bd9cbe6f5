-- Document 02, F-8: what the state table that filling leaves says of every point. Assumes nothing.
--     told        each byte, and what it says
--     skin_told   so the lattice points on the skin of demand 3 are just those whose byte is not 0
use Prim.Native.Nat.{ℕ, ◌<◌}
use native.Mathlib.Omega.{arith}
use mathlib.Core.Path.{◌≡◌}
use mathlib.Core.Logic.{◌⊎◌}
use mathlib.Core.Bool.{not, ◌||◌, ◌&&◌}
use mathlib.Core.List.{List}
use lib.Dec.{eqb}
use lib.ListN.{get_or}
use Rattle.basics.proofs.Test.{true_T, false_F}
use Rattle.lattice.specs.Counts.{points}
use Rattle.moving.specs.Label.{is_zero}
use Rattle.moving.specs.State.{is_move, skin_mark, says_zero}
use Rattle.moving.specs.Reading.{Reading, label_after}
use Rattle.moving.specs.Moving.{choice, state_at, state_of}
use Rattle.moving.specs.Block.{Block, reading_of}
use Rattle.moving.proofs.Bytes.{code_move, zero_rests}
use Rattle.moving.proofs.Moved.{
  state_reached,
  Says,
  still,
  marked,
  moved,
  reached_byte,
  reached_rests,
  mark_said,
  zero_said,
  move_said,
  turn_said,
  skin_said,
}
use Rattle.filling.specs.Demand.{OnSkin, a_cut, a_moved_point, a_zero_label}
use Rattle.filling.specs.Fill.{fill}
use Rattle.filling.proofs.Accepted.{passed_all}
use Rattle.filling.proofs.Written.{state_written}

-- each as a test that comes out alike
pub record Told (m : Reading) (codes : List ℕ) (p : ℕ) : Type 0 where
  -- its label is zero exactly if its state byte is not 0
  pub zero : is_zero (label_after m.label codes p) ≡ says_zero (get_or codes p 0)
  -- its label was zero from the start exactly if the byte is 15
  pub mark : is_zero (m.label p) ≡ eqb (get_or codes p 0) skin_mark
  -- it moved at its turn exactly if the byte is 1 to 14
  pub moved : is_move (choice m (state_at m p) p) ≡ is_move (get_or codes p 0)
  -- so its byte is not 0 exactly if its label was zero from the start, or it moved
  pub either : (is_zero (m.label p) || is_move (choice m (state_at m p) p)) ≡ says_zero (get_or codes p 0)
  -- and it moved exactly if its label is zero, and was not at the outset
  pub faded : (is_zero (label_after m.label codes p) && not (is_zero (m.label p))) ≡ is_move (get_or codes p 0)

-- after 10 too the state table is filled
pub told : (band : ℕ) (b : Block) (state rows : List ℕ) (n : ℕ) → (n ≡ 0) ⊎ (n ≡ 10) → (fill band b state rows).answer.number ≡ n
    → (p : ℕ) → p < points b.sizes → Told (reading_of band b) (fill band b state rows).state p
told band b state rows n h e p l =
    let m = reading_of band b in
    let passed = passed_all band b state rows n h e in
    rw (state_written band b state rows passed.accepted passed.state_long)
    (record {
      zero = zero_said m (state_reached m) p l;
      mark = mark_said m (state_reached m) p l;
      moved = turn_said m p l;
      either = skin_said m p l;
      faded = move_said m (state_reached m) p l;
    })

module _ (m : Reading) (p : ℕ) (h : p < points m.sizes) where
  on_skin : OnSkin m p → get_or (state_of m) p 0 ≡ 0 → ⊥
  on_skin (a_cut q d r l u to n e) z = omega arith
  on_skin (a_moved_point l t) z = false_F _ (zero_rests (get_or (state_of m) p 0) z) t
  on_skin (a_zero_label l e) z = omega (arith, reached_rests m (state_reached m) p h e)

  skin_on : (get_or (state_of m) p 0 ≡ 0 → ⊥) → OnSkin m p
  skin_on n = go (reached_byte m (state_reached m) p h)
    where
      go : Says m (state_reached m) p → OnSkin m p
      go (still e _) = absurd (n e)
      go (marked _ e) = a_zero_label h e
      go (moved v) = a_moved_point h (true_T _ (code_move (get_or (state_of m) p 0) v.1.edge.code))

pub skin_told : (band : ℕ) (b : Block) (state rows : List ℕ) (n : ℕ) → (n ≡ 0) ⊎ (n ≡ 10) → (fill band b state rows).answer.number ≡ n
    → (p : ℕ) → p < points b.sizes
    → (OnSkin (reading_of band b) p → get_or (fill band b state rows).state p 0 ≡ 0 → ⊥)
    × ((get_or (fill band b state rows).state p 0 ≡ 0 → ⊥) → OnSkin (reading_of band b) p)
skin_told band b state rows n h e p l =
    let m = reading_of band b in
    let passed = passed_all band b state rows n h e in
    rw (state_written band b state rows passed.accepted passed.state_long) (on_skin m p l, skin_on m p l)
