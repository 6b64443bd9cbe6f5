-- Points that move only to cuts that violate them make a run, and a point that moves if it can is calm after its turn.
-- So an order that takes every point settles the table. Assumes nothing.
use Prim.Native.Nat.{ℕ, ◌<◌}
use native.Mathlib.Omega.{arith}
use mathlib.Core.Path.{◌≡◌, sym, ◌∙◌}
use mathlib.Core.Logic.{inl, inr}
use mathlib.Core.List.{List, [], ◌∷◌}
use lib.ListN.{length, get_or}
use lib.Seq.{get_or-set_same}
use Rattle.basics.proofs.Test.{Member, here, there}
use Rattle.lattice.specs.Counts.{points}
use Rattle.moving.specs.Reading.{Reading}
use Rattle.moving.specs.Order.{turn, move_by}
use Rattle.moving.proofs.Settled.{MayMove, Calm, Settled}
use Rattle.moving.proofs.Bytes.{same_or, nonzero_still}
use Rattle.moving.proofs.Run.{Run, start, move, run_calm, run_reached}
use Rattle.moving.proofs.Turns.{turn_still, turn_moves, turn_length}

-- only what may move is chosen to
abbrev pub Sound : Reading → (List ℕ → ℕ → ℕ) → Type 0
Sound m pick = (t : List ℕ) (p : ℕ) → p < points m.sizes → (pick t p ≡ 0 → ⊥) → MayMove m t p (pick t p)

-- whenever p is not chosen to move, nothing violates it
abbrev pub Complete : Reading → (List ℕ → ℕ → ℕ) → ℕ → Type 0
Complete m pick p = (t : List ℕ) → pick t p ≡ 0 → Calm m t p

-- a point moves, to a cut that violates it, exactly if there is one
pub record Chooser (m : Reading) (pick : List ℕ → ℕ → ℕ) : Type 0 where
  pub sound : Sound m pick
  pub complete : (p : ℕ) → Complete m pick p

-- a list of points
abbrev pub PointsOnly : Reading → List ℕ → Type 0
PointsOnly m order = (p : ℕ) → Member p order → p < points m.sizes

module _ {m : Reading} {pick : List ℕ → ℕ → ℕ} (sound : Sound m pick) where
  module _ {s : List ℕ} (long : length s ≡ points m.sizes) where
    pub run_turn : {t : List ℕ} (p : ℕ) → p < points m.sizes → Run m s t → Run m s (turn pick t p)
    run_turn {t} p h r =
        elim (same_or (pick t p) 0) [
          | inl z ↦ rw (turn_still pick t p z) r
          | inr n ↦ (let v = (sound t p h n).1 in rw (turn_moves pick t p v.edge.code) (move r v))
        ]

    pub run_move_by : {t : List ℕ} (order : List ℕ) → PointsOnly m order → Run m s t → Run m s (move_by pick order t)
    unfolding move_by
    run_move_by [] h r = r
    run_move_by {t = t} (p ∷ order) h r =
        run_move_by {t = turn pick t p} order (λ q i. h q (there i)) (run_turn p (h p here) r)

  -- after its turn a point is calm: nothing violated it, or it moved and its label is zero
  turn_calm : (t : List ℕ) (p : ℕ) → length t ≡ points m.sizes → p < points m.sizes → Complete m pick p
      → Calm m (turn pick t p) p
  turn_calm t p long h complete =
      elim (same_or (pick t p) 0) [
        | inl z ↦ rw (turn_still pick t p z) (complete t z)
        | inr n ↦ λ c q v. n (sym (at n) ∙ nonzero_still m.label (turn pick t p) p v.here)
      ]
    where
      at : (pick t p ≡ 0 → ⊥) → get_or (turn pick t p) p 0 ≡ pick t p
      at n = rw (turn_moves pick t p (sound t p h n).1.edge.code) (get_or-set_same t p (pick t p) 0 (omega (arith, long)))

  pub move_by_calm : (t : List ℕ) {p : ℕ} (order : List ℕ) → length t ≡ points m.sizes → PointsOnly m order
      → Complete m pick p → Member p order → Calm m (move_by pick order t) p
  unfolding move_by
  move_by_calm t [] long h complete i = elim i [ ]
  move_by_calm t (p ∷ order) long h complete here =
      let turned = turn_length pick t p ∙ long in
      let after = run_move_by turned order (λ q i. h q (there i)) start in
      run_calm turned p after (turn_calm t p long (h p here) complete)
  move_by_calm t (x ∷ order) long h complete (there i) =
      move_by_calm (turn pick t x) order (turn_length pick t x ∙ long) (λ q i. h q (there i)) complete i

-- whatever the choice and the order
pub order_settles : {m : Reading} {pick : List ℕ → ℕ → ℕ} {s : List ℕ} (order : List ℕ) → Chooser m pick
    → length s ≡ points m.sizes → PointsOnly m order → ((p : ℕ) → p < points m.sizes → Member p order)
    → Settled m s (move_by pick order s)
order_settles {s = s} order k long only all =
    record {
      reached = run_reached long (run_move_by k.sound long order only start);
      calm = λ p c q v. move_by_calm k.sound s order long only (k.complete p) (all p v.edge.point) c q v;
    }
