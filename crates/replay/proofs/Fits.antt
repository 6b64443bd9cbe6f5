-- What a record that fits is like. Assumes nothing.
use Prim.Native.Nat.{ℕ, ◌+◌, ◌*◌, ◌≤◌}
use mathlib.Core.Path.{◌≡◌}
use mathlib.Core.Bool.{true}
use lib.Dec.{eqb, leb, eqb→eq, leb→le}
use Rattle.basics.proofs.Test.{&&-l, &&-r, true_T}
use Rattle.lattice.specs.Counts.{most_points}
use Rattle.replay.specs.declared.Lengths.{Lengths}
use Rattle.replay.specs.program.Fills.{ids_at, fits}

pub record Fits (l : Lengths) (body samples state rows : ℕ) : Type 0 where
  pub whole : body ≡ ids_at l + 2 * l.ids
  pub few : l.samples ≤ most_points
  pub sample_room : l.samples ≤ samples
  pub state_room : l.state ≤ state
  pub row_room : l.rows ≤ rows
  pub id_room : l.ids ≤ l.rows

pub it_fits : (l : Lengths) (body samples state rows : ℕ) → fits l body samples state rows ≡ true → Fits l body samples state rows
unfolding fits
it_fits l body samples state rows e =
    let t1 = true_T _ e in
    let t2 = &&-r (eqb body (ids_at l + 2 * l.ids)) _ t1 in
    let t3 = &&-r (leb l.samples most_points) _ t2 in
    let t4 = &&-r (leb l.samples samples) _ t3 in
    let t5 = &&-r (leb l.state state) _ t4 in
    record {
      whole = eqb→eq _ _ (&&-l (eqb body (ids_at l + 2 * l.ids)) _ t1);
      few = leb→le _ _ (&&-l (leb l.samples most_points) _ t2);
      sample_room = leb→le _ _ (&&-l (leb l.samples samples) _ t3);
      state_room = leb→le _ _ (&&-l (leb l.state state) _ t4);
      row_room = leb→le _ _ (&&-l (leb l.rows rows) _ t5);
      id_room = leb→le _ _ (&&-r (leb l.rows rows) _ t5);
    }
