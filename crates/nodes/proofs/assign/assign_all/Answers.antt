-- The loop's invariant: the windows before w are done, and w is marked. Assumes nothing.
use Prim.Native.Nat.{◌*◌}
use native.Mathlib.Omega.{arith}
use mathlib.Core.Path.{◌≡◌, refl}
use lib.ListN.{length}
use Rattle.windows.specs.inner.Windows.{window}
use Rattle.nodes.proofs.Filled.{spare_long}
use Rattle.nodes.proofs.Assigning.{reached_none, first_fits, spare_starts, write_room, known_now, reached_on, known_next}
use Rattle.nodes.proofs.Assigning.{assigned_next, rows_done, nodes_done}
use Rattle.nodes.proofs.Skipping.{reached_skip}
use Rattle.nodes.proofs.assign.assign_all.Goals as goal

pub loop-hit-init : goal.loop-hit-init
loop-hit-init c =
    record { few = omega arith; reached = reached_none c.args.nodes.now; marked = c.requires.windowed }

pub rank-next-requires : goal.rank-next-requires
rank-next-requires c = (omega arith, (omega arith, omega (arith, first_fits c.loop-hit.invariant)))

pub offset_bounds-nodes-at : goal.offset_bounds-nodes-at
offset_bounds-nodes-at c =
    record { fits = omega (arith, spare_starts c.loop-hit.invariant c.requires.nodes_len, c.requires.nodes_len) }

pub slice_bounds-rewrite_window-count : goal.slice_bounds-rewrite_window-count
slice_bounds-rewrite_window-count c = spare_starts c.loop-hit.invariant c.requires.nodes_len

pub slice_bounds-rewrite_window-start : goal.slice_bounds-rewrite_window-start
slice_bounds-rewrite_window-start c = spare_starts c.loop-hit.invariant c.requires.nodes_len

pub invariant_of-rewrite_window : goal.invariant_of-rewrite_window
invariant_of-rewrite_window c =
    record { ranked = c.rank-next.ensures.ranks; bound = omega (arith, first_fits c.loop-hit.invariant) }

pub rewrite_window-requires : goal.rewrite_window-requires
rewrite_window-requires c = known_now c.loop-hit.invariant c.requires.all_in.spread

pub write_bits-at-requires : goal.write_bits-at-requires
write_bits-at-requires c =
    let i = c.loop-hit.invariant in
    let e = c.requires.nodes_len in
    let whole : 64 * length c.loop-hit.bits.words ≡ window = omega arith in
    let long = spare_long c.loop-hit.at c.loop-hit.nodes _ (spare_starts i e) c.rewrite_window.auto.spare in
    record {
      bits_bound = omega (arith, c.first_id.ensures, i.few);
      bits_in_bounds = rw whole (write_room i e _ long);
    }

pub returns-in_default-clause-rows : goal.returns-in_default-clause-rows
returns-in_default-clause-rows c =
    let r = reached_on _ c.loop-hit.invariant c.requires.nodes_len c.rewrite_window.auto.spare c.first_id.ensures (omega arith)
    c.rank-next.ensures.value c.rewrite_window.ensures c.write_bits-at.ensures in
    let on = reached_skip c.requires.all_in.spread c.in_default.ensures r.long r in
    rows_done on c.requires.all_in refl

pub returns-in_default-clause-nodes : goal.returns-in_default-clause-nodes
returns-in_default-clause-nodes c =
    let r = reached_on _ c.loop-hit.invariant c.requires.nodes_len c.rewrite_window.auto.spare c.first_id.ensures (omega arith)
    c.rank-next.ensures.value c.rewrite_window.ensures c.write_bits-at.ensures in
    let on = reached_skip c.requires.all_in.spread c.in_default.ensures r.long r in
    nodes_done on c.requires.all_in refl c.requires.nodes_len

pub mark_window-requires : goal.mark_window-requires
mark_window-requires c =
    let r = reached_on _ c.loop-hit.invariant c.requires.nodes_len c.rewrite_window.auto.spare c.first_id.ensures (omega arith)
    c.rank-next.ensures.value c.rewrite_window.ensures c.write_bits-at.ensures in
    let on = reached_skip c.requires.all_in.spread c.in-Some.ensures r.long r in
    known_next on c.requires.all_in.spread

pub loop-hit-preserved : goal.loop-hit-preserved
loop-hit-preserved c =
    let r = reached_on _ c.loop-hit.invariant c.requires.nodes_len c.rewrite_window.auto.spare c.first_id.ensures (omega arith)
    c.rank-next.ensures.value c.rewrite_window.ensures c.write_bits-at.ensures in
    let on = reached_skip c.requires.all_in.spread c.in-Some.ensures r.long r in
    assigned_next on c.in-Some.hit.within c.mark_window.ensures
