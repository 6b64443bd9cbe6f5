-- The head, then the call. Assumes nothing.
use mathlib.Core.Path.{sym, refl}
use lib.Seq.{length-take-le}
use Rattle.replay.proofs.Composed.{misfit, call_decides}
use Rattle.replay.proofs.Fits.{it_fits}
use Rattle.replay.proofs.fills.agrees.Goals as goal

pub slice_bounds-is_agreed-end : goal.slice_bounds-is_agreed-end
slice_bounds-is_agreed-end c = (it_fits _ _ _ _ _ c.in-Some.ensures.1).sample_room

pub slice_bounds-is_agreed-end-in-Some : goal.slice_bounds-is_agreed-end-in-Some
slice_bounds-is_agreed-end-in-Some c = sym (length-take-le _ _ (it_fits _ _ _ _ _ c.in-Some.ensures.1).sample_room)

pub slice_bounds-is_agreed-end-in-Some-2 : goal.slice_bounds-is_agreed-end-in-Some-2
slice_bounds-is_agreed-end-in-Some-2 c = (it_fits _ _ _ _ _ c.in-Some.ensures.1).state_room

pub slice_bounds-is_agreed-end-in-Some-3 : goal.slice_bounds-is_agreed-end-in-Some-3
slice_bounds-is_agreed-end-in-Some-3 c = sym (length-take-le _ _ (it_fits _ _ _ _ _ c.in-Some.ensures.1).state_room)

pub slice_bounds-is_agreed-end-in-Some-4 : goal.slice_bounds-is_agreed-end-in-Some-4
slice_bounds-is_agreed-end-in-Some-4 c = (it_fits _ _ _ _ _ c.in-Some.ensures.1).row_room

pub slice_bounds-is_agreed-end-in-Some-5 : goal.slice_bounds-is_agreed-end-in-Some-5
slice_bounds-is_agreed-end-in-Some-5 c = sym (length-take-le _ _ (it_fits _ _ _ _ _ c.in-Some.ensures.1).row_room)

pub invariant_of-call : goal.invariant_of-call
invariant_of-call c =
    let w = it_fits _ _ _ _ _ c.in-Some.ensures.1 in
    record { few = w.few; whole = sym w.whole; ids_within = w.id_room }

pub is_agreed-requires : goal.is_agreed-requires
is_agreed-requires c =
    let w = it_fits _ _ _ _ _ c.in-Some.ensures.1 in
    (length-take-le _ _ w.sample_room, length-take-le _ _ w.state_room, length-take-le _ _ w.row_room)

pub returns-in-None : goal.returns-in-None
returns-in-None c = misfit _ _ _ _ _ _ refl refl c.in-None.ensures

pub returns-in-Some : goal.returns-in-Some
returns-in-Some c = call_decides _ _ _ _ _ _ c.in-Some.ensures.0 refl c.in-Some.ensures.1 c.is_agreed.ensures
