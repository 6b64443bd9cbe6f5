-- The head, then the file. Assumes nothing.
use mathlib.Core.Path.{sym, refl}
use lib.Seq.{length-take-le}
use Rattle.replay.proofs.Reading.{it_fits, no_file, file_decides}
use Rattle.replay.proofs.files.agrees.Goals as goal

pub slice_bounds-is_agreed-end : goal.slice_bounds-is_agreed-end
slice_bounds-is_agreed-end c = (it_fits _ _ _ _ c.in-Some.ensures.1).sample_room

pub slice_bounds-is_agreed-end-in-Some : goal.slice_bounds-is_agreed-end-in-Some
slice_bounds-is_agreed-end-in-Some c = sym (length-take-le _ _ (it_fits _ _ _ _ c.in-Some.ensures.1).sample_room)

pub slice_bounds-is_agreed-end-in-Some-2 : goal.slice_bounds-is_agreed-end-in-Some-2
slice_bounds-is_agreed-end-in-Some-2 c = (it_fits _ _ _ _ c.in-Some.ensures.1).cut_room

pub slice_bounds-is_agreed-end-in-Some-3 : goal.slice_bounds-is_agreed-end-in-Some-3
slice_bounds-is_agreed-end-in-Some-3 c = sym (length-take-le _ _ (it_fits _ _ _ _ c.in-Some.ensures.1).cut_room)

pub invariant_of-file : goal.invariant_of-file
invariant_of-file c = record { whole = (it_fits _ _ _ _ c.in-Some.ensures.1).whole }

pub is_agreed-requires : goal.is_agreed-requires
is_agreed-requires c =
    let w = it_fits _ _ _ _ c.in-Some.ensures.1 in
    (length-take-le _ _ w.sample_room, length-take-le _ _ w.cut_room)

pub returns-in-None : goal.returns-in-None
returns-in-None c = no_file _ _ _ _ _ refl refl c.in-None.ensures

pub returns-in-Some : goal.returns-in-Some
returns-in-Some c = file_decides _ _ _ _ _ c.in-Some.ensures.0 refl c.in-Some.ensures.1 c.is_agreed.ensures
