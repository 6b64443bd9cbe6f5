-- The three axes as a finite type. Assumes nothing.
use mathlib.Core.Bool.{Bool}
use mathlib.Core.List.{[], ◌∷◌}
use lib.Dec.{T}
use Rattle.basics.proofs.Test.{here, there, Member, &&-l, &&-r, &&-i}
use Rattle.basics.proofs.Finite.{Finite}
use Rattle.lattice.specs.Axis.{Axis, along_x, along_y, along_z, everywhere}

abbrev pub the_axes : Finite Axis
the_axes = record { all = along_x ∷ along_y ∷ along_z ∷ []; complete = complete }
  where
    complete : (a : Axis) → Member a (along_x ∷ along_y ∷ along_z ∷ [])
    complete along_x = here
    complete along_y = there here
    complete along_z = there (there here)

pub everywhere_use : (f : Axis → Bool) → T (everywhere f) → (a : Axis) → T (f a)
everywhere_use f t along_x = &&-l (f along_x) _ t
everywhere_use f t along_y = &&-l (f along_y) _ (&&-r (f along_x) _ t)
everywhere_use f t along_z = &&-r (f along_y) _ (&&-r (f along_x) _ t)

pub everywhere_i : (f : Axis → Bool) → ((a : Axis) → T (f a)) → T (everywhere f)
everywhere_i f h = &&-i (f along_x) _ (h along_x) (&&-i (f along_y) (f along_z) (h along_y) (h along_z))
