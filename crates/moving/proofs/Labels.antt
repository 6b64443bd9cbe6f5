-- The three labels as a finite type, and opposed labels: the other way round, and neither is zero. Assumes nothing.
use mathlib.Core.Bool.{Bool, not}
use mathlib.Core.List.{[], ◌∷◌}
use lib.Dec.{T}
use Rattle.basics.proofs.Test.{◌&◌, and_l, and_r, imp, imp_use, here, there, Member}
use Rattle.basics.proofs.Finite.{Finite, each, each_use}
use Rattle.moving.specs.declared.Label.{Label}
use Rattle.moving.specs.declared.Label.TheVariants.{Minus, Zero, Plus}
use Rattle.moving.specs.Label.{is_plus, is_zero, is_minus, opposed}

abbrev pub the_labels : Finite Label
the_labels = record { all = Minus ∷ Zero ∷ Plus ∷ []; complete = complete }
  where
    complete : (l : Label) → Member l (Minus ∷ Zero ∷ Plus ∷ [])
    complete Minus = here
    complete Zero = there here
    complete Plus = there (there here)

-- one way round and the other, and neither label is zero
either_way : Label → Label → Bool
either_way l m = opposed m l & (not (is_zero l) & not (is_zero m))

opposed_ways : Label → Label → Bool
opposed_ways l m = imp (opposed l m) (either_way l m)

either_way_ok : T (each the_labels (λ l. each the_labels (opposed_ways l)))
unfolding ◌&◌ opposed_ways either_way opposed is_plus is_minus is_zero
either_way_ok = tt

either_way_law : (l m : Label) → T (opposed l m) → T (either_way l m)
unfolding opposed_ways
either_way_law l m =
    let all = each_use the_labels (λ l. each the_labels (opposed_ways l)) either_way_ok l in
    imp_use (opposed l m) (either_way l m) (each_use the_labels (opposed_ways l) all m)

pub opposed_sym : (l m : Label) → T (opposed l m) → T (opposed m l)
unfolding either_way
opposed_sym l m t = and_l _ _ (either_way_law l m t)

pub opposed_near : (l m : Label) → T (opposed l m) → T (not (is_zero l))
unfolding either_way
opposed_near l m t = and_l _ _ (and_r (opposed m l) _ (either_way_law l m t))

pub opposed_far : (l m : Label) → T (opposed l m) → T (not (is_zero m))
unfolding either_way
opposed_far l m t = and_r (not (is_zero l)) _ (and_r (opposed m l) _ (either_way_law l m t))
