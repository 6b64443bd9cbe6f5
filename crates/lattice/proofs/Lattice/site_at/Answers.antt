-- Both numbers are the definition's, whichever is the point's own. Assumes nothing.
use native.Mathlib.Omega.{arith}
use Prim.Native.Nat.{ℕ, ◌+◌}
use mathlib.Core.Path.{◌≡◌}
use Rattle.lattice.specs.declared.Kind.TheVariants.{Corner, Centre}
use Rattle.lattice.specs.Point.{linear}
use Rattle.lattice.proofs.Bounds.{corners_small}
use Rattle.lattice.proofs.Sites.{site_is}
use Rattle.lattice.proofs.Lattice.site_at.Goals as goal

both : {a b m n : ℕ} → a ≡ m → b ≡ n → a + b ≡ m + n
both e f = λ i. e i + f i

pub overflow_add-among_centres : goal.overflow_add-among_centres
overflow_add-among_centres c = omega (arith, corners_small c.args.self.sizes c.args.self.sized)

pub returns-in-Corner : goal.returns-in-Corner
unfolding linear
returns-in-Corner c =
    rw c.in-Corner.is
    (site_is _ Corner _ _ _ _ _ c.linear-among_corners.ensures.value (both c.corner_count.ensures c.linear.ensures.value))

pub returns-in-Centre : goal.returns-in-Centre
unfolding linear
returns-in-Centre c =
    rw c.in-Centre.is
    (site_is _ Centre _ _ _ _ _ (both c.corner_count.ensures c.linear.ensures.value) c.linear-among_corners.ensures.value)
