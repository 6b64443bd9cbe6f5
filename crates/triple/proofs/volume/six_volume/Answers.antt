-- The product of the three differences. Assumes nothing.
use mathlib.Core.Path.{◌≡◌, ap₂, ◌∙◌}
use lib.IntN.{ℤ}
use Rattle.lattice.specs.Axis.{Axis}
use Rattle.geometry.specs.Volume.{difference, cross, dot, triple, six_volume}
use Rattle.triple.specs.declared.Place.{Place}
use Rattle.triple.specs.inner.Places.{place_at}
use Rattle.triple.proofs.Box.{result_is}
use Rattle.triple.proofs.volume.six_volume.Goals as goal

pub returns : goal.returns
unfolding triple six_volume
returns c =
    let a = c.args in
    let there : Place → Axis → ℤ = λ q. difference (place_at a.a) (place_at q) in
    let product : place_at c.cross_product.result ≡ cross (there a.c) (there a.d) =
    c.cross_product.ensures.result_value ∙ ap₂ cross c.difference-2.ensures.result_value c.difference-3.ensures.result_value in
    result_is c.dot_product.result c.dot_product.type_inv
    (c.dot_product.ensures ∙ ap₂ dot c.difference.ensures.result_value product)
