-- Below the band, above it, or in it. Assumes nothing.
use Rattle.labelling.proofs.Labels.{compared, mark_beneath, mark_above, mark_within}
use Rattle.labelling.proofs.codes.mark_of.Goals as goal

pub returns-then-x-low : goal.returns-then-x-low
returns-then-x-low c =
    let a = c.args in
    let f = c.ranges in
    λ band l h. mark_beneath band a.x l h (compared a.x a.low f.x.sfits f.low.sfits c.if-x-low.true)

pub returns-then-high-x : goal.returns-then-high-x
returns-then-high-x c =
    let a = c.args in
    let f = c.ranges in
    λ band l h. mark_above band a.x l h (compared a.high a.x f.high.sfits f.x.sfits c.if-high-x.true)

pub returns : goal.returns
returns c =
    let a = c.args in
    let f = c.ranges in
    let not_below = compared a.x a.low f.x.sfits f.low.sfits c.if-x-low.false in
    let not_above = compared a.high a.x f.high.sfits f.x.sfits c.if-high-x.false in
    λ band l h. mark_within band a.x l h not_below not_above
