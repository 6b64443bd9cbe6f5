-- The four clauses: three equations, and demand 3 of the rows as written. Assumes nothing.
use mathlib.Core.Path.{sym}
use Rattle.moving.specs.Block.{block_of}
use Rattle.yakuemi.proofs.Conforming.{conforming}
use Rattle.yakuemi.proofs.fill.yakuemi_fill.Goals as goal

pub returns : goal.returns
returns c =
    let a = c.args in
    let b = block_of c.sizes.result a.samples.now a.cuts.now in
    let f = c.fill_sized.ensures in
    rw (sym c.sizes.ensures) (record {
      answer = f.answer;
      state = f.state_is;
      rows = f.rows_are;
      conforms = conforming a.band b a.state.now a.rows.now _ _ _ f (λ o. (c.type_inv.cuts o).fits);
    })
