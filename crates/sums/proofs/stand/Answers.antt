-- The three numbers are the corner's place. Assumes nothing.
use Rattle.sums.proofs.Stood.{stood, stood_near}
use Rattle.sums.proofs.stand.Goals as goal

pub returns : goal.returns
returns c =
    record {
      result_value = stood _ _ _ _ c.requires c.locate_id-p.ensures;
      in_box = stood_near _ _ _ _ c.requires c.locate_id-p.ensures;
    }
