-- Lent tables, then the call of the block that the body holds. Assumes nothing.
use Prim.Native.Nat.{ℕ}
use mathlib.Core.Path.{ap, ap₂, ◌∙◌}
use mathlib.Core.List.{List}
use lib.ListN.{replicate}
use Rattle.moving.specs.Block.{Block}
use Rattle.filling.specs.Fill.{Outcome, fill}
use Rattle.blockfile.specs.Format.{one_at}
use Rattle.replay.proofs.Composed.{written, block_is, replay_is}
use Rattle.replay.proofs.fills.Recorded.replay.Goals as goal

pub returns : goal.returns
returns c =
    let r = c.args.self in
    let s = written r.body.now r.lengths.samples c.args.samples.now c.requires.0 c.write_samples.ensures in
    let t = c.fill.ensures.after (λ y e. e) ∙ ap (λ (k : ℕ). replicate k (one_at r.head.now 28)) c.requires.1 in
    let u = c.fill-2.ensures.after (λ y e. e) ∙ ap₂ {C = List ℕ} (λ k n. replicate k n) c.requires.2 c.four_at.ensures in
    let b = block_is r.body.now r.lengths {samples = c.write_samples.new.samples} c.from.ensures c.from-2.ensures c.from-3.ensures in
    let q = replay_is r.head.now _ _ s t u in
    let o : Block → Outcome = λ k. fill 0 k c.fill.new.self c.fill-2.new.self in record {
      value = c.yakuemi_fill.ensures.answer ∙ ap (λ (k : Block). (o k).answer) b ∙ ap (λ (o : Outcome). o.answer) q;
      state_after = c.yakuemi_fill.ensures.state ∙ ap (λ (k : Block). (o k).state) b ∙ ap (λ (o : Outcome). o.state) q;
      rows_after = c.yakuemi_fill.ensures.rows ∙ ap (λ (k : Block). (o k).rows) b ∙ ap (λ (o : Outcome). o.rows) q;
    }
