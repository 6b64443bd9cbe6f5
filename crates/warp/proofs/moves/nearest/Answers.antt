-- Whatever codes are taken, of so many the nearest. Assumes nothing.
use Prim.Native.Nat.{◌≤◌}
use native.Mathlib.Omega.{arith}
use mathlib.Core.Path.{refl, sym, ◌∙◌}
use Rattle.warp.proofs.Searching.{search_starts, search_nearer, search_keeps, search_few, search_ends}
use Rattle.warp.proofs.Searching.{byte_of, if_taken, if_left, if_far, chosen_new}
use Rattle.warp.proofs.moves.nearest.Goals.{then-is_nearer+then-is_taken, else-is_nearer, else-is_nearer-via-then-is_nearer+else-is_taken, else-is_nearer-via-else-is_nearer}
use Rattle.warp.proofs.moves.nearest.Goals as goal

pub loop-code-init : goal.loop-code-init
loop-code-init g c taken told = search_starts refl refl

pub loop-code-preserved : goal.loop-code-preserved
loop-code-preserved g c taken told =
    let i = c.loop-code.invariant taken told in
    let k = c.loop-code.code in
    let l : k ≤ 14 = omega arith in
    let is = byte_of c.args.cuts.now c.args.at k c.cut_at.ensures c.violation-v.ensures in
    let asked = sym c.is_nearer.ensures in
    elim c.if-is_nearer.branch [
      | then-is_nearer+then-is_taken w ↦
          let yes = sym (told _ _ w.is_taken.ensures) ∙ w.if-is_taken.true in
          search_nearer i l (if_taken taken _ _ k is yes) (asked ∙ w.if-is_nearer.true) w.found-is w.best-is
      | else-is_nearer w ↦
          elim w.else-is_nearer.branch [
            | else-is_nearer-via-then-is_nearer+else-is_taken v ↦
                let no = sym (told _ _ v.is_taken.ensures) ∙ v.if-is_taken.false in
                search_keeps i l (if_left taken c.args.cuts.now c.args.at k _ no) w.found-is w.best-is
            | else-is_nearer-via-else-is_nearer v ↦
                search_keeps i l (if_far taken _ _ k _ is (asked ∙ v.if-is_nearer.false)) w.found-is w.best-is
          ]
    ]

pub returns : goal.returns
returns g c taken told =
    let i = c.loop-code.invariant taken told in
    chosen_new c.new.result (search_few i) c.new.ensures.named c.new.ensures.same ∙ search_ends i c.loop-code-test.false
