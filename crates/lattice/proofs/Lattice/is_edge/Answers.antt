-- The definition's three tests, in the order of the axes. Assumes nothing.
use native.Mathlib.Omega.{arith}
use Prim.Native.Nat.{ℕ}
use mathlib.Core.Path.{◌≡◌, sym, subst, ◌∙◌}
use lib.Dec.{T}
use Rattle.basics.proofs.Test.{all_three, second_fails, first_fails}
use Rattle.lattice.specs.declared.Sizes.{Sizes}
use Rattle.lattice.specs.declared.Site.{Site}
use Rattle.lattice.specs.declared.Shift.{Shift}
use Rattle.lattice.specs.Counts.{Sized}
use Rattle.lattice.specs.Direction.{Code}
use Rattle.lattice.specs.inner.Site.{Sited, SmallShift, odd_of, shift_of}
use Rattle.lattice.proofs.Sites.{SmallAt, small_at, shift_small, edge_tests}
use Rattle.lattice.proofs.Lattice.is_edge.Goals.{then-stays, else-stays}
use Rattle.lattice.proofs.Lattice.is_edge.Goals as goal

-- the doubled coordinates and the steps are small
small : {s : Sizes} {q : Site} {k odd : ℕ} {t : Shift} → Sized s → Sited s q → Code k → t ≡ shift_of k → odd ≡ odd_of q.kind
    → SmallAt q odd × SmallShift t
small {s} {q} {k} {odd} {t} z h g e f = (small_at s q z h odd f, shift_small k g t e)

pub stays-requires : goal.stays-requires
stays-requires c =
    omega (arith, small c.args.self.sized c.requires c.args.code.names_edge c.shift-t.ensures c.odd-odd.ensures)

pub stays-requires-then-stays : goal.stays-requires-then-stays
stays-requires-then-stays c =
    omega (arith, small c.args.self.sized c.requires c.args.code.names_edge c.shift-t.ensures c.odd-odd.ensures)

pub stays-requires-then-stays-2 : goal.stays-requires-then-stays-2
stays-requires-then-stays-2 c =
    omega (arith, small c.args.self.sized c.requires c.args.code.names_edge c.shift-t.ensures c.odd-odd.ensures)

pub returns-then-stays-2 : goal.returns-then-stays-2
returns-then-stays-2 c =
    let tests = edge_tests c.args.self.sizes c.args.q c.args.code.code _ _ c.shift-t.ensures c.odd-odd.ensures in
    elim c.if-stays.branch [
      | then-stays w ↦
          all_three tests c.stays.ensures w.if-stays.true w.stays-then-stays.ensures (sym w.value-is ∙ c.if-stays-2.true)
          c.stays-then-stays-2.ensures
      | else-stays w ↦ absurd (subst T (sym (sym w.if-stays.false ∙ (sym w.value-is ∙ c.if-stays-2.true))) tt)
    ]

pub returns-else-stays-2 : goal.returns-else-stays-2
returns-else-stays-2 c =
    let tests = edge_tests c.args.self.sizes c.args.q c.args.code.code _ _ c.shift-t.ensures c.odd-odd.ensures in
    c.if-stays-2.false
    ∙ elim c.if-stays.branch [
      | then-stays w ↦
          second_fails tests c.stays.ensures w.if-stays.true w.stays-then-stays.ensures (sym w.value-is ∙ c.if-stays-2.false)
      | else-stays w ↦ first_fails tests c.stays.ensures w.if-stays.false
    ]
