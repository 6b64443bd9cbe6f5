-- What filling leaves of an accepted block: the state table filled, and the rows written where they fit. Assumes nothing.
use Prim.Native.Nat.{ℕ, ◌*◌, ◌/◌, ◌≤◌, ◌<◌}
use native.Mathlib.Omega.{arith}
use mathlib.Core.Path.{◌≡◌, sym, subst, ◌∙◌}
use mathlib.Core.List.{List}
use lib.ListN.{length}
use borrow.Author.Tests.{le-leb, lt-leb}
use Rattle.lattice.specs.Counts.{points}
use Rattle.moving.specs.Moving.{state_of}
use Rattle.moving.specs.Block.{Block, reading_of}
use Rattle.filling.specs.declared.Filled.{Filled}
use Rattle.filling.specs.Check.{Accepted}
use Rattle.filling.specs.Mesh.{mesh_of, table}
use Rattle.filling.specs.Fill.{moved_count, overwritten, written}
use Rattle.filling.proofs.Accepted.{accepted_fills}
use Rattle.stuffing.specs.inner.Fills.{Fills}
use Rattle.stuffing.proofs.Refusals.{fills}

module _ (band : ℕ) (b : Block) (state rows : List ℕ) (accepted : Accepted band b) (long : length state ≡ points b.sizes) where
  abbrev codes : List ℕ
  codes = state_of (reading_of band b)

  -- with so many rows and moved points
  abbrev answer : ℕ → ℕ → ℕ → Filled
  answer n count moved = record { number = n; rows = count; moved = moved; place = 0 }

  module _ (count moved : ℕ) (after : List ℕ) (counted : count ≡ length (mesh_of (reading_of band b))) (tallied : moved ≡ moved_count codes)
      (filled : after ≡ codes) where
    -- "After 10 the state table is filled, the row table is untouched"
    pub too_short : length rows / 4 < count → Fills band b state rows (answer 10 count moved) after rows
    unfolding written
    too_short h =
        let short = lt-leb (4 * count) (length rows) (omega arith) in
        subst (λ (s : List ℕ). Fills band b state rows (answer 10 count moved) s rows) (sym filled)
        (fills band b state rows (record { answer = answer 10 count moved; state = codes; rows = rows })
        (accepted_fills band b state rows accepted long ∙ rw (← counted, ← tallied) (simp short)))

    pub long_enough : (new : List ℕ) → new ≡ overwritten (table (mesh_of (reading_of band b))) rows → count ≤ length rows / 4
        → Fills band b state rows (answer 0 count moved) after new
    unfolding written
    long_enough new e h =
        let fits = le-leb (4 * count) (length rows) (omega arith) in
        subst (λ (s : List ℕ). Fills band b state rows (answer 0 count moved) s new) (sym filled)
        (fills band b state rows (record { answer = answer 0 count moved; state = codes; rows = new })
        (accepted_fills band b state rows accepted long ∙ rw (e, ← counted, ← tallied) (simp fits)))
