-- What filling leaves behind for an accepted block: T is the number of rows, M the number of points that moved, the state table holds their
-- codes, and the row table holds the rows, four ids each. Assumes nothing.
use Prim.Native.Nat.{ℕ, zero, suc, ◌+◌, ◌*◌, ◌≤◌, ◌<◌}
use native.Mathlib.Omega.{arith}
use mathlib.Core.Path.{◌≡◌, refl, sym, ◌∙◌}
use mathlib.Core.Logic.{inl, inr}
use mathlib.Core.Bool.{Bool, true, false}
use mathlib.Core.List.{List, [], ◌∷◌, ◌++◌}
use lib.ListN.{length, get_or, drop}
use lib.Dec.{leb}
use borrow.Author.Tests.{le-leb, lt-leb}
use Rattle.std.specs.Prelude.{if◌then◌else◌}
use Rattle.basics.specs.Lists.{gather, count}
use Rattle.basics.proofs.Mapped.{read_all}
use Rattle.lattice.specs.Counts.{points}
use Rattle.moving.specs.State.{is_move}
use Rattle.moving.specs.Moving.{state_of}
use Rattle.moving.specs.Block.{Block, reading_of}
use Rattle.moving.proofs.Moved.{state_at_long}
use Rattle.stencil.specs.Row.{Row, row}
use Rattle.filling.specs.Mesh.{mesh_of, table}
use Rattle.filling.specs.Demand.{nth_row, row_read, rows_read}
use Rattle.filling.specs.Fill.{moved_count, overwritten, written, fill}
use Rattle.filling.specs.Check.{Accepted}
use Rattle.filling.proofs.Accepted.{passed_all, accepted_fills}

pub table_length : (rows : List (Row ℕ)) → length (table rows) ≡ 4 * length rows
unfolding gather
table_length [] = refl
table_length (row a b c d ∷ rows) = omega (arith, table_length rows)

pub table_row : (rows : List (Row ℕ)) (more : List ℕ) (i : ℕ) → i < length rows → row_read (table rows ++ more) i ≡ nth_row rows i
unfolding gather
table_row [] more i h = absurd (omega arith)
table_row (row a b c d ∷ rows) more zero h = refl
table_row (row a b c d ∷ rows) more (suc i) h = later ∙ table_row rows more i (omega arith)
  where
    on : (k : ℕ) → 4 * suc i + k ≡ suc (suc (suc (suc (4 * i + k))))
    on k = omega arith

    first : 4 * suc i ≡ suc (suc (suc (suc (4 * i))))
    first = omega arith

    later : row_read (a ∷ b ∷ c ∷ d ∷ (table rows ++ more)) (suc i) ≡ row_read (table rows ++ more) i
    later = rw (on 1, on 2, on 3, first) refl

module _ (band : ℕ) (b : Block) (state rows : List ℕ) where
  module _ (h : Accepted band b) (l : length state ≡ points b.sizes) where
    -- "T, the rows written"
    pub rows_counted : (fill band b state rows).answer.rows ≡ length (mesh_of (reading_of band b))
    unfolding written
    rows_counted = rw (accepted_fills band b state rows h l) refl

    -- "M now counts codes 1 to 14"
    pub moved_counted : (fill band b state rows).answer.moved ≡ count (λ p. is_move (get_or (state_of (reading_of band b)) p 0)) (points b.sizes)
    unfolding written moved_count
    moved_counted = rw (accepted_fills band b state rows h l, state_at_long (reading_of band b) (points b.sizes)) refl

    pub state_written : (fill band b state rows).state ≡ state_of (reading_of band b)
    unfolding written
    state_written = rw (accepted_fills band b state rows h l) refl

    -- "10: row table holds fewer than 4T numbers"
    pub number_0 : 4 * length (mesh_of (reading_of band b)) ≤ length rows → (fill band b state rows).answer.number ≡ 0
    unfolding written
    number_0 f = rw (accepted_fills band b state rows h l, le-leb _ _ f) refl

    pub number_10 : length rows < 4 * length (mesh_of (reading_of band b)) → (fill band b state rows).answer.number ≡ 10
    unfolding written
    number_10 f = rw (accepted_fills band b state rows h l, lt-leb _ _ f) refl

  abbrev pub mesh : List (Row ℕ)
  mesh = mesh_of (reading_of band b)

  -- the row table of a filling: the rows, and "entries beyond 4T stay untouched"
  pub rows_written : (fill band b state rows).answer.number ≡ 0
      → (fill band b state rows).rows ≡ table mesh ++ drop (4 * length mesh) rows
  unfolding written overwritten
  rows_written e =
      let p = passed_all band b state rows 0 (inl refl) e in
      rw p.is (go (leb (4 * length mesh) (length rows)) (rw p.is at e))
    where
      go : (t : Bool) → ◌≡◌ {A = ℕ} (if t then 0 else 10) 0
          → (if t then table mesh ++ drop (length (table mesh)) rows else rows) ≡ table mesh ++ drop (4 * length mesh) rows
      go true e = rw (table_length mesh) refl
      go false e = absurd (omega (arith, e))

  -- "After 10 .. the row table is untouched"
  pub rows_kept : (fill band b state rows).answer.number ≡ 10 → (fill band b state rows).rows ≡ rows
  unfolding written overwritten
  rows_kept e =
      let p = passed_all band b state rows 10 (inr refl) e in
      rw p.is (go (leb (4 * length mesh) (length rows)) (rw p.is at e))
    where
      go : (t : Bool) → ◌≡◌ {A = ℕ} (if t then 0 else 10) 10
          → (if t then table mesh ++ drop (length (table mesh)) rows else rows) ≡ rows
      go true e = absurd (omega (arith, e))
      go false e = refl

  pub row_written : (fill band b state rows).answer.number ≡ 0
      → (i : ℕ) → i < length mesh → row_read (fill band b state rows).rows i ≡ nth_row mesh i
  row_written e i h = rw (rows_written e) (table_row mesh (drop (4 * length mesh) rows) i h)

  -- so the rows, read from the tables that filling leaves, are those of the definition
  pub rows_read_law : (fill band b state rows).answer.number ≡ 0 → rows_read (fill band b state rows).rows (fill band b state rows).answer.rows ≡ mesh
  unfolding rows_read
  rows_read_law e =
      let p = passed_all band b state rows 0 (inl refl) e in
      read_all (row_read (fill band b state rows).rows) mesh (fill band b state rows).answer.rows (row 0 0 0 0)
      (sym (rows_counted p.accepted p.state_long)) (row_written e)
