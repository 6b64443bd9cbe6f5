-- A recorded reading of a block file.
--
-- Head, by offset: 0 the kind, 4 the length of the body; 8 bytes of the file, 12 samples and 16 cut bytes lent, 20 the largest size taken; 28 what
-- every cut byte holds beforehand; 32 number answered, 36 where the file ends, 40, 42, 44 the sizes, two bytes each; else zeros.
-- Body: the file; after reading the samples, two bytes each, and the cut bytes.
use Rattle.std.specs.Prelude.{ℕ, ◌+◌, ◌*◌, Bool, false, ◌&&◌, List, ℤ, length, take, drop, replicate, eqb, leb, if◌then◌else◌}
use Rattle.blockfile.specs.Format.{Read, Outcome, one_at, two_at, four_at, samples_from, read}
use Rattle.comparison.specs.program.Same.{same, same_samples}
use Rattle.replay.specs.declared.Filed.{Filed}

unfoldable pub filed_of : List ℕ → Filed
filed_of head = record { file = four_at head 8; samples = four_at head 12; cuts = four_at head 16; limit = four_at head 20 }

unfoldable pub stated_read : List ℕ → Read
stated_read head =
    record { number = four_at head 32; nx = two_at head 40; ny = two_at head 42; nz = two_at head 44; end = four_at head 36 }

unfoldable pub same_sizes : Read → Read → Bool
same_sizes a b = eqb a.nx b.nx && (eqb a.ny b.ny && eqb a.nz b.nz)

unfoldable pub same_read : Read → Read → Bool
same_read a b = eqb a.number b.number && (eqb a.end b.end && same_sizes a b)

module _ (f : Filed) where
  -- the body has all its parts and nothing else, and there is room to read the file again
  unfoldable pub filed_fits : ℕ → ℕ → ℕ → Bool
  filed_fits body samples cuts =
      eqb body (f.file + 2 * f.samples + f.cuts) && (leb f.samples samples && leb f.cuts cuts)

module _ (head body : List ℕ) (f : Filed) (samples : List ℤ) where
  -- what reading answers and leaves in the tables, by its definition
  unfoldable pub reread : Outcome
  reread = read (take f.file body) f.limit samples (replicate f.cuts (one_at head 28))

  unfoldable pub read_agrees : Bool
  read_agrees =
      same_read reread.answer (stated_read head)
      && (same_samples reread.samples (samples_from body f.file f.samples)
      && same reread.cuts (take f.cuts (drop (f.file + 2 * f.samples) body)))

-- the record agrees with the definition of reading; one that does not fit is a difference too. The samples are what the table holds beforehand,
-- the number is the room there is for cut bytes.
unfoldable pub file_agrees : List ℕ → List ℕ → List ℤ → ℕ → Bool
file_agrees head body samples cuts =
    let f = filed_of head in
    let agreement = read_agrees head body f (take f.samples samples) in
    if filed_fits f (length body) (length samples) cuts then agreement else false
