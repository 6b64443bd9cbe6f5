-- Mending a part of a cut table: a byte, a point's seven, a line, the whole.
--     Due                             which bytes must be there, and what a missing one becomes
--     due_byte, counted               what a byte becomes, and how it counts
--     fault_by, fixed_by                a byte's fault in a table, and what becomes of it
--     Mends                           a part of a table before and after, and the counts
--     seven_due, point_due, table_due    the same of a point's seven bytes, as the code has them and by directions, and of a table
--     Chosen                          the far ends of the edges from a point that cross
--     HasEnds                         what the code asks of the edges from a point
--     due_in                          the same of the table of a scan
--     FineUpTo, FineTo                points of a line that have no byte at fault, and the first that has one
use Rattle.std.specs.Prelude.{ℕ, ◌+◌, ◌*◌, ◌/◌, ◌%◌, ◌≤◌, ◌<◌, ◌≡◌, List, ℤ, length, get_or, eqb, if◌then◌else◌, Bool, true, false}
use Rattle.std.specs.Prelude.{Option, Some, None, is_some, IfSome, MatchOption}
use Rattle.basics.specs.Lists.{count}
use Rattle.lattice.specs.declared.Sizes.{Sizes}
use Rattle.lattice.specs.declared.Site.{Site}
use Rattle.lattice.specs.Axis.{along_x}
use Rattle.lattice.specs.Counts.{grid}
use Rattle.lattice.specs.Direction.{as_start}
use Rattle.lattice.specs.Edge.{neighbour}
use Rattle.moving.specs.declared.Label.{Label}
use Rattle.labelling.specs.declared.scan.Scan.{Scan}
use Rattle.labelling.specs.inner.Scans.{label_in}
use Rattle.filling.specs.Check.{crosses, cut_fault}
use Rattle.mending.specs.Mend.{size_at, byte_to}
use Rattle.checks.specs.inner.Search.{Throughout}
use Rattle.checks.specs.inner.Faults.{number_at}
use Rattle.patch.specs.declared.Counts.{Counts}

-- of the byte at an offset: whether it must be there, and what it becomes where it is missing
pub record Due : Type 0 where
  pub must : ℕ → Bool
  pub guess : ℕ → ℕ

-- what a byte becomes, if it must be there or not
unfoldable pub due_byte : Bool → ℕ → ℕ → ℕ
due_byte must guess byte = if must then (if eqb byte 0 then guess else byte) else 0

-- how a byte with this fault counts
abbrev pub counted : ℕ → Counts
counted n = record { filled = if eqb n 6 then 1 else 0; cleared = if eqb n 7 then 1 else 0 }

module _ (r : Due) where
  abbrev pub fault_by : List ℕ → ℕ → ℕ
  fault_by bytes o = number_at (r.must o) (get_or bytes o 0)

  abbrev pub fixed_by : List ℕ → ℕ → ℕ
  fixed_by bytes o = due_byte (r.must o) (r.guess o) (get_or bytes o 0)

  -- how many bytes before an offset have this fault
  abbrev pub faults_before : List ℕ → ℕ → ℕ → ℕ
  faults_before bytes n o = count (λ j. eqb (fault_by bytes j) n) o

  -- the bytes from a on and before e are mended, and counted; the others stay
  pub record Mends (a e : ℕ) (old new : List ℕ) (c : Counts) : Type 0 where
    pub long : length new ≡ length old
    pub before : (o : ℕ) → o < a → get_or new o 0 ≡ get_or old o 0
    pub within : (o : ℕ) → a ≤ o → o < e → get_or new o 0 ≡ fixed_by old o
    pub after : (o : ℕ) → e ≤ o → get_or new o 0 ≡ get_or old o 0
    pub filled : c.filled + faults_before old 6 a ≡ faults_before old 6 e
    pub cleared : c.cleared + faults_before old 7 a ≡ faults_before old 7 e

-- by the far ends of the edges from a point that cross
abbrev pub seven_due : List ℤ → ℕ → List (Option ℕ) → Due
seven_due samples own ends =
    record { must = λ d. is_some (get_or ends d None); guess = λ d. byte_to samples own (get_or ends d None) }

module _ (s : Sizes) (label : ℕ → Label) (samples : List ℤ) where
  -- by directions and, for a table, by offsets
  abbrev pub point_due : ℕ → Due
  point_due p = record { must = λ d. crosses s label p d; guess = λ d. byte_to samples p (neighbour s p (as_start d)) }

  abbrev pub table_due : Due
  table_due =
      record {
        must = λ o. crosses s label (o / 7) (o % 7);
        guess = λ o. byte_to samples (o / 7) (neighbour s (o / 7) (as_start (o % 7)));
      }

-- of the table of a scan
abbrev pub due_in : Scan → Due
due_in scan = table_due scan.lattice.sizes (label_in scan) scan.samples.now

-- the far end of an edge that crosses, and none of any other
abbrev pub end_if : Bool → ℕ → Option ℕ
end_if true far = Some far
end_if false far = None

-- the ends before d
pub record Chosen (must : List Bool) (far : List ℕ) (ends : List (Option ℕ)) (d : ℕ) : Type 0 where
  pub long : length ends ≡ 7
  pub done : (e : ℕ) → e < d → get_or ends e None ≡ end_if (get_or must e false) (get_or far e 0)

-- an edge that crosses has two ends with samples, and the start's is not zero
pub record HasEnds (samples : List ℤ) (own : ℕ) (ends : List (Option ℕ)) : Type 0 where
  pub each : (d : ℕ) → d < 7 → IfSome (get_or ends d None) (λ f. (own < length samples) × (f < length samples) × (0 < size_at samples own))

-- of a line's points from that of index x on none before that of index y has a byte at fault
pub record FineUpTo (s : Sizes) (label : ℕ → Label) (cuts : List ℕ) (q : Site) (x y : ℕ) : Type 0 where
  pub low : x ≤ y
  pub fine : Throughout (cut_fault s label cuts) 0 (7 * (q.own + x)) (7 * (q.own + y))

-- the first point of a line from that of index x on that has a byte at fault, if one has
abbrev pub FineTo : Sizes → (ℕ → Label) → List ℕ → Site → ℕ → Option ℕ → Type 0
FineTo s label cuts q x r =
    MatchOption r (FineUpTo s label cuts q x (grid s q.kind along_x))
    (λ y. (y < grid s q.kind along_x) × FineUpTo s label cuts q x y)
