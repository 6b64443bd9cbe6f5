-- Document 01, "Calls and refusals": refusals 6 and 7, and what the search for them answers.
--     fault_number, fault_offset   the number and the place of a byte at fault
--     number_of, fault_place   the number and the place of an answer
--     CutAnswer              the answer for a whole cut table
--     Wrong, Answered        the answer for a part of it
--     number_at, seven_fault   a byte's fault, and that of one of a point's seven bytes
--     crossings_at            which of the seven edges from a point cross
--     PointFine, LineFine, PointAnswered, LineAnswered     the answers for a point and for a line of points
--     PartFine, PartAnswered, RestAnswered     the same for a part of a line, and for its rest
use Rattle.std.specs.Prelude.{ℕ, ◌+◌, ◌*◌, ◌≤◌, ◌<◌, ◌≡◌, Bool, false, List, [], ◌∷◌, get_or, eqb, ltb, if◌then◌else◌, Result, Ok, Err, MatchResult}
use Rattle.lattice.specs.declared.Sizes.{Sizes}
use Rattle.lattice.specs.declared.Site.{Site}
use Rattle.lattice.specs.Axis.{along_x}
use Rattle.lattice.specs.Counts.{grid, points}
use Rattle.moving.specs.declared.Label.{Label}
use Rattle.filling.specs.Check.{crosses, cut_fault, first_cut}
use Rattle.checks.specs.declared.Fault.{Fault}
use Rattle.checks.specs.declared.Fault.TheVariants.{Gap, Stray}
use Rattle.checks.specs.inner.Search.{Throughout}

-- document 01's number of a byte at fault: "6 gap", "7 stray"
abbrev pub fault_number : Fault → ℕ
fault_number (Gap o) = 6
fault_number (Stray o) = 7

-- its place, the byte's offset
abbrev pub fault_offset : Fault → ℕ
fault_offset (Gap o) = o
fault_offset (Stray o) = o

-- the number of an answer, 0 where nothing is wrong
abbrev pub number_of : Result (Unit {0}) Fault → ℕ
number_of (Ok u) = 0
number_of (Err f) = fault_number f

-- its place, and the number `none` where nothing is wrong
abbrev pub fault_place : ℕ → Result (Unit {0}) Fault → ℕ
fault_place none (Ok u) = none
fault_place none (Err f) = fault_offset f

-- the answer for a whole cut table: the lowest byte at fault with its number, or 7N with 0
pub record CutAnswer (s : Sizes) (label : ℕ → Label) (cuts : List ℕ) (r : Result (Unit {0}) Fault) : Type 0 where
  pub place : fault_place (7 * points s) r ≡ first_cut s label cuts
  pub number : number_of r
      ≡ (if ltb (first_cut s label cuts) (7 * points s) then cut_fault s label cuts (first_cut s label cuts) else 0)

-- o is the first offset from a on and before e that is at fault, and its number is n
pub record Wrong (fault : ℕ → ℕ) (a e n o : ℕ) : Type 0 where
  pub low : a ≤ o
  pub high : o < e
  pub number : fault o ≡ n
  pub before : Throughout fault 0 a o

-- the answer for the offsets from a on and before e
abbrev pub Answered : (ℕ → ℕ) → ℕ → ℕ → Result (Unit {0}) Fault → Type 0
Answered fault a e r = MatchResult r (λ u. Throughout fault 0 a e) (λ f. Wrong fault a e (fault_number f) (fault_offset f))

-- the number of a byte's fault, where there must be a cut or must be none: the same wherever it stands, so its place
-- is left at 0
unfoldable pub number_at : Bool → ℕ → ℕ
number_at must byte =
    if must then (if eqb byte 0 then fault_number (Gap 0) else 0)
    else (if eqb byte 0 then 0 else fault_number (Stray 0))

-- the same of the byte in direction d of one point
unfoldable pub seven_fault : List Bool → List ℕ → ℕ → ℕ
seven_fault must bytes d = number_at (get_or must d false) (get_or bytes d 0)

module _ (s : Sizes) (label : ℕ → Label) where
  unfoldable pub crossings_at : ℕ → List Bool
  crossings_at p =
      crosses s label p 0
      ∷ crosses s label p 1
      ∷ crosses s label p 2
      ∷ crosses s label p 3
      ∷ crosses s label p 4
      ∷ crosses s label p 5
      ∷ crosses s label p 6
      ∷ []

-- a point's seven bytes, lent to its test
module _ (s : Sizes) (label : ℕ → Label) (bytes : List ℕ) (q : Site) where
  abbrev pub PointFine : Type 0
  PointFine = Throughout (seven_fault (crossings_at s label q.own) bytes) 0 0 7

  abbrev pub PointAnswered : Result (Unit {0}) Fault → Type 0
  PointAnswered = Answered (seven_fault (crossings_at s label q.own) bytes) 0 7

-- the bytes of the line of points that starts at q
module _ (s : Sizes) (label : ℕ → Label) (cuts : List ℕ) (q : Site) where
  abbrev pub LineFine : Type 0
  LineFine = Throughout (cut_fault s label cuts) 0 (7 * q.own) (7 * (q.own + grid s q.kind along_x))

  abbrev pub LineAnswered : Result (Unit {0}) Fault → Type 0
  LineAnswered = Answered (cut_fault s label cuts) (7 * q.own) (7 * (q.own + grid s q.kind along_x))

  -- and of its points from index x on and before index e
  abbrev pub PartFine : ℕ → ℕ → Type 0
  PartFine x e = Throughout (cut_fault s label cuts) 0 (7 * (q.own + x)) (7 * (q.own + e))

  abbrev pub PartAnswered : ℕ → ℕ → Result (Unit {0}) Fault → Type 0
  PartAnswered x e = Answered (cut_fault s label cuts) (7 * (q.own + x)) (7 * (q.own + e))

  -- and from index x on
  abbrev pub RestAnswered : ℕ → Result (Unit {0}) Fault → Type 0
  RestAnswered x = PartAnswered x (grid s q.kind along_x)
