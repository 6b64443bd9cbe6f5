-- Document 02, F-1, "Places in millimetres": what the call answers, for every input. Floats, and what an operation on them gives, are the
-- logic's own account of IEEE 754 (`lib.Ieee`): `fin s m e` is m times 2 ^ e, negative where s is true.
use Rattle.std.specs.Prelude.{ℕ, Bool, false, not, ◌&&◌, List, pos, negsuc, eqb, Float, if◌then◌else◌}
use Rattle.std.specs.Float.{fin, binary64}
use Rattle.std.specs.Float.Ieee.{of_int, mul, le}
use Rattle.lattice.specs.declared.Sizes.{Sizes}
use Rattle.filling.specs.declared.Placed.{Placed}
use Rattle.filling.specs.Located.{locate}
use Rattle.metric.specs.declared.Metric.{Metric}
use Rattle.metric.specs.declared.PlacedMm.{PlacedMm}

-- "a number from 1/1,048,576 to 16": 2 ^ -20 and 2 ^ 4
abbrev pub least : Float
least = fin false 1 (negsuc 19)

abbrev pub most : Float
most = fin false 1 (pos 4)

-- both ends are in; no NaN is, since every comparison with one is false
unfoldable pub unit_fits : Float → Bool
unit_fits unit = le least unit && le unit most

-- "each whole number of the place, turned exactly into a float and multiplied by the unit once"
unfoldable pub scaled : Float → ℕ → Float
scaled unit n = mul binary64 (of_int binary64 (pos n)) unit

unfoldable pub metric : Float → Placed → Metric
metric unit p = record { x = scaled unit p.x; y = scaled unit p.y; z = scaled unit p.z }

-- "A refusal gives three zeros"
abbrev pub +0 : Float
+0 = fin false 0 (pos 0)

abbrev pub unplaced_mm : ℕ → PlacedMm
unplaced_mm n = record { number = n; point = record { x = +0; y = +0; z = +0 } }

-- what becomes of an answer of the place call: "13 "unit" .., after all of the place call's own refusals"
unfoldable pub in_millimetres : Float → Placed → PlacedMm
in_millimetres unit p =
    if not (eqb p.number 0) then unplaced_mm p.number
    else if not (unit_fits unit) then unplaced_mm 13
    else record { number = 0; point = metric unit p }

-- the call "takes an id and a unit, the millimetres per step"
unfoldable pub locate_mm : Sizes → List ℕ → List ℕ → ℕ → Float → PlacedMm
locate_mm s cuts state id unit = in_millimetres unit (locate s cuts state id)
