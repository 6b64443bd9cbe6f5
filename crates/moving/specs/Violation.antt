-- Document 01, "Moving points", and document 02, F-2: when a cut violates an end of its edge, and how far from that end it is.
--     Rule, rule1, limit   the limits
--     measured, squared    how far a cut is from an end
--     violation            no, or that distance squared: the one test, for everyone who asks
--     violated, violates   only whether it does
use Rattle.std.specs.Prelude.{ℕ, ◌*◌, ◌-◌, Bool, true, false, not, ◌&&◌, leb, eqb, if◌then◌else◌, Option, Some, None}
use Rattle.lattice.specs.Direction.{long, is_start, direction_of}

-- the two limits by which rules of moving differ
pub record Rule : Type 0 where
  pub long_limit : ℕ
  pub short_limit : ℕ

-- "at most 63 on a long edge or 105 on a short one"
abbrev pub rule1 : Rule
rule1 = record { long_limit = 63; short_limit = 105 }

unfoldable pub limit : Rule → ℕ → ℕ
limit r d = if long d then r.long_limit else r.short_limit

-- "t, measured from that end (t or 256-t)": the end at which a point with code c is
unfoldable pub measured : ℕ → ℕ → ℕ
measured c t = if is_start c then t else 256 - t

-- "With t counted from the point, compare 4 times t squared on long edges and 3 times t squared on short ones"
unfoldable pub squared : ℕ → ℕ → ℕ
squared d t = (if long d then 4 else 3) * (t * t)

-- "The test for violation must therefore also give that squared distance to everyone who uses it": the cut byte t against the
-- end at which a point with code c is; byte 0 is no cut
unfoldable pub violation : Rule → ℕ → ℕ → Option ℕ
violation r c t =
    let d = direction_of c in
    if not (eqb t 0) && leb (measured c t) (limit r d) then Some (squared d (measured c t)) else None

unfoldable pub violated : Option ℕ → Bool
violated None = false
violated (Some d) = true

abbrev pub violates : Rule → ℕ → ℕ → Bool
violates r c t = violated (violation r c t)
