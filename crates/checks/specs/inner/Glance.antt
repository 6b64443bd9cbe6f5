-- What a glance at a point or at points of a line sees. Candidates for far ends stand a stride away, whether their edges
-- exist or not.
--     Calm       no candidate of a point is opposed to it
--     Level      no sample of five ranges is plus by a band, or none is minus
--     Covers     where the five ranges of a line, or of a part of it, start: every candidate stands there or one number further
use Rattle.std.specs.Prelude.{ℕ, ◌+◌, ◌≤◌, ◌<◌, ◌≡◌, Bool, false, List, ℤ, pos, get_or}
use Rattle.lines.specs.inner.Strides.{range_most}
use Rattle.moving.specs.declared.Label.{Label}
use Rattle.moving.specs.Label.{opposed}
use Rattle.labelling.specs.inner.Labels.{has_label}

pub record Calm (label : ℕ → Label) (p : ℕ) (ends : List ℕ) : Type 0 where
  pub none : (d : ℕ) → d < 7 → opposed (label p) (label (get_or ends d 0)) ≡ false

-- none of the m + 1 samples from each start on
pub record Level (plus : Bool) (band : ℕ) (samples : List ℤ) (starts : List ℕ) (m : ℕ) : Type 0 where
  pub none : (k : ℕ) → k < 5 → (y : ℕ) → y ≤ m → has_label plus band (get_or samples (get_or starts k 0 + y) (pos 0)) ≡ false

-- the range that holds a number
pub record Held (starts : List ℕ) (p : ℕ) : Type 0 where
  pub range : ℕ
  pub is_range : range < 5
  pub from : get_or starts range 0 ≤ p
  pub to : p ≤ get_or starts range 0 + 1

pub record Covers (p : ℕ) (ends starts : List ℕ) : Type 0 where
  pub self : get_or starts 0 0 ≡ p
  pub each : (d : ℕ) → d < 7 → Held starts (get_or ends d 0)
  pub small : (k : ℕ) → k < 5 → get_or starts k 0 ≤ range_most
