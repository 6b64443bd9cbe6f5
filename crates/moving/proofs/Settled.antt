-- What is known of the table that moving leaves, whatever the rule or the order. Downstream cites these and not how a code is chosen.
--     Violating, MayMove     a live cut violates a point, which may so move
--     Calm                   nothing violates it
--     Reached                all that faces, volumes, places and the agreement need; every run of moves gives it
--     Settled                and at the end no live cut violates a point
use Prim.Native.Nat.{ℕ, ◌<◌}
use mathlib.Core.Bool.{Bool, not}
use mathlib.Core.List.{List}
use mathlib.Core.Path.{◌≡◌}
use mathlib.Core.Logic.{◌⊎◌}
use lib.ListN.{length, get_or}
use lib.Dec.{T}
use Rattle.std.proofs.Common.{Some}
use Rattle.lattice.specs.Counts.{points}
use Rattle.lattice.specs.Direction.{Code}
use Rattle.lattice.specs.Edge.{neighbour}
use Rattle.moving.specs.declared.Label.{Label}
use Rattle.moving.specs.Label.{is_zero}
use Rattle.moving.specs.Violation.{violated, violates}
use Rattle.moving.specs.Reading.{Reading, cut_along, label_after, violation_by}

-- a label that is plus or minus
abbrev pub NonZero : Label → Type 0
NonZero l = T (not (is_zero l))

module _ (m : Reading) where
  -- p is a point, and its edge with the code c leads to q
  pub record Edge (p c q : ℕ) : Type 0 where
    pub point : p < points m.sizes
    pub code : Code c
    pub leads : neighbour m.sizes p c ≡ Some q

  -- the edge from p by the code c leads to q, its cut is live at this time, and it violates p
  pub record Violating (codes : List ℕ) (p c q : ℕ) : Type 0 where
    pub edge : Edge p c q
    pub here : NonZero (label_after m.label codes p)
    pub there : NonZero (label_after m.label codes q)
    pub near : T (violates m.rule c (cut_along m p c q))

  -- a live cut violates p by the code c, as a test
  abbrev pub violated_by : List ℕ → ℕ → ℕ → Bool
  violated_by codes p c = violated (violation_by m codes p c)

  -- p may move by the code c
  abbrev pub MayMove : List ℕ → ℕ → ℕ → Type 0
  MayMove codes p c = (q : ℕ) × Violating codes p c q

  -- no live cut violates p
  abbrev pub Calm : List ℕ → ℕ → Type 0
  Calm codes p = (c q : ℕ) → Violating codes p c q → ⊥

  -- each entry is as it was at the start, or the code of a cut that was live at the start and violates the point
  pub record Reached (start codes : List ℕ) : Type 0 where
    pub long : length codes ≡ points m.sizes
    pub entry : (p : ℕ) → (get_or codes p 0 ≡ get_or start p 0) ⊎ MayMove start p (get_or codes p 0)

  pub record Settled (start codes : List ℕ) : Type 0 where
    pub reached : Reached start codes
    pub calm : (p : ℕ) → Calm codes p
