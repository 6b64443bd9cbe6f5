-- Ids that a test passes, as bits mark them.
--     node_if                    the four numbers of an id that passes
--     fault, located             an id's refusal or 0, and its place
--     AllPlaced, Unplaced        of some ids, those that pass have places, or one has none
--     FirstRefused               the first entry of a row table whose id has no place, and why
use Rattle.std.specs.Prelude.{ℕ, ◌+◌, ◌<◌, ◌≡◌, Bool, true, List, [], length, get_or, if◌then◌else◌}
use Rattle.lattice.specs.declared.Sizes.{Sizes}
use Rattle.filling.specs.declared.Placed.{Placed}
use Rattle.filling.specs.Located.{id_fault, locate}
use Rattle.places.specs.declared.stored.Stored.{Stored}
use Rattle.refusals.specs.declared.Refusal.{Refusal}
use Rattle.refusals.specs.inner.Numbers.{refusal_number}
use Rattle.numbering.specs.Nodes.{node_of, first_unplaced}

module _ (s : Sizes) (cuts state : List ℕ) where
  unfoldable pub node_if : (ℕ → Bool) → ℕ → ℕ → List ℕ
  node_if test lo k = if test k then node_of (lo + k) (locate s cuts state (lo + k)) else []

module _ (t : Stored) where
  abbrev pub fault : ℕ → ℕ
  fault id = id_fault t.lattice.sizes t.cuts.now t.state.now id

  abbrev pub located : ℕ → Placed
  located id = locate t.lattice.sizes t.cuts.now t.state.now id

  -- of n ids from lo on, those that pass have places
  pub record AllPlaced (test : ℕ → Bool) (lo n : ℕ) : Type 0 where
    pub is : (k : ℕ) → k < n → test k ≡ true → fault (lo + k) ≡ 0

  -- one that passes has none
  pub record Unplaced (test : ℕ → Bool) (lo n : ℕ) : Type 0 where
    pub at : ℕ
    pub within : at < n
    pub passes : test at ≡ true
    pub faulty : fault (lo + at) ≡ 0 → ⊥

  abbrev pub first : List ℕ → ℕ
  first rows = first_unplaced t.lattice.sizes t.cuts.now t.state.now rows

  pub record FirstRefused (rows : List ℕ) (entry : ℕ) (why : Refusal) : Type 0 where
    pub is_first : entry ≡ first rows
    pub within : entry < length rows
    pub is_why : refusal_number why ≡ fault (get_or rows entry 0)
