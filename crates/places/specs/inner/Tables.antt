-- The tables that filling left, after the place call's checks of sizes and lengths: 1, 3 and 4.
use Rattle.std.specs.Prelude.{ℕ, ◌≡◌, List, Result, MatchResult}
use Rattle.lattice.specs.declared.Sizes.{Sizes}
use Rattle.refusals.specs.declared.Refusal.{Refusal}
use Rattle.filling.specs.Located.{locate, unplaced}
use Rattle.refusals.specs.inner.Numbers.{refusal_number}
use Rattle.places.specs.declared.stored.Stored.{Stored}

-- they are those of the block, or every place is refused by the same number
abbrev pub Whole : Sizes → List ℕ → List ℕ → Result Stored Refusal → Type 0
Whole s cuts state r =
    MatchResult r
    (λ t. (t.lattice.sizes ≡ s) × (t.cuts.now ≡ cuts) × (t.state.now ≡ state))
    (λ e. (id : ℕ) → unplaced (refusal_number e) ≡ locate s cuts state id)
