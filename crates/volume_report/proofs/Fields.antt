-- The lines of the report, from their fields. Assumes nothing.
use Prim.Native.Nat.{ℕ}
use mathlib.Core.Path.{◌≡◌}
use mathlib.Core.List.{List, [], ◌∷◌}
use borrow.Author.Tests.{eq-eqb, ne_eqb}
use Rattle.text.specs.Text.{ascii, decimal, line}
use Rattle.volume_report.specs.declared.Tally.{Tally}
use Rattle.volume_report.specs.program.Report.{Entry, line_of, last_line}

module _ (i : ℕ) (e : Entry) where
  pub volumes_line : {l : List ℕ} → e.number ≡ 0
      → l ≡ line (decimal i ∷ decimal e.tetrahedra ∷ decimal e.moved ∷ decimal e.sum ∷ decimal e.smallest ∷ []) → l ≡ line_of i e
  unfolding line_of
  volumes_line z g = rw (eq-eqb e.number 0 z) g

  pub refusal_line : {l : List ℕ} → (e.number ≡ 0 → ⊥)
      → l ≡ line (decimal i ∷ ascii "refused" ∷ decimal e.number ∷ decimal e.place ∷ []) → l ≡ line_of i e
  unfolding line_of
  refusal_line n g = rw (ne_eqb e.number 0 n) g

pub last_line_law : (t : Tally) {l : List ℕ} → l ≡ line (decimal t.tetrahedra ∷ decimal t.sum ∷ []) → l ≡ last_line t
unfolding last_line
last_line_law t g = g
