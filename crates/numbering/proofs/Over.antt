-- A table that another was written over, from its first entry on. Assumes nothing.
--     over_new, over_old    the entries that were written, and those past them
--     over_long             the table is as long as it was
use Prim.Native.Nat.{ℕ, ◌+◌, ◌-◌, ◌≤◌, ◌<◌}
use native.Mathlib.Omega.{arith}
use mathlib.Core.Path.{◌≡◌, sym, ap, ◌∙◌}
use mathlib.Core.List.{List, ◌++◌}
use lib.ListN.{length, get_or, drop, length-append, length-drop, get_or-append}
use lib.Seq.{get_or-append-add, get_or-drop}
use Rattle.filling.specs.Fill.{overwritten}

module _ (new old : List ℕ) where
  pub over_new : (i : ℕ) → i < length new → get_or (overwritten new old) i 0 ≡ get_or new i 0
  unfolding overwritten
  over_new i l = get_or-append new (drop (length new) old) 0 i l

  pub over_old : (i : ℕ) → length new ≤ i → get_or (overwritten new old) i 0 ≡ get_or old i 0
  unfolding overwritten
  over_old i l =
      let e : length new + (i - length new) ≡ i = omega arith in
      let rest = drop (length new) old in
      ap (λ (k : ℕ). get_or (new ++ rest) k 0) (sym e)
      ∙ get_or-append-add new rest (i - length new) 0
      ∙ get_or-drop (length new) old (i - length new) 0
      ∙ ap (λ (k : ℕ). get_or old k 0) e

  pub over_long : length new ≤ length old → length (overwritten new old) ≡ length old
  unfolding overwritten
  over_long l = omega (arith, length-append new (drop (length new) old), length-drop (length new) old)
