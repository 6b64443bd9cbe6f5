-- A run of moves, each to a cut that is live and violates at its time: what holds for every rule and every order.
-- Assumes nothing.
use Prim.Native.Nat.{ℕ, ◌<◌}
use native.Mathlib.Omega.{arith}
use mathlib.Core.Path.{◌≡◌, refl, ◌∙◌}
use mathlib.Core.Logic.{◌⊎◌, inl, inr}
use mathlib.Core.List.{List}
use lib.ListN.{length, get_or, set, length-set}
use lib.Seq.{get_or-set_same, get_or-set_other}
use Rattle.lattice.specs.Counts.{points}
use Rattle.moving.specs.Reading.{Reading, label_after}
use Rattle.moving.proofs.Settled.{NonZero, Violating, MayMove, Calm, Reached}
use Rattle.moving.proofs.Bytes.{same_or, set_zero, nonzero_still, nonzero_outset, nonzero_i}

-- from the table s moves lead to another
pub data Run (m : Reading) (s : List ℕ) : List ℕ → Type 0 where
  start : Run m s s
  move : {t : List ℕ} {p c q : ℕ} → Run m s t → Violating m t p c q → Run m s (set t p c)

module _ {m : Reading} {s : List ℕ} (long : length s ≡ points m.sizes) where
  pub run_length : {t : List ℕ} → Run m s t → length t ≡ points m.sizes
  run_length start = long
  run_length (move {t = t} {p = p} {c = c} r v) = length-set t p c ∙ run_length r

  -- a byte that is 0 at the end was 0 before; so labels only go to zero, and live cuts only disappear
  pub run_unmoved : {t : List ℕ} (q : ℕ) → Run m s t → get_or t q 0 ≡ 0 → get_or s q 0 ≡ 0
  run_unmoved q start z = z
  run_unmoved q (move {t = t} {p = p} {c = c} r v) z =
      run_unmoved q r (set_zero t p c q (omega (arith, run_length r, v.edge.point)) v.edge.code z)

  pub run_label : {t : List ℕ} (q : ℕ) → Run m s t → NonZero (label_after m.label t q) → NonZero (label_after m.label s q)
  run_label {t} q r l = nonzero_i m.label s q (run_unmoved q r (nonzero_still m.label t q l)) (nonzero_outset m.label t q l)

  pub run_violating : {t : List ℕ} {p c q : ℕ} → Run m s t → Violating m t p c q → Violating m s p c q
  run_violating {p = p} {q = q} r v =
      record {
        edge = v.edge;
        here = run_label p r v.here;
        there = run_label q r v.there;
        near = v.near;
      }

  -- what nothing violates, nothing violates later
  pub run_calm : {t : List ℕ} (p : ℕ) → Run m s t → Calm m s p → Calm m t p
  run_calm p r h c q v = h c q (run_violating r v)

  -- an entry stays as it is, or becomes the code of a cut that violated already at the beginning
  pub run_entry : {t : List ℕ} (q : ℕ) → Run m s t → (get_or t q 0 ≡ get_or s q 0) ⊎ MayMove m s q (get_or t q 0)
  run_entry q start = inl refl
  run_entry q (move {t = t} {p = p} {c = c} {q = far} r v) =
      let h : p < length t = omega (arith, run_length r, v.edge.point) in
      elim (same_or q p) [
        | inl e ↦ inr (rw (e, get_or-set_same t p c 0 h) (far, run_violating r v))
        | inr n ↦ rw (get_or-set_other t p q c 0 n) (run_entry q r)
      ]

  pub calm_still : {t : List ℕ} (p : ℕ) → Run m s t → Calm m s p → get_or t p 0 ≡ get_or s p 0
  calm_still {t} p r h = elim (run_entry p r) [ inl e ↦ e | inr v ↦ absurd (h (get_or t p 0) v.0 v.1) ]

  pub run_reached : {t : List ℕ} → Run m s t → Reached m s t
  run_reached r = record { long = run_length r; entry = λ p. run_entry p r }
