-- The cut table that is read from a file of bytes is one of bytes. Assumes nothing.
use Prim.Native.Nat.{ℕ, ◌+◌, ◌*◌, ◌-◌, ◌<◌, ◌≤◌}
use native.Mathlib.Omega.{arith}
use mathlib.Core.Path.{◌≡◌, sym, ap, ◌∙◌}
use mathlib.Core.Logic.{inl, inr}
use mathlib.Core.List.{List, [], ◌∷◌, ◌++◌}
use lib.IntN.{ℤ}
use lib.ListN.{length, get_or, take, drop, replicate, length-replicate, get_or-replicate, length-take, get_or-append, get_or-eq_default}
use lib.Seq.{get_or-take, get_or-drop, get_or-append-add}
use Rattle.basics.proofs.Test.{lt_or}
use Rattle.lattice.specs.Counts.{points}
use Rattle.moving.specs.Block.{Bytes}
use Rattle.blockfile.specs.declared.Run.{Run}
use Rattle.blockfile.specs.Format.{file_sizes, cuts_from, file_runs, first_byte, file_cuts, taken, read}
use Rattle.blockfile.proofs.Checked.{readable}

-- past its end a table reads as zeros
past : (l : List ℕ) (o : ℕ) → length l ≤ o → get_or l o 0 < 256
past l o h = rw (get_or-eq_default l 0 {n = o} h) (omega arith)

pub bytes_front : (k : ℕ) (l : List ℕ) → Bytes l → Bytes (take k l)
bytes_front k l h o =
    elim (lt_or o k) [
      | inl i ↦ rw (get_or-take k l o 0 i) (h o)
      | inr i ↦ past (take k l) o (omega (arith, length-take k l))
    ]

bytes_rest : (k : ℕ) (l : List ℕ) → Bytes l → Bytes (drop k l)
bytes_rest k l h o = rw (get_or-drop k l o 0) (h (k + o))

pub bytes_zeros : (n : ℕ) → Bytes (replicate n 0)
bytes_zeros n o =
    elim (lt_or o n) [
      | inl i ↦ rw (get_or-replicate {A = ℕ} n o 0 0 i) (omega arith)
      | inr i ↦ past (replicate n 0) o (omega (arith, length-replicate {A = ℕ} n 0))
    ]

bytes_both : (a b : List ℕ) → Bytes a → Bytes b → Bytes (a ++ b)
bytes_both a b h g o =
    elim (lt_or o (length a)) [
      | inl i ↦ rw (get_or-append a b 0 o i) (h o)
      | inr i ↦
          let e : length a + (o - length a) ≡ o = omega arith in
          rw (sym (ap (λ (k : ℕ). get_or (a ++ b) k 0) e) ∙ get_or-append-add a b (o - length a) 0) (g (o - length a))
    ]

module _ (bytes : List ℕ) (h : Bytes bytes) where
  cuts_bytes : (total k i : ℕ) (rs : List Run) → Bytes (cuts_from bytes total k i rs)
  unfolding cuts_from
  cuts_bytes total k i [] = bytes_zeros (total - k)
  cuts_bytes total k i (r ∷ rs) =
      let run = take r.length (drop i bytes) in
      let rest = cuts_from bytes total (r.offset + r.length) (i + r.length) rs in
      bytes_both (replicate (r.offset - k) 0) (run ++ rest) (bytes_zeros (r.offset - k))
      (bytes_both run rest (bytes_front r.length (drop i bytes) (bytes_rest i bytes h))
      (cuts_bytes total (r.offset + r.length) (i + r.length) rs))

  pub read_bytes : (limit : ℕ) (samples : List ℤ) (cuts : List ℕ) → Bytes cuts
      → (read bytes limit samples cuts).answer.number ≡ 0 → Bytes (read bytes limit samples cuts).cuts
  unfolding taken file_cuts
  read_bytes limit samples cuts g e =
      let n = points (file_sizes bytes) in
      rw (readable bytes limit samples cuts e).is
      (bytes_both (file_cuts bytes n) (drop (7 * n) cuts) (cuts_bytes (7 * n) 0 (first_byte bytes n) (file_runs bytes n))
      (bytes_rest (7 * n) cuts g))
