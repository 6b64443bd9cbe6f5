-- Where the bytes of a point's fourteen edges stand: the far ends by strides, and the byte of each edge. Assumes nothing.
use Prim.Native.Nat.{ℕ, ◌+◌, ◌*◌, ◌-◌, ◌≤◌, ◌<◌}
use native.Mathlib.Omega.{arith}
use mathlib.Core.Path.{◌≡◌, ap, ◌∙◌}
use mathlib.Core.Logic.{inl, inr}
use mathlib.Core.List.{List}
use lib.ListN.{length, get_or, set, length-set}
use lib.Seq.{get_or-set_same, get_or-set_other}
use borrow.Author.Tests.{le-leb, lt-leb}
use Rattle.std.proofs.Common.{Some}
use Rattle.basics.proofs.Test.{lt_or}
use Rattle.lattice.specs.declared.Sizes.{Sizes}
use Rattle.lattice.specs.declared.Site.{Site}
use Rattle.lattice.specs.Direction.{Code, as_end, is_start, direction_of}
use Rattle.lattice.specs.Edge.{near, edge_byte}
use Rattle.lattice.specs.inner.Site.{Sited, index}
use Rattle.lines.specs.inner.Strides.{starts_at}
use Rattle.lines.proofs.FarEnds.{start_is}
use Rattle.warp.specs.inner.Quick.{Offsets}

-- where the byte stands
pub byte_start : (p c e : ℕ) → 1 ≤ c → c ≤ 7 → 7 * p + (c - 1) ≡ edge_byte p c e
unfolding edge_byte is_start direction_of
byte_start p c e l h = simp (le-leb _ _ h) (omega arith)

pub byte_end : (p c e : ℕ) → 7 < c → c ≤ 14 → 7 * e + (c - 8) ≡ edge_byte p c e
unfolding edge_byte is_start direction_of
byte_end p c e l h = simp (lt-leb _ _ l) (omega arith)

-- the offsets that the code has written: those of the first k directions, from both ends
pub record Written (first : ℕ) (back at : List ℕ) (k : ℕ) : Type 0 where
  pub few : k ≤ 7
  pub long : length at ≡ 14
  pub starts : (d : ℕ) → d < k → get_or at d 0 ≡ first + d
  pub ends : (d : ℕ) → d < k → get_or at (d + 7) 0 ≡ 7 * get_or back d 0 + d

-- one direction more
pub written_next : {first : ℕ} {back at : List ℕ} {k a b : ℕ} → Written first back at k → k < 7 → a ≡ first + k
    → b ≡ 7 * get_or back k 0 + k → Written first back (set (set at k a) (k + 7) b) (k + 1)
written_next {first} {back} {at} {k} {a} {b} w h e f =
    record {
      few = omega arith;
      long = length-set (set at k a) (k + 7) b ∙ half;
      starts = λ d l.
          get_or-set_other (set at k a) (k + 7) d b 0 (λ z. omega arith)
          ∙ elim (lt_or d k) [
            | inl u ↦ get_or-set_other at k d a 0 (λ z. omega arith) ∙ w.starts d u
            | inr u ↦ let z : d ≡ k = omega arith in rw z (get_or-set_same at k a 0 (omega (arith, w.long)) ∙ e)
          ];
      ends = λ d l.
          elim (lt_or d k) [
            | inl u ↦
                get_or-set_other (set at k a) (k + 7) (d + 7) b 0 (λ z. omega arith)
                ∙ get_or-set_other at k (d + 7) a 0 (λ z. omega arith)
                ∙ w.ends d u
            | inr u ↦ let z : d ≡ k = omega arith in rw z (get_or-set_same (set at k a) (k + 7) b 0 (omega (arith, half)) ∙ f)
          ];
    }
  where
    half : length (set at k a) ≡ 14
    half = length-set at k a ∙ w.long

pub offsets_of : (s : Sizes) (q : Site) → Sited s q → {first k : ℕ} {back at : List ℕ} → back ≡ starts_at s q → first ≡ 7 * q.own
    → Written first back at k → 7 ≤ k → Offsets s q at
offsets_of s q g {first = first} {back = back} {at = at} b f w h = record { byte = byte }
  where
    byte : (c : ℕ) → Code c → (e : ℕ) → near s q.kind (index q) c ≡ Some e → get_or at (c - 1) 0 ≡ edge_byte q.own c e
    byte c k e n =
        elim (lt_or 7 c) [
          | inl u ↦
              let x : as_end (c - 8) ≡ c = omega (arith, k.high) in
              let y : c - 1 ≡ c - 8 + 7 = omega arith in
              let far = start_is s q g (c - 8) (omega (arith, k.high)) e (ap (near s q.kind (index q)) x ∙ n) in
              ap (λ (i : ℕ). get_or at i 0) y
              ∙ w.ends (c - 8) (omega (arith, k.high))
              ∙ ap (λ (i : ℕ). 7 * i + (c - 8)) (ap (λ (l : List ℕ). get_or l (c - 8) 0) b ∙ far)
              ∙ byte_end q.own c e u k.high
          | inr u ↦
              w.starts (c - 1) (omega (arith, k.low))
              ∙ ap (λ (i : ℕ). i + (c - 1)) f
              ∙ byte_start q.own c e k.low u
        ]
