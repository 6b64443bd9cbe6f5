-- The volume identity: a row's six-volume is a positive share of the six-volume of the tetrahedron of its corners, in
-- the order in which they come. Each entry brings in one new corner and hangs on an earlier one at most, and along an
-- earlier corner the triple product vanishes. Assumes nothing.
use Prim.Native.Nat.{ℕ, ◌+◌, ◌*◌, ◌<◌}
use mathlib.Core.Path.{◌≡◌, sym, ◌∙◌, ap}
use mathlib.Core.List.{List, [], ◌∷◌}
use native.Mathlib.Omega.{arith}
use native.Mathlib.Nat.{mul-pos}
use lib.IntN.{ℤ, pos, ◌+ℤ◌, ◌-ℤ◌, ◌*ℤ◌}
use lib.Signed.{◌<ℤ◌}
use Rattle.basics.proofs.Test.{Member, here, there}
use Rattle.basics.proofs.Integer.{nat, int, ◌⊕◌, ◌⊖◌, ◌⊗◌, ring, between_positive}
use Rattle.stencil.specs.Tetrahedron.{Vertex}
use Rattle.geometry.specs.Place.{Place}
use Rattle.geometry.specs.Volume.{difference, triple, six_volume}
use Rattle.geometry.proofs.Determinant.{Linear, linear_first, linear_second, linear_third}
use Rattle.geometry.proofs.Determinant.{null, twice_last, twice_first, twice_outer}
use Rattle.volumes.proofs.Mix.{Mix, Brings, itself, mixed}

-- x is a positive share of y, in so many parts
pub record Share (whole : ℕ) (x y : ℤ) : Type 0 where
  pub parts : ℕ
  pub some : 0 < parts
  pub is : pos whole *ℤ x ≡ pos parts *ℤ y

-- a share of a share
pub share_of : {a b : ℕ} {x y z : ℤ} → Share a x y → Share b y z → Share (b * a) x z
share_of {a} {b} {x} {y} {z} s t =
    record {
      parts = s.parts * t.parts;
      some = mul-pos s.some t.some;
      is =
          ring (nat (b * a) ⊗ int x) (nat b ⊗ (nat a ⊗ int x)) (omega arith) ∙ ap (λ (u : ℤ). pos b *ℤ u) s.is
          ∙ ring (nat b ⊗ (nat s.parts ⊗ int y)) (nat s.parts ⊗ (nat b ⊗ int y)) (omega arith)
          ∙ ap (λ (u : ℤ). pos s.parts *ℤ u) t.is
          ∙ ring (nat s.parts ⊗ (nat t.parts ⊗ int z)) (nat (s.parts * t.parts) ⊗ int z) (omega arith);
    }

pub share_positive : {a : ℕ} {x y : ℤ} → Share a x y → pos 0 <ℤ y → pos 0 <ℤ x
share_positive {a} {x} {y} s h =
    between_positive y y x s.parts 0 a (omega (arith, s.some))
    (s.is ∙ ring (nat s.parts ⊗ int y) (nat s.parts ⊗ int y ⊕ nat 0 ⊗ int y) (omega arith)) h h

-- a mix, seen from W
seen : (A B E W : ℤ) (m n : ℕ) → m + n ≡ 256 → pos 256 *ℤ E ≡ pos m *ℤ A +ℤ pos n *ℤ B
    → pos 256 *ℤ (E -ℤ W) ≡ pos m *ℤ (A -ℤ W) +ℤ pos n *ℤ (B -ℤ W)
seen A B E W m n h e =
    ring (nat 256 ⊗ (int E ⊖ int W)) (nat 256 ⊗ int E ⊖ nat 256 ⊗ int W) (omega arith)
    ∙ (λ i. e i -ℤ pos (sym h i) *ℤ W)
    ∙ ring (nat m ⊗ int A ⊕ nat n ⊗ int B ⊖ nat (m + n) ⊗ int W)
    (nat m ⊗ (int A ⊖ int W) ⊕ nat n ⊗ (int B ⊖ int W)) (omega arith)

module _ (P : Vertex → Place) (w : Vertex) where
  abbrev from : Vertex → Place
  from v = difference (P w) (P v)

  -- an entry that brings in y counts for a share of y, where what came before counts for nothing
  module _ (g : Place → ℤ) (linear : Linear g) where
    split : {o y : Vertex} {E : Place} (mix : Mix (P o) (P y) E)
        → pos 256 *ℤ g (difference (P w) E) ≡ pos mix.m *ℤ g (from o) +ℤ pos mix.n *ℤ g (from y)
    split {o} {y} {E} mix =
        linear (difference (P w) E) (from o) (from y) mix.m mix.n 256
        (λ a. seen (P o a) (P y a) (E a) (P w a) mix.m mix.n mix.whole (mix.is a))

    hung : {before : List Vertex} {y : Vertex} {E : Place} → ((v : Vertex) → Member v before → g (from v) ≡ pos 0)
        → Brings P before y E → Share 256 (g (difference (P w) E)) (g (from y))
    hung vanishes (itself e) =
        record { parts = 256; some = omega arith; is = ap (λ (E : Place). pos 256 *ℤ g (difference (P w) E)) e }
    hung {y = y} vanishes (mixed o p mix) =
        let x = int (g (from y)) in
        record {
          parts = mix.n;
          some = mix.n_some;
          is =
              split mix ∙ ap (λ (z : ℤ). pos mix.m *ℤ z +ℤ pos mix.n *ℤ g (from y)) (vanishes o p)
              ∙ ring (nat mix.m ⊗ nat 0 ⊕ nat mix.n ⊗ x) (nat mix.n ⊗ x) (omega arith);
        }

  -- what came before counts for nothing
  before_first : (p q : Place) (u : Vertex) → Member u (w ∷ []) → triple (from u) p q ≡ pos 0
  before_first p q u (there m) = elim m [ ]
  before_first p q u here = null (λ v. triple v p q) (linear_first p q) (P w)

  before_second : (x : Vertex) (q : Place) (u : Vertex) → Member u (w ∷ x ∷ []) → triple (from x) (from u) q ≡ pos 0
  before_second x q u (there (there m)) = elim m [ ]
  before_second x q u here = null (λ v. triple (from x) v q) (linear_second (from x) q) (P w)
  before_second x q u (there here) = twice_first (from x) q

  before_third : (x y u : Vertex) → Member u (w ∷ x ∷ y ∷ []) → triple (from x) (from y) (from u) ≡ pos 0
  before_third x y u (there (there (there m))) = elim m [ ]
  before_third x y u here = null (λ v. triple (from x) (from y) v) (linear_third (from x) (from y)) (P w)
  before_third x y u (there here) = twice_outer (from x) (from y)
  before_third x y u (there (there here)) = twice_last (from x) (from y)

  pub identity : {x y z : Vertex} {B C D : Place}
      → Brings P (w ∷ []) x B → Brings P (w ∷ x ∷ []) y C → Brings P (w ∷ x ∷ y ∷ []) z D
      → Share (256 * 256 * 256) (six_volume (P w) B C D) (six_volume (P w) (P x) (P y) (P z))
  unfolding six_volume
  identity {x} {y} {z} {B = B} {C = C} {D = D} b c d =
      share_of (hung (λ v. triple v C' D') (linear_first C' D') (before_first C' D') b)
      (share_of (hung (λ v. triple (from x) v D') (linear_second (from x) D') (before_second x D') c)
      (hung (λ v. triple (from x) (from y) v) (linear_third (from x) (from y)) (before_third x y) d))
    where
      C' : Place
      C' = difference (P w) C

      D' : Place
      D' = difference (P w) D
