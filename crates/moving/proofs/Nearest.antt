-- The nearest code, whatever violates: what it is, and when there is none. Assumes nothing.
--     Nearest                 a code violates, no violating code is nearer, and none as near has a lower number
--     Quiet                   nothing violates
--     nearest_or              one of the two
--     nearest_none            so if nothing violates it is 0
--     nearest_le              it is no higher than the codes that are asked
--     nearest_unique          no two are nearest
--     fewer_none, fewer_same  where some violations are left out: none stays none, and the nearest stays if it is not left out
use Prim.Native.Nat.{ℕ, zero, suc, ◌≤◌, ◌<◌}
use native.Mathlib.Omega.{arith}
use mathlib.Core.Path.{◌≡◌, refl, sym, ap, subst, ◌∙◌}
use mathlib.Core.Logic.{◌⊎◌, inl, inr}
use lib.Dec.{T}
use borrow.Author.Tests.{lt-ltb, le-ltb}
use Rattle.std.specs.Prelude.{if◌then◌else◌, Option, Some, None}
use Rattle.basics.proofs.Test.{lt_or}
use Rattle.moving.specs.Violation.{violated}
use Rattle.moving.specs.Nearest.{nearer, by_code, nearest_to}
use Rattle.moving.proofs.Bytes.{code_move, zero_rests}

-- of two distances that are one
same_distance : {v : Option ℕ} {d e : ℕ} → v ≡ Some d → v ≡ Some e → d ≡ e
same_distance {d = d} f g = ap distance (sym f ∙ g)
  where
    distance : Option ℕ → ℕ
    distance None = d
    distance (Some x) = x

no_distance : {v : Option ℕ} {d : ℕ} → v ≡ None → v ≡ Some d → ⊥
unfolding violated
no_distance f g = subst (λ (w : Option ℕ). T (violated w)) (sym g ∙ f) tt

module _ (by : ℕ → Option ℕ) where
  -- of the codes 1 to n
  pub record Nearest (n c d : ℕ) : Type 0 where
    pub low : 1 ≤ c
    pub high : c ≤ n
    -- the chosen code violates, at the squared distance d
    pub at : by c ≡ Some d
    -- "nearest": no violating code is nearer
    pub least : (e x : ℕ) → 1 ≤ e → e ≤ n → by e ≡ Some x → d ≤ x
    -- "a tie goes to the lower code": none as near has a lower code
    pub tie : (e x : ℕ) → 1 ≤ e → e < c → by e ≡ Some x → d < x

  -- nothing violates
  abbrev pub Quiet : ℕ → Type 0
  Quiet n = (e : ℕ) → 1 ≤ e → e ≤ n → by e ≡ None

  abbrev Either : ℕ → ℕ → Type 0
  Either n c = ((c ≡ 0) × Quiet n) ⊎ ((d : ℕ) × Nearest n c d)

  quiet_on : (n : ℕ) → Quiet n → by (suc n) ≡ None → Quiet (suc n)
  quiet_on n q v e l u = elim (lt_or n e) [ inl k ↦ ap by (omega arith) ∙ v | inr k ↦ q e l k ]

  -- one code more: it is the nearest now, or the one before still is
  nearest_new : (n x : ℕ) → by (suc n) ≡ Some x → ((e y : ℕ) → 1 ≤ e → e ≤ n → by e ≡ Some y → x < y)
      → Nearest (suc n) (suc n) x
  nearest_new n x v h =
      record {
        low = omega arith;
        high = omega arith;
        at = v;
        least = λ e y l u w.
            elim (lt_or n e) [
              | inl k ↦ let z : e ≡ suc n = omega arith in omega (arith, same_distance v (rw z at w))
              | inr k ↦ omega (arith, h e y l k w)
            ];
        tie = λ e y l u w. h e y l (omega arith) w;
      }

  nearest_still : (n c d : ℕ) → Nearest n c d → ((x : ℕ) → by (suc n) ≡ Some x → d ≤ x) → Nearest (suc n) c d
  nearest_still n c d h far =
      record {
        low = h.low;
        high = omega (arith, h.high);
        at = h.at;
        least = λ e y l u w.
            elim (lt_or n e) [ inl k ↦ (let z : e ≡ suc n = omega arith in far y (rw z at w)) | inr k ↦ h.least e y l k w ];
        tie = h.tie;
      }

  nearest_step : (n c : ℕ) → n ≤ 14 → Either n c → (v : Option ℕ) → by (suc n) ≡ v
      → Either (suc n) (if nearer v (by_code by c) then suc n else c)
  unfolding nearer
  nearest_step n c k (inl (z, q)) None e = inl (z, quiet_on n q e)
  nearest_step n c k (inl (z, q)) (Some x) e =
      rw (zero_rests c z) (inr (x, nearest_new n x e (λ j y l u w. absurd (no_distance (q j l u) w))))
  nearest_step n c k (inr (d, h)) None e = inr (d, nearest_still n c d h (λ x w. absurd (no_distance e w)))
  nearest_step n c k (inr (d, h)) (Some x) e =
      rw (code_move c (record { low = h.low; high = omega (arith, h.high) }), h.at)
      (elim (lt_or x d) [
        | inl l ↦ rw (lt-ltb x d l) (inr (x, nearest_new n x e (λ j y a b w. omega (arith, h.least j y a b w))))
        | inr l ↦ rw (le-ltb x d l) (inr (d, nearest_still n c d h (λ y w. omega (arith, same_distance e w))))
      ])

  -- n being a code, or 0
  pub nearest_or : (n : ℕ) → n ≤ 14 → Either n (nearest_to by n)
  unfolding nearest_to
  nearest_or zero k = inl (refl, λ e l u. absurd (omega arith))
  nearest_or (suc n) k = nearest_step n (nearest_to by n) (omega arith) (nearest_or n (omega arith)) (by (suc n)) refl

  pub nearest_none : (n : ℕ) → n ≤ 14 → Quiet n → nearest_to by n ≡ 0
  nearest_none n k q =
      elim (nearest_or n k) [ inl z ↦ z.0 | inr g ↦ (let h = g.1 in absurd (no_distance (q _ h.low h.high) h.at)) ]

  pub nearest_le : (n : ℕ) → n ≤ 14 → nearest_to by n ≤ n
  nearest_le n k = elim (nearest_or n k) [ inl z ↦ omega (arith, z.0) | inr g ↦ g.1.high ]

  pub nearest_unique : {n c e d x : ℕ} → Nearest n c d → Nearest n e x → c ≡ e
  nearest_unique {c = c} {e = e} {d = d} {x = x} h g =
      elim (lt_or c e) [
        | inl l ↦ absurd (omega (arith, g.tie c d h.low l h.at, h.least e x g.low g.high g.at))
        | inr l ↦ elim (lt_or e c) [
          | inl u ↦ absurd (omega (arith, h.tie e x g.low u g.at, g.least c d h.low h.high h.at))
          | inr u ↦ omega arith
        ]
      ]

-- g violates only as f does
module _ (f g : ℕ → Option ℕ) (n : ℕ) (k : n ≤ 14) (fewer : (e : ℕ) → 1 ≤ e → e ≤ n → (g e ≡ f e) ⊎ (g e ≡ None)) where
  fewer_distance : (e x : ℕ) → 1 ≤ e → e ≤ n → g e ≡ Some x → f e ≡ Some x
  fewer_distance e x l u w = elim (fewer e l u) [ inl s ↦ sym s ∙ w | inr z ↦ absurd (no_distance z w) ]

  pub fewer_none : nearest_to f n ≡ 0 → nearest_to g n ≡ 0
  fewer_none z =
      elim (nearest_or f n k) [
        | inl q ↦ nearest_none g n k (λ e l u. elim (fewer e l u) [ inl s ↦ s ∙ q.1 e l u | inr w ↦ w ])
        | inr h ↦ absurd (omega (arith, h.1.low))
      ]

  pub fewer_same : g (nearest_to f n) ≡ f (nearest_to f n) → nearest_to g n ≡ nearest_to f n
  fewer_same s =
      elim (nearest_or f n k) [
        | inl q ↦ fewer_none q.0 ∙ sym q.0
        | inr (d, h) ↦ elim (nearest_or g n k) [
          | inl q ↦ absurd (no_distance (q.1 _ h.low h.high) (s ∙ h.at))
          | inr (x, j) ↦
              let still : Nearest g n (nearest_to f n) d =
              record {
                low = h.low;
                high = h.high;
                at = s ∙ h.at;
                least = λ e y l u w. h.least e y l u (fewer_distance e y l u w);
                tie = λ e y l u w. h.tie e y l u (fewer_distance e y l (omega (arith, h.high)) w);
              } in
              nearest_unique g j still
        ]
      ]
