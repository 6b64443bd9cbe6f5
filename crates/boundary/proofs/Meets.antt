-- Two half-faces meet if they are of different rows and wound opposite ways. Assumes nothing.
--     opposite_back       wound opposite ways, the other way round
--     Meets, meets_back   they meet; the other way round
--     meets               whether they do is decided
use Prim.Native.Nat.{ℕ}
use native.Mathlib.Decide.{ℕ_discrete}
use mathlib.Core.Path.{◌≡◌, refl, sym, ◌∙◌, ap}
use mathlib.Core.List.{List}
use Rattle.stencil.specs.Row.{Row, Face, face, face_at, Third, t0, t1, t2, cycled, exchanged, Opposite}
use Rattle.boundary.specs.Boundary.{HalfFace, outward}

pub opposite_back : {f g : Face ℕ} → Opposite f g → Opposite g f
opposite_back {f} o = (o.0, back f o.0 ∙ ap (λ (g : Face ℕ). exchanged (cycled o.0 g)) (sym o.1))
  where
    back : (f : Face ℕ) (r : Third) → f ≡ exchanged (cycled r (exchanged (cycled r f)))
    back (face x y z) t0 = refl
    back (face x y z) t1 = refl
    back (face x y z) t2 = refl

same_face_law : (f g : Face ℕ) → Dec (f ≡ g)
same_face_law (face x y z) (face a b c) = by (ℕ_discrete x a) (ℕ_discrete y b) (ℕ_discrete z c)
  where
    at : face x y z ≡ face a b c → (t : Third) → face_at (face x y z) t ≡ face_at (face a b c) t
    at e t = ap (λ (f : Face ℕ). face_at f t) e

    by : Dec (x ≡ a) → Dec (y ≡ b) → Dec (z ≡ c) → Dec (face x y z ≡ face a b c)
    by (yes p) (yes q) (yes r) = yes (λ i. face (p i) (q i) (r i))
    by (yes p) (yes q) (no n) = no (λ e. n (at e t2))
    by (yes p) (no n) r = no (λ e. n (at e t1))
    by (no n) q r = no (λ e. n (at e t0))

opposite : (f g : Face ℕ) → Dec (Opposite f g)
opposite f g = by (is t0) (is t1) (is t2)
  where
    is : (r : Third) → Dec (g ≡ exchanged (cycled r f))
    is r = same_face_law g (exchanged (cycled r f))

    by : Dec (g ≡ exchanged (cycled t0 f)) → Dec (g ≡ exchanged (cycled t1 f)) → Dec (g ≡ exchanged (cycled t2 f))
        → Dec (Opposite f g)
    by (yes e) d c = yes (t0, e)
    by (no m) (yes e) c = yes (t1, e)
    by (no m) (no n) (yes e) = yes (t2, e)
    by (no m) (no n) (no k) = no (λ o. never o.0 o.1)
      where
        never : (r : Third) → g ≡ exchanged (cycled r f) → ⊥
        never t0 = m
        never t1 = n
        never t2 = k

module _ (rows : List (Row ℕ)) where
  pub record Meets (x y : HalfFace) : Type 0 where
    pub apart : x.0 ≡ y.0 → ⊥
    pub opposed : Opposite (outward rows x) (outward rows y)

  pub meets_back : {x y : HalfFace} → Meets x y → Meets y x
  meets_back m = record { apart = λ e. m.apart (sym e); opposed = opposite_back m.opposed }

  pub meets : (x y : HalfFace) → Dec (Meets x y)
  meets x y = by (ℕ_discrete x.0 y.0) (opposite (outward rows x) (outward rows y))
    where
      by : Dec (x.0 ≡ y.0) → Dec (Opposite (outward rows x) (outward rows y)) → Dec (Meets x y)
      by (yes e) d = no (λ m. m.apart e)
      by (no n) (yes o) = yes (record { apart = n; opposed = o })
      by (no n) (no k) = no (λ m. k m.opposed)
