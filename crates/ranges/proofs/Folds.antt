-- The outermost of some samples: by whatever band, a sample has the label only if it has. Assumes nothing.
use Prim.Native.Nat.{ℕ, ◌+◌, ◌^◌, ◌≤◌, ◌<◌}
use native.Mathlib.Omega.{arith}
use mathlib.Core.Path.{◌≡◌, refl, sym, ap, subst, ◌∙◌}
use mathlib.Core.Logic.{inl, inr}
use mathlib.Core.Bool.{Bool, true, false}
use mathlib.Core.List.{List}
use lib.Dec.{T}
use lib.IntN.{ℤ, pos}
use lib.ListN.{length, get_or, get_or-eq_default}
use lib.Signed.{mag, lt_z, ◌≤ℤ◌, lt_z_yes, clash_ℤ}
use mir.Syntax.{w16}
use mir.Val.{of_z, to_z}
use Rattle.basics.proofs.Test.{lt_or}
use Rattle.moving.specs.Label.{is_plus, is_minus}
use Rattle.moving.proofs.Band.{label_in_law}
use Rattle.labelling.specs.inner.Labels.{has_label}
use Rattle.labelling.proofs.Labels.{handed, not_less_plus, not_less_minus}

-- no sample before p has the label by any band by which x has not
pub record Without (plus : Bool) (samples : List ℤ) (p : ℕ) (x : ℤ) : Type 0 where
  pub none : (band : ℕ) → has_label plus band x ≡ false → (j : ℕ) → j < p → has_label plus band (get_or samples j (pos 0)) ≡ false

-- a is no further out than b
pub record Within (plus : Bool) (a b : ℤ) : Type 0 where
  pub lacks : (band : ℕ) → has_label plus band b ≡ false → has_label plus band a ≡ false

not_less : (a b : ℤ) → a ≤ℤ b → lt_z b a ≡ false
not_less a b h = go (lt_z b a) refl
  where
    go : (t : Bool) → lt_z b a ≡ t → t ≡ false
    go false e = refl
    go true e = clash_ℤ (lt_z_yes (subst T (sym e) tt)) h

lower : {a b : ℤ} → a ≤ℤ b → Within true a b
lower {a} {b} h = record { lacks = λ band. not_less_plus band b a (not_less a b h) }

higher : {a b : ℤ} → b ≤ℤ a → Within false a b
higher {a} {b} h = record { lacks = λ band. not_less_minus band a b (not_less b a h) }

-- one sample more, where b is outside both of what was outermost before it and of that sample
without_more : {plus : Bool} {samples : List ℤ} {p : ℕ} {a b : ℤ} → Without plus samples p a → Within plus a b
    → Within plus (get_or samples p (pos 0)) b → Without plus samples (p + 1) b
without_more {plus} {samples} {p} {a} {b} w f g = record { none = λ band t j u. step band t j u }
  where
    step : (band : ℕ) → has_label plus band b ≡ false → (j : ℕ) → j < p + 1 → has_label plus band (get_or samples j (pos 0)) ≡ false
    step band t j u =
        elim (lt_or j p) [
          | inl v ↦ w.none band (f.lacks band t) j v
          | inr v ↦ let d : j ≡ p = omega arith in ap (λ (k : ℕ). has_label plus band (get_or samples k (pos 0))) d ∙ g.lacks band t
        ]

-- the same as the code has it: by the bits of the outermost samples, and of the one that was read
module _ (bits : ℕ) {plus : Bool} {samples : List ℤ} {p : ℕ} {a x b : ℤ} (i : Without plus samples p a)
    (is : to_z w16 bits ≡ to_z w16 (of_z w16 b)) (small : mag b < 2 ^ 15) (read : x ≡ get_or samples p (pos 0)) where
  next : Within plus a b → Within plus x b → Without plus samples (p + 1) (to_z w16 bits)
  next f g = subst (Without plus samples (p + 1)) (sym (is ∙ handed b small)) (without_more i f (subst (λ (z : ℤ). Within plus z b) read g))

  pub next_highest : plus ≡ true → a ≤ℤ b → x ≤ℤ b → Without plus samples (p + 1) (to_z w16 bits)
  next_highest e f g = next (subst (λ (t : Bool). Within t a b) (sym e) (lower f)) (subst (λ (t : Bool). Within t x b) (sym e) (lower g))

  pub next_lowest : plus ≡ false → b ≤ℤ a → b ≤ℤ x → Without plus samples (p + 1) (to_z w16 bits)
  next_lowest e f g = next (subst (λ (t : Bool). Within t a b) (sym e) (higher f)) (subst (λ (t : Bool). Within t x b) (sym e) (higher g))

-- what stands past the end of a table counts as zero, which is in every band
in_every_band : (plus : Bool) (band : ℕ) → has_label plus band (pos 0) ≡ false
unfolding has_label is_plus is_minus
in_every_band true band = rw (label_in_law band (pos 0) (omega arith)) refl
in_every_band false band = rw (label_in_law band (pos 0) (omega arith)) refl

pub none_is : {plus : Bool} {samples : List ℤ} {p : ℕ} {x : ℤ} → Without plus samples p x → length samples ≤ p
    → (band : ℕ) → has_label plus band x ≡ false → (j : ℕ) → has_label plus band (get_or samples j (pos 0)) ≡ false
none_is {plus} {samples} {p} w l band t j =
    elim (lt_or j p) [
      | inl u ↦ w.none band t j u
      | inr u ↦ ap (has_label plus band) (get_or-eq_default samples (pos 0) (omega arith)) ∙ in_every_band plus band
    ]
