-- Labels of samples, as the code tests them: on the numbers read back from their bits. Assumes nothing.
--     above, beneath                    plus is outside the band above zero, minus is outside it below
--     plus_test, minus_test             as the code compares them, both cast to one type (sample_fits, minus_fits)
--     high_fits, .., low_end            the ends of a band that is taken, as samples
--     handed, compared, plus_handed, .. samples that were read and handed on
--     zero_plus, zero_other, opposed-.. labels by the tests of plus and minus
--     both_lack                         two samples that both lack a label are not opposed
--     less_plus, .., not_less_minus     the order of two samples, and their labels
--     mark_beneath, mark_above, mark_within   the state byte at the outset, by the ends of the band
use Prim.Native.Nat.{ℕ, zero, suc, ◌*◌, ◌^◌, ◌<◌, ◌≤◌}
use native.Mathlib.Nat.{mul-le-mul}
use native.Mathlib.Omega.{arith}
use mathlib.Core.Path.{◌≡◌, refl, sym, ap, subst, ◌∙◌}
use mathlib.Core.Logic.{inl, inr}
use mathlib.Core.Bool.{Bool, true, false, not}
use lib.Dec.{T}
use lib.IntN.{ℤ, pos, negsuc, ◌-ℤ◌}
use lib.Signed.{mag, lt_z}
use borrow.Author.Tests.{lt-ltb, le-ltb, le-leb, ltb-true, ltb-false}
use mir.Syntax.{w16, w64}
use mir.Val.{of_z, to_z, SFits}
use mir.ValLaws.{to_z-of_z}
use Rattle.std.specs.Prelude.{if◌then◌else◌}
use Rattle.basics.proofs.Test.{lt_or}
use Rattle.moving.specs.declared.Label.{Label}
use Rattle.moving.specs.declared.Label.TheVariants.{Minus, Zero, Plus}
use Rattle.moving.specs.Label.{band_most, label_of, is_plus, is_zero, is_minus, opposed}
use Rattle.moving.specs.State.{skin_mark}
use Rattle.moving.specs.Moving.{mark_of}
use Rattle.moving.proofs.Band.{label_in_law, label_plus, label_minus, natural_or, negative_or}
use Rattle.labelling.specs.inner.Labels.{has_label}

false_true : {A : Type 0} → ◌≡◌ {A = Bool} false true → A
false_true e = absurd (subst T (sym e) tt)

pub above : (band : ℕ) (x : ℤ) → lt_z (pos band) x ≡ is_plus (label_of band x)
unfolding is_plus
above band (negsuc n) = elim (negative_or band n) [ inl z ↦ rw z refl | inr s ↦ rw s refl ]
above band (pos n) =
    elim (lt_or band n) [
      | inl l ↦ rw (label_plus band n l) (lt-ltb band n l)
      | inr l ↦ rw (label_in_law band (pos n) l) (le-ltb band n l)
    ]

-- no sample from zero on is below a band
not_minus : (band n : ℕ) → false ≡ is_minus (label_of band (pos n))
unfolding is_minus
not_minus band n = elim (natural_or band n) [ inl z ↦ rw z refl | inr s ↦ rw s refl ]

-- the lower end of a band
low_is : (b : ℕ) → pos 0 -ℤ pos (suc b) ≡ negsuc b
low_is b = rw (le-leb 1 (suc b) (omega arith)) (ap negsuc (omega arith))

pub beneath : (band : ℕ) (x : ℤ) → lt_z x (pos 0 -ℤ pos band) ≡ is_minus (label_of band x)
unfolding is_minus
beneath zero (negsuc n) = rw (label_minus 0 n (omega arith)) refl
beneath (suc b) (negsuc n) =
    elim (lt_or b n) [
      | inl l ↦ rw (low_is b, label_minus (suc b) n (omega arith)) (lt-ltb b n l)
      | inr l ↦ rw (low_is b, label_in_law (suc b) (negsuc n) (omega arith)) (le-ltb b n l)
    ]
beneath zero (pos n) = le-ltb n 0 (omega arith) ∙ not_minus 0 n
beneath (suc b) (pos n) = rw (low_is b) (not_minus (suc b) n)

-- both as the code has them: cast to one type in which they fit
band_small : (band : ℕ) → band < 2 ^ 32 → to_z w64 band ≡ pos band
band_small band h = to_z-of_z w64 (pos band) (record { sfits = omega arith })

pub minus_fits : (band : ℕ) → band < 2 ^ 32 → SFits w64 (pos 0 -ℤ to_z w64 band)
minus_fits band h = rw (band_small band h) (go band h)
  where
    go : (n : ℕ) → n < 2 ^ 32 → SFits w64 (pos 0 -ℤ pos n)
    go zero h = record { sfits = omega arith }
    go (suc n) h = rw (low_is n) (record { sfits = omega arith })

-- the ends of a band that is taken are samples
pub high_fits : (band : ℕ) → band ≤ band_most → SFits w16 (pos band)
high_fits band h = record { sfits = omega arith }

pub high_is : (band : ℕ) → band ≤ band_most → to_z w16 band ≡ pos band
high_is band h = to_z-of_z w16 (pos band) (high_fits band h)

pub low_fits : (band : ℕ) → band ≤ band_most → SFits w16 (pos 0 -ℤ to_z w16 band)
low_fits band h = rw (high_is band h) (go band h)
  where
    go : (n : ℕ) → n ≤ band_most → SFits w16 (pos 0 -ℤ pos n)
    go zero h = record { sfits = omega arith }
    go (suc n) h = rw (low_is n) (record { sfits = omega arith })

pub low_end : (band : ℕ) → band ≤ band_most → to_z w16 (of_z w16 (pos 0 -ℤ to_z w16 band)) ≡ pos 0 -ℤ pos band
low_end band h = to_z-of_z w16 _ (low_fits band h) ∙ ap (λ (z : ℤ). pos 0 -ℤ z) (high_is band h)

pub sample_fits : (x : ℤ) → SFits w16 x → SFits w64 (to_z w16 (of_z w16 x))
sample_fits x f = rw (to_z-of_z w16 x f) (record { sfits = omega (arith, f.sfits) })

module _ (band : ℕ) (x : ℤ) (b : band < 2 ^ 32) (f : SFits w16 x) where
  sample_is : to_z w64 (of_z w64 (to_z w16 (of_z w16 x))) ≡ x
  sample_is = to_z-of_z w64 _ (sample_fits x f) ∙ to_z-of_z w16 x f

  pub plus_test : lt_z (to_z w64 band) (to_z w64 (of_z w64 (to_z w16 (of_z w16 x)))) ≡ is_plus (label_of band x)
  plus_test = rw (band_small band b, sample_is) (above band x)

  pub minus_test : lt_z (to_z w64 (of_z w64 (to_z w16 (of_z w16 x)))) (to_z w64 (of_z w64 (pos 0 -ℤ to_z w64 band))) ≡ is_minus (label_of band x)
  minus_test = rw (to_z-of_z w64 _ (minus_fits band b), band_small band b, sample_is) (beneath band x)

-- a sample that was read and handed on
pub handed : (x : ℤ) → mag x < 2 ^ 15 → to_z w16 (of_z w16 x) ≡ x
handed x h = to_z-of_z w16 x (record { sfits = h })

pub plus_handed : (band : ℕ) (x : ℤ) → mag x < 2 ^ 15 → is_plus (label_of band (to_z w16 (of_z w16 x))) ≡ is_plus (label_of band x)
plus_handed band x h = ap (λ (z : ℤ). is_plus (label_of band z)) (handed x h)

pub minus_handed : (band : ℕ) (x : ℤ) → mag x < 2 ^ 15 → is_minus (label_of band (to_z w16 (of_z w16 x))) ≡ is_minus (label_of band x)
minus_handed band x h = ap (λ (z : ℤ). is_minus (label_of band z)) (handed x h)

pub opposed_handed : (band : ℕ) (x y : ℤ) → mag x < 2 ^ 15 → mag y < 2 ^ 15
    → opposed (label_of band (to_z w16 (of_z w16 x))) (label_of band (to_z w16 (of_z w16 y))) ≡ opposed (label_of band x) (label_of band y)
opposed_handed band x y h g = λ i. opposed (label_of band (handed x h i)) (label_of band (handed y g i))

pub label_handed : (plus : Bool) (band : ℕ) (x : ℤ) → mag x < 2 ^ 15 → has_label plus band (to_z w16 (of_z w16 x)) ≡ has_label plus band x
label_handed plus band x h = ap (has_label plus band) (handed x h)

-- a label is zero where it is neither plus nor minus
pub zero_plus : (l : Label) → is_plus l ≡ true → false ≡ is_zero l
unfolding is_plus is_zero
zero_plus Minus e = false_true e
zero_plus Zero e = false_true e
zero_plus Plus e = refl

pub zero_other : (l : Label) → is_plus l ≡ false → not (is_minus l) ≡ is_zero l
unfolding is_plus is_minus is_zero
zero_other Minus e = refl
zero_other Zero e = refl
zero_other Plus e = false_true (sym e)

pub opposed_minus : (l m : Label) → is_minus l ≡ true → opposed l m ≡ is_plus m
unfolding is_minus opposed
opposed_minus Minus m e = refl
opposed_minus Zero m e = false_true e
opposed_minus Plus m e = false_true e

pub opposed_plus : (l m : Label) → is_plus l ≡ true → opposed l m ≡ is_minus m
unfolding is_plus opposed
opposed_plus Minus m e = false_true e
opposed_plus Zero m e = false_true e
opposed_plus Plus m e = refl

pub opposed_none : (l m : Label) → is_minus l ≡ false → is_plus l ≡ false → opposed l m ≡ false
unfolding is_minus is_plus opposed
opposed_none Minus m e f = false_true (sym e)
opposed_none Zero m e f = refl
opposed_none Plus m e f = false_true (sym f)

-- two samples neither of which is plus, or neither of which is minus
pub both_lack : (plus : Bool) (band : ℕ) (x y : ℤ) → has_label plus band x ≡ false → has_label plus band y ≡ false
    → opposed (label_of band x) (label_of band y) ≡ false
unfolding has_label opposed is_plus is_minus
both_lack true band x y e f = go (label_of band x) e
  where
    go : (l : Label) → is_plus l ≡ false → opposed l (label_of band y) ≡ false
    go Minus d = f
    go Zero d = refl
    go Plus d = false_true (sym d)
both_lack false band x y e f = go (label_of band x) e
  where
    go : (l : Label) → is_minus l ≡ false → opposed l (label_of band y) ≡ false
    go Minus d = false_true (sym d)
    go Zero d = refl
    go Plus d = f

-- the order of samples: one that is no higher than another is above a limit only if that one is
no_higher : (x y z : ℤ) → lt_z y x ≡ false → lt_z z y ≡ false → lt_z z x ≡ false
no_higher (pos a) (pos b) (pos c) e f = let l = ltb-false b a e in let m = ltb-false c b f in le-ltb c a (omega arith)
no_higher (pos a) (pos b) (negsuc c) e f = false_true (sym f)
no_higher (pos a) (negsuc b) z e f = false_true (sym e)
no_higher (negsuc a) y (pos c) e f = refl
no_higher (negsuc a) (pos b) (negsuc c) e f = false_true (sym f)
no_higher (negsuc a) (negsuc b) (negsuc c) e f = let l = ltb-false a b e in let m = ltb-false b c f in le-ltb a c (omega arith)

less_not : (x y : ℤ) → lt_z x y ≡ true → lt_z y x ≡ false
less_not (pos a) (pos b) e = let l = ltb-true a b e in le-ltb b a (omega arith)
less_not (pos a) (negsuc b) e = false_true e
less_not (negsuc a) (pos b) e = refl
less_not (negsuc a) (negsuc b) e = let l = ltb-true b a e in le-ltb a b (omega arith)

module _ (band : ℕ) (x y : ℤ) where
  abbrev low : ℤ
  low = pos 0 -ℤ pos band

  pub less_plus : lt_z x y ≡ true → has_label true band y ≡ false → has_label true band x ≡ false
  unfolding has_label
  less_plus e f = sym (above band x) ∙ no_higher x y (pos band) (less_not x y e) (above band y ∙ f)

  pub not_less_plus : lt_z x y ≡ false → has_label true band x ≡ false → has_label true band y ≡ false
  unfolding has_label
  not_less_plus e f = sym (above band y) ∙ no_higher y x (pos band) e (above band x ∙ f)

  pub less_minus : lt_z x y ≡ true → has_label false band x ≡ false → has_label false band y ≡ false
  unfolding has_label
  less_minus e f = sym (beneath band y) ∙ no_higher low x y (beneath band x ∙ f) (less_not x y e)

  pub not_less_minus : lt_z x y ≡ false → has_label false band y ≡ false → has_label false band x ≡ false
  unfolding has_label
  not_less_minus e f = sym (beneath band x) ∙ no_higher low y x (beneath band y ∙ f) e

-- two samples that were handed over, compared
pub compared : (x y : ℤ) {b : Bool} → mag x < 2 ^ 15 → mag y < 2 ^ 15 → lt_z (to_z w16 (of_z w16 x)) (to_z w16 (of_z w16 y)) ≡ b → lt_z x y ≡ b
compared x y h k e = (λ i. lt_z (sym (handed x h) i) (sym (handed y k) i)) ∙ e

-- the byte at the outset, by the ends of the band
mark_is : (l : Label) {b : Bool} → b ≡ is_zero l → (if b then skin_mark else 0) ≡ mark_of l
unfolding mark_of
mark_is l e = rw (← e) refl

minus_zero : (l : Label) → is_minus l ≡ true → false ≡ is_zero l
unfolding is_minus is_zero
minus_zero Minus e = refl
minus_zero Zero e = false_true e
minus_zero Plus e = false_true e

module _ (band : ℕ) {low high : ℤ} (x : ℤ) (l : low ≡ pos 0 -ℤ pos band) (h : high ≡ pos band) where
  pub mark_beneath : lt_z x low ≡ true → 0 ≡ mark_of (label_of band x)
  mark_beneath e = mark_is (label_of band x) (minus_zero (label_of band x) (sym (beneath band x) ∙ (rw l at e)))

  pub mark_above : lt_z high x ≡ true → 0 ≡ mark_of (label_of band x)
  mark_above e = mark_is (label_of band x) (zero_plus (label_of band x) (sym (above band x) ∙ (rw h at e)))

  pub mark_within : lt_z x low ≡ false → lt_z high x ≡ false → skin_mark ≡ mark_of (label_of band x)
  mark_within e f =
      let not_plus = sym (above band x) ∙ (rw h at f) in
      let not_minus = sym (beneath band x) ∙ (rw l at e) in
      mark_is (label_of band x) (ap not (sym not_minus) ∙ zero_other (label_of band x) not_plus)

-- the square of the longest distance fits many times over
pub square_small : (t : ℕ) → t ≤ 256 → t * t ≤ 65536
square_small t h = mul-le-mul {n₂ = 256} {m₂ = 256} h h
