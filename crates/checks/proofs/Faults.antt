-- Bytes at fault: of a point, of a line, of a table. Assumes nothing.
--     gap_at, none_at, stray_at, cut_at       a byte that is zero or not, where there must be a cut or must be none
--     byte_fine                               the same for a byte of a table
--     wide, raise_fine, raise_wrong, whole_rest   an answer of a part in the whole
--     seven_is                                a point's seven bytes in the table
--     answer_fine, answer_wrong               the answer for a whole table
use Prim.Native.Nat.{ℕ, ◌+◌, ◌*◌, ◌-◌, ◌/◌, ◌%◌, ◌≤◌, ◌<◌}
use native.Mathlib.Omega.{arith}
use mathlib.Core.Path.{◌≡◌, refl, sym, ap, subst, ◌∙◌}
use mathlib.Core.Bool.{Bool, true, false, not}
use mathlib.Core.List.{List}
use mathlib.Core.Logic.{◌⊎◌, inl, inr}
use lib.Dec.{T, eqb, ltb}
use lib.ListN.{get_or, take, drop}
use lib.Seq.{get_or-take, get_or-drop}
use borrow.Author.Tests.{eq-eqb, ne_eqb, lt-ltb, le-ltb}
use Rattle.std.specs.Prelude.{if◌then◌else◌, Result, Ok, Err}
use Rattle.lattice.specs.declared.Sizes.{Sizes}
use Rattle.lattice.specs.Counts.{points}
use Rattle.lattice.proofs.Sites.{by_direction}
use Rattle.moving.specs.declared.Label.{Label}
use Rattle.filling.specs.Check.{crosses, cut_fault, first_cut}
use Rattle.checks.specs.declared.Fault.{Fault}
use Rattle.checks.specs.declared.Fault.TheVariants.{Gap, Stray}
use Rattle.checks.specs.inner.Search.{Throughout}
use Rattle.checks.specs.inner.Faults.{CutAnswer, Wrong, Answered, fault_number, fault_offset, number_at, seven_fault, crossings_at}
use Rattle.checks.proofs.Search.{none_yet, one_more, joined, here, first_lowest, none_lowest}

module _ (must : List Bool) (bytes : List ℕ) (d : ℕ) where
  pub gap_at : get_or must d false ≡ true → get_or bytes d 0 ≡ 0 → seven_fault must bytes d ≡ 6
  unfolding seven_fault number_at
  gap_at m e = simp (m, eq-eqb _ 0 e)

  pub none_at : get_or must d false ≡ false → get_or bytes d 0 ≡ 0 → seven_fault must bytes d ≡ 0
  unfolding seven_fault number_at
  none_at m e = simp (m, eq-eqb _ 0 e)

  pub stray_at : get_or must d false ≡ false → (get_or bytes d 0 ≡ 0 → ⊥) → seven_fault must bytes d ≡ 7
  unfolding seven_fault number_at
  stray_at m e = simp (m, ne_eqb _ 0 e)

  pub cut_at : get_or must d false ≡ true → (get_or bytes d 0 ≡ 0 → ⊥) → seven_fault must bytes d ≡ 0
  unfolding seven_fault number_at
  cut_at m e = simp (m, ne_eqb _ 0 e)

-- the first fault of a part, where nothing was before it
wrong_here : {fault : ℕ → ℕ} {e n o : ℕ} → o < e → fault o ≡ n → Throughout fault 0 0 o → Wrong fault 0 e n o
wrong_here h i t = record { low = omega arith; high = h; number = i; before = t }

-- the first of a point's seven bytes that is at fault, and one more that is not
module _ (must : List Bool) (bytes : List ℕ) {d : ℕ} (w : Throughout (seven_fault must bytes) 0 0 d) where
  pub gap_here : get_or must d false ≡ true → get_or bytes d 0 ≡ 0 → d < 7 → Wrong (seven_fault must bytes) 0 7 6 d
  gap_here m e h = wrong_here h (gap_at must bytes d m e) w

  pub stray_here : get_or must d false ≡ false → (get_or bytes d 0 ≡ 0 → ⊥) → d < 7 → Wrong (seven_fault must bytes) 0 7 7 d
  stray_here m e h = wrong_here h (stray_at must bytes d m e) w

  -- what the code's two tests leave
  pub none_more : ((get_or must d false ≡ true) × (get_or bytes d 0 ≡ 0 → ⊥)) ⊎ (get_or must d false ≡ false)
      → ((get_or must d false ≡ false) × (get_or bytes d 0 ≡ 0)) ⊎ (get_or must d false ≡ true) → Throughout (seven_fault must bytes) 0 0 (d + 1)
  none_more (inl f) g = one_more w (cut_at must bytes d f.0 f.1)
  none_more (inr f) (inl g) = one_more w (none_at must bytes d f g.1)
  none_more (inr f) (inr g) = absurd (subst T (sym g ∙ f) tt)

-- the first fault of a part is that of the whole, if there is none before the part
pub wide : {fault : ℕ → ℕ} {b a e z n o : ℕ} → Throughout fault 0 b a → b ≤ a → e ≤ z
    → Wrong fault a e n o → Wrong fault b z n o
wide t h i w =
    record { low = omega (arith, w.low); high = omega (arith, w.high); number = w.number; before = joined t w.before }

-- the rest of a line from its first point on is the line
pub whole_rest : (fault : ℕ → ℕ) (own e : ℕ) (r : Result (Unit {0}) Fault) → Answered fault (7 * (own + 0)) e r → Answered fault (7 * own) e r
whole_rest fault own e r w = let z : own + 0 ≡ own = omega arith in subst (λ (k : ℕ). Answered fault (7 * k) e r) z w

-- a part whose numbers are counted from a on
module _ {part whole : ℕ → ℕ} {a m : ℕ} (same : (d : ℕ) → d < m → part d ≡ whole (a + d)) where
  raised : {e : ℕ} → e ≤ m → Throughout part 0 0 e → Throughout whole 0 a (a + e)
  raised h t =
      record {
        is = λ j l u. let g : a + (j - a) ≡ j = omega arith in
            ap whole (sym g) ∙ sym (same (j - a) (omega arith)) ∙ t.is (j - a) (omega arith) (omega arith);
      }

  pub raise_fine : Throughout part 0 0 m → Throughout whole 0 a (a + m)
  raise_fine = raised (omega arith)

  pub raise_wrong : {n o : ℕ} → Wrong part 0 m n o → Wrong whole a (a + m) n (a + o)
  raise_wrong w =
      record {
        low = omega arith;
        high = omega (arith, w.high);
        number = sym (same _ w.high) ∙ w.number;
        before = raised (omega (arith, w.high)) w.before;
      }

module _ (s : Sizes) (label : ℕ → Label) where
  pub crossing_at : (p d : ℕ) → d < 7 → get_or (crossings_at s label p) d false ≡ crosses s label p d
  unfolding crossings_at
  crossing_at p = by_direction (λ e. get_or (crossings_at s label p) e false ≡ crosses s label p e) refl refl refl refl refl refl refl

  module _ (cuts : List ℕ) where
    pub byte_fine : (o : ℕ) → crosses s label (o / 7) (o % 7) ≡ false → get_or cuts o 0 ≡ 0 → cut_fault s label cuts o ≡ 0
    unfolding cut_fault
    byte_fine o m e = simp (m, eq-eqb _ 0 e)

    -- the byte in direction d of the point p, as its test sees it in the part of the table that is lent
    pub seven_is : {own p : ℕ} → own ≡ p → (d : ℕ) → d < 7
        → seven_fault (crossings_at s label own) (take (7 * p + 7 - 7 * p) (drop (7 * p) cuts)) d ≡ cut_fault s label cuts (7 * p + d)
    unfolding seven_fault number_at cut_fault
    seven_is {own} {p} e d h =
        let i : (7 * p + d) / 7 ≡ p = omega arith in
        let j : (7 * p + d) % 7 ≡ d = omega arith in
        let n : 7 * p + 7 - 7 * p ≡ 7 = omega arith in
        rw (i, j, e, n, crossing_at p d h, get_or-take 7 (drop (7 * p) cuts) d 0 h, get_or-drop (7 * p) cuts d 0) refl

    -- the answers, by what was passed and what was found
    abbrev number_from : ℕ → ℕ
    number_from o = if ltb o (7 * points s) then cut_fault s label cuts o else 0

    tested : {a e : ℕ} → Throughout (cut_fault s label cuts) 0 a e → Throughout (λ o. not (eqb (cut_fault s label cuts o) 0)) false a e
    tested t = record { is = λ j l u. ap (λ (n : ℕ). not (eqb n 0)) (t.is j l u) }

    pub answer_fine : {p : ℕ} → points s ≤ p → Throughout (cut_fault s label cuts) 0 0 (7 * p) → CutAnswer s label cuts (Ok tt)
    answer_fine h t =
        let e : 7 * points s ≡ first_cut s label cuts = none_lowest (tested t) (omega arith) in
        record { place = e; number = subst (λ (o : ℕ). 0 ≡ number_from o) e (simp (le-ltb (7 * points s) (7 * points s) (omega arith))) }

    is_number : (f : Fault) → not (eqb (fault_number f) 0) ≡ true
    is_number (Gap o) = refl
    is_number (Stray o) = refl

    pub answer_wrong : {f : Fault} → Wrong (cut_fault s label cuts) 0 (7 * points s) (fault_number f) (fault_offset f)
        → CutAnswer s label cuts (Err f)
    answer_wrong {f} w =
        record {
          place = e;
          number = subst (λ (k : ℕ). fault_number f ≡ number_from k) e (simp (lt-ltb (fault_offset f) (7 * points s) w.high) (sym w.number));
        }
      where
        e : fault_offset f ≡ first_cut s label cuts
        e =
            first_lowest (none_yet (omega arith))
            (here w.low w.high (ap (λ (k : ℕ). not (eqb k 0)) w.number ∙ is_number f) (tested w.before)) (omega arith)
