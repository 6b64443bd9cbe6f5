-- Points and lines with nothing to find. Assumes nothing.
--     ends_in         candidates in the table
--     calm_none       no candidate is opposed: no edge crosses
--     calm_fine       with bytes that are all zero a point's seven bytes are fine
--     level_fine      the same for a part of a line whose five ranges are level
--     covers          the five ranges hold all candidates
use Prim.Native.Nat.{ℕ, ◌+◌, ◌*◌, ◌-◌, ◌/◌, ◌%◌, ◌≤◌, ◌<◌}
use native.Mathlib.Nat.{le-mul_of_pos_right}
use native.Mathlib.Omega.{arith}
use mathlib.Core.Path.{◌≡◌, refl, ap, ◌∙◌}
use mathlib.Core.Bool.{Bool, false}
use mathlib.Core.List.{List}
use lib.IntN.{ℤ, pos}
use lib.ListN.{get_or}
use Rattle.lattice.specs.declared.Sizes.{Sizes}
use Rattle.lattice.specs.declared.Kind.{Kind}
use Rattle.lattice.specs.declared.Kind.TheVariants.{Corner, Centre}
use Rattle.lattice.specs.declared.Site.{Site}
use Rattle.lattice.specs.Axis.{along_x}
use Rattle.lattice.specs.Counts.{Sized, grid}
use Rattle.lattice.specs.inner.Site.{Sited}
use Rattle.lattice.proofs.Sites.{by_direction}
use Rattle.moving.specs.declared.Label.{Label}
use Rattle.moving.specs.Label.{labels}
use Rattle.filling.specs.Check.{crosses, cut_fault}
use Rattle.ranges.specs.inner.Blank.{Blank}
use Rattle.lines.specs.inner.Lines.{Line, line_at}
use Rattle.labelling.specs.inner.Labels.{has_label}
use Rattle.lines.specs.inner.Strides.{ends_of, ends_at, range_most}
use Rattle.labelling.proofs.Labels.{both_lack}
use Rattle.lines.proofs.Points.{sited}
use Rattle.lines.proofs.Lines.{line_stands, line_at_law}
use Rattle.lines.proofs.FarEnds.{line_fits_across, site_numbers}
use Rattle.checks.specs.inner.Faults.{PointFine, PartFine, crossings_at}
use Rattle.checks.specs.inner.Glance.{Calm, Level, Held, Covers}
use Rattle.checks.proofs.Faults.{none_at, byte_fine, crossing_at}
use Rattle.checks.proofs.Edges.{calm_crosses}

module _ {s : Sizes} {label : ℕ → Label} {q : Site} (h : Sized s) (g : Sited s q) where
  pub calm_none : Calm label q.own (ends_at s q) → (d : ℕ) → d < 7 → crosses s label q.own d ≡ false
  calm_none w d i = calm_crosses s q h g d i refl label (w.none d i)

  pub calm_fine : {ends : List ℕ} → ends ≡ ends_at s q → Calm label q.own ends
      → (bytes : List ℕ) → Blank bytes 0 7 → PointFine s label bytes q
  calm_fine e w bytes z =
      record {
        is = λ d l u.
            none_at (crossings_at s label q.own) bytes d (crossing_at s label q.own d u ∙ calm_none (rw e at w) d u) (z d l u);
      }

-- no candidate is higher than the third and the fourth
pub ends_in : {s : Sizes} (q : Site) {ends : List ℕ} {n : ℕ} → Sized s → ends ≡ ends_at s q → get_or ends 2 0 < n → get_or ends 3 0 < n
    → (d : ℕ) → d < 7 → get_or ends d 0 < n
unfolding ends_at
ends_in {s} q {ends} {n} h e a b d i = rw e (go q.kind (rw e at a) (rw e at b))
  where
    go : (k : Kind) → get_or (ends_of k s q) 2 0 < n → get_or (ends_of k s q) 3 0 < n → get_or (ends_of k s q) d 0 < n
    go Corner a b =
        let l = le-mul_of_pos_right {m = s.ny + 1} (s.nx + 1) (omega arith) in
        by_direction (λ d. get_or (ends_of Corner s q) d 0 < n)
        (omega arith) (omega arith) (omega arith) (omega arith) (omega arith) (omega arith) (omega arith) d i
    go Centre a b =
        let l = le-mul_of_pos_right {m = s.ny} s.nx h.y_low in
        by_direction (λ d. get_or (ends_of Centre s q) d 0 < n)
        (omega arith) (omega arith) (omega arith) (omega arith) (omega arith) (omega arith) (omega arith) d i

-- x numbers along a line all candidates are x numbers further
ends_on : (s : Sizes) (q : Site) → Sited s q → (x d : ℕ) → d < 7 → get_or (ends_at s (line_at q x)) d 0 ≡ get_or (ends_at s q) d 0 + x
unfolding ends_at
ends_on s q g x d i = go q.kind refl
  where
    go : (k : Kind) → q.kind ≡ k → get_or (ends_of k s (line_at q x)) d 0 ≡ get_or (ends_of k s q) d 0 + x
    go Corner k =
        let o = line_fits_across s q g k in
        by_direction (λ d. get_or (ends_of Corner s (line_at q x)) d 0 ≡ get_or (ends_of Corner s q) d 0 + x)
        (omega arith) (omega arith) (omega arith) (omega arith) (omega arith) (omega arith) (omega arith) d i
    go Centre k =
        by_direction (λ d. get_or (ends_of Centre s (line_at q x)) d 0 ≡ get_or (ends_of Centre s q) d 0 + x)
        (omega arith) (omega arith) (omega arith) (omega arith) (omega arith) (omega arith) (omega arith) d i

-- the points of index f on and before e in a line whose five ranges lack the label, and whose bytes are all zero
module _ {s : Sizes} {band : ℕ} {samples : List ℤ} {q : Site} (h : Sized s) (l : Line s q.own q) {plus : Bool} {starts : List ℕ}
    (f e : ℕ) {n : ℕ} (v : Covers (q.own + f) (ends_at s (line_at q f)) starts) (c : e ≤ f + n) (g : e ≤ grid s q.kind along_x)
    (w : Level plus band samples starts n) where
  abbrev Lacks : ℕ → Type 0
  Lacks p = has_label plus band (get_or samples p (pos 0)) ≡ false

  module _ (x : ℕ) (i : f ≤ x) (j : x < e) where
    self_lacks : Lacks (q.own + x)
    self_lacks =
        let p : q.own + x ≡ get_or starts 0 0 + (x - f) = omega (arith, v.self) in
        ap (λ (p : ℕ). has_label plus band (get_or samples p (pos 0))) p ∙ w.none 0 (omega arith) (x - f) (omega arith)

    end_lacks : (d : ℕ) → d < 7 → Lacks (get_or (ends_at s (line_at q x)) d 0)
    end_lacks d k =
        let r = v.each d k in
        let y = get_or (ends_at s (line_at q f)) d 0 - get_or starts r.range 0 + (x - f) in
        let at_x = ends_on s q (sited (line_stands l)) x d k in
        let at_f = ends_on s q (sited (line_stands l)) f d k in
        let p : get_or (ends_at s (line_at q x)) d 0 ≡ get_or starts r.range 0 + y = omega (arith, at_x, at_f, r.from) in
        ap (λ (p : ℕ). has_label plus band (get_or samples p (pos 0))) p ∙ w.none r.range r.is_range y (omega (arith, r.to))

    level_calm : Calm (labels band samples) (q.own + x) (ends_at s (line_at q x))
    unfolding labels
    level_calm = record { none = λ d k. both_lack plus band _ _ self_lacks (end_lacks d k) }

    level_none : (d : ℕ) → d < 7 → crosses s (labels band samples) (q.own + x) d ≡ false
    level_none = calm_none h (sited (line_at_law l x (omega arith))) level_calm

  pub level_fine : (cuts : List ℕ) → Blank cuts (7 * (q.own + f)) (7 * (q.own + e)) → PartFine s (labels band samples) cuts q f e
  level_fine cuts z = record { is = at }
    where
      at : (o : ℕ) → 7 * (q.own + f) ≤ o → o < 7 * (q.own + e) → cut_fault s (labels band samples) cuts o ≡ 0
      at o a b =
          let p : o / 7 ≡ q.own + (o / 7 - q.own) = omega arith in
          let n = level_none (o / 7 - q.own) (omega arith) (omega arith) (o % 7) (omega arith) in
          byte_fine s (labels band samples) cuts o (ap (λ (p : ℕ). crosses s (labels band samples) p (o % 7)) p ∙ n) (z o a b)

-- where the five ranges start
module _ (s : Sizes) (q : Site) where
  -- candidates that stand side by side
  pairs : (k : Kind)
      → (get_or (ends_of k s q) 0 0 ≡ q.own + 1)
      × (get_or (ends_of k s q) 4 0 ≤ get_or (ends_of k s q) 3 0) × (get_or (ends_of k s q) 3 0 ≤ get_or (ends_of k s q) 4 0 + 1)
      × (get_or (ends_of k s q) 6 0 ≤ get_or (ends_of k s q) 5 0) × (get_or (ends_of k s q) 5 0 ≤ get_or (ends_of k s q) 6 0 + 1)
  pairs Corner = (refl, omega arith, omega arith, omega arith, omega arith)
  pairs Centre = (refl, omega arith, omega arith, omega arith, omega arith)

  module _ (h : Sized s) (g : Sited s q) where
    end_small : (d : ℕ) → d < 7 → get_or (ends_at s q) d 0 < range_most + 1
    unfolding ends_at
    end_small = ends_in q h refl (high q.kind).0 (high q.kind).1
      where
        high : (k : Kind) → (get_or (ends_of k s q) 2 0 < range_most + 1) × (get_or (ends_of k s q) 3 0 < range_most + 1)
        high Corner = let n = site_numbers s q h g in (omega arith, omega arith)
        high Centre = let n = site_numbers s q h g in (omega arith, omega arith)

    module _ {ends starts : List ℕ} (e : ends ≡ ends_at s q) (at-0 : get_or starts 0 0 ≡ q.own) (at_1 : get_or starts 1 0 ≡ get_or ends 1 0)
        (at-2 : get_or starts 2 0 ≡ get_or ends 2 0) (at-3 : get_or starts 3 0 ≡ get_or ends 4 0) (at-4 : get_or starts 4 0 ≡ get_or ends 6 0) where
      held : (k p : ℕ) → k < 5 → get_or starts k 0 ≤ p → p ≤ get_or starts k 0 + 1 → Held starts p
      held k p i a b = record { range = k; is_range = i; from = a; to = b }

      pub covers : Covers q.own (ends_at s q) starts
      unfolding ends_at
      covers =
          let w = pairs q.kind in
          let at : (d : ℕ) → get_or ends d 0 ≡ get_or (ends_at s q) d 0 = λ d. ap (λ (l : List ℕ). get_or l d 0) e in
          record {
            self = at-0;
            each = by_direction (λ d. Held starts (get_or (ends_at s q) d 0))
                (held 0 _ (omega arith) (omega arith) (omega arith))
                (held 1 _ (omega arith) (omega (arith, at 1)) (omega (arith, at 1)))
                (held 2 _ (omega arith) (omega (arith, at 2)) (omega (arith, at 2)))
                (held 3 _ (omega arith) (omega (arith, at 4)) (omega (arith, at 4)))
                (held 3 _ (omega arith) (omega (arith, at 4)) (omega (arith, at 4)))
                (held 4 _ (omega arith) (omega (arith, at 6)) (omega (arith, at 6)))
                (held 4 _ (omega arith) (omega (arith, at 6)) (omega (arith, at 6)));
            small = λ k i. by_direction (λ k. k < 5 → get_or starts k 0 ≤ range_most)
                (λ i. omega (arith, site_numbers s q h g))
                (λ i. omega (arith, at 1, end_small 1 (omega arith)))
                (λ i. omega (arith, at 2, end_small 2 (omega arith)))
                (λ i. omega (arith, at 4, end_small 4 (omega arith)))
                (λ i. omega (arith, at 6, end_small 6 (omega arith)))
                (λ i. absurd (omega arith)) (λ i. absurd (omega arith)) k (omega arith) i;
          }
