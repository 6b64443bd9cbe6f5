-- A point's seven bytes, by its edges, and their place in the table. Assumes nothing.
--     chosen_more             one end of an edge more
--     site_ends, site_mended  what mending seven bytes asks, and what it gives
--     seven_mended            the same in the table
use Prim.Native.Nat.{ℕ, ◌+◌, ◌*◌, ◌-◌, ◌/◌, ◌%◌, ◌≤◌, ◌<◌}
use native.Mathlib.Omega.{arith}
use mathlib.Core.Path.{◌≡◌, refl, sym, ap, subst, ◌∙◌}
use mathlib.Core.Bool.{Bool, true, false}
use mathlib.Core.List.{List}
use lib.IntN.{ℤ}
use lib.ListN.{length, get_or, set, take, drop, length-set}
use lib.Seq.{get_or-set_same, get_or-set_other}
use borrow.Author.Count.{below_more}
use Rattle.std.proofs.Common.{Option, Some, None, is_some, IfSome}
use Rattle.lattice.specs.declared.Sizes.{Sizes}
use Rattle.lattice.specs.declared.Site.{Site}
use Rattle.lattice.specs.Counts.{Sized, points}
use Rattle.lattice.specs.Direction.{as_start}
use Rattle.lattice.specs.Edge.{neighbour}
use Rattle.lattice.specs.inner.Site.{Sited}
use Rattle.lines.proofs.Sites.{site_lt}
use Rattle.moving.specs.declared.Label.{Label}
use Rattle.moving.specs.Label.{labels, opposed}
use Rattle.filling.specs.Check.{crosses, crosses_to}
use Rattle.lines.specs.inner.Strides.{ends_at}
use Rattle.mending.specs.Mend.{size_at, byte_to}
use Rattle.mending.proofs.Sizes.{opposed_some}
use Rattle.checks.specs.inner.Faults.{crossings_at}
use Rattle.checks.proofs.Faults.{crossing_at}
use Rattle.checks.proofs.Edges.{crosses_to_law}
use Rattle.patch.specs.declared.Counts.{Counts}
use Rattle.patch.specs.inner.Mends.{Mends, HasEnds, Chosen, end_if, seven_due, point_due, table_due}
use Rattle.patch.proofs.Mends.{same_due, lent_part}
use Rattle.basics.proofs.Part.{back}

-- one end more
pub chosen_more : {must : List Bool} {far : List ℕ} {ends : List (Option ℕ)} {d : ℕ} {v : Option ℕ} → Chosen must far ends d → d < 7
    → v ≡ end_if (get_or must d false) (get_or far d 0) → Chosen must far (set ends d v) (d + 1)
chosen_more {d = d} {v = v} c h e =
    record {
      long = length-set _ d v ∙ c.long;
      done = below_more _ d (λ j l. get_or-set_other _ d j v None (λ i. omega arith) ∙ c.done j l)
          (get_or-set_same _ d v None (omega (arith, c.long)) ∙ e);
    }

module _ (band : ℕ) (s : Sizes) (samples : List ℤ) (q : Site) (h : Sized s) (long : length samples ≡ points s) (a : Sited s q) where
  abbrev label : ℕ → Label
  label = labels band samples

  module _ {must : List Bool} {far : List ℕ} {ends : List (Option ℕ)} (m : must ≡ crossings_at s label q.own) (f : far ≡ ends_at s q)
      (z : Chosen must far ends 7) where
    end_is : (d : ℕ) → d < 7 → get_or ends d None ≡ end_if (crosses s label q.own d) (get_or far d 0)
    end_is d u =
        z.done d u ∙ ap (λ (t : Bool). end_if t (get_or far d 0)) (ap (λ (l : List Bool). get_or l d false) m ∙ crossing_at s label q.own d u)

    leads_to_law : (d : ℕ) → d < 7 → crosses s label q.own d ≡ true
        → (neighbour s q.own (as_start d) ≡ Some (get_or far d 0)) × (get_or far d 0 < points s)
    leads_to_law d u c = crosses_to_law s q h a d u (ap (λ (l : List ℕ). get_or l d 0) f) label c

    start_some : (d : ℕ) → d < 7 → crosses s label q.own d ≡ true → 0 < size_at samples q.own
    unfolding crosses_to labels
    start_some d u c =
        let w : opposed (label q.own) (label (get_or far d 0)) ≡ true = sym (ap (crosses_to s label q.own) (leads_to_law d u c).0) ∙ c in
        (opposed_some band _ _ w).0

    abbrev Has : Option ℕ → Type 0
    Has o = IfSome o (λ f. (q.own < length samples) × (f < length samples) × (0 < size_at samples q.own))

    pub site_ends : HasEnds samples q.own ends
    site_ends = record { each = λ d u. subst Has (sym (end_is d u)) (go d u (crosses s label q.own d) refl) }
      where
        go : (d : ℕ) → d < 7 → (t : Bool) → crosses s label q.own d ≡ t → Has (end_if t (get_or far d 0))
        go d u true c = (omega (arith, long, site_lt s q h a), omega (arith, long, (leads_to_law d u c).1), start_some d u c)
        go d u false c = tt

    pub site_mended : {old new : List ℕ} {c : Counts} → Mends (seven_due samples q.own ends) 0 7 old new c
        → Mends (point_due s label samples q.own) 0 7 old new c
    site_mended w =
        same_due
        (λ d l u. ap (λ (o : Option ℕ). is_some o) (end_is d u) ∙ told (crosses s label q.own d) (get_or far d 0))
        (λ d l u t.
        ap (byte_to samples q.own) (end_is d u ∙ ap (λ (b : Bool). end_if b (get_or far d 0)) t ∙ sym (leads_to_law d u t).0))
        (omega arith) w
      where
        told : (t : Bool) (n : ℕ) → is_some (end_if t n) ≡ t
        told true n = refl
        told false n = refl

-- the seven bytes of a point, lent and come back
module _ (s : Sizes) (label : ℕ → Label) (samples : List ℤ) (xs : List ℕ) where
  in_table : (p : ℕ) {ys : List ℕ} {c : Counts} → 7 * p + 7 ≤ length xs → Mends (point_due s label samples p) 0 7 (take 7 (drop (7 * p) xs)) ys c
      → Mends (table_due s label samples) (7 * p) (7 * p + 7) xs (back (7 * p) 7 xs ys) c
  in_table p h w =
      lent_part (table_due s label samples) (7 * p) 7 xs h
      (same_due
      (λ d l u. sym (ap (λ (k : ℕ). crosses s label k ((7 * p + d) % 7)) (start d u) ∙ ap (crosses s label p) (way d u)))
      (λ d l u t. sym (ap (λ (k : ℕ). byte_to samples k (neighbour s k (as_start ((7 * p + d) % 7)))) (start d u)
      ∙ ap (λ (k : ℕ). byte_to samples p (neighbour s p (as_start k))) (way d u)))
      (omega arith) w)
    where
      start : (d : ℕ) → d < 7 → (7 * p + d) / 7 ≡ p
      start d u = omega arith

      way : (d : ℕ) → d < 7 → (7 * p + d) % 7 ≡ d
      way d u = omega arith

  -- the part is lent from 7p to 7p + 7
  pub seven_mended : {own p : ℕ} {ys : List ℕ} {c : Counts} → own ≡ p → 7 * p + 7 ≤ length xs
      → Mends (point_due s label samples own) 0 7 (take (7 * p + 7 - 7 * p) (drop (7 * p) xs)) ys c
      → Mends (table_due s label samples) (7 * p) (7 * p + 7) xs (back (7 * p) (7 * p + 7 - 7 * p) xs ys) c
  seven_mended {own} {p} {ys} {c} e h w =
      let n : 7 * p + 7 - 7 * p ≡ 7 = omega arith in
      subst (λ (k : ℕ). Mends (table_due s label samples) (7 * p) (7 * p + 7) xs (back (7 * p) k xs ys) c) (sym n)
      (in_table p h
      (subst (λ (k : ℕ). Mends (point_due s label samples p) 0 7 (take k (drop (7 * p) xs)) ys c) n
      (subst (λ (k : ℕ). Mends (point_due s label samples k) 0 7 (take (7 * p + 7 - 7 * p) (drop (7 * p) xs)) ys c) e w)))
