-- F-9, "Band before rim", compared: filling as it stood directly before F-9 (`fill_raw`, F9Raw) beside today's. Whatever is handed in;
-- nothing is assumed.
--
--     raw_0          at band 0 nothing changes
--     five_goes_on   "Blocks refused with 5 only for in-band samples go on to the later tests"
--     five_outside   "A 5 whose lowest point is in the band now names the lowest one outside it, if there is one"
--     six_goes_on    "A zero byte on an edge with an in-band end is no longer a 6": where that was the answer, the later tests go on
--     never_six      and no 6 names such an edge
--     now_seven      "A non-zero byte there is now a 7": a block that was filled with such bytes is refused for the lowest one
--     four_kinds     every answer is as it was, or it is one of these four kinds (`Kind`)
--     as_before      where no rim point above zero and no crossing edge has an in-band end, it is as it was
--     rims_outside   the first of these two holds where no rim point is in the band at all
-- Of a single byte: no_gap, now_stray, fault_or (F9Raw).
use Prim.Native.Nat.{ℕ, ◌*◌, ◌/◌, ◌%◌, ◌≤◌, ◌<◌}
use native.Mathlib.Omega.{arith}
use mathlib.Core.Path.{◌≡◌, refl, sym, ap, subst, ◌∙◌}
use mathlib.Core.Logic.{◌⊎◌, inl, inr}
use mathlib.Core.Bool.{Bool, true, false}
use mathlib.Core.List.{List}
use lib.IntN.{pos, nat_abs}
use lib.ListN.{get_or}
use lib.Dec.{T}
use borrow.Author.Tests.{eq-eqb, ne_eqb}
use Rattle.std.specs.Prelude.{if◌then◌else◌}
use Rattle.basics.proofs.Test.{&&-l, T_true, F-false, false_F, lt_or}
use Rattle.basics.proofs.Search.{lowest_le, lowest_passes, lowest_fails, lowest_is}
use Rattle.lattice.specs.Counts.{points}
use Rattle.lattice.specs.Rim.{rim}
use Rattle.moving.specs.declared.Label.{Label}
use Rattle.moving.specs.Label.{is_plus}
use Rattle.moving.specs.Block.{Block}
use Rattle.moving.proofs.Bytes.{same_or}
use Rattle.filling.specs.Check.{rim_fault, crosses, cut_fault}
use Rattle.filling.specs.Fill.{Outcome, refused, fill}
use Rattle.filling.proofs.Tests.{rim_by, cut_by, faulty, faulty_so, fine_so, so_faulty, so_fine}
use Rattle.filling.proofs.Tests.{cut_tests, rim_tests, length_tests, fill_is, early, late}
use Rattle.filling.proofs.Tests.{rim_none, rim_at_law, after_rim, cut_none, cut_at, byte_named, cut_passed}
use Rattle.history.proofs.F9Signs.{labels_raw}
use Rattle.history.proofs.F9Raw.{fill_raw, raw, byte, before, label, now, InBand, RimInBand, EdgeInBand}
use Rattle.history.proofs.F9Raw.{rim_out, rim_stays, no_gap, now_stray, fault_or}

pub raw_0 : (b : Block) (state rows : List ℕ) → fill 0 b state rows ≡ fill_raw 0 b state rows
unfolding fill fill_raw
raw_0 b state rows = rw (labels_raw b.samples) refl

module _ (band : ℕ) (b : Block) (state rows : List ℕ) where
  abbrev n : ℕ
  n = points b.sizes

  abbrev size : ℕ → ℕ
  size p = nat_abs (get_or b.samples p (pos 0))

  -- "the later tests": those of the cut bytes by labels, and then the filling; and what they were
  abbrev pub later_tests : Outcome
  later_tests = cut_tests band b state rows (label band b)

  abbrev pub later_raw : Outcome
  later_raw = cut_tests band b state rows (raw b)

  is_now : fill band b state rows ≡ length_tests band b state rows (rim_tests band b state rows (label band b))
  is_now = fill_is band b state rows

  raw_is : fill_raw band b state rows ≡ length_tests band b state rows (rim_tests band b state rows (raw b))
  unfolding fill_raw
  raw_is = refl

  -- a rim point with no fault before, or in the band, has none now
  rim_fine : (p : ℕ) → rim_fault b.sizes (raw b) p ≡ false → rim_fault b.sizes (label band b) p ≡ false
  rim_fine p e = F-false _ (λ t. false_F _ e (rim_out band b p t).0)

  rim_inside : (p : ℕ) → (T (rim_fault b.sizes (raw b) p) → InBand band b p) → rim_fault b.sizes (label band b) p ≡ false
  rim_inside p h = F-false _ (λ t. let out = rim_out band b p t in omega (arith, out.1, h out.0))

  -- every rim point that is above zero is in the band
  abbrev pub OnlyInBand : Type 0
  OnlyInBand = (p : ℕ) → p < n → T (rim_fault b.sizes (raw b) p) → InBand band b p

  -- the lowest rim point that is above zero and outside the band
  pub record LowestOutside (p : ℕ) : Type 0 where
    pub low : p < n
    pub above : T (rim_fault b.sizes (raw b) p)
    pub outside : band < size p
    pub first : (q : ℕ) → q < p → T (rim_fault b.sizes (raw b) q) → InBand band b q

  pub five_goes_on : (fill_raw band b state rows).answer.number ≡ 5 → OnlyInBand → fill band b state rows ≡ later_tests
  five_goes_on e h =
      let pass = (late band b state rows _ 5 (inr (omega arith, omega arith)) (ap (λ (o : Outcome). o.answer.number) (sym raw_is) ∙ e)).is in
      is_now ∙ pass _ ∙ rim_none band b state rows (label band b) (λ p l. rim_inside p (h p l))

  outside_named : (p : ℕ) → LowestOutside p → rim_tests band b state rows (label band b) ≡ refused state rows 5 p
  outside_named p w =
      rim_at_law band b state rows (label band b) p w.low (rim_stays band b p w.above w.outside) (λ q l. rim_inside q (w.first q l))

  pub five_outside : (fill_raw band b state rows).answer.number ≡ 5 → (p : ℕ) → LowestOutside p
      → fill band b state rows ≡ refused state rows 5 p
  five_outside e p w =
      let pass = (late band b state rows _ 5 (inr (omega arith, omega arith)) (ap (λ (o : Outcome). o.answer.number) (sym raw_is) ∙ e)).is in
      is_now ∙ pass _ ∙ outside_named p w

  -- an edge with an in-band end is never a gap
  no_six : (o : ℕ) → EdgeInBand band b o → now band b o ≡ 6 → ⊥
  no_six o e f =
      elim (same_or (byte b o) 0) [
        | inl z ↦ omega (arith, no_gap band b o e z)
        | inr z ↦ omega (arith, now_stray band b o e z)
      ]

  pub never_six : (fill band b state rows).answer.number ≡ 6 → EdgeInBand band b (fill band b state rows).answer.place → ⊥
  never_six e w =
      let number : Outcome → ℕ = λ o. o.answer.number in
      let rim = after_rim band b state rows (label band b) 6 (inr (omega arith, omega arith)) (ap number (sym is_now) ∙ e) in
      let is = is_now ∙ rim.2 in
      let named = byte_named band b state rows (label band b) 6 (inl refl) (sym (ap number is) ∙ e) in
      no_six (cut_by b (label band b)) (subst (EdgeInBand band b) (ap (λ (o : Outcome). o.answer.place) is ∙ named.2) w) named.1

  -- an answer that came after the tests of the rim: no rim point was above zero, and none is plus now
  both_after : (m : ℕ) → (m ≡ 0) ⊎ ((6 ≤ m) × (m ≤ 10)) → (fill_raw band b state rows).answer.number ≡ m
      → (fill_raw band b state rows ≡ later_raw) × (fill band b state rows ≡ later_tests)
  both_after m k e =
      let (w, rim, cuts) = after_rim band b state rows (raw b) m k (ap (λ (o : Outcome). o.answer.number) (sym raw_is) ∙ e) in
      let none : (p : ℕ) → p < n → rim_fault b.sizes (label band b) p ≡ false
      = λ p l. rim_fine p (lowest_fails (rim_fault b.sizes (raw b)) n p (omega arith)) in
      (raw_is ∙ cuts, is_now ∙ w.is _ ∙ rim_none band b state rows (label band b) none)

  -- a 6 is of a zero byte
  gap_zero : (o : ℕ) → before b o ≡ 6 → byte b o ≡ 0
  unfolding cut_fault
  gap_zero o e =
      elim (same_or (byte b o) 0) [
        | inl z ↦ z
        | inr z ↦ absurd (none (crosses b.sizes (raw b) (o / 7) (o % 7)) (rw (ne_eqb _ _ z) at e))
      ]
    where
      none : (c : Bool) → ◌≡◌ {A = ℕ} (if c then 0 else 7) 6 → ⊥
      none true f = omega arith
      none false f = omega arith

  pub six_goes_on : (fill_raw band b state rows).answer.number ≡ 6 → EdgeInBand band b (fill_raw band b state rows).answer.place
      → (now band b (fill_raw band b state rows).answer.place ≡ 0) × (fill band b state rows ≡ later_tests)
  six_goes_on e w =
      let rim = both_after 6 (inr (omega arith, omega arith)) e in
      let named = byte_named band b state rows (raw b) 6 (inl refl) (sym (ap (λ (o : Outcome). o.answer.number) rim.0) ∙ e) in
      let place = ap (λ (o : Outcome). o.answer.place) rim.0 ∙ named.2 in
      let fine = no_gap band b (cut_by b (raw b)) (subst (EdgeInBand band b) place w) (gap_zero (cut_by b (raw b)) named.1) in
      (ap (now band b) place ∙ fine, rim.1)

  pub now_seven : (m : ℕ) → (m ≡ 0) ⊎ (m ≡ 10) → (fill_raw band b state rows).answer.number ≡ m
      → (o : ℕ) → o < 7 * n → EdgeInBand band b o → (byte b o ≡ 0 → ⊥)
      → ((j : ℕ) → j < o → EdgeInBand band b j → byte b j ≡ 0)
      → fill band b state rows ≡ refused state rows 7 o
  now_seven m k e o u w z first =
      let rim = both_after m (elim k [ inl i ↦ inl i | inr i ↦ inr (omega arith, omega arith) ]) e in
      let none = cut_passed band b state rows (raw b) m k (sym (ap (λ (o : Outcome). o.answer.number) rim.0) ∙ e) in
      let stray = now_stray band b o w z in
      let lowest = lowest_is (faulty b (label band b)) (7 * n) o u (so_faulty b (label band b) o (λ y. omega arith))
      (λ j l. so_fine b (label band b) j (still_fine j (first j l)
      (fine_so b (raw b) j (lowest_fails (faulty b (raw b)) (7 * n) j (omega arith))))) in
      rim.1 ∙ cut_at band b state rows (label band b) o lowest u ∙ ap (λ (f : ℕ). refused state rows f o) stray
    where
      still_fine : (j : ℕ) → (EdgeInBand band b j → byte b j ≡ 0) → before b j ≡ 0 → now band b j ≡ 0
      still_fine j h f = elim (fault_or band b j) [ inl (w, t) ↦ no_gap band b j w (h w) | inr same ↦ same ∙ f ]

  -- a byte of an edge that crosses by raw samples
  abbrev pub Crossed : ℕ → Type 0
  Crossed o = T (crosses b.sizes (raw b) (o / 7) (o % 7))

  was_gap : (o : ℕ) → Crossed o → byte b o ≡ 0 → before b o ≡ 6
  unfolding cut_fault
  was_gap o t z = rw (T_true (crosses b.sizes (raw b) (o / 7) (o % 7)) t, eq-eqb _ _ z) refl

  was_cut : (o : ℕ) → Crossed o → (byte b o ≡ 0 → ⊥) → before b o ≡ 0
  unfolding cut_fault
  was_cut o t z = rw (T_true (crosses b.sizes (raw b) (o / 7) (o % 7)) t, ne_eqb _ _ z) refl

  -- what F-9 makes of an answer
  pub data Kind : Type 0 where
    same : fill band b state rows ≡ fill_raw band b state rows → Kind
    -- a 5 for in-band samples alone
    goes_on : (r : ℕ) → RimInBand band b r → fill_raw band b state rows ≡ refused state rows 5 r → OnlyInBand
        → fill band b state rows ≡ later_tests → Kind
    -- a 5 whose lowest point is in the band
    names_outside : (r p : ℕ) → RimInBand band b r → fill_raw band b state rows ≡ refused state rows 5 r → LowestOutside p
        → fill band b state rows ≡ refused state rows 5 p → Kind
    -- a 6 of an edge with an in-band end
    no_longer_six : (o : ℕ) → o < 7 * n → EdgeInBand band b o → Crossed o → byte b o ≡ 0
        → fill_raw band b state rows ≡ refused state rows 6 o → now band b o ≡ 0 → fill band b state rows ≡ later_tests → Kind
    -- a byte of such an edge that was a cut's, with any answer before
    seven_now : (o : ℕ) → o < 7 * n → EdgeInBand band b o → Crossed o → (byte b o ≡ 0 → ⊥)
        → fill_raw band b state rows ≡ later_raw → before b o ≡ 0 → fill band b state rows ≡ refused state rows 7 o → Kind

  pub four_kinds : Kind
  four_kinds =
      elim (early band b state rows) [
        | inl (k, w) ↦ same (is_now ∙ w.is _ ∙ sym (raw_is ∙ w.is _))
        | inr w ↦ by_rim (is_now ∙ w.is _) (raw_is ∙ w.is _)
      ]
    where
      l : ℕ → Label
      l = label band b

      r : ℕ → Label
      r = raw b

      -- where no rim point was above zero, by the lowest bytes at fault now and before
      by_byte_law : fill band b state rows ≡ cut_tests band b state rows l → fill_raw band b state rows ≡ cut_tests band b state rows r → Kind
      by_byte_law is was =
          elim (lt_or (cut_by b l) (cut_by b r)) [
            | inl u ↦ lower u
            | inr u ↦ elim (lt_or (cut_by b r) (cut_by b l)) [ inl v ↦ higher v | inr v ↦ level (omega arith) ]
          ]
        where
          -- a byte that was fine is at fault now
          lower : cut_by b l < cut_by b r → Kind
          lower u =
              let o = cut_by b l in
              let small : o < 7 * n = omega (arith, lowest_le (faulty b r) (7 * n)) in
              let fault = faulty_so b l o (lowest_passes (faulty b l) (7 * n) small) in
              let fine = fine_so b r o (lowest_fails (faulty b r) (7 * n) o u) in
              elim (fault_or band b o) [
                | inr s ↦ absurd (fault (s ∙ fine))
                | inl (e, t) ↦
                    let cut : byte b o ≡ 0 → ⊥ = λ z. fault (no_gap band b o e z) in
                    let seven = ap (λ (f : ℕ). refused state rows f o) (now_stray band b o e cut) in
                    seven_now o small e t cut was fine (is ∙ cut_at band b state rows l o refl small ∙ seven)
              ]

          -- a byte that was at fault is fine now
          higher : cut_by b r < cut_by b l → Kind
          higher u =
              let o = cut_by b r in
              let small : o < 7 * n = omega (arith, lowest_le (faulty b l) (7 * n)) in
              let fault = faulty_so b r o (lowest_passes (faulty b r) (7 * n) small) in
              let fine = fine_so b l o (lowest_fails (faulty b l) (7 * n) o u) in
              elim (fault_or band b o) [
                | inr s ↦ absurd (fault (sym s ∙ fine))
                | inl (e, t) ↦
                    elim (same_or (byte b o) 0) [
                      | inr z ↦ absurd (fault (was_cut o t z))
                      | inl z ↦ no_longer_six o small e t z
                          (was ∙ cut_at band b state rows r o refl small ∙ ap (λ (f : ℕ). refused state rows f o) (was_gap o t z)) fine is
                    ]
              ]

          -- the same byte, if any
          level : cut_by b l ≡ cut_by b r → Kind
          level e =
              elim (lt_or (cut_by b r) (7 * n)) [
                | inr u ↦ same (is ∙ cut_none band b state rows l (omega arith) ∙ sym (was ∙ cut_none band b state rows r u))
                | inl u ↦
                    let o = cut_by b r in
                    let before-so = faulty_so b r o (lowest_passes (faulty b r) (7 * n) u) in
                    let now-so = faulty_so b l o (subst (λ (k : ℕ). T (faulty b l k)) e (lowest_passes (faulty b l) (7 * n) (omega arith))) in
                    elim (fault_or band b o) [
                      | inr s ↦
                          let old = was ∙ cut_at band b state rows r o refl u in
                          same (is ∙ cut_at band b state rows l o e u ∙ ap (λ (f : ℕ). refused state rows f o) s ∙ sym old)
                      | inl (w, t) ↦
                          elim (same_or (byte b o) 0) [
                            | inl z ↦ absurd (now-so (no_gap band b o w z))
                            | inr z ↦ absurd (before-so (was_cut o t z))
                          ]
                    ]
              ]

      -- by the lowest rim point that was above zero
      by_rim : fill band b state rows ≡ rim_tests band b state rows l → fill_raw band b state rows ≡ rim_tests band b state rows r → Kind
      by_rim is was =
          elim (lt_or (rim_by b r) n) [
            | inl u ↦ five u
            | inr u ↦
                let none : (p : ℕ) → p < n → rim_fault b.sizes r p ≡ false
                = λ p k. lowest_fails (rim_fault b.sizes r) n p (omega arith) in
                by_byte_law (is ∙ rim_none band b state rows l (λ p k. rim_fine p (none p k))) (was ∙ rim_none band b state rows r none)
          ]
        where
          five : rim_by b r < n → Kind
          five u =
              let p = rim_by b r in
              let above = lowest_passes (rim_fault b.sizes r) n u in
              let none = lowest_fails (rim_fault b.sizes r) n in
              let old = was ∙ rim_at_law band b state rows r p u above none in
              elim (lt_or band (size p)) [
                | inl k ↦ same (is ∙ rim_at_law band b state rows l p u (rim_stays band b p above k) (λ q i. rim_fine q (none q i)) ∙ sym old)
                | inr k ↦ inside (record { low = u; above = above; inside = k }) old
              ]
            where
              -- of a point in the band: is there one outside?
              outside_or : (q : ℕ) → rim_fault b.sizes l q ≡ false → T (rim_fault b.sizes r q) → InBand band b q
              outside_or q e t =
                  elim (lt_or band (size q)) [ inl k ↦ absurd (false_F _ e (rim_stays band b q t k)) | inr k ↦ k ]

              inside : RimInBand band b (rim_by b r) → fill_raw band b state rows ≡ refused state rows 5 (rim_by b r) → Kind
              inside w old =
                  let none = lowest_fails (rim_fault b.sizes l) n in
                  elim (lt_or (rim_by b l) n) [
                    | inl v ↦
                        let out = rim_out band b (rim_by b l) (lowest_passes (rim_fault b.sizes l) n v) in
                        let lowest : LowestOutside (rim_by b l)
                        = record { low = v; above = out.0; outside = out.1; first = λ q i t. outside_or q (none q i) t } in
                        names_outside (rim_by b r) (rim_by b l) w old lowest (is ∙ outside_named (rim_by b l) lowest)
                    | inr v ↦
                        let only : OnlyInBand = λ q i t. outside_or q (none q (omega arith)) t in
                        goes_on (rim_by b r) w old only (is ∙ rim_none band b state rows l (λ q i. rim_inside q (only q i)))
                  ]

  pub as_before : ((p : ℕ) → RimInBand band b p → ⊥) → ((o : ℕ) → o < 7 * n → Crossed o → EdgeInBand band b o → ⊥)
      → fill band b state rows ≡ fill_raw band b state rows
  as_before rims edges = go four_kinds
    where
      go : Kind → fill band b state rows ≡ fill_raw band b state rows
      go (same e) = e
      go (goes_on r w old only new) = absurd (rims r w)
      go (names_outside r p w old lowest new) = absurd (rims r w)
      go (no_longer_six o u e t z old fine new) = absurd (edges o u t e)
      go (seven_now o u e t z old fine new) = absurd (edges o u t e)

  -- so it is where no rim point is in the band at all
  pub rims_outside : ((p : ℕ) → p < n → T (rim b.sizes p) → band < size p) → (p : ℕ) → RimInBand band b p → ⊥
  unfolding rim_fault
  rims_outside h p w = omega (arith, h p w.low (&&-l (rim b.sizes p) (is_plus (raw b p)) w.above), w.inside)
