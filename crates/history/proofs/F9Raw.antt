-- F-9, "Band before rim", compared: point by point and byte by byte, what filling's tests of the rim and of the cut bytes said by signs
-- (`raw`, `before`) and what they say by labels (`label`, `now`). Of every band and block; nothing is assumed.
--
-- `fill_raw` is filling as it stood directly before F-9. F-3: "The rim and cut-byte tests go on reading raw samples". What is written once
-- nothing is refused is that of today: F-9 did not change it.
--     InBand, RimInBand   a point in the band; a rim point above zero that is in it
--     EdgeInBand          an edge with an end in the band
--     rim_out, rim_stays  a rim point is at fault by its label exactly if it is so by its sign and is outside the band
--     no_gap              "A zero byte on an edge with an in-band end is no longer a 6": it has no fault
--     now_stray           "A non-zero byte there is now a 7"
--     fault_or            the fault of any other byte is the same; and a byte whose fault is another one is of an edge that crosses by signs
use Prim.Native.Nat.{ℕ, ◌*◌, ◌/◌, ◌%◌, ◌≤◌, ◌<◌}
use native.Mathlib.Omega.{arith}
use mathlib.Core.Path.{◌≡◌, refl, sym, ap, subst, ◌∙◌}
use mathlib.Core.Logic.{◌⊎◌, inl, inr}
use mathlib.Core.Bool.{Bool, false, not}
use mathlib.Core.List.{List}
use lib.IntN.{ℤ, pos, nat_abs}
use lib.ListN.{length, get_or}
use lib.Dec.{T, ltb, eqb}
use borrow.Author.Tests.{eq-eqb, ne_eqb, not-true}
use Rattle.std.specs.Prelude.{if◌then◌else◌, Option, Some, None}
use Rattle.basics.proofs.Test.{&&-l, &&-r, &&-i, T_true, F-false, decide, lt_or}
use Rattle.lattice.specs.Counts.{sizes_fit, points}
use Rattle.lattice.specs.Direction.{as_start}
use Rattle.lattice.specs.Edge.{neighbour}
use Rattle.lattice.specs.Rim.{rim}
use Rattle.moving.specs.declared.Label.{Label}
use Rattle.moving.specs.Label.{labels, band_fits, is_plus, opposed}
use Rattle.moving.specs.Block.{Block, reading_of}
use Rattle.moving.proofs.Band.{plus_out, opposed_out}
use Rattle.filling.specs.Check.{rim_fault, crosses_to, crosses, cut_fault, first_rim, first_cut}
use Rattle.filling.specs.Fill.{Outcome, refused, written}
use Rattle.history.proofs.F9Signs.{signs, sign_plus, plus_sign, same_opposed}

unfoldable pub fill_raw : ℕ → Block → List ℕ → List ℕ → Outcome
fill_raw band b state rows =
    let s = b.sizes in
    let raw = signs b.samples in
    let rim = first_rim s raw in
    let cut = first_cut s raw b.cuts in
    let refuse = refused state rows in
    if not (sizes_fit s) then refuse 1 0
    else if not (band_fits band) then refuse 14 0
    else if not (eqb (length b.samples) (points s)) then refuse 2 0
    else if not (eqb (length b.cuts) (7 * points s)) then refuse 3 0
    else if not (eqb (length state) (points s)) then refuse 4 0
    else if ltb rim (points s) then refuse 5 rim
    else if ltb cut (7 * points s) then refuse (cut_fault s raw b.cuts cut) cut
    else written state rows (reading_of band b)

module _ (b : Block) where
  -- what the tests read before
  abbrev pub raw : ℕ → Label
  raw = signs b.samples

  abbrev pub byte : ℕ → ℕ
  byte o = get_or b.cuts o 0

  abbrev pub before : ℕ → ℕ
  before o = cut_fault b.sizes raw b.cuts o

module _ (band : ℕ) (b : Block) where
  abbrev sample : ℕ → ℤ
  sample p = get_or b.samples p (pos 0)

  -- what they read now
  abbrev pub label : ℕ → Label
  label = labels band b.samples

  abbrev pub now : ℕ → ℕ
  now o = cut_fault b.sizes label b.cuts o

  -- "A sample whose size is at most the band"
  abbrev pub InBand : ℕ → Type 0
  InBand p = nat_abs (sample p) ≤ band

  -- a rim point that was a 5, and in the band
  pub record RimInBand (p : ℕ) : Type 0 where
    pub low : p < points b.sizes
    pub above : T (rim_fault b.sizes (raw b) p)
    pub inside : InBand p

  -- a byte "on an edge with an in-band end"
  pub record EdgeInBand (o : ℕ) : Type 0 where
    pub far : ℕ
    pub leads : neighbour b.sizes (o / 7) (as_start (o % 7)) ≡ Some far
    pub end : InBand (o / 7) ⊎ InBand far

  -- a rim point that is at fault by its label
  pub rim_out : (p : ℕ) → T (rim_fault b.sizes label p) → T (rim_fault b.sizes (raw b) p) × (band < nat_abs (sample p))
  unfolding rim_fault labels signs
  rim_out p t =
      let on = &&-l (rim b.sizes p) (is_plus (label p)) t in
      let plus = &&-r (rim b.sizes p) (is_plus (label p)) t in
      (&&-i (rim b.sizes p) (is_plus (raw b p)) on (plus_sign band (sample p) plus), plus_out band (sample p) plus)

  pub rim_stays : (p : ℕ) → T (rim_fault b.sizes (raw b) p) → band < nat_abs (sample p) → T (rim_fault b.sizes label p)
  unfolding rim_fault labels signs
  rim_stays p t l =
      let on = &&-l (rim b.sizes p) (is_plus (raw b p)) t in
      let plus = &&-r (rim b.sizes p) (is_plus (raw b p)) t in
      &&-i (rim b.sizes p) (is_plus (label p)) on (sign_plus band (sample p) l plus)

  -- an edge with an in-band end does not cross
  uncrossed : (o : ℕ) → EdgeInBand o → crosses b.sizes label (o / 7) (o % 7) ≡ false
  unfolding crosses_to labels
  uncrossed o e =
      ap (crosses_to b.sizes label (o / 7)) e.leads
      ∙ F-false (opposed (label (o / 7)) (label e.far)) (λ t.
      let out = opposed_out band (sample (o / 7)) (sample e.far) t in
      elim e.end [ inl l ↦ omega arith | inr l ↦ omega arith ])

  -- "A zero byte on an edge with an in-band end is no longer a 6"
  pub no_gap : (o : ℕ) → EdgeInBand o → byte b o ≡ 0 → now o ≡ 0
  unfolding cut_fault
  no_gap o e z = rw (uncrossed o e, eq-eqb _ _ z) refl

  -- "A non-zero byte there is now a 7"
  pub now_stray : (o : ℕ) → EdgeInBand o → (byte b o ≡ 0 → ⊥) → now o ≡ 7
  unfolding cut_fault
  now_stray o e n = rw (uncrossed o e, ne_eqb _ _ n) refl

  -- any other byte's fault is what it was; and the edge of one that changed crossed by raw samples
  pub fault_or : (o : ℕ) → (EdgeInBand o × T (crosses b.sizes (raw b) (o / 7) (o % 7))) ⊎ (now o ≡ before b o)
  unfolding cut_fault crosses_to labels signs
  fault_or o = go (neighbour b.sizes (o / 7) (as_start (o % 7))) refl
    where
      p : ℕ
      p = o / 7

      -- what is asked of a neighbour
      Told : Option ℕ → Type 0
      Told n =
          (EdgeInBand o × T (crosses_to b.sizes (raw b) p n)) ⊎ (crosses_to b.sizes label p n ≡ crosses_to b.sizes (raw b) p n)

      inside : (q : ℕ) → neighbour b.sizes p (as_start (o % 7)) ≡ Some q → InBand p ⊎ InBand q → Told (Some q)
      inside q to i =
          let e : EdgeInBand o = record { far = q; leads = to; end = i } in
          let none = sym (ap (crosses_to b.sizes label p) to) ∙ uncrossed o e in
          elim (decide (opposed (raw b p) (raw b q))) [
            | inl t ↦ inl (e, t)
            | inr t ↦ inr (none ∙ sym (not-true _ (T_true _ t)))
          ]

      told : (n : Option ℕ) → neighbour b.sizes p (as_start (o % 7)) ≡ n → Told n
      told None to = inr refl
      told (Some q) to =
          elim (lt_or band (nat_abs (sample p))) [
            | inr l ↦ inside q to (inl l)
            | inl l ↦
                elim (lt_or band (nat_abs (sample q))) [
                  | inr k ↦ inside q to (inr k)
                  | inl k ↦ inr (same_opposed band (sample p) (sample q) l k)
                ]
          ]

      go : (n : Option ℕ) → neighbour b.sizes p (as_start (o % 7)) ≡ n
          → (EdgeInBand o × T (crosses b.sizes (raw b) p (o % 7))) ⊎ (now o ≡ before b o)
      go n to =
          elim (told n to) [
            | inl (e, t) ↦ inl (e, subst (λ (n : Option ℕ). T (crosses_to b.sizes (raw b) p n)) (sym to) t)
            | inr same ↦ inr (ap (λ (c : Bool). if c then (if eqb (byte b o) 0 then 6 else 0) else (if eqb (byte b o) 0 then 0 else 7))
                (ap (crosses_to b.sizes label p) to ∙ same ∙ sym (ap (crosses_to b.sizes (raw b) p) to)))
          ]
