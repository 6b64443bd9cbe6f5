-- Filling's tests one after the other, by whatever labels: what each answer says of what was tested. Assumes nothing.
--     cut_tests, rim_tests, length_tests   the tests of the cut bytes, of the rim, and of sizes, band and lengths
--     fill_is                           filling is these tests by labels
--     Early, Late, early, late          the last refuse, whatever comes after them, or let it pass
--     rim_none, rim_at_law, not_five, after_rim   the rim
--     cut_none, cut_at, byte_named, cut_passed   the cut bytes
--     fault_le, written_ends            which numbers they give, and which the filling
use Prim.Native.Nat.{ℕ, ◌*◌, ◌/◌, ◌%◌, ◌≤◌, ◌<◌}
use native.Mathlib.Omega.{arith}
use mathlib.Core.Path.{◌≡◌, refl, sym, ap, ◌∙◌}
use mathlib.Core.Logic.{◌⊎◌, inl, inr}
use mathlib.Core.Bool.{Bool, true, false, not}
use mathlib.Core.List.{List, [], ◌∷◌}
use lib.ListN.{length, get_or}
use lib.Dec.{T, ltb, leb, eqb, T_not}
use borrow.Author.Tests.{lt-ltb, le-ltb, ltb-true, eqb-true, eq-eqb, ne_eqb, not-false}
use Rattle.std.specs.Prelude.{if◌then◌else◌}
use Rattle.basics.proofs.Test.{true_T, eqb_of, lt_or}
use Rattle.basics.proofs.Search.{lowest_passes, none_lowest, lowest_is}
use Rattle.lattice.specs.declared.Sizes.{Sizes}
use Rattle.lattice.specs.Counts.{points}
use Rattle.lattice.proofs.Sized.{fits_sized}
use Rattle.moving.specs.declared.Label.{Label}
use Rattle.moving.specs.Label.{labels, band_most}
use Rattle.moving.specs.Reading.{Reading}
use Rattle.moving.specs.Moving.{state_of}
use Rattle.moving.specs.Block.{Block, reading_of, Tabled}
use Rattle.moving.proofs.Band.{fits_banded}
use Rattle.filling.specs.Mesh.{rows_with}
use Rattle.filling.specs.Check.{rim_fault, crosses, cut_fault, first_rim, first_cut}
use Rattle.filling.specs.Refusal.{Refusal, first_of, wrong_sizes, wrong_band, wrong_samples, wrong_cuts, wrong_state}
use Rattle.filling.specs.Fill.{Outcome, refused, written, fill}
use Rattle.filling.proofs.Refusing.{Each, goes, none_applies}

-- a refusal by sizes, band or lengths: its number, and no place
record Sized (r : Refusal) : Type 0 where
  some : 0 < r.number
  few : (r.number < 5) ⊎ (r.number ≡ 14)
  nowhere : r.place ≡ 0

-- a cut byte's fault is 0, 6 or 7
pub fault_le : (s : Sizes) (label : ℕ → Label) (cuts : List ℕ) (o : ℕ) → cut_fault s label cuts o ≤ 7
unfolding cut_fault
fault_le s label cuts o = go (crosses s label (o / 7) (o % 7)) (eqb (get_or cuts o 0) 0)
  where
    go : (c z : Bool) → (if c then (if z then 6 else 0) else (if z then 0 else 7)) ≤ 7
    go true true = omega arith
    go true false = omega arith
    go false true = omega arith
    go false false = omega arith

-- what is written is answered with 0 or with 10
pub written_ends : (state rows : List ℕ) (r : Reading)
    → ((written state rows r).answer.number ≡ 0) ⊎ ((written state rows r).answer.number ≡ 10)
unfolding written
written_ends state rows r = go (leb (4 * length (rows_with r (state_of r))) (length rows))
  where
    go : (t : Bool) → (◌≡◌ {A = ℕ} (if t then 0 else 10) 0) ⊎ (◌≡◌ {A = ℕ} (if t then 0 else 10) 10)
    go true = inl refl
    go false = inr refl

module _ (b : Block) where
  -- the lowest fault of the rim, and of the cut bytes, by some labels
  abbrev pub rim_by : (ℕ → Label) → ℕ
  rim_by l = first_rim b.sizes l

  abbrev pub cut_by : (ℕ → Label) → ℕ
  cut_by l = first_cut b.sizes l b.cuts

  -- the cut bytes by some labels: which are at fault
  abbrev pub faulty : (ℕ → Label) → ℕ → Bool
  faulty l o = not (eqb (cut_fault b.sizes l b.cuts o) 0)

  pub faulty_so : (l : ℕ → Label) (o : ℕ) → T (faulty l o) → cut_fault b.sizes l b.cuts o ≡ 0 → ⊥
  faulty_so l o t z = T_not (eqb (cut_fault b.sizes l b.cuts o) 0) t (eqb_of _ 0 z)

  pub fine_so : (l : ℕ → Label) (o : ℕ) → faulty l o ≡ false → cut_fault b.sizes l b.cuts o ≡ 0
  fine_so l o e = eqb-true _ _ (not-false _ e)

  pub so_faulty : (l : ℕ → Label) (o : ℕ) → (cut_fault b.sizes l b.cuts o ≡ 0 → ⊥) → T (faulty l o)
  so_faulty l o h = true_T _ (ap not (ne_eqb _ _ h))

  pub so_fine : (l : ℕ → Label) (o : ℕ) → cut_fault b.sizes l b.cuts o ≡ 0 → faulty l o ≡ false
  so_fine l o z = ap not (eq-eqb _ _ z)

module _ (band : ℕ) (b : Block) (state rows : List ℕ) where
  abbrev n : ℕ
  n = points b.sizes

  -- the tests of the cut bytes, those of the rim before them, and those of sizes, band and lengths before both
  abbrev pub cut_tests : (ℕ → Label) → Outcome
  cut_tests l =
      if ltb (cut_by b l) (7 * n) then refused state rows (cut_fault b.sizes l b.cuts (cut_by b l)) (cut_by b l)
      else written state rows (reading_of band b)

  abbrev pub rim_tests : (ℕ → Label) → Outcome
  rim_tests l = if ltb (rim_by b l) n then refused state rows 5 (rim_by b l) else cut_tests l

  -- the first five of filling's refusals
  abbrev length_order : List Refusal
  length_order =
      wrong_sizes b.sizes ∷ wrong_band band ∷ wrong_samples b.sizes b.samples ∷ wrong_cuts b.sizes b.cuts
      ∷ wrong_state b.sizes state ∷ []

  abbrev pub length_tests : Outcome → Outcome
  length_tests more = first_of (refused state rows) length_order more

  pub fill_is : fill band b state rows ≡ length_tests (rim_tests (labels band b.samples))
  unfolding fill
  fill_is = refl

  -- sizes, band and lengths refuse, whatever comes after them
  pub record Early (k : ℕ) : Type 0 where
    pub some : 0 < k
    pub few : (k < 5) ⊎ (k ≡ 14)
    pub is : (more : Outcome) → length_tests more ≡ refused state rows k 0

  -- or they let it pass
  pub record Late : Type 0 where
    pub banded : band ≤ band_most
    pub tabled : Tabled b
    pub state_long : length state ≡ n
    pub is : (more : Outcome) → length_tests more ≡ more

  pub early : ((k : ℕ) × Early k) ⊎ Late
  early =
      elim (goes (refused state rows) Sized length_order each) [
        | inl (r, z, is) ↦
            inl (r.number, record { some = z.some; few = z.few; is = λ more. is more ∙ ap (refused state rows r.number) z.nowhere })
        | inr (p, (q, (r, (s, (u, end))))) ↦
            inr (record {
              banded = fits_banded band (not-false _ q);
              tabled = record {
                sized = fits_sized b.sizes (not-false _ p);
                samples_long = eqb-true _ _ (not-false _ r);
                cuts_long = eqb-true _ _ (not-false _ s);
              };
              state_long = eqb-true _ _ (not-false _ u);
              is = λ more. none_applies (refused state rows) length_order more (p, (q, (r, (s, (u, end)))));
            })
      ]
    where
      sized : (r : Refusal) → 0 < r.number → (r.number < 5) ⊎ (r.number ≡ 14) → r.place ≡ 0 → Sized r
      sized r l f e = record { some = l; few = f; nowhere = e }

      each : Each Sized length_order
      each = (
        sized (wrong_sizes b.sizes) (omega arith) (inl (omega arith)) refl,
        (
          sized (wrong_band band) (omega arith) (inr refl) refl,
          (
            sized (wrong_samples b.sizes b.samples) (omega arith) (inl (omega arith)) refl,
            (
              sized (wrong_cuts b.sizes b.cuts) (omega arith) (inl (omega arith)) refl,
              (
                sized (wrong_state b.sizes state) (omega arith) (inl (omega arith)) refl,
                tt,
              ),
            ),
          ),
        ),
      )

  -- an answer that is none of theirs comes from what is after them
  pub late : (x : Outcome) (m : ℕ) → (m ≡ 0) ⊎ ((5 ≤ m) × (m ≤ 10)) → (length_tests x).answer.number ≡ m → Late
  late x m k e =
      elim early [
        | inr w ↦ w
        | inl (i, w) ↦
            let f = sym (ap (λ (o : Outcome). o.answer.number) (w.is x)) ∙ e in
            absurd (elim k [
              | inl z ↦ omega (arith, w.some)
              | inr (u, v) ↦ elim w.few [ inl j ↦ omega arith | inr j ↦ omega arith ]
            ])
      ]

  -- the rim by some labels: nothing at fault, or a lowest point that is
  pub rim_none : (l : ℕ → Label) → ((p : ℕ) → p < n → rim_fault b.sizes l p ≡ false) → rim_tests l ≡ cut_tests l
  rim_none l h = rw (le-ltb (rim_by b l) n (omega (arith, none_lowest (rim_fault b.sizes l) n h))) refl

  pub rim_at_law : (l : ℕ → Label) (p : ℕ) → p < n → T (rim_fault b.sizes l p) → ((q : ℕ) → q < p → rim_fault b.sizes l q ≡ false)
      → rim_tests l ≡ refused state rows 5 p
  rim_at_law l p u t h = rw (lowest_is (rim_fault b.sizes l) n p u t h, lt-ltb p n u) refl

  -- a refusal of a cut byte names the lowest one at fault, by some labels
  pub byte_named : (l : ℕ → Label) (m : ℕ) → (m ≡ 6) ⊎ (m ≡ 7) → (cut_tests l).answer.number ≡ m
      → (cut_by b l < 7 * n) × (cut_fault b.sizes l b.cuts (cut_by b l) ≡ m) × ((cut_tests l).answer.place ≡ cut_by b l)
  byte_named l m k e = go (ltb (cut_by b l) (7 * n)) refl e
    where
      fault : ℕ
      fault = cut_fault b.sizes l b.cuts (cut_by b l)

      outcome : Bool → Outcome
      outcome t = if t then refused state rows fault (cut_by b l) else written state rows (reading_of band b)

      go : (t : Bool) → ltb (cut_by b l) (7 * n) ≡ t → (outcome t).answer.number ≡ m
          → (cut_by b l < 7 * n) × (fault ≡ m) × ((outcome t).answer.place ≡ cut_by b l)
      go true t f = (ltb-true _ _ t, f, refl)
      go false t f =
          absurd (elim (written_ends state rows (reading_of band b)) [
            | inl z ↦ elim k [ inl i ↦ omega arith | inr i ↦ omega arith ]
            | inr z ↦ elim k [ inl i ↦ omega arith | inr i ↦ omega arith ]
          ])

  -- what the rim does not refuse
  pub not_five : (l : ℕ → Label) (m : ℕ) → (5 ≡ m → ⊥) → (rim_tests l).answer.number ≡ m → (n ≤ rim_by b l) × (rim_tests l ≡ cut_tests l)
  not_five l m k e =
      elim (lt_or (rim_by b l) n) [
        | inl u ↦ absurd (k (sym (ap (λ (t : Bool). (outcome t).answer.number) (lt-ltb _ _ u)) ∙ e))
        | inr u ↦ (u, ap outcome (le-ltb _ _ u))
      ]
    where
      outcome : Bool → Outcome
      outcome t = if t then refused state rows 5 (rim_by b l) else cut_tests l

  -- an answer that comes after the tests of the rim
  pub after_rim : (l : ℕ → Label) (m : ℕ) → (m ≡ 0) ⊎ ((6 ≤ m) × (m ≤ 10)) → (length_tests (rim_tests l)).answer.number ≡ m
      → Late × (n ≤ rim_by b l) × (length_tests (rim_tests l) ≡ cut_tests l)
  after_rim l m k e =
      let k' : (m ≡ 0) ⊎ ((5 ≤ m) × (m ≤ 10)) = elim k [ inl z ↦ inl z | inr (u, v) ↦ inr (omega arith, v) ] in
      let w = late (rim_tests l) m k' e in
      let five = not_five l m (λ f. elim k [ inl z ↦ omega arith | inr (u, v) ↦ omega arith ])
      (sym (ap (λ (o : Outcome). o.answer.number) (w.is (rim_tests l))) ∙ e) in
      (w, five.0, w.is (rim_tests l) ∙ five.1)

  pub cut_at : (l : ℕ → Label) (o : ℕ) → cut_by b l ≡ o → o < 7 * n → cut_tests l ≡ refused state rows (cut_fault b.sizes l b.cuts o) o
  cut_at l o e u = rw (e, lt-ltb o (7 * n) u) refl

  pub cut_none : (l : ℕ → Label) → 7 * n ≤ cut_by b l → cut_tests l ≡ written state rows (reading_of band b)
  cut_none l u = rw (le-ltb (cut_by b l) (7 * n) u) refl

  -- a block that is filled has no byte at fault
  pub cut_passed : (l : ℕ → Label) (m : ℕ) → (m ≡ 0) ⊎ (m ≡ 10) → (cut_tests l).answer.number ≡ m → 7 * n ≤ cut_by b l
  cut_passed l m k e =
      elim (lt_or (cut_by b l) (7 * n)) [
        | inr u ↦ u
        | inl u ↦
            let f = sym (ap (λ (o : Outcome). o.answer.number) (cut_at l (cut_by b l) refl u)) ∙ e in
            absurd (elim k [
              | inl z ↦ faulty_so b l (cut_by b l) (lowest_passes (faulty b l) (7 * n) u) (f ∙ z)
              | inr z ↦ omega (arith, fault_le b.sizes l b.cuts (cut_by b l))
            ])
      ]
