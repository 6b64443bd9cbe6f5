-- Parts of a cut table that are mended: one byte, nothing to do, two parts one after the other, a part that was lent. Assumes nothing.
--     changed, byte_mended           one byte, also after a part that is mended
--     fine_part, none_yet            a part without a fault, and none
--     joined, spelt                  a part, then the next; ends that are spelt otherwise
--     few                            no more is counted than there are bytes
--     same_due                       two dues that agree in a part
--     shifted, lent_part             a part that was lent, in the whole table
use Prim.Native.Nat.{ℕ, suc, ◌+◌, ◌-◌, ◌≤◌, ◌<◌}
use native.Mathlib.Omega.{arith}
use mathlib.Core.Path.{◌≡◌, refl, sym, ap, subst, ◌∙◌}
use mathlib.Core.Logic.{inl, inr}
use mathlib.Core.Bool.{Bool, true, false}
use mathlib.Core.List.{List}
use lib.Dec.{eqb}
use lib.ListN.{length, get_or, set, take, drop, length-set, length-drop}
use lib.Seq.{get_or-set_same, get_or-set_other, length-take-le}
use borrow.Author.Tests.{ne_eqb, eqb-true}
use Rattle.std.specs.Prelude.{if◌then◌else◌}
use Rattle.basics.specs.Lists.{count}
use Rattle.basics.proofs.Test.{lt_or}
use Rattle.basics.proofs.Search.{count_le, count_none, count_same, count_parts, count_rest}
use Rattle.checks.specs.inner.Search.{Throughout}
use Rattle.checks.specs.inner.Faults.{number_at}
use Rattle.patch.specs.declared.Counts.{Counts}
use Rattle.patch.specs.inner.Mends.{Due, due_byte, counted, fault_by, fixed_by, faults_before, Mends}
use Rattle.basics.proofs.Part.{back, lent_at, back_long, back_before, back_within, back_after}

abbrev pub counts : ℕ → ℕ → Counts
counts f c = record { filled = f; cleared = c }

pub no_counts : {c : Counts} → (c.filled ≡ 0) × (c.cleared ≡ 0) → c ≡ counts 0 0
no_counts z = λ i. record { filled = z.0 i; cleared = z.1 i }

module _ (r : Due) (old : List ℕ) where
  -- a fault and what becomes of a byte hang on that byte alone
  fault_alone : (new : List ℕ) (o : ℕ) → get_or new o 0 ≡ get_or old o 0 → fault_by r new o ≡ fault_by r old o
  fault_alone new o e = ap (number_at (r.must o)) e

  fixed_alone : (new : List ℕ) (o : ℕ) → get_or new o 0 ≡ get_or old o 0 → fixed_by r new o ≡ fixed_by r old o
  unfolding due_byte
  fixed_alone new o e = rw e refl

  -- a byte without a fault stays
  fixed_fine : (o : ℕ) → fault_by r old o ≡ 0 → get_or old o 0 ≡ fixed_by r old o
  unfolding number_at due_byte
  fixed_fine o = go (r.must o) (eqb (get_or old o 0) 0) refl
    where
      go : (m z : Bool) → eqb (get_or old o 0) 0 ≡ z → ◌≡◌ {A = ℕ} (if m then (if z then 6 else 0) else (if z then 0 else 7)) 0
          → get_or old o 0 ≡ (if m then (if z then r.guess o else get_or old o 0) else 0)
      go true true e f = absurd (omega arith)
      go true false e f = refl
      go false true e f = eqb-true _ _ e
      go false false e f = absurd (omega arith)

  -- a part without a fault adds to no count
  none_more : (n a e : ℕ) → (0 ≡ n → ⊥) → a ≤ e → Throughout (fault_by r old) 0 a e
      → 0 + faults_before r old n a ≡ faults_before r old n e
  none_more n a e m l t =
      let none : (z : ℕ) → count (λ j. false) z ≡ 0 = λ z. count_none (λ j. false) z (λ j u. refl) in
      let rest = count_rest (λ j. eqb (fault_by r old j) n) (λ j. false) a e l (λ o i u. ne_eqb _ _ (λ q. m (sym (t.is o i u) ∙ q))) in
      omega (arith, rest, none a, none e)

  -- a byte adds to the count of its fault
  one_more : (d n k : ℕ) → fault_by r old d ≡ k → (if eqb k n then 1 else 0) + faults_before r old n d ≡ faults_before r old n (d + 1)
  unfolding count
  one_more d n k e = rw (next d, sym e) (omega arith)
    where
      next : (d : ℕ) → d + 1 ≡ suc d
      next d = omega arith

module _ {r : Due} where
  pub fine_part : {old : List ℕ} {a e : ℕ} {c : Counts} → a ≤ e → Throughout (fault_by r old) 0 a e → c ≡ counts 0 0 → Mends r a e old old c
  fine_part {old} {a} {e} l t z =
      rw z
      (record {
        long = refl;
        before = λ o h. refl;
        within = λ o h u. fixed_fine r old o (t.is o h u);
        after = λ o h. refl;
        filled = none_more r old 6 a e (λ q. omega arith) l t;
        cleared = none_more r old 7 a e (λ q. omega arith) l t;
      })

  -- nothing yet
  pub none_yet : {old : List ℕ} {a : ℕ} {c : Counts} → c ≡ counts 0 0 → Mends r a a old old c
  none_yet z = fine_part (omega arith) (record { is = λ j l u. absurd (omega arith) }) z

  -- the same part, its ends spelt otherwise
  pub spelt : {old new : List ℕ} {a b e f : ℕ} {c : Counts} → a ≡ b → e ≡ f → Mends r a e old new c → Mends r b f old new c
  spelt {old} {new} {a} {b} {e} {f} {c} g h w = subst (λ (k : ℕ). Mends r b k old new c) h (subst (λ (k : ℕ). Mends r k e old new c) g w)

  -- a part, then the next
  pub joined : {old mid new : List ℕ} {a m e : ℕ} {c d z : Counts} → Mends r a m old mid c → Mends r m e mid new d → a ≤ m → m ≤ e
      → z.filled ≡ c.filled + d.filled → z.cleared ≡ c.cleared + d.cleared → Mends r a e old new z
  joined {old} {mid} {new} {a} {m} {e} {c} {d} {z} v w l k f g =
      record {
        long = w.long ∙ v.long;
        before = λ o h. w.before o (omega arith) ∙ v.before o h;
        within = λ o h u. elim (lt_or o m) [
          | inl i ↦ w.before o i ∙ v.within o h i
          | inr i ↦ w.within o i u ∙ fixed_alone r old mid o (v.after o i)
        ];
        after = λ o h. w.after o h ∙ v.after o (omega arith);
        filled = omega (arith, v.filled, w.filled, rest 6);
        cleared = omega (arith, v.cleared, w.cleared, rest 7);
      }
    where
      rest : (n : ℕ) → faults_before r mid n e + faults_before r old n m ≡ faults_before r old n e + faults_before r mid n m
      rest n =
          count_rest (λ j. eqb (fault_by r mid j) n) (λ j. eqb (fault_by r old j) n) m e k
          (λ o i u. ap (λ (x : ℕ). eqb x n) (fault_alone r old mid o (v.after o i)))

  -- no more is filled in, or cleared, than there are bytes
  pub few : {old new : List ℕ} {a e : ℕ} {c : Counts} → Mends r a e old new c → (c.filled ≤ e) × (c.cleared ≤ e)
  few {old} {a = a} {e = e} w = (omega (arith, w.filled, most 6), omega (arith, w.cleared, most 7))
    where
      most : (n : ℕ) → faults_before r old n e ≤ e
      most n = count_le (λ j. eqb (fault_by r old j) n) e

  -- one byte, by what it becomes and how it counts
  pub changed : {old : List ℕ} {d v : ℕ} {c : Counts} → d < length old → v ≡ fixed_by r old d → c ≡ counted (fault_by r old d)
      → Mends r d (d + 1) old (set old d v) c
  changed {old} {d} {v} u f z =
      rw z
      (record {
        long = length-set old d v;
        before = λ o h. get_or-set_other old d o v 0 (λ i. omega arith);
        within = λ o h i. ap (λ (j : ℕ). get_or (set old d v) j 0) (here o h i) ∙ get_or-set_same old d v 0 u ∙ f
            ∙ ap (fixed_by r old) (sym (here o h i));
        after = λ o h. get_or-set_other old d o v 0 (λ i. omega arith);
        filled = one_more r old d 6 _ refl;
        cleared = one_more r old d 7 _ refl;
      })
    where
      here : (o : ℕ) → d ≤ o → o < d + 1 → o ≡ d
      here o h i = omega arith

  -- the byte that comes after a part that is mended
  pub byte_mended : {old mid : List ℕ} {a d v : ℕ} {z c : Counts} → Mends r a d old mid z → d < length mid → v ≡ fixed_by r mid d
      → c ≡ counted (fault_by r mid d) → Mends r d (d + 1) mid (set mid d v) c
  byte_mended w u f z = changed u f z

-- two dues that agree in a part on which bytes must be there and, where one must, on what a missing one becomes
module _ {r t : Due} {a e : ℕ} (must : (o : ℕ) → a ≤ o → o < e → r.must o ≡ t.must o)
    (guess : (o : ℕ) → a ≤ o → o < e → t.must o ≡ true → r.guess o ≡ t.guess o) where
  pub same_due : {old new : List ℕ} {c : Counts} → a ≤ e → Mends r a e old new c → Mends t a e old new c
  unfolding due_byte
  same_due {old} l w =
      record {
        long = w.long;
        before = w.before;
        within = λ o h u. w.within o h u ∙ ap (fixed (r.guess o) o) (must o h u) ∙ by_must (t.must o) o (guess o h u);
        after = w.after;
        filled = omega (arith, w.filled, rest 6);
        cleared = omega (arith, w.cleared, rest 7);
      }
    where
      fixed : ℕ → ℕ → Bool → ℕ
      fixed g o m = if m then (if eqb (get_or old o 0) 0 then g else get_or old o 0) else 0

      by_must : (m : Bool) (o : ℕ) → (m ≡ true → r.guess o ≡ t.guess o) → fixed (r.guess o) o m ≡ fixed (t.guess o) o m
      by_must true o g = ap (λ (x : ℕ). fixed x o true) (g refl)
      by_must false o g = refl

      rest : (n : ℕ) → faults_before r old n e + faults_before t old n a ≡ faults_before t old n e + faults_before r old n a
      rest n =
          count_rest (λ j. eqb (fault_by r old j) n) (λ j. eqb (fault_by t old j) n) a e l
          (λ o i u. ap (λ (m : Bool). eqb (number_at m (get_or old o 0)) n) (must o i u))

-- what is due of the bytes from a on
abbrev pub shifted : Due → ℕ → Due
shifted r a = record { must = λ d. r.must (a + d); guess = λ d. r.guess (a + d) }

-- n bytes that were lent from a on
module _ (r : Due) (a n : ℕ) (xs : List ℕ) where
  lent_fixed : (d : ℕ) → d < n → fixed_by (shifted r a) (take n (drop a xs)) d ≡ fixed_by r xs (a + d)
  unfolding due_byte
  lent_fixed d l = rw (lent_at a n xs d l) refl

  lent_faults : (k : ℕ) → faults_before (shifted r a) (take n (drop a xs)) k n + faults_before r xs k a ≡ faults_before r xs k (a + n)
  lent_faults k =
      let same = count_same (λ d. eqb (fault_by (shifted r a) (take n (drop a xs)) d) k) (λ d. eqb (fault_by r xs (a + d)) k) n
      (λ d l. ap (λ (x : ℕ). eqb (number_at (r.must (a + d)) x) k) (lent_at a n xs d l)) in
      omega (arith, same, count_parts (λ j. eqb (fault_by r xs j) k) a n)

  -- and came back
  pub lent_part : {ys : List ℕ} {c : Counts} → a + n ≤ length xs → Mends (shifted r a) 0 n (take n (drop a xs)) ys c
      → Mends r a (a + n) xs (back a n xs ys) c
  unfolding count
  lent_part {ys} h w =
      record {
        long = back_long a n xs ys h long;
        before = back_before a n xs ys h long;
        within = λ o l u. back_within a n xs ys h long o l u ∙ w.within (o - a) (omega arith) (omega arith)
            ∙ lent_fixed (o - a) (omega arith) ∙ ap (fixed_by r xs) (split o l);
        after = back_after a n xs ys h long;
        filled = omega (arith, w.filled, lent_faults 6);
        cleared = omega (arith, w.cleared, lent_faults 7);
      }
    where
      long : length ys ≡ n
      long = w.long ∙ length-take-le n (drop a xs) (omega (arith, length-drop a xs))

      split : (o : ℕ) → a ≤ o → a + (o - a) ≡ o
      split o l = omega arith
