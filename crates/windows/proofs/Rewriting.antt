-- A table rewritten in place, entry by entry and part by part.
--     RewritesTo, rewrites_none, rewrites_all    the entries below a: at the start, at the end
--     rewrites_one, rewrites_stay                a turn: an entry rewritten, and one that stays
--     rewrites_part, rewrites_kept               a turn: a part rewritten, and one that stays
--     rewrites_same                              by another function with the same values
-- Assumes nothing.
use Prim.Native.Nat.{ℕ, ◌+◌, ◌-◌, ◌≤◌, ◌<◌}
use native.Mathlib.Omega.{arith}
use mathlib.Core.Path.{◌≡◌, refl, sym, ap, ◌∙◌}
use mathlib.Core.Logic.{inl, inr}
use mathlib.Core.List.{List}
use lib.ListN.{length, get_or, set, take, drop, length-set, length-take, length-drop}
use lib.ListN.{get_or-eq_default}
use lib.Seq.{get_or-set_same, get_or-set_other}
use Rattle.basics.proofs.Test.{lt_or}
use Rattle.basics.proofs.Part.{back, lent_at, back_long, back_before, back_within, back_after}
use Rattle.windows.specs.inner.Windows.{Rewrites}

-- the entries below a, of those that there are
pub record RewritesTo (f : ℕ → ℕ) (old new : List ℕ) (a : ℕ) : Type 0 where
  pub long : length new ≡ length old
  pub done : (j : ℕ) → j < length old → j < a → get_or new j 0 ≡ f (get_or old j 0)
  pub rest : (j : ℕ) → a ≤ j → get_or new j 0 ≡ get_or old j 0

pub rewrites_none : (f : ℕ → ℕ) (rows : List ℕ) → RewritesTo f rows rows 0
rewrites_none f rows = record { long = refl; done = λ j h l. absurd (omega arith); rest = λ j l. refl }

pub rewrites_same : {f g : ℕ → ℕ} {n : ℕ} {old new : List ℕ} → ((id : ℕ) → f id ≡ g id) → Rewrites f n old new
    → Rewrites g n old new
rewrites_same {old = old} e r =
    record { long = r.long; done = λ j l. r.done j l ∙ e (get_or old j 0); rest = r.rest }

module _ {f : ℕ → ℕ} {old now : List ℕ} {a : ℕ} (r : RewritesTo f old now a) where
  pub rewrites_all : length old ≤ a → Rewrites f (length old) old now
  rewrites_all h =
      record {
        long = r.long;
        done = λ j l. r.done j l (omega arith);
        rest = λ j l. get_or-eq_default now 0 (omega (arith, r.long)) ∙ sym (get_or-eq_default old 0 l);
      }

  -- entries from a on that f leaves as they are
  pub rewrites_kept : (b : ℕ) {got : List ℕ} → a ≤ b
      → ((j : ℕ) → j < length old → a ≤ j → j < b → f (get_or old j 0) ≡ get_or old j 0) → got ≡ now
      → RewritesTo f old got b
  rewrites_kept b u g q =
      rw q
      record {
        long = r.long;
        done = λ j h l. elim (lt_or j a) [ inl m ↦ r.done j h m | inr m ↦ r.rest j m ∙ sym (g j h m l) ];
        rest = λ j l. r.rest j (omega arith);
      }

  pub rewrites_stay : {got : List ℕ} → f (get_or now a 0) ≡ get_or now a 0 → got ≡ now
      → RewritesTo f old got (a + 1)
  rewrites_stay e = rewrites_kept (a + 1) (omega arith) λ j h m l.
      let q : j ≡ a = omega arith in
      let o = ap (λ (x : ℕ). get_or old x 0) q ∙ sym (r.rest a (omega arith)) in
      ap f o ∙ e ∙ sym o

  pub rewrites_one : (v : ℕ) {got : List ℕ} → a < length old → v ≡ f (get_or now a 0) → got ≡ set now a v
      → RewritesTo f old got (a + 1)
  rewrites_one v h e w =
      rw w
      record {
        long = length-set now a v ∙ r.long;
        done = λ j l u. elim (lt_or j a) [
          | inl m ↦ get_or-set_other now a j v 0 (λ q. absurd (omega arith)) ∙ r.done j l m
          | inr m ↦
              let q : j ≡ a = omega arith in
              ap (λ (x : ℕ). get_or (set now a v) x 0) q
              ∙ get_or-set_same now a v 0 (omega (arith, r.long))
              ∙ e ∙ ap f (r.rest a (omega arith) ∙ ap (λ (x : ℕ). get_or old x 0) (sym q))
        ];
        rest = λ j l. get_or-set_other now a j v 0 (λ q. absurd (omega arith)) ∙ r.rest j (omega arith);
      }

  -- n entries are lent: the whole part, or those up to the end
  pub rewrites_part : (b n : ℕ) {ys got : List ℕ}
      → a ≤ b → a + n ≤ length old → n ≤ b - a → (n < b - a → a + n ≡ length old)
      → Rewrites f (length (take n (drop a now))) (take n (drop a now)) ys → got ≡ back a n now ys
      → RewritesTo f old got b
  rewrites_part b n {ys} u fits low whole w q =
      rw q
      record {
        long = back_long a n now ys now_fits ys_long ∙ r.long;
        done = λ j h l. elim (lt_or j a) [
          | inl m ↦ back_before a n now ys now_fits ys_long j m ∙ r.done j h m
          | inr m ↦ in_part j m (short j h l m)
        ];
        rest = λ j l. back_after a n now ys now_fits ys_long j (omega arith) ∙ r.rest j (omega arith);
      }
    where
      now_fits : a + n ≤ length now
      now_fits = omega (arith, r.long)

      lent_long : length (take n (drop a now)) ≡ n
      lent_long = simp (length-take, length-drop) (omega (arith, r.long))

      ys_long : length ys ≡ n
      ys_long = w.long ∙ lent_long

      short : (j : ℕ) → j < length old → j < b → a ≤ j → j < a + n
      short j h l m = elim (lt_or n (b - a)) [ inl v ↦ omega (arith, whole v) | inr v ↦ omega arith ]

      in_part : (j : ℕ) → a ≤ j → j < a + n → get_or (back a n now ys) j 0 ≡ f (get_or old j 0)
      in_part j m l =
          let e : a + (j - a) ≡ j = omega arith in
          back_within a n now ys now_fits ys_long j m l
          ∙ w.done (j - a) (omega (arith, lent_long))
          ∙ ap f (lent_at a n now (j - a) (omega arith) ∙ ap (λ (x : ℕ). get_or now x 0) e ∙ r.rest j m)
