-- The ids in use, and the number of each: how many ids in use are below it. Assumes nothing.
--     used_at, used_where        an entry's id is in use, and an id in use is some entry's
--     used_more, used_next       the ids in use of a table in two parts, and of one entry more
--     used_not, used_same        an id that no entry is; two tables that hold an id at the same entries
--     number_le, number_grows    a number is at most its id, and no lower for a higher id
--     number_next, number_stays  the number after an id in use is one more; after another it is the same
--     number_gap                 ids that are not in use have no numbers
--     number_less                an id in use has a lower number than every id above it
use Prim.Native.Nat.{ℕ, zero, suc, ◌+◌, ◌-◌, ◌≤◌, ◌<◌}
use native.Mathlib.Omega.{arith}
use native.Mathlib.Nat.{add-zero}
use mathlib.Core.Path.{◌≡◌, refl, sym, ap, subst, ◌∙◌}
use mathlib.Core.Logic.{inl, inr}
use mathlib.Core.Bool.{Bool, true, false, ◌||◌}
use mathlib.Core.List.{List, [], ◌∷◌, ◌++◌}
use lib.Dec.{T, eqb, eqb_refl, eqb→eq}
use lib.ListN.{length, get_or, take}
use lib.Seq.{take-suc}
use Rattle.basics.specs.Lists.{count}
use Rattle.basics.proofs.Flags.{or_none, or_assoc}
use Rattle.basics.proofs.Test.{or_cases, or_l, or_r, T_true, F-false, true_T, false_F}
use Rattle.basics.proofs.Search.{count_le, count_parts}
use Rattle.numbering.specs.Nodes.{used, node_number}

-- the ids in use
pub used_at : (rows : List ℕ) (j : ℕ) → j < length rows → T (used rows (get_or rows j 0))
unfolding used
used_at [] j h = absurd (omega arith)
used_at (entry ∷ rows) zero h = or_l (eqb entry entry) _ (eqb_refl entry)
used_at (entry ∷ rows) (suc j) h = or_r (eqb entry (get_or rows j 0)) _ (used_at rows j (omega arith))

pub used_where : (rows : List ℕ) (id : ℕ) → T (used rows id) → (j : ℕ) × (j < length rows) × (get_or rows j 0 ≡ id)
unfolding used
used_where [] id t = absurd t
used_where (entry ∷ rows) id t =
    elim (or_cases (eqb entry id) (used rows id) t) [
      | inl p ↦ (0, omega arith, eqb→eq entry id p)
      | inr q ↦ later (used_where rows id q)
    ]
  where
    later : (j : ℕ) × (j < length rows) × (get_or rows j 0 ≡ id)
        → (j : ℕ) × (j < length (entry ∷ rows)) × (get_or (entry ∷ rows) j 0 ≡ id)
    later u = (suc u.0, omega (arith, u.1), u.2)

pub used_more : (rows more : List ℕ) (id : ℕ) → used (rows ++ more) id ≡ (used rows id || used more id)
unfolding used
used_more [] more id = refl
used_more (entry ∷ rows) more id =
    ap (λ (b : Bool). eqb entry id || b) (used_more rows more id) ∙ sym (or_assoc (eqb entry id) (used rows id) (used more id))

pub used_next : (rows : List ℕ) (j id : ℕ) → j < length rows
    → used (take (suc j) rows) id ≡ (used (take j rows) id || eqb (get_or rows j 0) id)
unfolding used
used_next rows j id h =
    ap (λ (l : List ℕ). used l id) (take-suc rows j 0 h) ∙ used_more (take j rows) (get_or rows j 0 ∷ []) id
    ∙ ap (λ (b : Bool). used (take j rows) id || b) (or_none (eqb (get_or rows j 0) id))

pub used_not : (rows : List ℕ) (id : ℕ) → ((j : ℕ) → j < length rows → get_or rows j 0 ≡ id → ⊥) → used rows id ≡ false
used_not rows id h = F-false (used rows id) (λ t. let u = used_where rows id t in h u.0 u.1 u.2)

-- an id that one table holds where the other does is in use in both or in neither
pub used_same : (rows news : List ℕ) (id : ℕ) → length news ≡ length rows
    → ((j : ℕ) → j < length rows → (get_or rows j 0 ≡ id → get_or news j 0 ≡ id) × (get_or news j 0 ≡ id → get_or rows j 0 ≡ id))
    → used news id ≡ used rows id
used_same rows news id e h = go (used rows id) refl
  where
    go : (b : Bool) → used rows id ≡ b → used news id ≡ used rows id
    go true t =
        let (j, l, i) = used_where rows id (true_T (used rows id) t) in
        let n = subst (λ (x : ℕ). T (used news x)) ((h j l).0 i) (used_at news j (omega (arith, e))) in
        T_true (used news id) n ∙ sym t
    go false f =
        used_not news id (λ j l i.
        let r = (h j (omega (arith, e))).1 i in
        false_F (used rows id) f (subst (λ (x : ℕ). T (used rows x)) r (used_at rows j (omega (arith, e)))))
        ∙ sym f

-- the numbers
module _ (rows : List ℕ) where
  pub number_le : (id : ℕ) → node_number rows id ≤ id
  unfolding node_number
  number_le id = count_le (used rows) id

  pub number_next : (id : ℕ) → T (used rows id) → node_number rows (suc id) ≡ suc (node_number rows id)
  unfolding node_number count
  number_next id t = rw (T_true (used rows id) t) (omega arith)

  pub number_stays : (id : ℕ) → used rows id ≡ false → node_number rows (suc id) ≡ node_number rows id
  unfolding node_number count
  number_stays id f = rw f (omega arith)

  pub number_grows : (a b : ℕ) → a ≤ b → node_number rows a ≤ node_number rows b
  unfolding node_number
  number_grows a b l = omega (arith, count_parts (used rows) a (b - a), ap (count (used rows)) (whole a b l))
    where
      whole : (a b : ℕ) → a ≤ b → a + (b - a) ≡ b
      whole a b l = omega arith

  pub number_less : (a b : ℕ) → T (used rows a) → a < b → node_number rows a < node_number rows b
  number_less a b t l = omega (arith, number_next a t, number_grows (suc a) b l)

  pub number_gap : (a n : ℕ) → ((j : ℕ) → j < n → used rows (a + j) ≡ false) → node_number rows (a + n) ≡ node_number rows a
  number_gap a zero h = ap (node_number rows) (add-zero a)
  number_gap a (suc n) h =
      let e : a + suc n ≡ suc (a + n) = omega arith in
      ap (node_number rows) e ∙ number_stays (a + n) (h n (omega arith)) ∙ number_gap a n (λ j l. h j (omega arith))
