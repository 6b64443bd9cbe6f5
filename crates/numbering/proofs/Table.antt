-- The node table over the ids below a bound. Assumes nothing.
--     table_used, table_unused        an id in use adds its four numbers, another adds none
--     table_long                      four numbers for each id in use
--     table_gap                       ids that are not in use change nothing
--     table_entry                     the r-th of an id's four numbers
--     id_at, x_at, y_at, z_at         each of the four
use Prim.Native.Nat.{ℕ, zero, suc, ◌+◌, ◌*◌, ◌-◌, ◌<◌}
use native.Mathlib.Omega.{arith}
use native.Mathlib.Nat.{add-zero}
use mathlib.Core.Path.{◌≡◌, refl, sym, ap, ◌∙◌}
use mathlib.Core.Bool.{Bool, true, false}
use mathlib.Core.List.{List, ◌++◌, append-nil}
use lib.Dec.{T}
use lib.ListN.{length, get_or, length-append, get_or-append}
use lib.Seq.{get_or-append-add}
use Rattle.basics.specs.Lists.{gather, from, below, count}
use Rattle.basics.proofs.Gather.{one_more, two_parts}
use Rattle.basics.proofs.Test.{T_true, true_T}
use Rattle.lattice.specs.declared.Sizes.{Sizes}
use Rattle.filling.specs.Located.{locate}
use Rattle.numbering.specs.Nodes.{used, node_number, node_of, node}
use Rattle.numbering.proofs.Used.{number_next, number_stays}

module _ (s : Sizes) (cuts state rows : List ℕ) where
  -- the nodes of the ids below n
  abbrev pub table_to : ℕ → List ℕ
  table_to n = gather (node s cuts state rows) (below n)

  abbrev number : ℕ → ℕ
  number = node_number rows

  table_next : (n : ℕ) → table_to (suc n) ≡ table_to n ++ node s cuts state rows n
  table_next n = let e : suc n ≡ n + 1 = omega arith in ap table_to e ∙ one_more (node s cuts state rows) n

  pub table_used : (n : ℕ) → T (used rows n) → table_to (suc n) ≡ table_to n ++ node_of n (locate s cuts state n)
  unfolding node
  table_used n t = table_next n ∙ rw (T_true (used rows n) t) refl

  pub table_unused : (n : ℕ) → used rows n ≡ false → table_to (suc n) ≡ table_to n
  unfolding node
  table_unused n f = table_next n ∙ rw f (append-nil (table_to n))

  pub table_long : (n : ℕ) → length (table_to n) ≡ 4 * number n
  unfolding gather from node_number count node_of
  table_long zero = refl
  table_long (suc n) = go (used rows n) refl (table_long n)
    where
      go : (b : Bool) → used rows n ≡ b → length (table_to n) ≡ 4 * number n → length (table_to (suc n)) ≡ 4 * number (suc n)
      go true e h =
          let t = true_T (used rows n) e in
          let four = node_of n (locate s cuts state n) in
          ap length (table_used n t) ∙ length-append (table_to n) four ∙ omega (arith, h, number_next rows n t)
      go false e h = ap length (table_unused n e) ∙ omega (arith, h, number_stays rows n e)

  -- ids that are not in use
  pub table_gap : (a n : ℕ) → ((j : ℕ) → j < n → used rows (a + j) ≡ false) → table_to (a + n) ≡ table_to a
  table_gap a zero h = ap table_to (add-zero a)
  table_gap a (suc n) h =
      let e : a + suc n ≡ suc (a + n) = omega arith in
      ap table_to e ∙ table_unused (a + n) (h n (omega arith)) ∙ table_gap a n (λ j l. h j (omega arith))

  -- a longer table begins with the shorter one
  table_begins : (a n : ℕ) → (more : List ℕ) × (table_to (a + n) ≡ table_to a ++ more)
  table_begins a n = let f = node s cuts state rows in (gather (λ j. f (a + j)) (below n), two_parts f a n)

  -- the four numbers of an id in use
  pub table_entry : (n id r : ℕ) → T (used rows id) → id < n → r < 4
      → get_or (table_to n) (4 * number id + r) 0 ≡ get_or (node_of id (locate s cuts state id)) r 0
  unfolding node_of
  table_entry n id r t l m =
      let four = node_of id (locate s cuts state id) in
      let (more, h) = table_begins (suc id) (n - suc id) in
      let e : suc id + (n - suc id) ≡ n = omega arith in
      let at : length (table_to id) + r ≡ 4 * number id + r = omega (arith, table_long id) in
      ap (λ (l : List ℕ). get_or l (4 * number id + r) 0) (ap table_to (sym e) ∙ h)
      ∙ get_or-append (table_to (suc id)) more 0 (4 * number id + r) (omega (arith, table_long (suc id), number_next rows id t))
      ∙ ap (λ (l : List ℕ). get_or l (4 * number id + r) 0) (table_used id t)
      ∙ ap (λ (i : ℕ). get_or (table_to id ++ four) i 0) (sym at)
      ∙ get_or-append-add (table_to id) four r 0

  module _ (n id : ℕ) (t : T (used rows id)) (l : id < n) where
    pub id_at : get_or (table_to n) (4 * number id) 0 ≡ id
    unfolding node_of
    id_at = ap (λ (i : ℕ). get_or (table_to n) i 0) (sym (add-zero (4 * number id))) ∙ table_entry n id 0 t l (omega arith)

    pub x_at : get_or (table_to n) (4 * number id + 1) 0 ≡ (locate s cuts state id).x
    unfolding node_of
    x_at = table_entry n id 1 t l (omega arith)

    pub y_at : get_or (table_to n) (4 * number id + 2) 0 ≡ (locate s cuts state id).y
    unfolding node_of
    y_at = table_entry n id 2 t l (omega arith)

    pub z_at : get_or (table_to n) (4 * number id + 3) 0 ≡ (locate s cuts state id).z
    unfolding node_of
    z_at = table_entry n id 3 t l (omega arith)
