-- What document 02 asks of the node call (F-6), for every input: sizes, cuts, state, rows and nodes of any content and length. Nothing is
-- assumed; the first six are of a call that answered 0.
--
-- ascending         "each id in use once, ascending"
-- in_use            "each id in use": every node's id is in use, and every id in use is a node's
-- placed_as_called  "with its three coordinates": what the place call answers for the id
-- put_back          "Putting each node's id back yields the old rows"
-- numbers_below     "node numbers from 0": each is below the nodes written
-- rest_stays        "entries past the last node stay"
-- refusal_leaves    "A refusal changes neither table"
-- refused_first     "refused with 8 or 9 as the place call would, for the first such entry of the row table; the place is that entry's
--                   index from 0"
-- needed            "If the node table holds fewer than four numbers a node, 10 is answered with the nodes needed"
-- other_zeros       "every other refusal gives 0 nodes"; "every other answer has place 0"
use Prim.Native.Nat.{ℕ, ◌+◌, ◌*◌, ◌≤◌, ◌<◌}
use native.Mathlib.Omega.{arith}
use mathlib.Core.Path.{◌≡◌, ap, ◌∙◌}
use mathlib.Core.Logic.{◌⊎◌, inl, inr}
use mathlib.Core.List.{List, map}
use lib.Dec.{T}
use lib.ListN.{length, get_or, length-map}
use lib.Seq.{ext_get_or}
use Rattle.basics.proofs.Test.{lt_or}
use Rattle.basics.proofs.Mapped.{map_at}
use Rattle.lattice.specs.declared.Sizes.{Sizes}
use Rattle.filling.specs.Located.{locate}
use Rattle.numbering.specs.Nodes.{Outcome, used, node_number, number}
use Rattle.numbering.proofs.Used.{used_at, number_grows}
use Rattle.numbering.proofs.After.{Left, left}
use Rattle.numbering.proofs.Refusals.{leaves, first_is, needed_is, zeros}

module _ (s : Sizes) (cuts state rows nodes : List ℕ) where
  -- the answer and the tables after the call, the nodes answered, and the id of node k
  abbrev pub after : Outcome
  after = number s cuts state rows nodes

  abbrev pub written : ℕ
  written = after.answer.nodes

  abbrev pub id_of : ℕ → ℕ
  id_of k = get_or after.nodes (4 * k) 0

  module _ (zero : after.answer.number ≡ 0) where
    tables : Left s cuts state rows nodes
    tables = left s cuts state rows nodes zero

    pub ascending : (k j : ℕ) → k < j → j < written → id_of k < id_of j
    ascending k j l m =
        let u = tables.node_at k (omega arith) in
        let w = tables.node_at j m in
        elim (lt_or (id_of k) (id_of j)) [
          | inl h ↦ h
          | inr h ↦ absurd (omega (arith, number_grows rows (id_of j) (id_of k) h, u.has, w.has))
        ]

    pub in_use : ((k : ℕ) → k < written → T (used rows (id_of k)))
        × ((id : ℕ) → T (used rows id) → (k : ℕ) × (k < written) × (id_of k ≡ id))
    in_use = (λ k l. (tables.node_at k l).is_used, λ id t. (node_number rows id, tables.below id t, tables.id_is id t))

    pub placed_as_called : (k : ℕ) → k < written → locate s cuts state (id_of k)
        ≡ record {
          number = 0;
          x = get_or after.nodes (4 * k + 1) 0;
          y = get_or after.nodes (4 * k + 2) 0;
          z = get_or after.nodes (4 * k + 3) 0;
        }
    placed_as_called k l =
        let u = tables.node_at k l in
        let p = tables.place_is (id_of k) u.is_used in
        rw u.has at p

    pub put_back : map id_of after.rows ≡ rows
    put_back = ext_get_or 0 (map id_of after.rows) rows long (λ j l. back j (omega (arith, long)))
      where
        long : length (map id_of after.rows) ≡ length rows
        long = length-map after.rows id_of ∙ tables.rows_long

        back : (j : ℕ) → j < length rows → get_or (map id_of after.rows) j 0 ≡ get_or rows j 0
        back j l =
            map_at id_of after.rows j 0 0 (omega (arith, tables.rows_long))
            ∙ ap id_of (tables.row_at j l)
            ∙ tables.id_is (get_or rows j 0) (used_at rows j l)

    pub numbers_below : (j : ℕ) → j < length after.rows → get_or after.rows j 0 < written
    numbers_below j l =
        let m : j < length rows = omega (arith, tables.rows_long) in
        omega (arith, tables.row_at j m, tables.below (get_or rows j 0) (used_at rows j m))

    pub rest_stays : (length after.nodes ≡ length nodes)
        × ((i : ℕ) → 4 * written ≤ i → get_or after.nodes i 0 ≡ get_or nodes i 0)
    rest_stays = (tables.nodes_long, tables.rest_at)

  pub refusal_leaves : (after.answer.number ≡ 0 → ⊥) → (after.rows ≡ rows) × (after.nodes ≡ nodes)
  refusal_leaves = leaves s cuts state rows nodes

  pub refused_first : (after.answer.number ≡ 8) ⊎ (after.answer.number ≡ 9)
      → (after.answer.place < length rows)
      × ((locate s cuts state (get_or rows after.answer.place 0)).number ≡ after.answer.number)
      × ((j : ℕ) → j < after.answer.place → (locate s cuts state (get_or rows j 0)).number ≡ 0)
  refused_first = first_is s cuts state rows nodes

  -- of a table that is long enough, whatever it holds
  pub needed : after.answer.number ≡ 10
      → (length nodes < 4 * written)
      × ((longer : List ℕ) → 4 * written ≤ length longer
      → (number s cuts state rows longer).answer ≡ record { number = 0; nodes = written; place = 0 })
  needed = needed_is s cuts state rows nodes

  pub other_zeros : ((after.answer.number ≡ 0 → ⊥) → (after.answer.number ≡ 10 → ⊥) → written ≡ 0)
      × ((after.answer.number ≡ 8 → ⊥) → (after.answer.number ≡ 9 → ⊥) → after.answer.place ≡ 0)
  other_zeros = zeros s cuts state rows nodes
