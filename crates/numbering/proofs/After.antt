-- The tables after a call that answered 0, entry by entry. Assumes nothing.
--     Node                   the node at k is that of an id in use, whose number is k
--     Left, left             what such a call leaves: rows, nodes, and the rest of the node table
use Prim.Native.Nat.{ℕ, ◌+◌, ◌*◌, ◌≤◌, ◌<◌}
use native.Mathlib.Omega.{arith}
use mathlib.Core.Path.{◌≡◌, sym, ap, ◌∙◌}
use mathlib.Core.List.{List}
use lib.Dec.{T}
use lib.ListN.{length, get_or, length-map}
use Rattle.basics.proofs.Mapped.{map_at}
use Rattle.lattice.specs.declared.Sizes.{Sizes}
use Rattle.lattice.specs.Counts.{points}
use Rattle.filling.specs.declared.Placed.{Placed}
use Rattle.filling.specs.Fill.{overwritten}
use Rattle.filling.specs.Located.{id_fault, locate}
use Rattle.numbering.specs.Nodes.{Outcome, used, node_number, node_table, numbered, number}
use Rattle.numbering.proofs.Used.{number_less}
use Rattle.numbering.proofs.Ids.{with_number}
use Rattle.numbering.proofs.Table.{table_to, table_long, id_at, x_at, y_at, z_at}
use Rattle.numbering.proofs.Over.{over_new, over_old, over_long}
use Rattle.numbering.proofs.Places.{placed_below, locate_number, placed_all}
use Rattle.numbering.proofs.Checks.{accepted}
use Rattle.numbering.proofs.Told.{Accepted, answered}

same_place : (p : Placed) {n x y z : ℕ} → p.number ≡ n → p.x ≡ x → p.y ≡ y → p.z ≡ z
    → p ≡ record { number = n; x = x; y = y; z = z }
same_place p n x y z = λ i. record { number = n i; x = x i; y = y i; z = z i }

module _ (s : Sizes) (cuts state rows nodes : List ℕ) where
  abbrev after : Outcome
  after = number s cuts state rows nodes

  abbrev top : ℕ
  top = 8 * points s

  abbrev table : List ℕ
  table = table_to s cuts state rows top

  -- the node at k: its id is in use, and k is the id's number
  pub record Node (k : ℕ) : Type 0 where
    pub is_used : T (used rows (get_or after.nodes (4 * k) 0))
    pub has : node_number rows (get_or after.nodes (4 * k) 0) ≡ k

  -- the place that the node at k says
  abbrev pub said_at : ℕ → Placed
  said_at k =
      record {
        number = 0;
        x = get_or after.nodes (4 * k + 1) 0;
        y = get_or after.nodes (4 * k + 2) 0;
        z = get_or after.nodes (4 * k + 3) 0;
      }

  pub record Left : Type 0 where
    pub rows_long : length after.rows ≡ length rows
    pub row_at : (j : ℕ) → j < length rows → get_or after.rows j 0 ≡ node_number rows (get_or rows j 0)
    pub nodes_long : length after.nodes ≡ length nodes
    pub rest_at : (i : ℕ) → 4 * after.answer.nodes ≤ i → get_or after.nodes i 0 ≡ get_or nodes i 0
    pub below : (id : ℕ) → T (used rows id) → node_number rows id < after.answer.nodes
    pub id_is : (id : ℕ) → T (used rows id) → get_or after.nodes (4 * node_number rows id) 0 ≡ id
    pub place_is : (id : ℕ) → T (used rows id) → locate s cuts state id ≡ said_at (node_number rows id)
    pub node_at : (k : ℕ) → k < after.answer.nodes → Node k

  module _ (a : Accepted s cuts state rows nodes) where
    done : after ≡ numbered s cuts state rows nodes
    done = accepted s cuts state rows nodes a.whole a.all a.room

    count : after.answer.nodes ≡ node_number rows top
    count = ap (λ (o : Outcome). o.answer.nodes) done

    nodes_are : after.nodes ≡ overwritten table nodes
    unfolding node_table
    nodes_are = ap (λ (o : Outcome). o.nodes) done

    table_is : length table ≡ 4 * node_number rows top
    table_is = table_long s cuts state rows top

    row_is : (j : ℕ) → j < length rows → get_or after.rows j 0 ≡ node_number rows (get_or rows j 0)
    row_is j l = ap (λ (o : Outcome). get_or o.rows j 0) done ∙ map_at _ rows j 0 0 l ∙ omega arith

    -- the four numbers of an id in use
    module _ (id : ℕ) (t : T (used rows id)) where
      abbrev k : ℕ
      k = node_number rows id

      placed : id_fault s cuts state id ≡ 0
      placed = placed_all s cuts state rows a.all id t

      under : id < top
      under = placed_below s cuts state id placed

      entry : (i : ℕ) → i < 4 * k + 4 → get_or after.nodes i 0 ≡ get_or table i 0
      entry i l =
          ap (λ (t : List ℕ). get_or t i 0) nodes_are
          ∙ over_new table nodes i (omega (arith, number_less rows id top t under, table_is))

      id_back : get_or after.nodes (4 * k) 0 ≡ id
      id_back = entry (4 * k) (omega arith) ∙ id_at s cuts state rows top id t under

      place_back : locate s cuts state id ≡ said_at k
      place_back =
          same_place (locate s cuts state id) (locate_number a.whole id ∙ placed)
          (sym (entry (4 * k + 1) (omega arith) ∙ x_at s cuts state rows top id t under))
          (sym (entry (4 * k + 2) (omega arith) ∙ y_at s cuts state rows top id t under))
          (sym (entry (4 * k + 3) (omega arith) ∙ z_at s cuts state rows top id t under))

    node_of : (k : ℕ) → k < after.answer.nodes → Node k
    node_of k l =
        let u = with_number rows top k (omega (arith, count)) in
        let e = ap (λ (k : ℕ). get_or after.nodes (4 * k) 0) (sym u.has) ∙ id_back u.id u.is_used in
        record { is_used = rw e u.is_used; has = rw e u.has }

    pub all_left : Left
    all_left =
        record {
          rows_long = ap (λ (o : Outcome). length o.rows) done ∙ length-map rows _;
          row_at = row_is;
          nodes_long = ap length nodes_are ∙ over_long table nodes (omega (arith, table_is, a.room));
          rest_at =
              λ i l. ap (λ (t : List ℕ). get_or t i 0) nodes_are ∙ over_old table nodes i (omega (arith, count, table_is));
          below = λ id t. omega (arith, number_less rows id top t (under id t), count);
          id_is = id_back;
          place_is = place_back;
          node_at = node_of;
        }

  pub left : after.answer.number ≡ 0 → Left
  left e = all_left (answered s cuts state rows nodes e)
