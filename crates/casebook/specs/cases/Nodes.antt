-- Document 02, F-6: row tables of the given case, and their node tables. The theorem is `nodes_come_out` in proofs/Cases.antt.
-- Points are 0 to 34, cuts are 35 and their byte's offset, 8N is 280. Ids with a place, all cuts half way along their edges:
--     0, 13, 26      corners: the first, the middle one, the last
--     34             the last centre
--     65             the cut from point 4 up to 13 (byte 30); 126 from 13 to 14 (91)
--     227, 235       the cuts from the centres 27 and 28 to 13 (192, 200); 132 from 13 to a centre (97)
-- Without a place: 36, whose byte is 0, and 217, whose edge is not there (byte 182).
use Rattle.std.specs.Prelude.{ℕ, List, [], ◌∷◌, ◌++◌, replicate, set}
use Rattle.basics.specs.cases.Table.{Entry, ◌:=◌, table_of}
use Rattle.lattice.specs.declared.Sizes.{Sizes}
use Rattle.numbering.specs.Nodes.{Outcome}
use Rattle.casebook.specs.cases.Lent.{lent_rows}
use Rattle.casebook.specs.cases.Given.{given_sizes, given_cuts}

pub record Numbering : Type 0 where
  pub sizes : Sizes
  pub cuts : List ℕ
  pub state : List ℕ
  pub rows : List ℕ
  pub nodes : List ℕ
  pub outcome : Outcome

-- four numbers a node
abbrev node : ℕ → ℕ → ℕ → ℕ → List ℕ
node id x y z = id ∷ x ∷ y ∷ z ∷ []

abbrev of13 : List ℕ
of13 = node 13 512 512 512

abbrev of65 : List ℕ
of65 = node 65 512 512 256

abbrev of126 : List ℕ
of126 = node 126 768 512 512

abbrev of227 : List ℕ
of227 = node 227 384 384 384

abbrev of235 : List ℕ
of235 = node 235 640 384 384

-- the first row that filling writes
abbrev row : List ℕ
row = 13 ∷ 65 ∷ 235 ∷ 227 ∷ []

abbrev row_nodes : List ℕ
row_nodes = of13 ++ (of65 ++ (of227 ++ of235))

abbrev outcome : ℕ → ℕ → ℕ → List ℕ → List ℕ → Outcome
outcome n m p rows nodes = record { answer = record { number = n; nodes = m; place = p }; rows = rows; nodes = nodes }

-- the given case after filling, with these entries of the state table: none of its points moved
abbrev lent : List Entry → List ℕ → ℕ → Outcome → Numbering
lent moved rows room o =
    record { sizes = given_sizes; cuts = given_cuts; state = table_of 35 moved; rows = rows; nodes = lent_rows room; outcome = o }

-- so many nodes, these rows, these nodes, and so many numbers after them as they were lent
abbrev numbers : List ℕ → ℕ → ℕ → List ℕ → List ℕ → ℕ → Numbering
numbers rows room n after table rest = lent [] rows room (outcome 0 n 0 after (table ++ lent_rows rest))

-- this number, with the nodes needed and a place; neither table changes
abbrev refuses : List Entry → List ℕ → ℕ → ℕ → ℕ → ℕ → Numbering
refuses moved rows room n needed place = lent moved rows room (outcome n needed place rows (lent_rows room))

-- other sizes, cuts and state
abbrev early : Sizes → List ℕ → List ℕ → List ℕ → ℕ → Numbering
early s cuts state rows n =
    record { sizes = s; cuts = cuts; state = state; rows = rows; nodes = []; outcome = outcome n 0 0 rows [] }

unfoldable pub numberings : List Numbering
numberings =
    -- "It rewrites the rows as node numbers from 0": the first row of P1
    numbers row 16 4 (0 ∷ 1 ∷ 3 ∷ 2 ∷ []) row_nodes 0
    -- no rows
    ∷ numbers [] 0 0 [] [] 0
    ∷ numbers [] 5 0 [] [] 5
    -- ids with holes, from the lowest to cuts
    ∷ numbers (34 ∷ 0 ∷ 132 ∷ 26 ∷ []) 16 4 (2 ∷ 0 ∷ 3 ∷ 1 ∷ [])
    (node 0 0 0 0 ++ (node 26 1024 1024 1024 ++ (node 34 768 768 768 ++ node 132 384 384 640))) 0
    -- "each id in use once": one id alone, and two rows that share a face
    ∷ numbers (13 ∷ 13 ∷ 13 ∷ 13 ∷ []) 4 1 (0 ∷ 0 ∷ 0 ∷ 0 ∷ []) of13 0
    ∷ numbers (row ++ (13 ∷ 65 ∷ 126 ∷ 235 ∷ [])) 20 5 (0 ∷ 1 ∷ 4 ∷ 3 ∷ 0 ∷ 1 ∷ 2 ∷ 4 ∷ []) (of13 ++ (of65 ++ (of126 ++ (of227 ++ of235)))) 0
    -- "ascending": from descending rows
    ∷ numbers (235 ∷ 227 ∷ 65 ∷ 13 ∷ []) 16 4 (3 ∷ 2 ∷ 1 ∷ 0 ∷ []) row_nodes 0
    -- "with its three coordinates": those of a point that moved (P4)
    ∷ record {
      sizes = given_sizes;
      cuts = set given_cuts 91 193;
      state = table_of 35 (14 := 8 ∷ []);
      rows = 14 ∷ 13 ∷ 65 ∷ 227 ∷ [];
      nodes = lent_rows 16;
      outcome = outcome 0 4 0 (1 ∷ 0 ∷ 2 ∷ 3 ∷ []) (of13 ++ (node 14 898 512 512 ++ (of65 ++ of227)));
    }
    -- "If the node table holds fewer than four numbers a node, 10 is answered with the nodes needed"; "entries past the last node stay"
    ∷ refuses [] row 15 10 4 0
    ∷ refuses [] row 0 10 4 0
    ∷ numbers row 17 4 (0 ∷ 1 ∷ 3 ∷ 2 ∷ []) row_nodes 1
    ∷ numbers row 24 4 (0 ∷ 1 ∷ 3 ∷ 2 ∷ []) row_nodes 8
    -- 8 "for the first such entry of the row table; the place is that entry's index": at the front, within, at the end, in a later row
    ∷ refuses [] (36 ∷ 13 ∷ 65 ∷ 227 ∷ []) 16 8 0 0
    ∷ refuses [] (13 ∷ 36 ∷ 65 ∷ 36 ∷ []) 16 8 0 1
    ∷ refuses [] (13 ∷ 65 ∷ 227 ∷ 217 ∷ []) 16 8 0 3
    ∷ refuses [] (row ++ (13 ∷ 65 ∷ 280 ∷ 280 ∷ [])) 32 8 0 6
    ∷ refuses [] (row ++ (4294967295 ∷ 65 ∷ 126 ∷ 36 ∷ [])) 32 8 0 4
    -- 8 for the cut of a point with a state byte that is not 0, 9 for the point: above 15, and a code whose cut does not violate it
    ∷ refuses (14 := 8 ∷ []) (13 ∷ 65 ∷ 126 ∷ 227 ∷ []) 16 8 0 2
    ∷ refuses (14 := 16 ∷ []) (13 ∷ 65 ∷ 227 ∷ 14 ∷ []) 16 9 0 3
    ∷ refuses (14 := 8 ∷ []) (13 ∷ 14 ∷ 65 ∷ 227 ∷ []) 16 9 0 1
    -- the entry that comes first, whichever its number and whichever its id
    ∷ refuses (14 := 16 ∷ []) (13 ∷ 36 ∷ 14 ∷ 65 ∷ []) 16 8 0 1
    ∷ refuses (14 := 16 ∷ []) (13 ∷ 14 ∷ 36 ∷ 65 ∷ []) 16 9 0 1
    -- F-8: a point with the mark is a node at its own place, and a cut beside it has none
    ∷ refuses (14 := 15 ∷ []) (13 ∷ 65 ∷ 126 ∷ 227 ∷ []) 16 8 0 2
    ∷ record {
      sizes = given_sizes;
      cuts = given_cuts;
      state = table_of 35 (14 := 15 ∷ []);
      rows = 14 ∷ 13 ∷ 65 ∷ 227 ∷ [];
      nodes = lent_rows 16;
      outcome = outcome 0 4 0 (1 ∷ 0 ∷ 2 ∷ 3 ∷ []) (of13 ++ (node 14 1024 512 512 ++ (of65 ++ of227)));
    }
    -- "Checks: 1, 3, 4, then 15 .. then 8 or 9, then 10"
    ∷ refuses [] (13 ∷ 36 ∷ 65 ∷ 227 ∷ []) 0 8 0 1
    ∷ refuses [] (13 ∷ []) 16 15 0 0
    ∷ refuses [] (36 ∷ 13 ∷ 65 ∷ []) 0 15 0 0
    ∷ refuses [] (row ++ (13 ∷ 65 ∷ [])) 0 15 0 0
    ∷ early given_sizes given_cuts (replicate 34 0) (36 ∷ []) 4
    ∷ early given_sizes given_cuts (replicate 36 0) row 4
    ∷ early given_sizes (replicate 244 0) (replicate 34 0) (36 ∷ []) 3
    ∷ early given_sizes (replicate 246 0) (replicate 35 0) row 3
    ∷ early (record { nx = 2; ny = 0; nz = 2 }) (replicate 244 0) [] (36 ∷ []) 1
    ∷ early (record { nx = 2; ny = 2; nz = 65 }) given_cuts (replicate 35 0) row 1
    ∷ []
