-- What the two rounds over the windows do.
--     SomeUnplaced, Counted      what the first round finds
--     AllIn                      what the second round may take for granted
--     Found, Surveyed            the first round: a window, and those from one on
--     Filled                     the node table, whose part that is still to be written may hold anything
--     settled, Reached, Assigned the second round, with the windows before one done
use Rattle.std.specs.Prelude.{ℕ, ◌+◌, ◌*◌, ◌≤◌, ◌<◌, ◌≡◌, List, T, ltb, length, get_or, if◌then◌else◌}
use Rattle.basics.specs.Lists.{gather, below}
use Rattle.places.specs.declared.stored.Stored.{Stored}
use Rattle.windows.specs.inner.Windows.{window, windows, Spread, Windowed}
use Rattle.numbering.specs.Nodes.{used, node_number, node}
use Rattle.coordinates.specs.inner.Marked.{fault}

-- every id that may have a place is below this
abbrev pub all_ids : ℕ
all_ids = windows * window

-- after the windows below lo: an id below lo has become its number
unfoldable pub settled : List ℕ → ℕ → ℕ → ℕ
settled rows lo id = if ltb id lo then node_number rows id else id

-- what is written so far, and where the next goes
pub record Filled (table : List ℕ) (old new : List ℕ) (at : ℕ) : Type 0 where
  pub long : length new ≡ length old
  pub at_is : at ≡ length table
  pub front : (i : ℕ) → i < length table → get_or new i 0 ≡ get_or table i 0

module _ (t : Stored) where
  module _ (rows : List ℕ) where
    pub record SomeUnplaced : Type 0 where
      pub id : ℕ
      pub in_use : T (used rows id)
      pub faulty : fault t id ≡ 0 → ⊥

    pub record Counted (total : ℕ) (bits : List ℕ) : Type 0 where
      pub counted : total ≡ node_number rows all_ids
      pub placed : (id : ℕ) → id < all_ids → T (used rows id) → fault t id ≡ 0
      pub first : Windowed 0 rows bits

    pub record AllIn (hits : List ℕ) : Type 0 where
      pub spread : Spread hits rows (length rows)
      pub placed : (id : ℕ) → T (used rows id) → fault t id ≡ 0

    -- the ids of window w are counted on from the total, and have places
    pub record Found (w total next : ℕ) : Type 0 where
      pub counted : next + node_number rows (window * w) ≡ total + node_number rows (window * (w + 1))
      pub placed : (id : ℕ) → window * w ≤ id → id < window * (w + 1) → T (used rows id) → fault t id ≡ 0

    -- so are those from window w on
    pub record Surveyed (w total : ℕ) : Type 0 where
      pub some : 0 < w
      pub few : w ≤ windows
      pub counted : total + node_number rows (window * w) ≡ node_number rows all_ids
      pub placed : (id : ℕ) → window * w ≤ id → id < all_ids → T (used rows id) → fault t id ≡ 0

    -- the nodes below window w are written, and the rows rewritten so far
    pub record Reached (w first at : ℕ) (now old new : List ℕ) : Type 0 where
      pub counted : first ≡ node_number rows (window * w)
      pub long : length now ≡ length rows
      pub is : (j : ℕ) → j < length rows → get_or now j 0 ≡ settled rows (window * w) (get_or rows j 0)
      pub written : Filled (gather (node t.lattice.sizes t.cuts.now t.state.now rows) (below (window * w))) old new at

    -- and the ids of window w are marked
    pub record Assigned (w first at : ℕ) (now old new bits : List ℕ) : Type 0 where
      pub few : w < windows
      pub reached : Reached w first at now old new
      pub marked : Windowed (window * w) rows bits
