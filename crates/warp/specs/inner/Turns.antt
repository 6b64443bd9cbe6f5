-- A point's turn.
--     chosen     the move that it makes, as a code, or 0
--     Telling    a test of codes that answers whether they are taken
--     Turn       what a turn starts from: a decoded point, and the state table after the turns of all before it
use Rattle.std.specs.Prelude.{ℕ, ◌≡◌, Bool, List, Option, Some, None}
use Rattle.lattice.specs.declared.Site.{Site}
use Rattle.lattice.specs.declared.edge_code.EdgeCode.{EdgeCode}
use Rattle.lattice.specs.inner.Site.{Sited}
use Rattle.moving.specs.Reading.{Reading}
use Rattle.moving.specs.Moving.{state_at}

abbrev pub chosen : Option EdgeCode → ℕ
chosen None = 0
chosen (Some c) = c.code

-- what is answered of a code is whether it is taken
abbrev pub Telling : (EdgeCode → Bool → Type 0) → (ℕ → Bool) → Type 0
Telling answers taken = (code : EdgeCode) (b : Bool) → answers code b → b ≡ taken code.code

pub record Turn (m : Reading) (q : Site) (state : List ℕ) : Type 0 where
  pub sited : Sited m.sizes q
  pub state_is : state ≡ state_at m q.own
