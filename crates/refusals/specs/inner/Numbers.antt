-- The papers' numbers of refusals, and the places that go with them. (10, tables that are too short for what was counted, is an
-- outcome with counts and no refusal of this kind.)
use Rattle.std.specs.Prelude.{ℕ}
use Rattle.refusals.specs.declared.Refusal.{Refusal}
use Rattle.refusals.specs.declared.Refusal.TheVariants.{Sizes, Samples, Cuts, State, Rim, Gap, Stray, Id, Move, File, Room, Unit, Band, Quads}

unfoldable pub refusal_number : Refusal → ℕ
refusal_number Sizes = 1
refusal_number Samples = 2
refusal_number Cuts = 3
refusal_number State = 4
refusal_number (Rim p) = 5
refusal_number (Gap o) = 6
refusal_number (Stray o) = 7
refusal_number Id = 8
refusal_number Move = 9
refusal_number File = 11
refusal_number Room = 12
refusal_number Unit = 13
refusal_number Band = 14
refusal_number Quads = 15

unfoldable pub refusal_place : Refusal → ℕ
refusal_place Sizes = 0
refusal_place Samples = 0
refusal_place Cuts = 0
refusal_place State = 0
refusal_place (Rim p) = p
refusal_place (Gap o) = o
refusal_place (Stray o) = o
refusal_place Id = 0
refusal_place Move = 0
refusal_place File = 0
refusal_place Room = 0
refusal_place Unit = 0
refusal_place Band = 0
refusal_place Quads = 0
