-- Document 01, "Moving points", and document 02, F-8: what a state byte says of its point.
--     0          it did not move, and its label is not zero
--     1 to 14    it moved, by this code; so its label is zero
--     15         its label was zero from the start, and it did not move
-- No filling writes a byte above 15.
use Rattle.std.specs.Prelude.{ℕ, Bool, not, ◌||◌, ◌&&◌, eqb, leb}

-- this code is a move
unfoldable pub is_move : ℕ → Bool
is_move c = leb 1 c && leb c 14

-- F-8: "Its state byte is to be 15": the mark of a point that lies on the skin unmoved
abbrev pub skin_mark : ℕ
skin_mark = 15

-- no move: the point is in "its own place"
unfoldable pub no_move : ℕ → Bool
no_move c = eqb c 0 || eqb c skin_mark

-- the point's label is zero
abbrev pub says_zero : ℕ → Bool
says_zero c = not (eqb c 0)
