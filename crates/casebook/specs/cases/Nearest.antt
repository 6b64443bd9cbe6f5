-- Document 02, F-2, on the given case: point 13 is the one plus point, and its fourteen edges have the bytes 91 to 97 (codes 1 to 7) and 84,
-- 71, 30, 192, 200, 208, 216 (codes 8 to 14); all are 128, and violate nothing, but for those that a case changes. The theorem is
-- `nearest_come_out` in proofs/Cases.antt.
use Rattle.std.specs.Prelude.{List, [], ◌∷◌}
use Rattle.basics.specs.cases.Table.{Entry, ◌:=◌}
use Rattle.casebook.specs.cases.Lent.{codes}
use Rattle.casebook.specs.cases.Given.{bytes_at}
use Rattle.casebook.specs.cases.Cases.{Case, case, Claim, place_is, place_with, filled, at, nowhere}

-- point 13 moves by a code, and so no row is left
abbrev moves : List Entry → Entry → List Claim → Case
moves bytes code claims = case (bytes_at bytes) 100 (filled 0 1) (codes (code ∷ [])) claims

unfoldable pub nearest : List Case
nearest =
    -- "4 times t squared on long edges and 3 times t squared on short ones": t = 60 on a long edge is 14,400, t = 66 on a short one 13,068.
    -- The other cut violates point 13 too, so its code would be believed; a cut at 128 does not
    moves (91 := 60 ∷ 94 := 66 ∷ []) (13 := 4)
    (place_is 13 (at 578 578 578) ∷ place_with (13 := 1) 13 (at 632 512 512) ∷ place_with (13 := 2) 13 (nowhere 9) ∷ [])
    -- t = 57 on the long edge is 12,996
    ∷ moves (91 := 57 ∷ 94 := 66 ∷ []) (13 := 1) (place_is 13 (at 626 512 512) ∷ [])
    -- "With t counted from the point": the same distances from ends of edges
    ∷ moves (84 := 196 ∷ 192 := 190 ∷ []) (13 := 11) (place_is 13 (at 446 446 446) ∷ [])
    ∷ moves (84 := 199 ∷ 192 := 190 ∷ []) (13 := 8) (place_is 13 (at 398 512 512) ∷ [])
    -- and from a start and an end: the lower code is the nearer, and the higher
    ∷ moves (94 := 66 ∷ 84 := 196 ∷ []) (13 := 4) (place_is 13 (at 578 578 578) ∷ [])
    ∷ moves (94 := 66 ∷ 84 := 199 ∷ []) (13 := 8) (place_is 13 (at 398 512 512) ∷ [])
    -- the extremes: 15,876 and 33,075, and 4 and 3
    ∷ moves (91 := 63 ∷ 94 := 105 ∷ []) (13 := 1) []
    ∷ moves (91 := 1 ∷ 94 := 1 ∷ []) (13 := 4) []
    -- "a tie goes to the lower code": between starts, between ends, between a start and an end
    ∷ moves (91 := 40 ∷ 92 := 40 ∷ []) (13 := 1) []
    ∷ moves (200 := 176 ∷ 216 := 176 ∷ []) (13 := 12) []
    ∷ moves (97 := 80 ∷ 192 := 176 ∷ []) (13 := 7) []
    -- three violate, and the two nearer ones tie
    ∷ moves (91 := 50 ∷ 93 := 20 ∷ 71 := 236 ∷ []) (13 := 3) []
    -- one violates, as in P2, P4, P6 and P8, though a cut on a long edge is nearer: "at most 63", and 64 does not
    ∷ moves (91 := 64 ∷ 94 := 105 ∷ []) (13 := 4) (place_is 13 (at 617 617 617) ∷ place_with (13 := 1) 13 (nowhere 9) ∷ [])
    ∷ []
