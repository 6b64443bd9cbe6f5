-- Text as the programs print it, in bytes.
--     ascii      the bytes of a word
--     decimal    the digits of a number
--     line       a line of fields
use Rattle.std.specs.Prelude.{ℕ, zero, suc, ◌+◌, ◌/◌, ◌%◌, List, [], ◌∷◌, ◌++◌, ltb, if◌then◌else◌}
use Prim.Native.Char.{code}
use Prim.Native.String.{String, [] as none, ◌∷◌ as ◌then◌}

-- the ASCII codes of 0, of a space and of the end of a line
abbrev pub zero_digit : ℕ
zero_digit = 48

abbrev pub space : ℕ
space = 32

abbrev pub newline : ℕ
newline = 10

-- a word of ASCII letters
abbrev pub ascii : String → List ℕ
ascii none = []
ascii (c then s) = code c ∷ ascii s

-- the digits of n, if there are at most k: those of a tenth of it, and the last one
unfoldable pub digits_within : ℕ → ℕ → List ℕ
digits_within zero n = []
digits_within (suc k) n =
    if ltb n 10 then (zero_digit + n) ∷ [] else digits_within k (n / 10) ++ ((zero_digit + n % 10) ∷ [])

-- a number of 64 bits has at most twenty
unfoldable pub decimal : ℕ → List ℕ
decimal n = digits_within 20 n

-- Document 02, F-7: "Fields have one space between"
unfoldable pub line : List (List ℕ) → List ℕ
line [] = newline ∷ []
line (w ∷ []) = w ++ (newline ∷ [])
line (w ∷ (v ∷ ws)) = w ++ (space ∷ line (v ∷ ws))
