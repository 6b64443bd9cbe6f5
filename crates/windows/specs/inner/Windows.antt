-- Ids in windows of a table of bits, and the row table in parts.
--     window, words, windows     the ids of a window, its words of 64, and how many windows hold every id below 8N
--     part, parts, last_part, slot    the entries of a part of the rows, and where its hits are kept
--     Outside                    an id that is not in a window
--     AtMost, Grows              a part's entries are at most this; bits that were set stay set
--     Beyond, Told, Spread       an id past the last window; the hits of a part, and of all rows
--     Known                      the hits of one window
--     Missed, NextHit            windows that are not hit
--     Marks, Windowed            the ids of some rows that are in a window are marked
--     in_window, put_in          an id of a window becomes what a function says, or its number
--     Unrolled, Rewrites         the table of a window's numbers; a table rewritten
use Rattle.std.specs.Prelude.{ℕ, ◌+◌, ◌*◌, ◌-◌, ◌/◌, ◌≤◌, ◌<◌, ◌≡◌, true, false, ◌||◌, List, length, get_or, ltb, leb, if◌then◌else◌}
use Rattle.basics.specs.Lists.{count}
use Rattle.bitmap.specs.inner.Bits.{marked}
use Rattle.numbering.specs.Nodes.{used}

-- 64 KiB hold a bit for each
abbrev pub window : ℕ
window = 524288

abbrev pub words : ℕ
words = 8192

abbrev pub windows : ℕ
windows = 9

-- the row table is looked at in parts of so many entries
abbrev pub part : ℕ
part = 256

-- a slot of the hits stands for a part, the last one for all that follow too
abbrev pub parts : ℕ
parts = 22528

abbrev pub last_part : ℕ
last_part = 22527

abbrev pub hit_words : ℕ
hit_words = 3168

unfoldable pub slot : ℕ → ℕ → ℕ
slot w p = parts * w + (if ltb p last_part then p else last_part)

-- an id that is not in the window from lo on
pub record Outside (lo id : ℕ) : Type 0 where
  pub is : (k : ℕ) → k < window → id ≡ lo + k → ⊥

pub record AtMost (most : ℕ) (rows : List ℕ) : Type 0 where
  pub is : (j : ℕ) → j < length rows → get_or rows j 0 ≤ most

pub record Grows (old new : List ℕ) : Type 0 where
  pub long : length new ≡ length old
  pub keeps : (k : ℕ) → marked old k ≡ true → marked new k ≡ true

-- an entry that no window holds
pub record Beyond (rows : List ℕ) : Type 0 where
  pub at : ℕ
  pub within : at < length rows
  pub past : windows * window ≤ get_or rows at 0

-- where each of some entries has its window, the part p is hit
pub record Told (hits rows : List ℕ) (p : ℕ) : Type 0 where
  pub inside : (j : ℕ) → j < length rows → get_or rows j 0 < windows * window
  pub hit : (j : ℕ) → j < length rows → marked hits (slot (get_or rows j 0 / window) p) ≡ true

-- the same of the first n entries of the row table, each in its part
pub record Spread (hits rows : List ℕ) (n : ℕ) : Type 0 where
  pub inside : (j : ℕ) → j < n → get_or rows j 0 < windows * window
  pub hit : (j : ℕ) → j < n → marked hits (slot (get_or rows j 0 / window) (j / part)) ≡ true

-- a part that has an entry in this window is hit
pub record Known (hits rows : List ℕ) (w : ℕ) : Type 0 where
  pub is : (j : ℕ) → j < length rows → get_or rows j 0 / window ≡ w → marked hits (slot w (j / part)) ≡ true

-- no part of a table of n entries is hit in this window
pub record Missed (hits : List ℕ) (n w : ℕ) : Type 0 where
  pub is : (p : ℕ) → part * p ≤ n → marked hits (slot w p) ≡ false

-- nor in any window from v on and before w
pub record NextHit (hits : List ℕ) (n v w : ℕ) : Type 0 where
  pub low : v ≤ w
  pub high : w ≤ windows
  pub missed : (u : ℕ) → v ≤ u → u < w → Missed hits n u

-- the ids of some rows in the window from lo on are marked, beside what was
pub record Marks (lo : ℕ) (rows old new : List ℕ) : Type 0 where
  pub long : length new ≡ length old
  pub is : (k : ℕ) → k < window → marked new k ≡ (marked old k || used rows (lo + k))

-- just those
pub record Windowed (lo : ℕ) (rows bits : List ℕ) : Type 0 where
  pub long : length bits ≡ words
  pub is : (k : ℕ) → k < window → marked bits k ≡ used rows (lo + k)

-- an id of the window from lo on becomes what f says of its place there; other entries stay
unfoldable pub in_window : (ℕ → ℕ) → ℕ → ℕ → ℕ
in_window f lo id = if leb lo id then (if ltb (id - lo) window then f (id - lo) else id) else id

-- its number, where the window's first id in use has the number first
unfoldable pub put_in : List ℕ → ℕ → ℕ → ℕ → ℕ
put_in bits first lo id = in_window (λ k. first + count (marked bits) k) lo id

-- the table of the window's numbers
pub record Unrolled (bits : List ℕ) (first : ℕ) (numbers : List ℕ) : Type 0 where
  pub long : length numbers ≡ window
  pub is : (k : ℕ) → k < window → get_or numbers k 0 ≡ first + count (marked bits) k

-- a table of which the first n entries have become what f says
pub record Rewrites (f : ℕ → ℕ) (n : ℕ) (old new : List ℕ) : Type 0 where
  pub long : length new ≡ length old
  pub done : (j : ℕ) → j < n → get_or new j 0 ≡ f (get_or old j 0)
  pub rest : (j : ℕ) → n ≤ j → get_or new j 0 ≡ get_or old j 0
