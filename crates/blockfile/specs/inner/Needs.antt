-- How much of a block file must be held before more of it is known, and what a reader holds that asks for no more: so a
-- program that reads files one after another never takes a byte past the end of one. `needs` is that count, `Held` what
-- is held at a turn, `HeldIn` the same in a table.
use Rattle.std.specs.Prelude.{ℕ, ◌<◌, ◌≤◌, ◌≡◌, ◌⊎◌, Bool, true, false, not, List, [], length, take, ltb, if◌then◌else◌}
use Rattle.lattice.specs.declared.Sizes.{Sizes}
use Rattle.lattice.specs.Counts.{sizes_fit, points}
use Rattle.refusals.specs.declared.Refusal.{Refusal}
use Rattle.refusals.specs.declared.Refusal.TheVariants.{File, Sizes as Refused, Room}
use Rattle.blockfile.specs.Format.{file_sizes, headers, first_byte, end, beyond}

-- of a file of n points: its samples and the run count, which says how many headers follow; then these, which say how
-- long the runs are; then all of it
unfoldable pub needs_after : List ℕ → ℕ → ℕ
needs_after bytes n =
    if ltb (length bytes) (headers bytes n) then headers bytes n
    else if ltb (length bytes) (first_byte bytes n) then first_byte bytes n
    else end bytes n

-- the sizes first, and no more where they are refused
unfoldable pub needs : List ℕ → ℕ → ℕ
needs bytes limit =
    let s = file_sizes bytes in
    let rest = needs_after bytes (points s) in
    if ltb (length bytes) 3 then 3
    else if not (sizes_fit s) then 3
    else if beyond limit s then 3
    else rest

-- the sizes with which a file starts are taken, and within the limit
pub record Opens (bytes : List ℕ) (limit : ℕ) (s : Sizes) : Type 0 where
  pub long : 3 ≤ length bytes
  pub is : s ≡ file_sizes bytes
  pub fits : sizes_fit s ≡ true
  pub within : beyond limit s ≡ false

-- or why not
pub data Shut (bytes : List ℕ) (limit : ℕ) : Refusal → Type 0 where
  short : length bytes < 3 → Shut bytes limit File
  misfit : 3 ≤ length bytes → sizes_fit (file_sizes bytes) ≡ false → Shut bytes limit Refused
  over : 3 ≤ length bytes → sizes_fit (file_sizes bytes) ≡ true → beyond limit (file_sizes bytes) ≡ true → Shut bytes limit Room

-- no well-formed file within the bench program's sizes has more bytes
abbrev pub bench_longest : ℕ
bench_longest = 9045

-- what is held of the input at a turn, and what is left of it: no more than is needed; and all that is needed, or more is
-- needed than any file within the limit has (`most` bytes), or nothing is left
pub record Held (limit most : ℕ) (bytes later : List ℕ) : Type 0 where
  pub no_more : length bytes ≤ needs bytes limit
  pub enough : (needs bytes limit ≤ length bytes) ⊎ ((most < needs bytes limit) ⊎ (later ≡ []))

-- so are the first `held` bytes of a table, whatever is left of the input: nothing, if it has ended
abbrev pub HeldIn : ℕ → ℕ → List ℕ → ℕ → Bool → Type 0
HeldIn limit most table held ended = (later : List ℕ) → (ended ≡ true → later ≡ []) → Held limit most (take held table) later
