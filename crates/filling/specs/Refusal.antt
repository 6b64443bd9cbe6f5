-- Documents 01 and 02: refusals 1 to 9, 14 and 15, each a test with its number, and how a call goes through its own.
-- 10 stands in Fill and in Nodes, 11 and 12 in Format, 13 in Millimetres; measures and reading ask their 1 themselves.
--     Refusal, first_of          a refusal; the first of a list that applies
--     unless, found              one that comes unless a test passes; one that a search looks for
--     wrong_sizes .. wrong_id    1, 2, 3, 4, 5, 6 or 7, 14, 15, 8 or 9
use Rattle.std.specs.Prelude.{ℕ, ◌*◌, ◌%◌, Bool, not, List, [], ◌∷◌, ℤ, length, ltb, eqb, if◌then◌else◌}
use Rattle.lattice.specs.declared.Sizes.{Sizes}
use Rattle.lattice.specs.Counts.{sizes_fit, points}
use Rattle.moving.specs.declared.Label.{Label}
use Rattle.moving.specs.Label.{band_fits}
use Rattle.filling.specs.Check.{cut_fault, first_rim, first_cut}

-- whether it applies, its number, and the place that it names, "place 0 unless named"
pub record Refusal : Type 0 where
  pub applies : Bool
  pub number : ℕ
  pub place : ℕ

-- a call's refusals in their order: the first that applies is answered, by `refuse` with its number and place; where none
-- does, the call is `done`
abbrev pub first_of : {A : Type 0} → (ℕ → ℕ → A) → List Refusal → A → A
first_of refuse [] done = done
first_of refuse (r ∷ rest) done = if r.applies then refuse r.number r.place else first_of refuse rest done

-- refusal n, unless a test passes
abbrev pub unless : Bool → ℕ → Refusal
unless passes n = record { applies = not passes; number = n; place = 0 }

-- refusal n, if a search below a bound has found something: `at` is where, or the bound itself where there is nothing
abbrev pub found : ℕ → ℕ → ℕ → Refusal
found bound n at = record { applies = ltb at bound; number = n; place = at }

module _ (s : Sizes) where
  -- 1 "size": "a size outside 1 to 64"
  abbrev pub wrong_sizes : Refusal
  wrong_sizes = unless (sizes_fit s) 1

  -- 2 "samples": "not N samples"
  abbrev pub wrong_samples : List ℤ → Refusal
  wrong_samples samples = unless (eqb (length samples) (points s)) 2

  -- 3 "cuts": "cut table not 7N bytes"
  abbrev pub wrong_cuts : List ℕ → Refusal
  wrong_cuts cuts = unless (eqb (length cuts) (7 * points s)) 3

  -- 4 "state": "state table not N bytes"
  abbrev pub wrong_state : List ℕ → Refusal
  wrong_state state = unless (eqb (length state) (points s)) 4

  module _ (label : ℕ → Label) where
    -- 5 "rim": "a rim point's sample is above zero; place: lowest such point"; F-9: by labels
    abbrev pub plus_on_rim : Refusal
    plus_on_rim = found (points s) 5 (first_rim s label)

    -- 6 "gap" or 7 "stray": "the lowest byte that is a 6 or a 7 (its offset is the place)"
    abbrev pub wrong_byte : List ℕ → Refusal
    wrong_byte cuts = let o = first_cut s label cuts in found (7 * points s) (cut_fault s label cuts o) o

-- 14 "band": "the band is above 32767"
abbrev pub wrong_band : ℕ → Refusal
wrong_band band = unless (band_fits band) 14

-- 15 "rows": "the row table's length is not a multiple of four"
abbrev pub wrong_rows : List ℕ → Refusal
wrong_rows rows = unless (eqb (length rows % 4) 0) 15

-- 8 "corner" or 9 "code": the fault that an id has (`id_fault` in Located), 0 for none
abbrev pub wrong_id : ℕ → Refusal
wrong_id fault = unless (eqb fault 0) fault
