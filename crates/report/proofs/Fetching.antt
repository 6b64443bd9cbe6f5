-- The turns of `fetch`: after each no more is held than is needed, since more bytes need no less (`grows`); and when they
-- end, the file is settled. Assumes nothing.
use Prim.Native.Nat.{ℕ, ◌+◌, ◌-◌, ◌<◌, ◌≤◌}
use native.Mathlib.Omega.{arith}
use mathlib.Core.Path.{◌≡◌, sym, ap, ◌∙◌}
use mathlib.Core.Logic.{◌⊎◌, inl, inr}
use mathlib.Core.List.{List, [], ◌++◌}
use lib.ListN.{length, take, drop, length-drop}
use lib.Seq.{length-take-le, take-append-add, take-append-le}
use Rattle.basics.proofs.Part.{back, back_long}
use Rattle.text.specs.inner.Counts.{IsPrefixLen}
use Rattle.blockfile.specs.inner.Needs.{needs, Held}
use Rattle.blockfile.proofs.Settled.{grows}

-- after some turns `held` bytes of a table of `most` bytes are held
pub record Fetching (limit most held : ℕ) (bytes : List ℕ) : Type 0 where
  pub long : length bytes ≡ most
  pub within : held ≤ most
  pub no_more : held ≤ needs (take held bytes) limit

module _ {limit most : ℕ} where
  pub fetching_first : (bytes : List ℕ) → length bytes ≡ most → Fetching limit most 0 bytes
  fetching_first bytes e = record { long = e; within = omega arith; no_more = omega arith }

  module _ {held : ℕ} {bytes : List ℕ} (w : Fetching limit most held bytes) where
    pub held_counts : IsPrefixLen held bytes
    held_counts = let h : held ≤ length bytes = omega arith in (h, sym (length-take-le held bytes h))

    -- the part from there up to what is needed was lent and came back, and its first `got` bytes were read
    module _
        (part : List ℕ) {got need : ℕ} (e : need ≡ needs (take held bytes) limit) (h : held ≤ need) (m : need ≤ length bytes)
        (l : length part ≡ length (take (need - held) (drop held bytes))) (g : got ≤ length part)
      where
        part_long : length part ≡ need - held
        part_long = l ∙ length-take-le (need - held) (drop held bytes) (omega (arith, length-drop held bytes))

        more_held : take (held + got) (back held (need - held) bytes part) ≡ take held bytes ++ take got part
        more_held =
            ap (λ (k : ℕ). take (k + got) (back held (need - held) bytes part)) held_counts.1
            ∙ take-append-add (take held bytes) _ got
            ∙ ap (take held bytes ++◌) (take-append-le got part _ g)

        pub fetching_next : Fetching limit most (held + got) (back held (need - held) bytes part)
        fetching_next =
            record {
              long = back_long held (need - held) bytes part (omega arith) part_long ∙ w.long;
              within = omega (arith, part_long);
              no_more = rw more_held (omega (arith, part_long, grows (take held bytes) (take got part) limit));
            }

    -- the ways to end, whatever is left of the input
    module _ (later : List ℕ) where
      ending : (needs (take held bytes) limit ≤ held) ⊎ ((most < needs (take held bytes) limit) ⊎ (later ≡ []))
          → Held limit most (take held bytes) later
      ending h = record { no_more = rw (← held_counts.1) w.no_more; enough = rw (← held_counts.1) h }

      pub ends_settled : {need : ℕ} → need ≡ needs (take held bytes) limit → need ≤ held
          → Held limit most (take held bytes) later
      ends_settled e h = ending (inl (omega arith))

      pub ends_too_long : {need : ℕ} → need ≡ needs (take held bytes) limit → length bytes < need
          → Held limit most (take held bytes) later
      ends_too_long e h = ending (inr (inl (omega arith)))

      pub ends_input : later ≡ [] → Held limit most (take held bytes) later
      ends_input e = ending (inr (inr e))
