-- A file that is held as far as it is needed is settled: what follows changes no answer. `grows`: more bytes need no less.
-- `settled`: all that is needed is held. `never`: more is needed than any file has, which is malformed whatever follows.
-- `read_end`: a file that is taken needs its own bytes and no more. Assumes nothing.
use Prim.Native.Nat.{ℕ, ◌<◌, ◌≤◌}
use native.Mathlib.Omega.{arith}
use mathlib.Core.Path.{◌≡◌, refl, sym, ◌∙◌}
use mathlib.Core.Logic.{inl, inr}
use mathlib.Core.Bool.{true, false}
use mathlib.Core.List.{List, ◌++◌}
use lib.IntN.{ℤ}
use lib.ListN.{length, length-append}
use Rattle.basics.proofs.Test.{F-false, T_true, lt_or}
use Rattle.lattice.specs.declared.Sizes.{Sizes}
use Rattle.lattice.specs.Counts.{sizes_fit, points}
use Rattle.lattice.proofs.Sized.{fits_sized, sized_fits}
use Rattle.blockfile.specs.Format.{
  file_sizes,
  headers,
  first_byte,
  beyond,
  well_formed,
  taken,
  read_body,
  read,
}
use Rattle.blockfile.specs.inner.Needs.{needs_after, needs}
use Rattle.blockfile.proofs.Parts.{first_end, well_formed_law}
use Rattle.blockfile.proofs.Outcome.{refuse_size, refuse_bench, go_on}
use Rattle.blockfile.proofs.Checked.{readable}
use Rattle.blockfile.proofs.Longest.{NoLonger, longest, limited}
use Rattle.blockfile.proofs.Stages.{
  up_to_headers,
  up_to_runs,
  up_to_end,
  bounds,
  Sizing,
  misfit,
  over,
  within,
  sizing,
  up_to_sizes,
  sizes_refused,
  sizes_beyond,
  past_sizes,
  three,
}
use Rattle.blockfile.proofs.Followed.{sizes_same, count_same, end_same, body_same}

module _ (bytes later : List ℕ) where
  longer : length bytes ≤ length (bytes ++ later)
  longer = omega (arith, length-append bytes later)

  after_grows : (n : ℕ) → needs_after bytes n ≤ needs_after (bytes ++ later) n
  after_grows n =
      elim (lt_or (length bytes) (headers bytes n)) [
        | inl h ↦ omega (arith, up_to_headers bytes n h, (bounds (bytes ++ later) n).low)
        | inr h ↦
            elim (lt_or (length bytes) (first_byte bytes n)) [
              | inl k ↦
                  omega (
                    arith,
                    up_to_runs bytes n refl h k,
                    count_same bytes later n h,
                    (bounds (bytes ++ later) n).counted (omega (arith, longer)),
                  )
              | inr k ↦
                  omega (
                    arith,
                    up_to_end bytes n k,
                    end_same bytes later n k,
                    up_to_end (bytes ++ later) n (omega (arith, longer, count_same bytes later n h)),
                  )
            ]
      ]

  module _ (limit : ℕ) where
    pub grows : needs bytes limit ≤ needs (bytes ++ later) limit
    grows =
        elim (lt_or (length bytes) 3) [
          | inl h ↦ omega (arith, up_to_sizes bytes limit h, three (bytes ++ later) limit)
          | inr h ↦ go h (sizing limit (file_sizes bytes))
        ]
      where
        go : 3 ≤ length bytes → Sizing limit (file_sizes bytes) → needs bytes limit ≤ needs (bytes ++ later) limit
        go h (misfit e) = omega (arith, sizes_refused bytes limit refl h e, three (bytes ++ later) limit)
        go h (over f e) = omega (arith, sizes_beyond bytes limit refl h f e, three (bytes ++ later) limit)
        go h (within f e) =
            omega (
              arith,
              past_sizes bytes limit refl h f e,
              past_sizes (bytes ++ later) limit (sym (sizes_same bytes later h)) (omega (arith, longer)) f e,
              after_grows (points (file_sizes bytes)),
            )

    module _ (samples : List ℤ) (cuts : List ℕ) where
      -- the same answer, if what follows the sizes gets the same one where they are taken
      same_read : 3 ≤ length bytes
          → (sizes_fit (file_sizes bytes) ≡ true → beyond limit (file_sizes bytes) ≡ false
          → read_body (bytes ++ later) samples cuts (file_sizes bytes) ≡ read_body bytes samples cuts (file_sizes bytes))
          → read (bytes ++ later) limit samples cuts ≡ read bytes limit samples cuts
      same_read h body = go (sizing limit (file_sizes bytes))
        where
          q : file_sizes bytes ≡ file_sizes (bytes ++ later)
          q = sym (sizes_same bytes later h)

          long : 3 ≤ length (bytes ++ later)
          long = omega (arith, longer)

          go : Sizing limit (file_sizes bytes) → read (bytes ++ later) limit samples cuts ≡ read bytes limit samples cuts
          go (misfit e) = refuse_size _ _ _ _ q long e ∙ sym (refuse_size _ _ _ _ refl h e)
          go (over f e) = refuse_bench _ _ _ _ q long f e ∙ sym (refuse_bench _ _ _ _ refl h f e)
          go (within f e) = go_on _ _ _ _ q long f e ∙ body f e ∙ sym (go_on _ _ _ _ refl h f e)

      pub settled : needs bytes limit ≤ length bytes
          → read (bytes ++ later) limit samples cuts ≡ read bytes limit samples cuts
      settled h =
          let s = file_sizes bytes in
          let long : 3 ≤ length bytes = omega (arith, three bytes limit) in
          same_read long (λ f e.
          body_same bytes later samples cuts s
          ((bounds bytes (points s)).whole (omega (arith, past_sizes bytes limit refl long f e))))

-- more is needed than any file has
module _
    (limit most : ℕ) (enough : NoLonger limit most)
    (s : Sizes) (f : sizes_fit s ≡ true) (e : beyond limit s ≡ false)
  where
    malformed : (bytes : List ℕ) → most < needs_after bytes (points s) → well_formed bytes (points s) ≡ false
    malformed bytes h = F-false _ (λ t. no (T_true _ t))
      where
        no : well_formed bytes (points s) ≡ true → ⊥
        no w =
            let n = points s in
            omega (arith, longest bytes n w, (bounds bytes n).high, enough s (fits_sized s f) (limited limit s e))

    same_refusal : (bytes later : List ℕ) (samples : List ℤ) (cuts : List ℕ) → most < needs_after bytes (points s)
        → read_body (bytes ++ later) samples cuts s ≡ read_body bytes samples cuts s
    unfolding read_body
    same_refusal bytes later samples cuts h =
        rw (malformed bytes h, malformed (bytes ++ later) (omega (arith, after_grows bytes later (points s)))) refl

pub never : (bytes later : List ℕ) (limit most : ℕ) (samples : List ℤ) (cuts : List ℕ) → 3 ≤ most → NoLonger limit most
    → most < needs bytes limit → read (bytes ++ later) limit samples cuts ≡ read bytes limit samples cuts
never bytes later limit most samples cuts few enough h =
    elim (lt_or (length bytes) 3) [
      | inl k ↦ absurd (omega (arith, up_to_sizes bytes limit k))
      | inr k ↦
          same_read bytes later limit samples cuts k (λ f e.
          same_refusal limit most enough (file_sizes bytes) f e bytes later samples cuts
          (omega (arith, past_sizes bytes limit refl k f e)))
    ]

module _ (bytes : List ℕ) (limit : ℕ) (samples : List ℤ) (cuts : List ℕ) where
  pub read_end : (read bytes limit samples cuts).answer.number ≡ 0
      → ((read bytes limit samples cuts).answer.end ≤ length bytes)
      × (needs bytes limit ≡ (read bytes limit samples cuts).answer.end)
  unfolding taken
  read_end e =
      let s = file_sizes bytes in
      let n = points s in
      let w = readable bytes limit samples cuts e in
      let long = (well_formed_law bytes n w.well).long in
      let first : first_byte bytes n ≤ length bytes = omega (arith, first_end bytes n) in
      rw w.is
      (long, past_sizes bytes limit refl (omega arith) (sized_fits s w.sized) w.within ∙ up_to_end bytes n first)
