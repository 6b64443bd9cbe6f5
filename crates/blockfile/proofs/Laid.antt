-- The loop that lays the runs down in the cut table: what is left to lay down, laid down, gives the whole. Assumes nothing.
use Prim.Native.Nat.{ℕ, ◌+◌, ◌*◌, ◌-◌, ◌<◌, ◌≤◌}
use native.Mathlib.Omega.{arith}
use mathlib.Core.Path.{◌≡◌, refl, sym, ap, ◌∙◌}
use mathlib.Core.Bool.{true}
use mathlib.Core.List.{List, ◌∷◌, ◌++◌}
use lib.ListN.{length, take, drop, replicate, length-replicate, length-drop}
use borrow.Rule.Slice.PartMut.{put_mid}
use Rattle.std.proofs.lemmas.Slice.{put_mid-paste}
use lib.Seq.{take_all, sets-eq, sets, length-sets, length-take-le}
use Rattle.basics.proofs.Stores.{sets_append}
use Rattle.blockfile.specs.declared.Run.{Run}
use Rattle.blockfile.specs.Format.{fit, lengths, run_at, runs_from, cuts_from}
use Rattle.blockfile.proofs.Left.{runs_after, runs_left, no_runs_left}
use Rattle.blockfile.proofs.Fitting.{RunFits, fit_head, fit_tail, fit_earlier}

-- a run: the gap before it is cleared, and its bytes are copied
pub lay_run : (bytes table : List ℕ) (total k at : ℕ) (r : Run) (rs : List Run) → k ≤ r.offset → at + r.length ≤ length bytes
    → sets (sets (sets table k (replicate (r.offset - k) 0)) r.offset (take r.length (drop at bytes)))
    (r.offset + r.length)
    (cuts_from bytes total (r.offset + r.length) (at + r.length) rs)
    ≡ sets table k (cuts_from bytes total k at (r ∷ rs))
unfolding cuts_from
lay_run bytes table total k at r rs h g =
    sym (sets_append table k gap (part ++ rest) ∙ rw a (sets_append (sets table k gap) r.offset part rest ∙ rw b refl))
  where
    gap : List ℕ
    gap = replicate (r.offset - k) 0

    part : List ℕ
    part = take r.length (drop at bytes)

    rest : List ℕ
    rest = cuts_from bytes total (r.offset + r.length) (at + r.length) rs

    a : k + length gap ≡ r.offset
    a = omega (arith, length-replicate {A = ℕ} (r.offset - k) 0)

    b : length part ≡ r.length
    b = length-take-le r.length (drop at bytes) (rw length-drop (omega arith))

-- a part of a table that came back with other bytes
pub put_sets : (a k : ℕ) (xs ys : List ℕ) → length ys ≡ k → a + k ≤ length xs → put_mid a k xs ys ≡ sets xs a ys
put_sets a k xs ys e h =
    let q : a + k ≡ a + length ys = omega arith in
    put_mid-paste a k xs ys ys k refl refl (sym e) ∙ rw (take_all k ys (omega arith), q) (sym (sets-eq ys xs a (omega arith)))

module _ (a n : ℕ) (xs ys : List ℕ) (h : a + n ≤ length xs) where
  part_long : length (take n (drop a xs)) ≡ n
  part_long = length-take-le n (drop a xs) (rw length-drop (omega arith))

  -- zeros, and bytes of the file
  pub zeros_put : ys ≡ replicate (length (take n (drop a xs))) 0 → put_mid a n xs ys ≡ sets xs a (replicate n 0)
  zeros_put e =
      let z : ys ≡ replicate n 0 = rw part_long at e in
      put_sets a n xs ys (ap length z ∙ length-replicate n 0) h ∙ ap (sets xs a) z

  pub bytes_put : {ps : List ℕ} → ys ≡ ps → length ps ≡ n → put_mid a n xs ys ≡ sets xs a ps
  bytes_put e l = put_sets a n xs ys (ap length e ∙ l) h ∙ ap (sets xs a) e

-- i runs are laid down, the table is written up to entry k, and the bytes of the next run start at `at`
pub record Laid (bytes : List ℕ) (head count first total : ℕ) (table₀ table : List ℕ) (k at i : ℕ) : Type 0 where
  pub at_most : i ≤ count
  pub low : k ≤ total
  pub long : length table ≡ length table₀
  pub there : at + lengths (runs_after bytes head count i) ≤ length bytes
  pub fits : fit total k (runs_after bytes head count i) ≡ true
  pub same : sets table k (cuts_from bytes total k at (runs_after bytes head count i))
      ≡ sets table₀ 0 (cuts_from bytes total 0 first (runs_from bytes head count))

module _ {bytes : List ℕ} {head count first total : ℕ} {table₀ : List ℕ} where
  module _ {table : List ℕ} {k at i : ℕ} (w : Laid bytes head count first total table₀ table k at i) where
    -- what the next run is like
    step : {r : Run} → i < count → r ≡ run_at bytes (head + 6 * i) → runs_after bytes head count i ≡ r ∷ runs_after bytes head count (i + 1)
    step {r} h e = runs_left bytes head count i h ∙ ap (λ (q : Run). q ∷ runs_after bytes head count (i + 1)) (sym e)

    pub next_fits : {r : Run} → i < count → r ≡ run_at bytes (head + 6 * i) → RunFits total k r
    next_fits {r} h e = fit_head total k r (runs_after bytes head count (i + 1)) (rw (← (step h e)) w.fits)

    pub next_there : {r : Run} → i < count → r ≡ run_at bytes (head + 6 * i)
        → at + r.length + lengths (runs_after bytes head count (i + 1)) ≤ length bytes
    unfolding lengths
    next_there {r} h e = omega (arith, ap lengths (step h e), w.there)

    -- the table once the gap before the run is cleared, and the room that is left in it
    pub cleared_long : (n : ℕ) {u : List ℕ} → u ≡ sets table k (replicate n 0) → length u ≡ length table₀
    cleared_long n g = ap length g ∙ simp length-sets w.long

    pub laid_next : {r : Run} {u t : List ℕ} → i < count → r ≡ run_at bytes (head + 6 * i)
        → u ≡ sets table k (replicate (r.offset - k) 0)
        → t ≡ sets u r.offset (take (at + r.length - at) (drop at bytes))
        → Laid bytes head count first total table₀ t (r.offset + r.length) (at + r.length) (i + 1)
    laid_next {r} {u} {t} h e g q =
        let v = next_fits h e in
        let m : at + r.length - at ≡ r.length = omega arith in
        let f : t ≡ sets (sets table k (replicate (r.offset - k) 0)) r.offset (take r.length (drop at bytes)) = rw (← g, ← m) q in
        let rest = runs_after bytes head count (i + 1) in
        record {
          at_most = omega arith;
          low = v.within;
          long = ap length f ∙ simp length-sets w.long;
          there = next_there h e;
          fits =
              fit_earlier total (r.offset + r.length + 1) (r.offset + r.length) rest (omega arith)
              (fit_tail total k r rest (rw (← (step h e)) w.fits));
          same =
              rw f
              (lay_run bytes table total k at r rest v.after (omega (arith, next_there h e))
              ∙ ap (λ (rs : List Run). sets table k (cuts_from bytes total k at rs)) (sym (step h e))
              ∙ w.same);
        }

    -- at the end the rest is cleared
    pub laid_all : {t : List ℕ} → count ≤ i → t ≡ sets table k (replicate (total - k) 0)
        → t ≡ sets table₀ 0 (cuts_from bytes total 0 first (runs_from bytes head count))
    unfolding cuts_from
    laid_all h e = rw (← w.same, no_runs_left bytes head count i h) e
