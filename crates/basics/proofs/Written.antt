-- A loop that writes lists one after the other into a table, from an index on. Assumes nothing.
--     same_ids, nothing              what is written, under another name; nothing to write
--     longer, bounded                how long what was gathered is, and at most
--     Written                        the table after k turns, and the index after what was written
--     none_written, more_written     before the first turn, and one turn more
--     kept_long, fits_left           the table is as long as it was, and what comes next fits
--     index_most, all_written        how far the index has come; after the last turn
use Prim.Native.Nat.{ℕ, zero, suc, ◌+◌, ◌*◌, ◌-◌, ◌<◌, ◌≤◌}
use native.Mathlib.Omega.{arith}
use native.Mathlib.Numerals.{add-one}
use native.Mathlib.Nat.{mul-suc}
use mathlib.Core.Path.{◌≡◌, refl, sym, ap, ◌∙◌}
use mathlib.Core.List.{List, []}
use lib.ListN.{length, length-append}
use lib.Seq.{sets, length-sets}
use Rattle.basics.specs.Lists.{gather, from, below}
use Rattle.basics.specs.inner.Writing.{Wrote}
use Rattle.basics.proofs.Gather.{one_more}
use Rattle.basics.proofs.Stores.{sets_append}

-- what is written, under another name
pub same_ids : {a b l now : List ℕ} {i to : ℕ} → a ≡ b → Wrote a l i now to → Wrote b l i now to
same_ids {l = l} {i = i} e w =
    record { now_is = w.now_is ∙ ap (sets l i) e; to_is = w.to_is ∙ ap (λ (x : List ℕ). i + length x) e }

-- nothing to write
pub nothing : {ids : List ℕ} (l : List ℕ) (i : ℕ) → ids ≡ [] → Wrote ids l i l i
nothing l i e = rw e (record { now_is = refl; to_is = omega arith })

module _ (f : ℕ → List ℕ) where
  pub longer : (k : ℕ) → length (gather f (below (k + 1))) ≡ length (gather f (below k)) + length (f k)
  longer k = ap length (one_more f k) ∙ length-append (gather f (below k)) (f k)

  grows : (k d : ℕ) → length (gather f (below k)) ≤ length (gather f (below (k + d)))
  grows k zero = let e : k + 0 ≡ k = omega arith in rw e (omega arith)
  grows k (suc d) =
      let e : k + suc d ≡ k + d + 1 = omega arith in
      rw e (omega (arith, grows k d, longer (k + d)))

  fits : (k n : ℕ) → k < n → length (gather f (below k)) + length (f k) ≤ length (gather f (below n))
  fits k n h =
      let e : k + 1 + (n - (k + 1)) ≡ n = omega arith in
      let g = grows (k + 1) (n - (k + 1)) in
      omega (arith, longer k, rw e at g)

  -- no part is longer than c
  pub bounded : (c n : ℕ) → ((j : ℕ) → j < n → length (f j) ≤ c) → (k : ℕ) → k ≤ n → length (gather f (below k)) ≤ c * k
  unfolding gather from
  bounded c n h zero l = omega arith
  bounded c n h (suc k) l =
      let u = longer k in
      let v = rw (add-one k) at u in
      omega (arith, v, bounded c n h k (omega arith), h k (omega arith), mul-suc c k)

-- a loop that writes f 0, f 1 .. one after the other from i on, after k turns: what the table holds, and the index after it
pub record Written (f : ℕ → List ℕ) (l : List ℕ) (i k : ℕ) (now : List ℕ) (at : ℕ) : Type 0 where
  pub now_is : now ≡ sets l i (gather f (below k))
  pub at_is : at ≡ i + length (gather f (below k))

pub none_written : (f : ℕ → List ℕ) (l : List ℕ) (i : ℕ) → Written f l i 0 l i
unfolding gather from
none_written f l i = record { now_is = refl; at_is = omega arith }

module _ {f : ℕ → List ℕ} {l : List ℕ} {i k : ℕ} {now : List ℕ} {at : ℕ} (w : Written f l i k now at) where
  pub kept_long : length now ≡ length l
  kept_long = ap length w.now_is ∙ length-sets l i (gather f (below k))

  pub more_written : {vs next : List ℕ} {to : ℕ} → vs ≡ f k → Wrote vs now at next to → Written f l i (k + 1) next to
  more_written {vs} e h = record {
    now_is =
        h.now_is ∙ rw (w.now_is, w.at_is, e, one_more f k) (sym (sets_append l i (gather f (below k)) (f k)));
    at_is = omega (arith, h.to_is, ap length e, longer f k, w.at_is);
  }

  pub fits_left : (n : ℕ) {vs : List ℕ} → vs ≡ f k → k < n → i + length (gather f (below n)) ≤ length l
      → at + length vs ≤ length now
  fits_left n e h r = omega (arith, r, ap length e, kept_long, fits f k n h, w.at_is)

  -- how far the index has come, where no part is longer than c
  pub index_most : (c n : ℕ) → ((j : ℕ) → j < n → length (f j) ≤ c) → k ≤ n → at ≤ i + c * k
  index_most c n h b = omega (arith, bounded f c n h k b, w.at_is)

  pub all_written : (n : ℕ) → n ≤ k → k ≤ n → Wrote (gather f (below n)) l i now at
  all_written n p q =
      let e : k ≡ n = omega arith in
      record { now_is = rw e at w.now_is; to_is = rw e at w.at_is }
