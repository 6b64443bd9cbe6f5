-- What the hits say of the row table, entry by entry and part by part.
--     Tells, tells_none, tells_more, tells_all            the hits of the entries below i: at the start, a turn, the end
--     tells_marked, tells_known                           the turn, where the slot is marked now, or was before
--     Spreads, spreads_all                                the hits of the first parts, at the end
--     spreads_taken, beyond_taken                         a part's hits; an id past the last window in a part
-- Assumes nothing.
use Prim.Native.Nat.{ℕ, ◌+◌, ◌-◌, ◌*◌, ◌/◌, ◌≤◌, ◌<◌}
use native.Mathlib.Omega.{arith}
use mathlib.Core.Path.{◌≡◌, refl, sym, ap, subst, ◌∙◌}
use mathlib.Core.Logic.{inl, inr}
use mathlib.Core.Bool.{Bool, true}
use mathlib.Core.List.{List}
use lib.ListN.{length, get_or, take, drop, length-take, length-drop}
use Rattle.basics.proofs.Test.{lt_or}
use Rattle.basics.proofs.Part.{lent_at}
use Rattle.bitmap.specs.inner.Bits.{marked, Adds}
use Rattle.windows.specs.inner.Windows.{window, windows, part, slot, Grows, Beyond, Told, Spread}
use Rattle.windows.proofs.Parts.{Left, Taken, here, fits, full}
use Rattle.windows.proofs.Parts as parts
use Rattle.windows.proofs.Slots.{grows_not, grows_then, grows_add, add_hit}

-- entry by entry: those below i have their hits
pub record Tells (old hits rows : List ℕ) (p i : ℕ) : Type 0 where
  pub grown : Grows old hits
  pub inside : (j : ℕ) → j < i → get_or rows j 0 < windows * window
  pub hit : (j : ℕ) → j < i → marked hits (slot (get_or rows j 0 / window) p) ≡ true

pub tells_none : (hits rows : List ℕ) (p : ℕ) → Tells hits hits rows p 0
tells_none hits rows p =
    record { grown = grows_not hits; inside = λ j l. absurd (omega arith); hit = λ j l. absurd (omega arith) }

pub tells_more : {old hits new rows : List ℕ} {p i : ℕ} → Tells old hits rows p i → Grows hits new
    → get_or rows i 0 / window < windows → marked new (slot (get_or rows i 0 / window) p) ≡ true
    → Tells old new rows p (i + 1)
tells_more {new = new} {rows} {p} {i} t g w e =
    record { grown = grows_then t.grown g; inside = in_window; hit = is_hit }
  where
    in_window : (j : ℕ) → j < i + 1 → get_or rows j 0 < windows * window
    in_window j l =
        elim (lt_or j i) [
          | inl m ↦ t.inside j m
          | inr m ↦ let q : j ≡ i = omega arith in omega (arith, ap (λ (x : ℕ). get_or rows x 0) q)
        ]

    is_hit : (j : ℕ) → j < i + 1 → marked new (slot (get_or rows j 0 / window) p) ≡ true
    is_hit j l =
        elim (lt_or j i) [
          | inl m ↦ g.keeps _ (t.hit j m)
          | inr m ↦
              let q : j ≡ i = omega arith in
              ap (λ (x : ℕ). marked new (slot (get_or rows x 0 / window) p)) q ∙ e
        ]

-- the slot is marked now, or was before
module _ {old hits got rows : List ℕ} {p i k : ℕ} (t : Tells old hits rows p i)
    (w : get_or rows i 0 / window < windows) (e : k ≡ slot (get_or rows i 0 / window) p) where
  pub tells_marked : {new : List ℕ} → Adds k hits new → got ≡ new → Tells old got rows p (i + 1)
  tells_marked a q = rw q (tells_more t (grows_add a) w (ap (marked _) (sym e) ∙ add_hit a))

  pub tells_known : {known : Bool} → known ≡ marked hits k → known ≡ true → got ≡ hits
      → Tells old got rows p (i + 1)
  tells_known m y q = rw q (tells_more t (grows_not hits) w (ap (marked hits) (sym e) ∙ sym m ∙ y))

pub tells_all : {old hits rows : List ℕ} {p i : ℕ} → Tells old hits rows p i → length rows ≤ i
    → Told hits rows p
tells_all t l = record { inside = λ j h. t.inside j (omega arith); hit = λ j h. t.hit j (omega arith) }

-- part by part: the entries of the first p parts have their hits
pub record Spreads (hits rows : List ℕ) (p : ℕ) : Type 0 where
  pub inside : (j : ℕ) → j < length rows → j < part * p → get_or rows j 0 < windows * window
  pub hit : (j : ℕ) → j < length rows → j < part * p
      → marked hits (slot (get_or rows j 0 / window) (j / part)) ≡ true

pub spreads_all : {hits rows : List ℕ} {p : ℕ} → Spreads hits rows p → length rows ≤ part * p
    → Spread hits rows (length rows)
spreads_all s l = record { inside = λ j h. s.inside j h (omega arith); hit = λ j h. s.hit j h (omega arith) }

-- the part from a on, of n entries: all of its 256, or those up to the end
module _ (rows : List ℕ) (a n : ℕ) (fits : a + n ≤ length rows) where
  part_long : length (take n (drop a rows)) ≡ n
  part_long = simp (length-take, length-drop) (omega arith)

  beyond_part : Beyond (take n (drop a rows)) → Beyond rows
  beyond_part b =
      let l : b.at < n = omega (arith, b.within, part_long) in
      record { at = a + b.at; within = omega arith; past = omega (arith, b.past, lent_at a n rows b.at l) }

  module _ {new : List ℕ} {p : ℕ} (is-a : a ≡ part * p) (n-le : n ≤ part) (whole : n < part → a + n ≡ length rows)
      (t : Told new (take n (drop a rows)) p) where
    -- an entry of the part
    module _ (j : ℕ) (h : j < length rows) (l : j < part * (p + 1)) (m : a ≤ j) where
      short : j - a < n
      short = elim (lt_or n part) [ inl u ↦ omega (arith, whole u) | inr u ↦ omega arith ]

      lent : j - a < length (take n (drop a rows))
      lent = omega (arith, part_long, short)

      same : get_or (take n (drop a rows)) (j - a) 0 ≡ get_or rows j 0
      same = lent_at a n rows (j - a) short ∙ ap (λ (x : ℕ). get_or rows x 0) (omega arith)

      in_part : get_or rows j 0 < windows * window
      in_part = omega (arith, same, t.inside (j - a) lent)

      hit_part : marked new (slot (get_or rows j 0 / window) (j / part)) ≡ true
      hit_part =
          let q : j / part ≡ p = omega arith in
          ap (λ (x : ℕ). marked new (slot (get_or rows j 0 / window) x)) q
          ∙ ap (λ (x : ℕ). marked new (slot (x / window) p)) (sym same)
          ∙ t.hit (j - a) lent

    spreads_more : {hits : List ℕ} → Spreads hits rows p → Grows hits new → Spreads new rows (p + 1)
    spreads_more s g =
        record {
          inside = λ j h l. elim (lt_or j a) [
            | inl m ↦ s.inside j h (omega arith)
            | inr m ↦ in_part j h l m
          ];
          hit = λ j h l. elim (lt_or j a) [
            | inl m ↦ g.keeps _ (s.hit j h (omega arith))
            | inr m ↦ hit_part j h l m
          ];
        }

-- the same of a part as it is taken off
module _ {rows left taken rest : List ℕ} {size to p at next : ℕ} (l : Left rows left size p)
    (t : Taken size to p at next left taken rest) where
  pub beyond_taken : Beyond taken → Beyond rows
  beyond_taken b = beyond_part rows (part * p) (length taken) (parts.inside l t) (subst Beyond (here l t) b)

  pub spreads_taken : {hits new : List ℕ} → Told new taken at → Spreads hits rows p → Grows hits new → Spreads new rows next
  spreads_taken {new = new} told s g =
      subst (λ (q : ℕ). Spreads new rows q) (sym t.is_next)
      (spreads_more rows (part * p) (length taken) (parts.inside l t) refl (fits l t) (full l t) in_place s g)
    where
      in_place : Told new (take (length taken) (drop (part * p) rows)) p
      in_place =
          subst (λ (q : ℕ). Told new (take (length taken) (drop (part * p) rows)) q) t.is_at
          (subst (λ (r : List ℕ). Told new r at) (here l t) told)
