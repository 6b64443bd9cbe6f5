-- Nodes written one after the other, by bits and by words. Assumes nothing.
--     wrote_as, written_as     a table and an index under other names
--     node_written             the four numbers of a node
--     if_set, if_not           an id that passes gives its four numbers, another gives none
--     four_each                so many numbers are written
--     bit_written, bit_passed  one id more
--     word_written, word_passed, word_room   the ids of a word among those of a table of bits
use Prim.Native.Nat.{ℕ, zero, suc, ◌+◌, ◌*◌, ◌-◌, ◌≤◌, ◌<◌}
use native.Mathlib.Omega.{arith}
use native.Mathlib.Numerals.{add-one}
use mathlib.Core.Path.{◌≡◌, refl, sym, ap, ◌∙◌}
use mathlib.Core.Bool.{Bool, true, false}
use mathlib.Core.List.{List, [], ◌∷◌, ◌++◌}
use lib.ListN.{length, get_or, take, drop, length-append}
use lib.Seq.{length-sets, sets-eq, drop-drop}
use borrow.Rule.Slice.PartMut.{put_mid}
use Rattle.std.specs.Prelude.{if◌then◌else◌}
use Rattle.std.proofs.Common.{append_assoc}
use Rattle.basics.specs.Lists.{gather, from, below, count}
use Rattle.basics.specs.inner.Writing.{Wrote}
use Rattle.basics.proofs.Search.{count_none, count_parts}
use Rattle.basics.proofs.Gather.{two_parts, below_lt}
use Rattle.basics.proofs.Mapped.{gather_same}
use Rattle.basics.proofs.Stores.{sets_append}
use Rattle.basics.proofs.Written.{Written, nothing, same_ids, more_written, fits_left, longer}
use Rattle.lattice.specs.declared.Sizes.{Sizes}
use Rattle.filling.specs.declared.Placed.{Placed}
use Rattle.filling.specs.Located.{locate}
use Rattle.bitmap.specs.inner.Bits.{bit, marked}
use Rattle.bitmap.proofs.Words.{bit_zero}
use Rattle.bitmap.proofs.Tables.{word_bit}
use Rattle.numbering.specs.Nodes.{node_of}
use Rattle.coordinates.specs.inner.Marked.{node_if}

-- a table and an index under other names
pub wrote_as : {ids l now next : List ℕ} {i to on : ℕ} → Wrote ids l i now to → next ≡ now → on ≡ to → Wrote ids l i next on
wrote_as w e g = record { now_is = e ∙ w.now_is; to_is = g ∙ w.to_is }

pub written_as : {f : ℕ → List ℕ} {l now next : List ℕ} {i k at on : ℕ} → Written f l i k now at → next ≡ now → on ≡ at
    → Written f l i k next on
written_as w e g = record { now_is = e ∙ w.now_is; at_is = g ∙ w.at_is }

-- numbers that were copied into a part of the table
part_written : (ids l ys : List ℕ) (at n : ℕ) → length ids ≡ n → at + n ≤ length l → ys ≡ ids
    → Wrote ids l at (put_mid at (at + n - at) l ys) (at + n)
part_written ids l ys at n e h q =
    let here : at + n - at ≡ n = omega arith in
    let end : at + n ≡ at + length ids = omega arith in
    let after : drop n (drop at l) ≡ drop (at + length ids) l = drop-drop n at l ∙ ap (λ (k : ℕ). drop k l) end in
    record {
      now_is =
          ap (λ (k : ℕ). put_mid at k l ys) here
          ∙ ap (λ (zs : List ℕ). take at l ++ (zs ++ drop n (drop at l))) q
          ∙ ap (λ (zs : List ℕ). take at l ++ (ids ++ zs)) after
          ∙ sym (append_assoc (take at l) ids (drop (at + length ids) l))
          ∙ sym (sets-eq ids l at (omega arith));
      to_is = end;
    }

-- the four numbers of a node
pub node_written : {p q : Placed} {id at : ℕ} {l ys : List ℕ} → at + 4 ≤ length l → ys ≡ id ∷ p.x ∷ p.y ∷ p.z ∷ []
    → p ≡ q → Wrote (node_of id q) l at (put_mid at (at + 4 - at) l ys) (at + 4)
unfolding node_of
node_written {q = q} {id} {at} {l} {ys} h e a = part_written (node_of id q) l ys at 4 refl h (e ∙ rw a refl)

module _ (s : Sizes) (cuts state : List ℕ) where
  module _ (test : ℕ → Bool) (lo : ℕ) where
    abbrev f : ℕ → List ℕ
    f = node_if s cuts state test lo

    pub if_set : (k : ℕ) → test k ≡ true → node_of (lo + k) (locate s cuts state (lo + k)) ≡ f k
    unfolding node_if
    if_set k e = sym (rw e refl)

    pub if_not : (k : ℕ) → test k ≡ false → f k ≡ []
    unfolding node_if
    if_not k e = rw e refl

    length_if : (k : ℕ) → length (f k) ≡ 4 * (if test k then 1 else 0)
    unfolding node_if node_of
    length_if k = go (test k)
      where
        go : (b : Bool) → length (if b then node_of (lo + k) (locate s cuts state (lo + k)) else []) ≡ 4 * (if b then 1 else 0)
        go true = refl
        go false = refl

    pub four_each : (n : ℕ) → length (gather f (below n)) ≡ 4 * count test n
    unfolding gather from count
    four_each zero = refl
    four_each (suc n) =
        let e = longer f n in
        let more = rw (add-one n) at e in
        omega (arith, more, four_each n, length_if n)

    -- one id more
    module _ {l : List ℕ} {i k : ℕ} {now : List ℕ} {at : ℕ} (w : Written f l i k now at) where
      pub bit_written : {next : List ℕ} {to : ℕ} → test k ≡ true → Wrote (node_of (lo + k) (locate s cuts state (lo + k))) now at next to
          → Written f l i (k + 1) next to
      bit_written e h = more_written w (if_set k e) h

      pub bit_passed : test k ≡ false → Written f l i (k + 1) now at
      bit_passed e = more_written w (sym (if_not k e)) (nothing now at refl)

      -- there is room for it
      pub bit_room : (n : ℕ) → k < n → test k ≡ true → i + 4 * count test n ≤ length l → at + 4 ≤ length now
      unfolding node_of
      bit_room n h e r =
          omega (arith, fits_left w n (if_set k e) h (omega (arith, r, four_each n)))

  -- the ids of a word among those of a table of bits
  module _ (bits : List ℕ) (lo w : ℕ) where
    abbrev whole : ℕ → List ℕ
    whole = node_if s cuts state (marked bits) lo

    abbrev own : ℕ → List ℕ
    own = node_if s cuts state (bit (get_or bits w 0)) (lo + 64 * w)

    same : (j : ℕ) → j < 64 → whole (64 * w + j) ≡ own j
    unfolding node_if
    same j h =
        let e : lo + (64 * w + j) ≡ lo + 64 * w + j = omega arith in
        rw (word_bit bits w j h, e) refl

    pub word_more : gather whole (below (64 * (w + 1))) ≡ gather whole (below (64 * w)) ++ gather own (below 64)
    word_more =
        let e : 64 * (w + 1) ≡ 64 * w + 64 = omega arith in
        ap (λ (n : ℕ). gather whole (below n)) e ∙ two_parts whole (64 * w) 64
        ∙ ap (λ (l : List ℕ). gather whole (below (64 * w)) ++ l)
        (gather_same (λ j. whole (64 * w + j)) own (below 64) (λ j m. same j (below_lt 64 m)))

    module _ {l : List ℕ} {i : ℕ} {now : List ℕ} {at : ℕ} (h : Wrote (gather whole (below (64 * w))) l i now at) where
      pub word_written : {next : List ℕ} {to : ℕ} → Wrote (gather own (below 64)) now at next to
          → Wrote (gather whole (below (64 * (w + 1)))) l i next to
      word_written {next} {to} m =
          record {
            now_is = m.now_is ∙ rw (h.now_is, h.to_is, word_more)
                (sym (sets_append l i (gather whole (below (64 * w))) (gather own (below 64))));
            to_is = omega (arith, m.to_is, h.to_is, ap length word_more, length-append (gather whole (below (64 * w))) (gather own (below 64)));
          }

      -- an empty word
      pub word_passed : get_or bits w 0 ≡ 0 → Wrote (gather whole (below (64 * (w + 1)))) l i now at
      word_passed e = word_written (nothing now at (none (λ j. ap (λ (x : ℕ). bit x j) e ∙ bit_zero j)))
        where
          none : ((j : ℕ) → bit (get_or bits w 0) j ≡ false) → gather own (below 64) ≡ []
          none g =
              let zero = count_none (bit (get_or bits w 0)) 64 (λ j u. g j) in
              empty (gather own (below 64)) (four_each (bit (get_or bits w 0)) (lo + 64 * w) 64 ∙ ap (λ (n : ℕ). 4 * n) zero)
            where
              empty : (m : List ℕ) → length m ≡ 0 → m ≡ []
              empty [] q = refl
              empty (x ∷ m) q = absurd (omega arith)

      pub word_room : (n : ℕ) → w < n → i + 4 * count (marked bits) (64 * n) ≤ length l
          → at + 4 * count (bit (get_or bits w 0)) 64 ≤ length now
      word_room n u r =
          let e : 64 * n ≡ 64 * (w + 1) + 64 * (n - (w + 1)) = omega arith in
          let up_to = count_parts (marked bits) (64 * (w + 1)) (64 * (n - (w + 1))) in
          omega (
            arith,
            r,
            ap (count (marked bits)) e,
            up_to,
            h.to_is,
            ap length h.now_is,
            length-sets l i (gather whole (below (64 * w))),
            four_each (marked bits) lo (64 * w),
            four_each (marked bits) lo (64 * (w + 1)),
            ap length word_more,
            length-append (gather whole (below (64 * w))) (gather own (below 64)),
            four_each (bit (get_or bits w 0)) (lo + 64 * w) 64,
          )

-- before the first word, after the last
pub none_yet : (f : ℕ → List ℕ) (l : List ℕ) (i : ℕ) → Wrote (gather f (below (64 * 0))) l i l i
unfolding gather from
none_yet f l i = nothing l i refl

pub wrote_long : {ids l now : List ℕ} {i to : ℕ} → Wrote ids l i now to → length now ≡ length l
wrote_long {ids} {l} {i = i} w = ap length w.now_is ∙ length-sets l i ids

pub all_words : (f : ℕ → List ℕ) {l now : List ℕ} {i to : ℕ} (w n : ℕ) → Wrote (gather f (below (64 * w))) l i now to → w ≡ n
    → Wrote (gather f (below (64 * n))) l i now to
all_words f w n h e = same_ids (ap (λ (k : ℕ). gather f (below (64 * k))) e) h
