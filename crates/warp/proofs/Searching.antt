-- The search of a point code by code: the nearest so far; and when the bytes alone decide. Assumes nothing.
--     Searching                          the search has come to a code: search_starts, search_nearer, search_keeps, search_ends
--     byte_of, if_taken, if_left, if_far     a code that is taken violates as its byte does, any other not at all
--     all_taken, nearest_same                the nearest, where all are taken, and where the codes violate alike
--     by_byte_law                            a cut that is live violates as its byte does, any other not at all
--     guess_none, guess_stands           so if nothing violates by the bytes nothing does, and the nearest by the bytes is the nearest if it is live
--     Stands, live_at, chosen_new            what the code asks, in the definitions' terms
use Prim.Native.Nat.{ℕ, suc, ◌+◌, ◌-◌, ◌≤◌, ◌<◌}
use native.Mathlib.Omega.{arith}
use mathlib.Core.Path.{◌≡◌, refl, sym, ap, subst, ◌∙◌}
use mathlib.Core.Logic.{◌⊎◌, inl, inr}
use mathlib.Core.Bool.{Bool, true, false, ◌&&◌}
use mathlib.Core.List.{List}
use lib.ListN.{get_or}
use lib.Dec.{T, leb}
use borrow.Author.Tests.{le-leb}
use Rattle.std.specs.Prelude.{if◌then◌else◌, Option, Some, None, is_some, IfSome}
use Rattle.basics.proofs.Test.{lt_or}
use Rattle.lattice.specs.Counts.{points}
use Rattle.lattice.specs.Direction.{Code}
use Rattle.lattice.specs.Edge.{neighbour}
use Rattle.lattice.specs.declared.edge_code.EdgeCode.{EdgeCode}
use Rattle.moving.specs.Violation.{rule1, violation}
use Rattle.moving.specs.State.{is_move}
use Rattle.moving.specs.Nearest.{nearer, by_code, nearest_to, nearest}
use Rattle.moving.specs.Reading.{Reading, cut_along, violation_along, violation_by}
use Rattle.moving.specs.Moving.{choice, outset}
use Rattle.moving.proofs.Settled.{Reached}
use Rattle.moving.proofs.Bytes.{code_move}
use Rattle.moving.proofs.Nearest.{nearest_le, fewer_none, fewer_same}
use Rattle.warp.specs.inner.Quick.{live_along, open_along, by_byte, byte_if}
use Rattle.warp.specs.inner.Turns.{chosen}
use Rattle.warp.proofs.Live.{open_live}

-- the search has come to a code: of those before it, `found` is the nearest, and `best` says how near it is, if any are left
pub record Searching (by : ℕ → Option ℕ) (found : ℕ) (best : Option ℕ) (c : ℕ) : Type 0 where
  pub low : 1 ≤ c
  pub high : c ≤ 15
  pub is : found ≡ nearest_to by (c - 1)
  pub how : c ≤ 14 → best ≡ by_code by found

pub search_starts : {by : ℕ → Option ℕ} {found c : ℕ} → found ≡ 0 → c ≡ 1 → Searching by found None c
unfolding nearest_to is_move
search_starts e f =
    rw (e, f) (record { low = omega arith; high = omega arith; is = refl; how = λ l. refl })

-- nothing is left to be asked
pub search_whole : {by : ℕ → Option ℕ} {found c : ℕ} {best : Option ℕ} → found ≡ nearest by → c ≡ 15 → Searching by found best c
search_whole e f = rw f (record { low = omega arith; high = omega arith; is = e; how = λ l. absurd (omega arith) })

module _ {by : ℕ → Option ℕ} {found : ℕ} {best : Option ℕ} {c : ℕ} (i : Searching by found best c) where
  step : c ≤ 14 → nearest_to by (c + 1 - 1) ≡ (if nearer (by c) best then c else found)
  unfolding nearest_to
  step l =
      let e : c + 1 - 1 ≡ suc (c - 1) = omega arith in
      let f : suc (c - 1) ≡ c = omega (arith, i.low) in
      rw (e, i.how l, i.is, f) refl

  pub search_nearer : {found' : ℕ} {best' v : Option ℕ} → c ≤ 14 → v ≡ by c → nearer v best ≡ true → found' ≡ c → best' ≡ v
      → Searching by found' best' (c + 1)
  search_nearer l e n f g =
      record {
        low = omega arith;
        high = omega arith;
        is = f ∙ sym (step l ∙ rw (← e, n) refl);
        how = λ u. g ∙ e ∙ rw (f, code_move c (record { low = i.low; high = l })) refl;
      }

  pub search_keeps : {found' : ℕ} {best' : Option ℕ} → c ≤ 14 → nearer (by c) best ≡ false → found' ≡ found → best' ≡ best
      → Searching by found' best' (c + 1)
  search_keeps l n f g =
      record {
        low = omega arith;
        high = omega arith;
        is = f ∙ sym (step l ∙ rw n refl);
        how = λ u. g ∙ rw f (i.how l);
      }

  pub search_few : found ≤ 14
  search_few = omega (arith, i.is, nearest_le by (c - 1) (omega (arith, i.high)), i.high)

  pub search_ends : 15 ≤ c → found ≡ nearest by
  search_ends l = let e : c - 1 ≡ 14 = omega (arith, i.high) in rw e at i.is

-- the byte of a code, looked up by its offset
pub byte_of : (cuts at : List ℕ) (c : ℕ) {t : ℕ} {v : Option ℕ} → t ≡ get_or cuts (get_or at (c - 1) 0) 0 → v ≡ violation rule1 c t
    → v ≡ by_byte cuts at c
unfolding by_byte
byte_of cuts at c e f = f ∙ ap (violation rule1 c) e

-- a code that is taken violates as its byte does, one that is left not at all; so one whose byte is no nearer is no nearer
module _ (taken : ℕ → Bool) (cuts at : List ℕ) (c : ℕ) where
  pub if_taken : {v : Option ℕ} → v ≡ by_byte cuts at c → taken c ≡ true → v ≡ byte_if taken cuts at c
  unfolding byte_if
  if_taken e t = rw t e

  pub if_left : (w : Option ℕ) → taken c ≡ false → nearer (byte_if taken cuts at c) w ≡ false
  unfolding byte_if nearer
  if_left w t = rw t refl

  pub if_far : (w : Option ℕ) {v : Option ℕ} → v ≡ by_byte cuts at c → nearer v w ≡ false → nearer (byte_if taken cuts at c) w ≡ false
  unfolding byte_if nearer
  if_far w {v} e n = go (taken c)
    where
      go : (b : Bool) → nearer (if b then by_byte cuts at c else None) w ≡ false
      go true = rw (← e) n
      go false = refl

-- where all codes are taken it is the nearest by the bytes
pub all_taken : (cuts at : List ℕ) → nearest (byte_if (λ k. true) cuts at) ≡ nearest (by_byte cuts at)
unfolding byte_if
all_taken cuts at = refl

-- where the codes violate alike the nearest is one
pub nearest_same : (f g : ℕ → Option ℕ) → ((k : ℕ) → 1 ≤ k → k ≤ 14 → f k ≡ g k) → nearest f ≡ nearest g
nearest_same f g same =
    elim (lt_or 0 (nearest g)) [
      | inl u ↦ fewer_same g f 14 (omega arith) fewer (same (nearest g) u (nearest_le g 14 (omega arith)))
      | inr u ↦ let z : nearest g ≡ 0 = omega arith in fewer_none g f 14 (omega arith) fewer z ∙ sym z
    ]
  where
    fewer : (k : ℕ) → 1 ≤ k → k ≤ 14 → (f k ≡ g k) ⊎ (f k ≡ None)
    fewer k l u = inl (same k l u)

-- the byte t stands for the edge from p by a code, if there is one
abbrev pub Stands : Reading → ℕ → ℕ → ℕ → Type 0
Stands m p c t = (q : ℕ) → neighbour m.sizes p c ≡ Some q → t ≡ cut_along m p c q

module _ (m : Reading) (codes : List ℕ) (p : ℕ) where
  abbrev lives : ℕ → Bool
  lives c = live_along m.label codes p (neighbour m.sizes p c)

  pub by_byte_law : (c : ℕ) {t : ℕ} → Stands m p c t → (b : Bool) → lives c ≡ b
      → violation_by m codes p c ≡ (if b then violation m.rule c t else None)
  unfolding violation_along live_along
  by_byte_law c {t} byte b = go (neighbour m.sizes p c) refl
    where
      go : (n : Option ℕ) → neighbour m.sizes p c ≡ n → live_along m.label codes p n ≡ b
          → violation_along m codes p c n ≡ (if b then violation m.rule c t else None)
      go None e l = rw (← l) refl
      go (Some q) e l = rw (l, byte q e) refl

  by_byte_or : (c : ℕ) {t : ℕ} → Stands m p c t → (violation_by m codes p c ≡ violation m.rule c t) ⊎ (violation_by m codes p c ≡ None)
  by_byte_or c {t} byte = go (lives c) refl
    where
      go : (b : Bool) → lives c ≡ b → (violation_by m codes p c ≡ violation m.rule c t) ⊎ (violation_by m codes p c ≡ None)
      go true l = inl (by_byte_law c byte true l)
      go false l = inr (by_byte_law c byte false l)

  -- the bytes of all codes
  module _ (t : ℕ → ℕ) (bytes : (c : ℕ) → Code c → Stands m p c (t c)) where
    abbrev guessed : ℕ → Option ℕ
    guessed c = violation m.rule c (t c)

    fewer : (c : ℕ) → 1 ≤ c → c ≤ 14 → (violation_by m codes p c ≡ guessed c) ⊎ (violation_by m codes p c ≡ None)
    fewer c l u = by_byte_or c (bytes c (record { low = l; high = u }))

    pub guess_none : nearest guessed ≡ 0 → choice m codes p ≡ 0
    unfolding choice
    guess_none z = fewer_none guessed (violation_by m codes p) 14 (omega arith) fewer z

    pub guess_stands : {c : ℕ} → c ≡ nearest guessed → (is_move c ≡ false) ⊎ (lives c ≡ true) → c ≡ nearest (violation_by m codes p)
    guess_stands {c} e h =
        elim (lt_or 0 c) [
          | inl u ↦
              let code : Code c = record { low = u; high = omega (arith, e, nearest_le guessed 14 (omega arith)) } in
              let alive : lives c ≡ true = elim h [ inl z ↦ absurd (subst T (sym (code_move c code) ∙ z) tt) | inr l ↦ l ] in
              e ∙ sym (fewer_same guessed (violation_by m codes p) 14 (omega arith) fewer (rw e at (by_byte_law c (bytes c code) true alive)))
          | inr u ↦
              let z : c ≡ 0 = omega arith in
              z ∙ sym (fewer_none guessed (violation_by m codes p) 14 (omega arith) fewer (sym e ∙ z))
        ]

-- what the code asks of the cut by a code at a site with the number p
pub live_at : (m : Reading) {codes : List ℕ} → Reached m (outset m) codes → (c : ℕ) → Code c → {own p : ℕ} {b : Bool} → own ≡ p
    → p < points m.sizes → open_along codes own (neighbour m.sizes own c) ≡ b → live_along m.label codes p (neighbour m.sizes p c) ≡ b
live_at m {codes} r c k {p = p} {b = b} i h e =
    sym (open_live m r p h c k) ∙ subst (λ (n : ℕ). open_along codes n (neighbour m.sizes n c) ≡ b) i e

-- the code that is handed on is the one that was found, and none stands for 0
pub chosen_new : (r : Option EdgeCode) {n : ℕ} → n ≤ 14 → is_some r ≡ (leb 1 n && leb n 14) → IfSome r (λ c. c.code ≡ n) → chosen r ≡ n
chosen_new (Some c) h e f = f
chosen_new None {n} h e f = elim (lt_or 0 n) [ inl l ↦ absurd (some l) | inr l ↦ omega arith ]
  where
    some : 1 ≤ n → ⊥
    some l = let t : false ≡ true = e ∙ simp (le-leb 1 n l, le-leb n 14 h) in subst T (sym t) tt
