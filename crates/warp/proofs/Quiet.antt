-- When nothing has to be searched: what the quick tests of a point mean for its search. Assumes nothing.
use Prim.Native.Nat.{ℕ, zero, suc, ◌+◌, ◌*◌, ◌-◌, ◌≤◌, ◌<◌}
use native.Mathlib.Omega.{arith}
use mathlib.Core.Path.{◌≡◌, refl, sym, ap, subst, ◌∙◌}
use mathlib.Core.Logic.{◌⊎◌, inl, inr}
use mathlib.Core.Bool.{true, false}
use mathlib.Core.List.{List, [], ◌∷◌}
use lib.ListN.{length, get_or, get_or-eq_default}
use Rattle.std.proofs.Common.{Option, Some}
use Rattle.basics.proofs.Test.{lt_or}
use Rattle.lattice.specs.declared.Sizes.{Sizes}
use Rattle.lattice.specs.declared.Site.{Site}
use Rattle.lattice.specs.Axis.{along_x}
use Rattle.lattice.specs.Counts.{Sized, grid, points}
use Rattle.lattice.specs.Direction.{Code, as_end}
use Rattle.lattice.specs.Edge.{near, neighbour, edge_byte}
use Rattle.lattice.specs.inner.Site.{Sited, index}
use Rattle.lattice.proofs.Sites.{by_direction}
use Rattle.moving.specs.Violation.{rule1, violation}
use Rattle.moving.specs.State.{is_move}
use Rattle.moving.specs.Nearest.{nearest}
use Rattle.moving.specs.Reading.{Reading, cut_along, violation_by}
use Rattle.moving.specs.Moving.{choice, outset}
use Rattle.moving.proofs.Settled.{Reached}
use Rattle.moving.proofs.Nearest.{nearest_none}
use Rattle.ranges.specs.inner.Blank.{Blank}
use Rattle.lines.specs.inner.Lines.{Line, line_at}
use Rattle.lines.specs.inner.Strides.{starts_at, range_most}
use Rattle.lines.proofs.Points.{sited}
use Rattle.lines.proofs.Lines.{line_stands, line_at_law}
use Rattle.lines.proofs.Sites.{site_near}
use Rattle.lines.proofs.FarEnds.{start_small, start_first, start_fourth, start_sixth, start_within}
use Rattle.warp.specs.inner.Quick.{open_along, Offsets, by_byte, byte_if, Uncut, Bare}
use Rattle.warp.proofs.Offsets.{byte_start, byte_end}
use Rattle.warp.proofs.Searching.{Stands, by_byte_law, nearest_same, guess_none, guess_stands, live_at}

-- a point without a cut does not move: a byte of 0 is no cut
pub bare_stays : (m : Reading) (codes : List ℕ) (p : ℕ) → Bare m.sizes m.cuts p → choice m codes p ≡ 0
unfolding violation
bare_stays m codes p b =
    guess_none m codes p (λ c. 0) (λ c k q e. sym (b.none c k q e)) (nearest_none (λ c. violation m.rule c 0) 14 (omega arith) (λ c l u. refl))

-- no point has a cut, where all bytes of the table are zero
pub bare_table : (s : Sizes) (cuts : List ℕ) (p : ℕ) → Blank cuts 0 (length cuts) → Bare s cuts p
bare_table s cuts p z = record { none = λ c k q e. byte (edge_byte p c q) }
  where
    byte : (o : ℕ) → get_or cuts o 0 ≡ 0
    byte o = elim (lt_or o (length cuts)) [ inl u ↦ z o (omega arith) u | inr u ↦ get_or-eq_default cuts 0 u ]

-- fourteen bytes that are zero: seven of edges that start at the point, seven of edges that end there
module _ (s : Sizes) (cuts : List ℕ) (q : Site) (h : Sized s) (g : Sited s q) where
  abbrev byte : ℕ → ℕ
  byte o = get_or cuts o 0

  bare_of : ((d : ℕ) → d < 7 → byte (7 * q.own + d) ≡ 0)
      → ((d : ℕ) → d < 7 → (e : ℕ) → near s q.kind (index q) (as_end d) ≡ Some e → byte (7 * e + d) ≡ 0)
      → Bare s cuts q.own
  bare_of starts ends = record { none = λ c k e n. blank c k e (sym (site_near s q h g c) ∙ n) }
    where
      end : (c : ℕ) → 7 < c → c ≤ 14 → (d : ℕ) → as_end d ≡ c → (e : ℕ) → near s q.kind (index q) c ≡ Some e
          → byte (edge_byte q.own c e) ≡ 0
      end c l u d x e n =
          let way : c - 8 ≡ d = omega arith in
          ap byte (sym (byte_end q.own c e l u) ∙ ap (λ (k : ℕ). 7 * e + k) way)
          ∙ ends d (omega arith) e (ap (near s q.kind (index q)) x ∙ n)

      blank : (c : ℕ) → Code c → (e : ℕ) → near s q.kind (index q) c ≡ Some e → byte (edge_byte q.own c e) ≡ 0
      blank c k e n =
          elim (lt_or 7 c) [
            | inl u ↦ end c u k.high (c - 8) (omega arith) e n
            | inr u ↦ ap byte (sym (byte_start q.own c e k.low u)) ∙ starts (c - 1) (omega arith)
          ]

-- where the five ranges start that hold all starts: those of the fifth and the seventh direction are next to others
abbrev pub ranges_from : List ℕ → List ℕ
ranges_from back = get_or back 0 0 ∷ get_or back 1 0 ∷ get_or back 2 0 ∷ get_or back 3 0 ∷ get_or back 5 0 ∷ []

-- they are not far from the line
pub ranges_small : (s : Sizes) (q : Site) → Sized s → Sited s q → (back : List ℕ) → back ≡ starts_at s q
    → (k : ℕ) → k < 5 → get_or (ranges_from back) k 0 ≤ range_most
ranges_small s q h g back b = five
  where
    small : (d : ℕ) → d < 7 → get_or back d 0 ≤ range_most
    small = start_small s q g h back b

    five : (k : ℕ) → k < 5 → get_or (ranges_from back) k 0 ≤ range_most
    five zero l = small 0 (omega arith)
    five (suc zero) l = small 1 (omega arith)
    five (suc (suc zero)) l = small 2 (omega arith)
    five (suc (suc (suc zero))) l = small 3 (omega arith)
    five (suc (suc (suc (suc zero)))) l = small 5 (omega arith)
    five (suc (suc (suc (suc (suc k))))) l = absurd (omega arith)

-- a line of points, none of whose edges has a cut
module _ (s : Sizes) (q : Site) (h : Sized s) (l : Line s q.own q) (cuts : List ℕ)
    (uncut : (k : ℕ) → k < 5 → Uncut cuts (get_or (ranges_from (starts_at s q)) k 0) (grid s q.kind along_x)) where
  bare_points : (x : ℕ) → x < grid s q.kind along_x → Bare s cuts (q.own + x)
  bare_points x i =
      bare_of s cuts (line_at q x) h g
      (λ d v. (uncut 0 (omega arith)).none (q.own + x) (omega (arith, start_first s q)) (omega (arith, start_first s q)) d v)
      zeros
    where
      g : Sited s (line_at q x)
      g = sited (line_at_law l x i)

      within : (d : ℕ) → d < 7 → (e : ℕ) → near s q.kind (index (line_at q x)) (as_end d) ≡ Some e
          → (get_or (starts_at s q) d 0 ≤ e) × (e ≤ get_or (starts_at s q) d 0 + x)
      within = start_within s q (sited (line_stands l)) x g

      -- a start of an edge in direction d stands in the k-th range
      in_range : (k d e : ℕ) → k < 5 → d < 7 → get_or (ranges_from (starts_at s q)) k 0 ≤ e
          → e ≤ get_or (ranges_from (starts_at s q)) k 0 + grid s q.kind along_x → get_or cuts (7 * e + d) 0 ≡ 0
      in_range k d e u v a b = (uncut k u).none e a b d v

      zeros : (d : ℕ) → d < 7 → (e : ℕ) → near s q.kind (index (line_at q x)) (as_end d) ≡ Some e → get_or cuts (7 * e + d) 0 ≡ 0
      zeros =
          by_direction (λ d. (e : ℕ) → near s q.kind (index (line_at q x)) (as_end d) ≡ Some e → get_or cuts (7 * e + d) 0 ≡ 0)
          (λ e n. let v = within 0 (omega arith) e n in in_range 0 0 e (omega arith) (omega arith) v.0 (omega arith))
          (λ e n. let v = within 1 (omega arith) e n in in_range 1 1 e (omega arith) (omega arith) v.0 (omega arith))
          (λ e n. let v = within 2 (omega arith) e n in in_range 2 2 e (omega arith) (omega arith) v.0 (omega arith))
          (λ e n. let v = within 3 (omega arith) e n in in_range 3 3 e (omega arith) (omega arith) v.0 (omega arith))
          (λ e n. let v = within 4 (omega arith) e n in let f = start_fourth s q in
          in_range 3 4 e (omega arith) (omega arith) (omega arith) (omega arith))
          (λ e n. let v = within 5 (omega arith) e n in in_range 4 5 e (omega arith) (omega arith) v.0 (omega arith))
          (λ e n. let v = within 6 (omega arith) e n in let f = start_sixth s q in
          in_range 4 6 e (omega arith) (omega arith) (omega arith) (omega arith))

-- the same for the list and the length that the code holds
pub bare_line : (s : Sizes) (q : Site) → Sized s → Line s q.own q → (cuts : List ℕ) {back : List ℕ} {m : ℕ} → back ≡ starts_at s q
    → m ≡ grid s q.kind along_x → ((k : ℕ) → k < 5 → Uncut cuts (get_or (ranges_from back) k 0) m)
    → (x : ℕ) → x < grid s q.kind along_x → Bare s cuts (q.own + x)
bare_line s q h l cuts {back} {m} b e u =
    bare_points s q h l cuts (λ k i.
    subst (λ (n : ℕ). Uncut cuts (get_or (ranges_from (starts_at s q)) k 0) n) e
    (subst (λ (l : List ℕ). Uncut cuts (get_or (ranges_from l) k 0) m) b (u k i)))

-- the byte that stands for the edge by a code, at a site with the number p
pub offset_byte : (m : Reading) (q : Site) (at : List ℕ) {p c t : ℕ} → q.own ≡ p → Sized m.sizes → Sited m.sizes q
    → Offsets m.sizes q at → Code c → t ≡ get_or m.cuts (get_or at (c - 1) 0) 0 → Stands m p c t
offset_byte m q at {c = c} i h g o k is e near =
    let leads = ap (λ (n : ℕ). neighbour m.sizes n c) i ∙ near in
    is
    ∙ ap (λ (j : ℕ). get_or m.cuts j 0) (o.byte c k e (sym (site_near m.sizes q h g c) ∙ leads))
    ∙ ap (λ (n : ℕ). cut_along m n c e) i

-- the nearest by the bytes, if there is none or its cut is live
pub guess_at : (m : Reading) {codes : List ℕ} → Reached m (outset m) codes → (q : Site) (at : List ℕ) {p c : ℕ} → m.rule ≡ rule1
    → q.own ≡ p → p < points m.sizes → Sized m.sizes → Sited m.sizes q → Offsets m.sizes q at → c ≡ nearest (by_byte m.cuts at)
    → (is_move c ≡ false) ⊎ (Code c × (open_along codes q.own (neighbour m.sizes q.own c) ≡ true)) → c ≡ nearest (violation_by m codes p)
unfolding by_byte
guess_at m {codes} r q at {p} {c} rule i inside h g o e l =
    guess_stands m codes p byte (λ k code. offset_byte m q at i h g o code refl)
    (e ∙ (λ j. nearest (λ k. violation (sym rule j) k (byte k))))
    (elim l [ inl z ↦ inl z | inr a ↦ inr (live_at m r c a.0 i inside a.1) ])
  where
    byte : ℕ → ℕ
    byte k = get_or m.cuts (get_or at (k - 1) 0) 0

-- the same where only the codes are taken whose cuts are live
pub open_choice : (m : Reading) {codes : List ℕ} → Reached m (outset m) codes → (q : Site) (at : List ℕ) {c : ℕ} → m.rule ≡ rule1
    → q.own < points m.sizes → Sized m.sizes → Sited m.sizes q → Offsets m.sizes q at
    → c ≡ nearest (byte_if (λ k. open_along codes q.own (neighbour m.sizes q.own k)) m.cuts at) → c ≡ nearest (violation_by m codes q.own)
unfolding byte_if by_byte
open_choice m {codes} r q at rule inside h g o e = e ∙ nearest_same asked (violation_by m codes q.own) same
  where
    asked : ℕ → Option ℕ
    asked = byte_if (λ k. open_along codes q.own (neighbour m.sizes q.own k)) m.cuts at

    same : (k : ℕ) → 1 ≤ k → k ≤ 14 → asked k ≡ violation_by m codes q.own k
    same k l u =
        let code : Code k = record { low = l; high = u } in
        sym (by_byte_law m codes q.own k (offset_byte m q at refl h g o code refl) _ (live_at m r k code refl inside refl) ∙ rw rule refl)
