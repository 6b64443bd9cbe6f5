-- F-5's ranges of bytes by their place in a table, as they were folded before the code took a range for a slice of its own
-- (`ranges/proofs/Eights` has the laws of today). Of every table; nothing is assumed.
--     Seen, none_seen, seen_more   many joint tests folded by `|`
--     blank_rest                   the whole range: the eights, and what is left over
--     nothing_there                a range that starts past the table's end
--     onward                       the lesser of two numbers that are above x is above x
use Prim.Native.Nat.{ℕ, ◌+◌, ◌≤◌, ◌<◌}
use native.Mathlib.Omega.{arith}
use mathlib.Core.Path.{◌≡◌}
use mathlib.Core.Logic.{inl, inr}
use mathlib.Core.List.{List}
use lib.Bits.{bit_or, or_add_and, and_le_l, and_le_r}
use lib.ListN.{length, get_or, get_or-eq_default}
use Rattle.basics.proofs.Test.{lt_or}
use Rattle.ranges.specs.inner.Blank.{Blank, Joint}

joined : (bytes : List ℕ) (from middle to : ℕ) → Blank bytes from middle → Blank bytes middle to → Blank bytes from to
joined bytes from middle to v w o a b = elim (lt_or o middle) [ inl u ↦ v o a u | inr u ↦ w o u b ]

-- what the tests before o have seen: 0 only if all bytes there are zero
pub record Seen (bytes : List ℕ) (from o seen : ℕ) : Type 0 where
  pub none : seen ≡ 0 → Blank bytes from o

pub none_seen : {bytes : List ℕ} {from o : ℕ} → o ≡ from → Seen bytes from o 0
none_seen h = record { none = λ e j a b. absurd (omega arith) }

pub seen_more : {bytes : List ℕ} {from o next at n seen answer : ℕ} → at ≡ o → next ≡ o + n → Seen bytes from o seen → Joint bytes at n answer
    → Seen bytes from next (bit_or seen answer)
seen_more {bytes} {from} {o} {next} {seen = seen} {answer = answer} e f v w =
    record {
      none = λ z.
          joined bytes from o next (v.none (omega (arith, or_add_and seen answer, and_le_r seen answer)))
          (λ j a b. w.passed (omega (arith, or_add_and seen answer, and_le_l seen answer)) j (omega arith) (omega arith));
    }

-- the whole range: the eights, and what is left over
pub blank_rest : {bytes : List ℕ} {from o seen : ℕ} (to : ℕ) → Seen bytes from o seen → seen ≡ 0 → Blank bytes o to → Blank bytes from to
blank_rest {bytes} {from} {o} to v z w = joined bytes from o to (v.none z) w

-- a range that starts past the table's end
pub nothing_there : (bytes : List ℕ) (from to end : ℕ) → end ≤ from → ((k : ℕ) → end ≤ k → k < to → length bytes ≤ k) → Blank bytes from to
nothing_there bytes from to end h l o a b = get_or-eq_default bytes 0 (l o (omega arith) b)

-- the lesser of two numbers that are above x is above x
pub onward : {x a b end : ℕ} → x < a → x < b → ((k : ℕ) → end ≤ k → k < a → b ≤ k) → x < end
onward {x} {end = end} g h f = elim (lt_or x end) [ inl u ↦ u | inr u ↦ absurd (omega (arith, f x u g)) ]
