-- Laws of the bits of one word.
--     bit_zero                      no bit of 0 is set
--     bit_or_law                    a bit of an `or` is set if it is set in either word
--     bit_power                     the one bit of a power of two
--     shift_fits, shift_positive    a bit shifted to a place in a word of 64
--     bit_set                       the bit j set beside those of a word, as the code computes it
--     ones_low                      the set bits among the j lowest ones, counted
--     ones_whole                    those of a word of k bits
--     ones_masked                   those below the bit j, as the code computes it
-- Assumes nothing.
use Prim.Native.Nat.{ℕ, zero, suc, ◌+◌, ◌-◌, ◌*◌, ◌/◌, ◌%◌, ◌^◌, ◌≤◌, ◌<◌}
use native.Mathlib.Nat.{zero-lt-suc, one-mul, zero-div, div-one, div-eq_of_lt, mod-one, mod-lt, mod-eq_of_lt}
use native.Mathlib.Nat.{add_comm}
use native.Mathlib.Numerals.{one-add}
use native.Mathlib.Omega.{arith}
use mathlib.Core.Path.{◌≡◌, refl, sym, ap, ap₂, ◌∙◌}
use mathlib.Core.Bool.{Bool, false, ◌||◌}
use lib.Dec.{eqb, eqb-zero-suc, eqb-suc-zero, eqb-suc-suc, lit<}
use lib.Pow.{pow_pos, pow-lt, shr-shr, shl_exact, mod-pow-add}
use lib.Bits.{bit_and, bit_or, or_shr, or_mod, and_mask, shifted_half, shifted_even}
use lib.Count.{ones_in, ones, ones_cat}
use Rattle.std.specs.Prelude.{if◌then◌else◌}
use Rattle.basics.specs.Lists.{count}
use Rattle.bitmap.specs.inner.Bits.{bit}

pub bit_zero : (j : ℕ) → bit 0 j ≡ false
unfolding bit
bit_zero j = ap (λ (x : ℕ). eqb (x % 2) 1) (zero-div (2 ^ j))

-- of two digits
either : (d e : ℕ) → d < 2 → e < 2 → eqb (bit_or d e) 1 ≡ (eqb d 1 || eqb e 1)
either zero zero h l = refl
either zero (suc zero) h l = refl
either (suc zero) zero h l = refl
either (suc zero) (suc zero) h l = refl
either (suc (suc d)) e h l = absurd (omega arith)
either zero (suc (suc e)) h l = absurd (omega arith)
either (suc zero) (suc (suc e)) h l = absurd (omega arith)

digit_lt : (n : ℕ) → n % 2 < 2
digit_lt n = mod-lt n (zero-lt-suc 1)

pub bit_or_law : (a b i : ℕ) → bit (bit_or a b) i ≡ (bit a i || bit b i)
unfolding bit
bit_or_law a b i =
    ap (λ (x : ℕ). eqb (x % 2) 1) (or_shr a b i)
    ∙ ap (λ (x : ℕ). eqb x 1) (or_mod (a / 2 ^ i) (b / 2 ^ i) 1)
    ∙ either (a / 2 ^ i % 2) (b / 2 ^ i % 2) (digit_lt (a / 2 ^ i)) (digit_lt (b / 2 ^ i))

-- dropping the lowest digit
halve : (n i : ℕ) → n / 2 ^ suc i ≡ n / 2 / 2 ^ i
halve n i = ap (λ (x : ℕ). n / 2 ^ x) (sym (one-add i)) ∙ sym (shr-shr n 1 i)

pub bit_power : (j i : ℕ) → bit (1 * 2 ^ j) i ≡ eqb j i
unfolding bit
bit_power zero zero = refl
bit_power zero (suc i) =
    ap (λ (x : ℕ). eqb (x % 2) 1) (div-eq_of_lt (pow-lt {i = 0} (zero-lt-suc i))) ∙ sym (eqb-zero-suc i)
bit_power (suc j) zero =
    ap (λ (x : ℕ). eqb (x % 2) 1) (div-one (1 * 2 ^ suc j))
    ∙ ap (λ (x : ℕ). eqb x 1) (shifted_even 1 j)
    ∙ sym (eqb-suc-zero j)
bit_power (suc j) (suc i) =
    ap (λ (x : ℕ). eqb (x % 2) 1) (halve (1 * 2 ^ suc j) i ∙ ap (λ (x : ℕ). x / 2 ^ i) (shifted_half 1 j))
    ∙ bit_power j i
    ∙ sym (eqb-suc-suc j i)

-- nothing is shifted out of the word
pub shift_fits : (j : ℕ) → j < 64 → (1 * 2 ^ j) % 2 ^ 64 ≡ 1 * 2 ^ j
shift_fits j h = shl_exact 1 j 64 (lit< tt) (omega arith)

pub shift_positive : (j : ℕ) → j < 64 → 1 ≤ (1 * 2 ^ j) % 2 ^ 64
shift_positive j h = omega (arith, shift_fits j h, pow_pos j)

pub bit_set : (w j i : ℕ) → j < 64 → bit (bit_or w ((1 * 2 ^ j) % 2 ^ 64)) i ≡ (bit w i || eqb j i)
bit_set w j i h =
    ap (λ (x : ℕ). bit (bit_or w x) i) (shift_fits j h)
    ∙ bit_or_law w (1 * 2 ^ j) i
    ∙ ap (λ (b : Bool). bit w i || b) (bit_power j i)

-- the count of one digit
ones_digit : (d : ℕ) → d < 2 → ones d ≡ (if eqb d 1 then 1 else 0)
unfolding ones_in ones
ones_digit zero h = refl
ones_digit (suc zero) h = refl
ones_digit (suc (suc d)) h = absurd (omega arith)

ones_none : ones 0 ≡ 0
unfolding ones_in ones
ones_none = refl

low_suc : (w j : ℕ) → w % 2 ^ suc j ≡ (w / 2 ^ j % 2) * 2 ^ j + w % 2 ^ j
low_suc w j = ap (λ (x : ℕ). w % 2 ^ x) (sym (one-add j)) ∙ mod-pow-add w 1 j

pub ones_low : (w j : ℕ) → ones (w % 2 ^ j) ≡ count (bit w) j
unfolding bit count
ones_low w zero = ap ones (mod-one w) ∙ ones_none
ones_low w (suc j) =
    let d = w / 2 ^ j % 2 in
    ap ones (low_suc w j)
    ∙ ones_cat j d (w % 2 ^ j) (mod-lt w (pow_pos j))
    ∙ ap₂ ◌+◌ (ones_digit d (digit_lt (w / 2 ^ j))) (ones_low w j)
    ∙ add_comm (if eqb d 1 then 1 else 0) (count (bit w) j)

pub ones_whole : (w k : ℕ) → w < 2 ^ k → ones w ≡ count (bit w) k
ones_whole w k h = ap ones (sym (mod-eq_of_lt h)) ∙ ones_low w k

pub ones_masked : (w j : ℕ) → j < 64 → ones (bit_and w ((1 * 2 ^ j) % 2 ^ 64 - 1)) ≡ count (bit w) j
ones_masked w j h =
    ap (λ (x : ℕ). ones (bit_and w (x - 1))) (shift_fits j h ∙ one-mul (2 ^ j))
    ∙ ap ones (and_mask w j)
    ∙ ones_low w j
