-- What stands at a place of a file is read there: numbers, samples and runs that were written come back. Assumes nothing.
use Prim.Native.Nat.{ℕ, ◌+◌, ◌*◌, ◌-◌, ◌/◌, ◌%◌, ◌<◌, ◌≤◌}
use native.Mathlib.Nat.{mul-suc}
use native.Mathlib.Omega.{arith}
use mathlib.Core.Path.{◌≡◌, refl, sym, ap, ap₂, ◌∙◌}
use mathlib.Core.Bool.{true}
use mathlib.Core.List.{List, [], ◌∷◌, ◌++◌, append_assoc}
use lib.IntN.{ℤ, pos, negsuc}
use lib.ListN.{length, get_or, drop, length-append}
use lib.Seq.{get_or-drop, drop-drop, drop_at}
use lib.Dec.{leb, leb→le}
use borrow.Author.Tests.{leb-true}
use Rattle.basics.specs.Lists.{gather}
use Rattle.basics.proofs.Test.{&&-l, &&-r, T_true, true_T}
use Rattle.blockfile.specs.declared.Run.{Run}
use Rattle.blockfile.specs.Format.{signed, two_at, four_at, samples_from, run_at, runs_from, fit}
use Rattle.blockfile.specs.inner.Write.{two_bytes, four_bytes, unsigned, sample_bytes, header, sixteen, narrow, short}
use Rattle.blockfile.proofs.Signed.{signed_small, signed_large}
use Rattle.blockfile.proofs.Fitting.{fit_head, fit_tail}

-- from place i on there is a part, and then the rest
pub record Stands (bytes : List ℕ) (i : ℕ) (part rest : List ℕ) : Type 0 where
  pub is : drop i bytes ≡ part ++ rest

module _ {bytes : List ℕ} {i : ℕ} {rest : List ℕ} where
  pub stands_byte : {x : ℕ} {part : List ℕ} → Stands bytes i (x ∷ part) rest → get_or bytes i 0 ≡ x
  stands_byte w =
      let e : i ≡ i + 0 = omega arith in
      ap (λ (m : ℕ). get_or bytes m 0) e ∙ sym (get_or-drop i bytes 0 0) ∙ ap (λ (l : List ℕ). get_or l 0 0) w.is

  -- the first of two parts, and the second
  module _ (part more : List ℕ) (w : Stands bytes i (part ++ more) rest) where
    pub stands_first : Stands bytes i part (more ++ rest)
    stands_first = record { is = w.is ∙ append_assoc part more rest }

    pub stands_second : (n : ℕ) → length part ≡ n → Stands bytes (i + n) more rest
    stands_second n e = record { is = sym (drop-drop n i bytes) ∙ ap (drop n) stands_first.is ∙ drop_at part (more ++ rest) n e }

-- numbers
pub two_long : (n : ℕ) → length (two_bytes n) ≡ 2
unfolding two_bytes
two_long n = refl

pub two_back : (n : ℕ) {bytes : List ℕ} {i : ℕ} {rest : List ℕ} → Stands bytes i (two_bytes n) rest → two_at bytes i ≡ n % 65536
unfolding two_at two_bytes
two_back n w =
    omega (arith, stands_byte w, stands_byte (stands_second (n % 256 ∷ []) (n / 256 % 256 ∷ []) w 1 refl))

pub four_long : (n : ℕ) → length (four_bytes n) ≡ 4
unfolding four_bytes two_bytes
four_long n = refl

pub four_back : (n : ℕ) {bytes : List ℕ} {i : ℕ} {rest : List ℕ} → n < 4294967296 → Stands bytes i (four_bytes n) rest → four_at bytes i ≡ n
unfolding four_at four_bytes
four_back n h w =
    let low = two_bytes n in
    let high = two_bytes (n / 65536) in
    omega (arith, two_back n (stands_first low high w), two_back (n / 65536) (stands_second low high w 2 (two_long n)))

-- parts that are each n long
pub gather_long : {A : Type 0} (f : A → List ℕ) (n : ℕ) → ((a : A) → length (f a) ≡ n) → (l : List A) → length (gather f l) ≡ n * length l
unfolding gather
gather_long f n h [] = omega arith
gather_long f n h (a ∷ l) = simp length-append (omega (arith, h a, gather_long f n h l, mul-suc n (length l)))

-- samples
pub sample_long : (z : ℤ) → length (sample_bytes z) ≡ 2
unfolding sample_bytes
sample_long z = two_long (unsigned z)

pub samples_bytes : (zs : List ℤ) → length (gather sample_bytes zs) ≡ 2 * length zs
samples_bytes = gather_long sample_bytes 2 sample_long

pub signed_back : (z : ℤ) → sixteen z ≡ true → signed (unsigned z % 65536) ≡ z
unfolding sixteen unsigned
signed_back (pos n) e =
    let h = leb-true n 32767 e in
    let s : n % 65536 ≡ n = omega arith in
    ap signed s ∙ signed_small n (omega arith)
signed_back (negsuc n) e =
    let h = leb-true n 32767 e in
    let s : (65535 - n) % 65536 ≡ 65535 - n = omega arith in
    let t : 65535 - (65535 - n) ≡ n = omega arith in
    ap signed s ∙ signed_large (65535 - n) (omega arith) ∙ ap negsuc t

pub samples_back : (zs : List ℤ) {bytes : List ℕ} {i : ℕ} {rest : List ℕ} → narrow zs ≡ true → Stands bytes i (gather sample_bytes zs) rest
    → samples_from bytes i (length zs) ≡ zs
unfolding samples_from gather narrow sample_bytes
samples_back [] e w = refl
samples_back (z ∷ zs) {bytes} {i} {rest} e w =
    let t = true_T _ e in
    let one = two_bytes (unsigned z) in
    let more = gather sample_bytes zs in
    ap₂ ◌∷◌
    (ap signed (two_back (unsigned z) (stands_first one more w)) ∙ signed_back z (T_true _ (&&-l (sixteen z) _ t)))
    (samples_back zs (T_true _ (&&-r (sixteen z) _ t)) (stands_second one more w 2 (two_long (unsigned z))))

-- runs
pub header_long : (r : Run) → length (header r) ≡ 6
unfolding header
header_long r = simp length-append (omega (arith, four_long r.offset, two_long r.length))

pub headers_bytes : (rs : List Run) → length (gather header rs) ≡ 6 * length rs
headers_bytes = gather_long header 6 header_long

pub run_back : (r : Run) {bytes : List ℕ} {i : ℕ} {rest : List ℕ} → r.offset < 4294967296 → r.length ≤ 65535
    → Stands bytes i (header r) rest → run_at bytes i ≡ r
unfolding run_at header
run_back r h g w =
    let o = four_back r.offset h (stands_first (four_bytes r.offset) (two_bytes r.length) w) in
    let s : r.length % 65536 ≡ r.length = omega arith in
    let l = two_back r.length (stands_second (four_bytes r.offset) (two_bytes r.length) w 4 (four_long r.offset)) ∙ s in
    λ j. record { offset = o j; length = l j }

pub runs_back : (total least : ℕ) (rs : List Run) {bytes : List ℕ} {i : ℕ} {rest : List ℕ} → total < 4294967296
    → fit total least rs ≡ true → short rs ≡ true → Stands bytes i (gather header rs) rest → runs_from bytes i (length rs) ≡ rs
unfolding runs_from gather short
runs_back total least [] b e f w = refl
runs_back total least (r ∷ rs) b e f w =
    let t = true_T _ f in
    let more = gather header rs in
    let v = fit_head total least r rs e in
    ap₂ ◌∷◌
    (run_back r (omega arith) (leb→le _ _ (&&-l (leb r.length 65535) _ t)) (stands_first (header r) more w))
    (runs_back total (r.offset + r.length + 1) rs b (fit_tail total least r rs e) (T_true _ (&&-r (leb r.length 65535) _ t))
    (stands_second (header r) more w 6 (header_long r)))
