-- A written block is a list of bytes, if its cut bytes are. Assumes nothing.
use Prim.Native.Nat.{ℕ, ◌/◌, ◌<◌}
use native.Mathlib.Omega.{arith}
use mathlib.Core.Path.{◌≡◌, refl}
use mathlib.Core.Bool.{Bool, true, false}
use mathlib.Core.List.{List, [], ◌∷◌, ◌++◌}
use lib.IntN.{ℤ}
use lib.Dec.{eqb, ltb, ltb→lt}
use borrow.Author.Tests.{lt-ltb}
use Rattle.std.specs.Prelude.{if◌then◌else◌}
use Rattle.basics.specs.Lists.{gather}
use Rattle.basics.proofs.Test.{&&-l, &&-r, T_true, true_T}
use Rattle.lattice.specs.Counts.{Sized}
use Rattle.moving.specs.Block.{Block}
use Rattle.blockfile.specs.declared.Run.{Run}
use Rattle.blockfile.specs.inner.Write.{two_bytes, four_bytes, unsigned, sample_bytes, header, runs_of, listed, write, only_bytes}

none : only_bytes [] ≡ true
unfolding only_bytes
none = refl

cons : (x : ℕ) (xs : List ℕ) → x < 256 → only_bytes xs ≡ true → only_bytes (x ∷ xs) ≡ true
unfolding only_bytes
cons x xs h e = rw (lt-ltb x 256 h) e

head : (x : ℕ) (xs : List ℕ) → only_bytes (x ∷ xs) ≡ true → x < 256
unfolding only_bytes
head x xs e = ltb→lt x 256 (&&-l (ltb x 256) _ (true_T _ e))

tail : (x : ℕ) (xs : List ℕ) → only_bytes (x ∷ xs) ≡ true → only_bytes xs ≡ true
unfolding only_bytes
tail x xs e = T_true _ (&&-r (ltb x 256) _ (true_T _ e))

append : (xs ys : List ℕ) → only_bytes xs ≡ true → only_bytes ys ≡ true → only_bytes (xs ++ ys) ≡ true
append [] ys e f = f
append (x ∷ xs) ys e f = cons x (xs ++ ys) (head x xs e) (append xs ys (tail x xs e) f)

all : {A : Type 0} (f : A → List ℕ) → ((a : A) → only_bytes (f a) ≡ true) → (l : List A) → only_bytes (gather f l) ≡ true
unfolding gather
all f h [] = none
all f h (a ∷ l) = append (f a) (gather f l) (h a) (all f h l)

two : (n : ℕ) → only_bytes (two_bytes n) ≡ true
unfolding two_bytes
two n = cons _ _ (omega arith) (cons _ _ (omega arith) none)

sample : (z : ℤ) → only_bytes (sample_bytes z) ≡ true
unfolding sample_bytes
sample z = two (unsigned z)

run : (r : Run) → only_bytes (header r) ≡ true
unfolding header four_bytes
run r = append _ _ (append _ _ (two r.offset) (two (r.offset / 65536))) (two r.length)

kept : (cs : List ℕ) → only_bytes cs ≡ true → only_bytes (listed cs) ≡ true
unfolding listed
kept [] e = e
kept (x ∷ cs) e = go (eqb x 0) (kept cs (tail x cs e))
  where
    go : (b : Bool) → only_bytes (listed cs) ≡ true → only_bytes (if b then listed cs else x ∷ listed cs) ≡ true
    go true f = f
    go false f = cons x (listed cs) (head x cs e) f

pub written_bytes : (b : Block) → Sized b.sizes → only_bytes b.cuts ≡ true → only_bytes (write b) ≡ true
unfolding write
written_bytes b h e =
    cons _ _ (omega arith)
    (cons _ _ (omega arith)
    (cons _ _ (omega arith)
    (append _ _ (all sample_bytes sample b.samples)
    (append _ _ (two _) (append _ _ (all header run (runs_of 0 b.cuts)) (kept b.cuts e))))))
