-- A type all of whose elements stand in a list: a test over the list is a test of every element. Assumes nothing.
use mathlib.Core.Bool.{Bool}
use mathlib.Core.List.{List}
use lib.Dec.{T}
use Rattle.basics.proofs.Test.{Member, every, every_use, every_i}

pub record Finite (A : Type 0) : Type 0 where
  pub all : List A
  pub complete : (a : A) → Member a all

module _ {A : Type 0} (F : Finite A) where
  abbrev pub each : (A → Bool) → Bool
  each f = every f F.all

  pub each_use : (f : A → Bool) → T (each f) → (a : A) → T (f a)
  each_use f t a = every_use f F.all t (F.complete a)

  pub each_i : (f : A → Bool) → ((a : A) → T (f a)) → T (each f)
  each_i f h = every_i f F.all (λ a m. h a)
