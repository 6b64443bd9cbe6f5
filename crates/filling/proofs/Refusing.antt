-- The laws of a call's refusals, over any list of them. Assumes nothing.
--     Clear, Each      none of them applies; each has a property
--     none_applies     then the call is done
--     first_applies    one applies and none before it does: it is answered
--     goes             every call is one or the other
--     whichever        what holds of every refusal and of the call that is done holds of the answer
use Prim.Native.Nat.{ℕ}
use mathlib.Core.Path.{◌≡◌, refl}
use mathlib.Core.Logic.{◌⊎◌, inl, inr}
use mathlib.Core.Bool.{Bool, true, false}
use mathlib.Core.List.{List, [], ◌∷◌, ◌++◌}
use Rattle.filling.specs.Refusal.{Refusal, first_of}

abbrev pub Each : (Refusal → Type 0) → List Refusal → Type 0
Each P [] = Unit {0}
Each P (r ∷ rest) = P r × Each P rest

abbrev pub Clear : List Refusal → Type 0
Clear = Each (λ r. r.applies ≡ false)

module _ {A : Type 0} (refuse : ℕ → ℕ → A) where
  pub none_applies : (all : List Refusal) (done : A) → Clear all → first_of refuse all done ≡ done
  none_applies [] done c = refl
  none_applies (r ∷ rest) done (e, c) = rw e (none_applies rest done c)

  pub first_applies : (before : List Refusal) (r : Refusal) (after : List Refusal) (done : A) → Clear before → r.applies ≡ true
      → first_of refuse (before ++ (r ∷ after)) done ≡ refuse r.number r.place
  first_applies [] r after done c e = rw e refl
  first_applies (q ∷ before) r after done (f, c) e = rw f (first_applies before r after done c e)

  -- the first that applies, with its property, or none
  abbrev Goes : (Refusal → Type 0) → List Refusal → Type 0
  Goes P all = ((r : Refusal) × P r × ((done : A) → first_of refuse all done ≡ refuse r.number r.place)) ⊎ Clear all

  pub goes : (P : Refusal → Type 0) (all : List Refusal) → Each P all → Goes P all
  goes P [] h = inr tt
  goes P (r ∷ rest) (p, h) = go r.applies refl (goes P rest h)
    where
      go : (t : Bool) → r.applies ≡ t → Goes P rest → Goes P (r ∷ rest)
      go true e g = inl (r, p, λ done. rw e refl)
      go false e g =
          elim g [
            | inl (q, k, is) ↦ inl (q, k, λ done. rw e (is done))
            | inr c ↦ inr (e, c)
          ]

  pub whichever : (P : A → Type 0) (all : List Refusal) (done : A) → ((n at : ℕ) → P (refuse n at)) → (Clear all → P done)
      → P (first_of refuse all done)
  whichever P [] done n d = d tt
  whichever P (r ∷ rest) done n d = go r.applies refl (λ k. whichever P rest done n k)
    where
      go : (t : Bool) → r.applies ≡ t → ((Clear rest → P done) → P (first_of refuse rest done)) → P (first_of refuse (r ∷ rest) done)
      go true e g = rw e (n r.number r.place)
      go false e g = rw e (g (λ c. d (e, c)))
