-- All patterns of four labels as a finite type: a test that the 81 pass is passed by any labels. Assumes nothing.
--
--   AllPatterns, all_patterns   a test of the labels of four corners
--   AllWound, all_wound         a test of them and of a winding
use mathlib.Core.Path.{◌≡◌, refl, subst}
use mathlib.Core.Bool.{Bool}
use lib.Dec.{T}
use Rattle.basics.proofs.Finite.{Finite, each, each_use}
use Rattle.basics.proofs.Tested.{Tested, tested, the_bools, ◌⊗◌}
use Rattle.moving.specs.declared.Label.{Label}
use Rattle.moving.proofs.Labels.{the_labels}
use Rattle.stencil.specs.Tetrahedron.{Vertex, v0, v1, v2, v3}

abbrev pub Pattern : Type 0
Pattern = Label × (Label × (Label × Label))

abbrev pub the_patterns : Finite Pattern
the_patterns = the_labels ⊗ the_labels ⊗ the_labels ⊗ the_labels

abbrev pub labels : Pattern → Vertex → Label
labels p v0 = p.0
labels p v1 = p.1.0
labels p v2 = p.1.1.0
labels p v3 = p.1.1.1

abbrev pub AllPatterns : ((Vertex → Label) → Bool) → Type 0
AllPatterns f = Tested the_patterns (λ p. f (labels p))

pub all_patterns : (f : (Vertex → Label) → Bool) → AllPatterns f → (l : Vertex → Label) → T (f l)
all_patterns f ok l = subst (λ (k : Vertex → Label). T (f k)) (λ i v. is v i) (tested ok (l v0, (l v1, (l v2, l v3))))
  where
    is : (v : Vertex) → labels (l v0, (l v1, (l v2, l v3))) v ≡ l v
    is v0 = refl
    is v1 = refl
    is v2 = refl
    is v3 = refl

abbrev pub AllWound : (Bool → (Vertex → Label) → Bool) → Type 0
AllWound f = AllPatterns (λ l. each the_bools (λ s. f s l))

pub all_wound : (f : Bool → (Vertex → Label) → Bool) → AllWound f → (s : Bool) (l : Vertex → Label) → T (f s l)
all_wound f ok s l = each_use the_bools (λ s. f s l) (all_patterns (λ l. each the_bools (λ s. f s l)) ok l) s
