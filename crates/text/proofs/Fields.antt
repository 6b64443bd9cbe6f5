-- A line, field by field: what was put after the first bytes of a table is the start of the line. Assumes nothing.
--     then_last    the last field and the end of the line
--     then_more    a field and a space before the rest of the line
use Prim.Native.Nat.{ℕ}
use mathlib.Core.Path.{◌≡◌, ap, ◌∙◌}
use mathlib.Core.List.{List, [], ◌∷◌, ◌++◌, append_assoc}
use lib.Seq.{append_snoc}
use Rattle.text.specs.Text.{space, newline, line}

-- after the first bytes there are these fields, and nothing else
pub record Ends (first : List ℕ) (fields : List (List ℕ)) (all : List ℕ) : Type 0 where
  pub is : all ≡ first ++ line fields

pub then_last : (first w : List ℕ) {all : List ℕ} → all ≡ first ++ (w ++ (newline ∷ [])) → Ends first (w ∷ []) all
unfolding line
then_last first w e = record { is = e }

pub then_more : (first w : List ℕ) {now all v : List ℕ} {ws : List (List ℕ)} → now ≡ first ++ (w ++ (space ∷ [])) → Ends now (v ∷ ws) all
    → Ends first (w ∷ v ∷ ws) all
unfolding line
then_more first w {now} {all} {v} {ws} e g =
    let rest = line (v ∷ ws) in
    record {
      is =
          g.is ∙ ap (λ (l : List ℕ). l ++ rest) e ∙ append_assoc first (w ++ (space ∷ [])) rest
          ∙ ap (λ (l : List ℕ). first ++ l) (append_snoc w space rest);
    }
