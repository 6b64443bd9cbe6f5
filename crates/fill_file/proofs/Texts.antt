-- What is printed for an answer, line by line. Assumes nothing.
--     put_both                           a text put after the first bytes of a table, and another after it
--     four_lines                         the four lines of a block that was filled, one after the other
--     counts_printed, refusal_printed    what is printed for a block that was filled, or refused
use Prim.Native.Nat.{ℕ}
use mathlib.Core.Path.{◌≡◌, ap, ◌∙◌}
use mathlib.Core.List.{List, [], ◌∷◌, ◌++◌, append_assoc}
use borrow.Author.Tests.{eq-eqb, ne_eqb}
use Rattle.text.specs.Text.{newline, ascii, decimal, line}
use Rattle.fill_file.specs.program.Summary.{Summary}
use Rattle.fill_file.specs.program.Printed.{count_lines, printed}

pub put_both : (first word digits : List ℕ) {now all : List ℕ} → now ≡ first ++ word → all ≡ now ++ digits
    → all ≡ first ++ (word ++ digits)
put_both first word digits e g = g ∙ ap (λ (l : List ℕ). l ++ digits) e ∙ append_assoc first word digits

-- four texts, each put after those before it
four : (w x y z : List ℕ) {a b c d : List ℕ} → a ≡ w → b ≡ a ++ x → c ≡ b ++ y → d ≡ c ++ z → d ≡ w ++ (x ++ (y ++ z))
four w x y z {a} {b} e f g h = put_both w x (y ++ z) (f ∙ ap (λ (l : List ℕ). l ++ x) e) (put_both b y z g h)

module _ (s : Summary) where
  pub four_lines : {a b c d : List ℕ}
      → a ≡ ascii "points " ++ (decimal s.points ++ (newline ∷ []))
      → b ≡ a ++ (ascii "lattice " ++ (decimal s.lattice ++ (newline ∷ [])))
      → c ≡ b ++ (ascii "moved " ++ (decimal s.moved ++ (newline ∷ [])))
      → d ≡ c ++ (ascii "emitted " ++ (decimal s.emitted ++ (newline ∷ []))) → d ≡ count_lines s
  unfolding count_lines line
  four_lines e f g h = four _ _ _ _ e f g h

  pub counts_printed : {l : List ℕ} → s.number ≡ 0 → l ≡ count_lines s → l ≡ printed s
  unfolding printed
  counts_printed z g = rw (eq-eqb s.number 0 z) g

  pub refusal_printed : {l : List ℕ} → (s.number ≡ 0 → ⊥)
      → l ≡ line (ascii "refused" ∷ decimal s.number ∷ decimal s.place ∷ []) → l ≡ printed s
  unfolding printed
  refusal_printed n g = rw (ne_eqb s.number 0 n) g
