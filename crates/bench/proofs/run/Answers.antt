use Rattle.std.proofs.Common.{rules, ◌≡◌, ℕ, List, take, Result, Ok, Err, Option, None, Some, OnOk, IfSome, subst, ap, ◌∙◌}
use Rattle.std.specs.Io.KnownBytes.{Appends}
use Rattle.fill_file.specs.program.Printed.{output}
use Rattle.bench.proofs.run.Goals as goal

-- what was written for the first bytes of the input is what the input calls for
whole : {X E : Type 0} (r : Result X E) (left old new : Option (List ℕ)) (text held : List ℕ) {m : ℕ} (n : ℕ)
    → m ≡ n → OnOk r (Appends old new text) → text ≡ output held → IfSome left (λ bytes. held ≡ take m bytes)
    → OnOk r (IfSome left (λ bytes. Appends old new (output (take n bytes))))
whole (Err x) left old new text held n e w t h = tt
whole (Ok x) None old new text held n e w t h = tt
whole (Ok x) (Some bytes) old new text held n e w t h = subst (Appends old new) (t ∙ ap output (h ∙ ap (λ (k : ℕ). take k bytes) e)) w

pub returns : goal.returns
returns g c =
    whole _ (g.R.Read.remaining c.args.input.now) _ _ _ _ 9046 (search rules) c.write_all.ensures.bytes
    (c.as_slice.ensures ∙ c.output-text.ensures) c.in_ok-n.ensures.first_bytes
