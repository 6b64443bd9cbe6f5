-- A recorded file, read again and compared. Assumes nothing.
use Prim.Native.Nat.{ℕ, ◌+◌, ◌*◌, ◌≤◌}
use mathlib.Core.Path.{◌≡◌, refl, ap₂, ◌∙◌}
use mathlib.Core.Bool.{Bool, true, false}
use mathlib.Core.List.{List}
use lib.IntN.{ℤ}
use lib.ListN.{length, take, drop, replicate}
use lib.Dec.{eqb, leb, eqb→eq, leb→le}
use Rattle.basics.proofs.Test.{&&-l, &&-r, true_T, All₃}
use Rattle.blockfile.specs.Format.{one_at, samples_from, read}
use Rattle.comparison.specs.program.Same.{same, same_samples}
use Rattle.replay.specs.declared.Filed.{Filed}
use Rattle.replay.specs.program.Files.{filed_of, stated_read, same_read, filed_fits, reread, read_agrees, file_agrees}

pub record Fitting (f : Filed) (body samples cuts : ℕ) : Type 0 where
  pub whole : body ≡ f.file + 2 * f.samples + f.cuts
  pub sample_room : f.samples ≤ samples
  pub cut_room : f.cuts ≤ cuts

pub it_fits : (f : Filed) (body samples cuts : ℕ) → filed_fits f body samples cuts ≡ true → Fitting f body samples cuts
unfolding filed_fits
it_fits f body samples cuts e =
    let t = true_T _ e in
    let u = &&-r (eqb body (f.file + 2 * f.samples + f.cuts)) _ t in
    record {
      whole = eqb→eq _ _ (&&-l (eqb body (f.file + 2 * f.samples + f.cuts)) _ t);
      sample_room = leb→le _ _ (&&-l (leb f.samples samples) _ u);
      cut_room = leb→le _ _ (&&-r (leb f.samples samples) _ u);
    }

module _ (head body : List ℕ) (f : Filed) (samples : List ℤ) where
  pub reread_is : {cuts : List ℕ} {k : ℕ} → cuts ≡ replicate k (one_at head 28) → k ≡ f.cuts
      → read (take f.file body) f.limit samples cuts ≡ reread head body f samples
  unfolding reread
  reread_is e g = rw (e, g) refl

  pub agreement_is : All₃ (read_agrees head body f samples) (same_read (reread head body f samples).answer (stated_read head))
      (same_samples (reread head body f samples).samples (samples_from body f.file f.samples))
      (same (reread head body f samples).cuts (take f.cuts (drop (f.file + 2 * f.samples) body)))
  unfolding read_agrees
  agreement_is = record { is = refl }

  -- the sample table as the code holds it
  pub samples_are : {b : Bool} {t : List ℤ} → b ≡ same_samples t (samples_from body f.file (length t))
      → t ≡ (reread head body f samples).samples → length t ≡ f.samples
      → b ≡ same_samples (reread head body f samples).samples (samples_from body f.file f.samples)
  samples_are r e g = r ∙ ap₂ (λ (u : List ℤ) (n : ℕ). same_samples u (samples_from body f.file n)) e g

-- the head, then the file
module _ (head body : List ℕ) (f : Filed) (samples : List ℤ) (cuts : ℕ) {b : Bool} (e : f ≡ filed_of head)
    (r : b ≡ filed_fits f (length body) (length samples) cuts)
  where
    pub no_file : b ≡ false → false ≡ file_agrees head body samples cuts
    unfolding file_agrees
    no_file d = rw (← e, ← r, d) refl

    pub file_decides : {g : Bool} → b ≡ true → g ≡ read_agrees head body f (take f.samples samples) → g ≡ file_agrees head body samples cuts
    unfolding file_agrees
    file_decides d t = rw (← e, ← r, d) t
