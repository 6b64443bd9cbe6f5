-- A file or two for each reason of a refusal, and files that are taken: each answer is the expected one. Assumes nothing.
use mathlib.Core.Path.{◌≡◌, refl}
use mathlib.Core.List.{map}
use Rattle.blockfile.specs.cases.Examples.{given_file, examples, whole_examples, answered, answered_whole, expected}
use Rattle.blockfile.proofs.Opened.{format}

pub examples_come_out : map answered examples ≡ map expected examples
unfolding format examples
examples_come_out = refl

pub whole_examples_come_out : map answered_whole whole_examples ≡ map expected whole_examples
unfolding format given_file whole_examples
whole_examples_come_out = refl
