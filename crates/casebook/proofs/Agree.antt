-- The definitions agree with separate software: answers, whole tables and places are those that it recorded. Assumes nothing.
use mathlib.Core.Path.{◌≡◌, refl}
use mathlib.Core.List.{map}
use Rattle.casebook.specs.cases.Example.{block_in, recorded, asked, answered, defined}
use Rattle.casebook.specs.cases.Blocks.{examples}
use Rattle.casebook.proofs.Opened.{definitions}

pub agrees : map defined examples ≡ map recorded examples
unfolding definitions block_in recorded asked answered defined examples
agrees = refl
