-- The papers' cases come out: what `fill`, `locate`, `mend` and `number` say of each is what documents 01 and 02 say. Assumes nothing.
use mathlib.Core.Path.{◌≡◌, refl}
use mathlib.Core.List.{map}
use Rattle.basics.specs.Lists.{gather}
use Rattle.mending.specs.Mend.{size_of, rounded, held, byte_to, mended_byte, faults, mend}
use Rattle.numbering.specs.Nodes.{Outcome, used, node_number, node_of, node, node_table, first_unplaced, number}
use Rattle.casebook.specs.cases.Given.{laid, laid_runs, given_samples, given_cuts, all_entered, all_sampled, changed, uncut}
use Rattle.casebook.specs.cases.Cases.{cases, strange}
use Rattle.casebook.specs.cases.Nearest.{nearest}
use Rattle.casebook.specs.cases.Bands.{rod_samples, rod, bands}
use Rattle.casebook.specs.cases.Mends.{mendings}
use Rattle.casebook.specs.cases.Marks.{without_rubber, rim_zero, marks}
use Rattle.casebook.specs.cases.BandFirst.{firm, kinds, remendings}
use Rattle.casebook.specs.cases.Nodes.{Numbering, numberings}
use Rattle.casebook.specs.cases.Strays.{air, strays}
use Rattle.casebook.specs.cases.Result.{computed, expected, found, result_of}
use Rattle.casebook.proofs.Opened.{definitions}

pub cases_come_out : map computed cases ≡ map expected cases
unfolding definitions laid laid_runs given_samples given_cuts changed cases computed expected found result_of
cases_come_out = refl

pub strange_come_out : map computed strange ≡ map expected strange
unfolding definitions laid laid_runs given_samples given_cuts changed strange computed expected found result_of
strange_come_out = refl

-- document 02, F-2
pub nearest_come_out : map computed nearest ≡ map expected nearest
unfolding definitions laid laid_runs given_samples given_cuts all_entered changed nearest computed expected found result_of
nearest_come_out = refl

-- document 02, F-3
pub bands_come_out : map computed bands ≡ map expected bands
unfolding definitions laid laid_runs given_samples given_cuts all_entered changed uncut rod_samples rod bands computed expected found result_of
bands_come_out = refl

-- document 02, F-4
pub mends_come_out : map (λ m. mend m.band m.block) mendings ≡ map (λ m. m.outcome) mendings
unfolding
    definitions size_of rounded held byte_to mended_byte faults mend
    laid laid_runs given_samples given_cuts all_entered all_sampled changed uncut mendings
mends_come_out = refl

-- document 02, F-5
pub strays_come_out : map computed strays ≡ map expected strays
unfolding definitions laid laid_runs given_samples given_cuts changed gather air strays computed expected found result_of
strays_come_out = refl

-- document 02, F-6
abbrev numbers_of : Numbering → Outcome
numbers_of n = number n.sizes n.cuts n.state n.rows n.nodes

pub nodes_come_out : map numbers_of numberings ≡ map (λ n. n.outcome) numberings
unfolding definitions used node_number node_of node node_table first_unplaced number laid laid_runs given_samples given_cuts numberings
nodes_come_out = refl

-- document 02, F-8
pub marks_come_out : map computed marks ≡ map expected marks
unfolding
    definitions laid laid_runs given_samples given_cuts all_entered changed uncut without_rubber rim_zero marks
    computed expected found result_of
marks_come_out = refl

-- document 02, F-9: filling and mending
pub kinds_come_out :
    (map computed kinds ≡ map expected kinds)
    × (map (λ m. mend m.band m.block) remendings ≡ map (λ m. m.outcome) remendings)
unfolding
    definitions size_of rounded held byte_to mended_byte faults mend
    laid laid_runs given_samples given_cuts all_entered all_sampled firm kinds remendings computed expected found result_of
kinds_come_out = (refl, refl)
