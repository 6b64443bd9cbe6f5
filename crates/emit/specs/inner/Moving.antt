-- The labels of a scan's points once they have moved.
use Rattle.std.specs.Prelude.{ℕ}
use Rattle.moving.specs.declared.Label.{Label}
use Rattle.moving.specs.Reading.{label_after}
use Rattle.labelling.specs.inner.Scans.{label_in}
use Rattle.emit.specs.declared.Moved.{Moved}

abbrev pub moved_label : Moved → ℕ → Label
moved_label m = label_after (label_in m.scan) m.state.now
