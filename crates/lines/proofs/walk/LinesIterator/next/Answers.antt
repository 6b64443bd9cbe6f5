-- The line ahead is handed out, and the walk goes on after it. Assumes nothing.
use Rattle.lines.proofs.Lines.{line_self}
use Rattle.lines.proofs.Passing.{line_ahead, passes, goes}
use Rattle.lines.proofs.walk.LinesIterator.next.Goals as goal

pub after-self-requires : goal.after-self-requires
after-self-requires c = line_self (line_ahead c.requires.1.comes c.in_ok-q.was)

pub returns-clause-steps : goal.returns-clause-steps
returns-clause-steps c = passes c.args.self.now c.in_ok-q.q _ c.in_ok-q.was c.after-self.ensures

pub returns-clause-goes : goal.returns-clause-goes
returns-clause-goes c = goes c.args.self.now c.in_ok-q.q _ c.in_ok-q.was c.after-self.ensures c.requires
