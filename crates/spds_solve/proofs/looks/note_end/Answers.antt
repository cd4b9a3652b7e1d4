use Rattle.spds_solve.proofs.Noting.{keeps_self}
use Rattle.spds_solve.proofs.looks.note_end.Goals as goal

pub returns-then-not-counts-clause-keeps : goal.returns-then-not-counts-clause-keeps
returns-then-not-counts-clause-keeps c = keeps_self c.args.known.now

pub returns-then-not-counts-clause-noted : goal.returns-then-not-counts-clause-noted
returns-then-not-counts-clause-noted c counts = let h = c.counts.ensures.1 counts in absurd cc

pub add-requires : goal.add-requires
add-requires c = (c.args.view.now.parts.now, c.requires.known)

pub returns-clause-known : goal.returns-clause-known
returns-clause-known c = c.in_ok-add.ensures.known c.args.view.now.parts.now (record { site = c.requires.site; store = c.requires.store }) c.requires.known
