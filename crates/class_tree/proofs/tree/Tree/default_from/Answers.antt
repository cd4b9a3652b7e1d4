use Rattle.std.proofs.Common.{refl}
use Rattle.class_tree.proofs.Lowest.{default_given, held_within, none_given}
use Rattle.class_tree.proofs.tree.Tree.default_from.Goals as goal

pub sub-requires-clause-b : goal.sub-requires-clause-b
sub-requires-clause-b c = held_within c.args.self.now c.args.interface c.args.key c.requires.holder

pub returns-in_err-row : goal.returns-in_err-row
returns-in_err-row c = rw c.from_residual.ensures (none_given c.args.self.now c.args.class c.args.key c.args.interface c.in_err-row.ensures)

pub returns-then-is_lowest : goal.returns-then-is_lowest
returns-then-is_lowest c =
    default_given c.args.self.now c.args.class c.args.key c.args.interface c.in_ok-row.row ((c.in_ok-row.ensures c.in_ok-row.row).0 refl) (c.if-is_lowest.ensures.0 refl)
