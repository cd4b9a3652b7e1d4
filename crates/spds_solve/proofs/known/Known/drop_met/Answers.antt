use Rattle.std.proofs.Common.{inl, inr, refl}
use Rattle.spds_solve.proofs.Noting.{keeps_both, known_dropped}
use Rattle.spds_solve.proofs.Posting.{none}
use Rattle.spds_solve.proofs.known.Known.drop_met.Goals as goal

pub returns-clause-known : goal.returns-clause-known
returns-clause-known c parts was =
    let pairs = rw (c.as_slice.ensures.keys, c.new-left.ensures.empty) at c.in_ok-put_all.ensures in
    known_dropped parts c.args.mets.now c.args.self.now (record { args = c.args.self.now.args; bases = c.args.self.now.bases; pending = c.put_all.new.pending }) was refl refl (λ m has. elim (pairs.only m has) [ inl empty ↦ none empty | inr before ↦ before ]) pairs.seen

pub returns-clause-keeps : goal.returns-clause-keeps
returns-clause-keeps c = keeps_both c.args.self.now (record { args = c.args.self.now.args; bases = c.args.self.now.bases; pending = c.put_all.new.pending }) (λ x knows. knows) (λ x knows. knows)
