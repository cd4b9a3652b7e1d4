use Rattle.std.proofs.Common.{get_or, subst, Contains}
use Rattle.std.proofs.lemmas.List.Elements.{Contains-get_or}
use Rattle.class_tree.proofs.owners.Owners.of.Goals as goal

pub returns-clause-ready : goal.returns-clause-ready
returns-clause-ready c = record {
  united = rw c.of.ensures (c.requires.others_apart c.args.key);
  known = λ k d h. c.requires.known c.args.key _ (subst (λ xs. Contains xs (get_or c.few.result.now k d)) c.few.ensures (Contains-get_or c.few.result.now k d h));
  apart = c.requires.apart;
}
