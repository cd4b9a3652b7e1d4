use Rattle.std.proofs.Common.{◌↔◌, IsTrue, List, subst}
use Rattle.lists.proofs.Keys.{Has-list_any}
use Rattle.lists.specs.Lists.{Has}
use Rattle.spds_solve.proofs.SameKey.{same_met, self_met}
use Rattle.spds_solve.proofs.mets.Mets.contains.Goals as goal
use Rattle.spds_tables.specs.declared.numbered.Met.{Met as Numbers}
use Rattle.spds_tables.specs.contracts.numbered.MetPartialEq.TheImpl.{eq-value}

pub returns : goal.returns
returns c =
    rw (← c.self.view_is) (subst (λ (ks : List Numbers). IsTrue c.contains.result ↔ Has ks c.args.met) c.self.invariant.0
    (Has-list_any (eq-value).it same_met self_met _ _ _ c.contains.ensures))
