-- What linking gives is well linked.
use Rattle.std.proofs.Common.{sym, subst}
use Rattle.link_rules.specs.WellLinked.{IsReachedByCalls}
use Rattle.link_laws.specs.Well.{LinksAreWell}
use Rattle.link_laws.proofs.Form.{all_well, form_number, in_form, nine_declared, nine_instantiable}
use Rattle.link_laws.proofs.Reaches.{all_reached}
use Rattle.link_laws.proofs.Read.{read_method}
use Rattle.link_laws.proofs.Stands.{IsMade}

-- the law
pub links_well : LinksAreWell
links_well input prelude entry p read read_prelude nine links =
    let made : IsMade links.world p = record {
      link = links.linked;
      rows = links.is_world.rows;
      reads = read_method input prelude entry links.world links.is_world read read_prelude;
    } in
    let declared = nine_declared input prelude entry links.world links.is_world nine in
    record {
      form = in_form links.world p made declared;
      codes = all_well links.world p made;
      reached = λ number m e has. subst (λ root. IsReachedByCalls p root number) (sym (form_number links.world p made declared)) (all_reached links.world p made number m e);
      nine = nine_instantiable links.world p made;
    }
