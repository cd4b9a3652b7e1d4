use Rattle.std.proofs.Common.{List, sym, subst}
use Rattle.lists.specs.Lists.{Has}
use Rattle.spds_rules.specs.declared.node.Node.{Node}
use Rattle.spds_rules.specs.declared.reach.Reach.TheVariants.{Plain}
use Rattle.path_query.specs.Paths.{AsksPath}
use Rattle.path_query.proofs.Asking.{few_too, more_too}
use Rattle.path_query.proofs.Standing.{targets_stand}
use Rattle.path_query.proofs.targets.path_demand.Goals as goal

pub demand-requires : goal.demand-requires
demand-requires c = record {
  nodes = λ n has. targets_stand c.args.linked.now c.tell_form.ensures c.args.node c.args.fields.now (record { targets = c.in_ok-targets.targets.items; reach = Plain })
      c.in_ok-targets.ensures c.requires n (subst (λ (ns : List Node). Has ns n) c.as_slice.ensures.value has);
}

pub returns-clause-beyond : goal.returns-clause-beyond
returns-clause-beyond c = λ over.
    let p = c.args.linked.now in
    let asks = subst (λ (ns : List Node). AsksPath p c.args.node c.args.fields.now (record { targets = ns; reach = Plain })) (sym c.as_slice.ensures.value) c.in_ok-targets.ensures in
    c.demand.ensures.beyond (more_too p c.args.node c.args.fields.now over.0 (record { targets = c.as_slice.result.now; reach = Plain }) over.1 asks c.args.budget over.2)

pub returns-clause-enough : goal.returns-clause-enough
returns-clause-enough c = λ spent few is.
    let p = c.args.linked.now in
    let asks = subst (λ (ns : List Node). AsksPath p c.args.node c.args.fields.now (record { targets = ns; reach = Plain })) (sym c.as_slice.ensures.value) c.in_ok-targets.ensures in
    c.demand.ensures.enough spent (few_too p c.args.node c.args.fields.now few.0 (record { targets = c.as_slice.result.now; reach = Plain }) few.1 asks c.args.budget few.2) is
