use Rattle.std.proofs.Common.{◌≡◌, ℕ, Option, Some, None, refl, sym, subst}
use Rattle.std.specs.Option.{IfSome, IsSome}
use Rattle.lists.specs.Lists.{Has}
use Rattle.spds_rules.specs.declared.node.Node.{Node}
use Rattle.query_core.specs.Solvers.{IsDemanded}
use Rattle.query_core.specs.Sought.{asked_of}
use Rattle.query_core.proofs.Posed.{asked_has, first_asked, second_asked}
use Rattle.query_core.proofs.Refused.{if_ok}
use Rattle.query_core.proofs.finding.solved_sites.Goals as goal

pub unwrap-first_number-requires : goal.unwrap-first_number-requires
unwrap-first_number-requires g c =
    let has = asked_has c.args.linked.now c.args.first c.args.second c.args.demand.now c.requires.demand c.args.first
    (first_asked c.args.linked.now c.args.first c.args.second) in
    subst (λ (r : Option ℕ). IsSome r) (sym ((c.number_of.ensures has.0).1 has.1)) refl

-- what holds of the second holds where there is one
if_second : (o : Option Node) (P : Node → Type 0) → ((m : Node) → o ≡ Some m → P m) → IfSome o P
if_second None P f = tt
if_second (Some m) P f = f m refl

pub second_number-second_number-requires : goal.second_number-second_number-requires
second_number-second_number-requires g c =
    if_second c.args.second (Has c.args.demand.now.nodes)
    (λ m is. asked_has c.args.linked.now c.args.first c.args.second c.args.demand.now c.requires.demand m
    (second_asked c.args.linked.now c.args.first c.args.second m is))

pub returns-in-Ok : goal.returns-in-Ok
returns-in-Ok g c =
    let q = asked_of c.args.first c.args.second in
    let demanded : IsDemanded c.args.linked.now c.args.demand.now = record { well = c.requires.well; query = q; demand = c.requires.demand } in
    if_ok c.sought_sites.result _ _ c.sought_sites.ensures
    (λ sites are. are c.args.linked.now c.args.first c.args.second (record {
      demand = c.requires.demand;
      solved = c.requires.gives c.args.linked c.args.demand _ demanded c.in-Ok.ensures q c.requires.demand;
      is_first = (c.number_of.ensures c.unwrap-first_number.result).0 c.unwrap-first_number.ensures;
      is_second = c.second_number-second_number.ensures;
    }))
