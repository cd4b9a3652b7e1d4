use Rattle.std.proofs.Common.{ℕ, Option, None, refl, sym, subst, arith}
use Rattle.std.specs.Option.{IsSome}
use Rattle.query_core.specs.Sought.{asked_of}
use Rattle.query_core.proofs.Posed.{asked_has, few_sites, first_asked}
use Rattle.query_core.proofs.Refused.{if_ok}
use Rattle.query_core.proofs.finding.answer_sites.Goals as goal

pub unwrap-number-requires : goal.unwrap-number-requires
unwrap-number-requires c =
    let p = c.requires.demanded.0 in
    let has = asked_has p c.args.node None c.args.demand.now c.requires.demanded.1 c.args.node (first_asked p c.args.node None) in
    subst (λ (r : Option ℕ). IsSome r) (sym ((c.number_of.ensures has.0).1 has.1)) refl

pub sought_sites-requires : goal.sought_sites-requires
sought_sites-requires c =
    let most = few_sites c.requires.demanded.0 (asked_of c.args.node None) c.args.demand.now c.requires.demanded.1 in
    let few = c.requires.few in
    record { few = omega (arith, most, few) }

pub returns : goal.returns
returns c =
    if_ok c.sought_sites.result _ _ c.sought_sites.ensures
    (λ sites are p demand solved. are p c.args.node None (record {
      demand = demand;
      solved = solved;
      is_first = (c.number_of.ensures c.unwrap-number.result).0 c.unwrap-number.ensures;
      is_second = tt;
    }))
