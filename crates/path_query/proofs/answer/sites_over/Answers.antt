use Rattle.std.proofs.Common.{◌≡◌, ℕ, List, Option, Some, slice_get, refl, sym, subst, arith}
use Rattle.std.specs.Option.{IsSome}
use Rattle.std.proofs.lemmas.Result.{IfOk-weaker}
use Rattle.lists.specs.Lists.{Has, Each}
use Rattle.lists.proofs.Places.{slice_get-below}
use Rattle.query_core.proofs.Posed.{few_sites}
use Rattle.path_query.specs.Paths.{IsAtPath}
use Rattle.path_query.proofs.Asking.{node_demanded}
use Rattle.path_query.proofs.Ends.{path_site}
use Rattle.path_query.proofs.Numbering.{sites_of_numbers}
use Rattle.path_query.proofs.answer.sites_over.Goals as goal

pub unwrap-number-requires : goal.unwrap-number-requires
unwrap-number-requires c =
    let asked = c.requires.posed in
    let has = asked.2.demand.nodes.all c.args.node (node_demanded c.args.linked.now c.args.node c.args.fields.now asked.0 asked.1) in
    subst (λ (r : Option ℕ). IsSome r) (sym ((c.number_of.ensures has.0).1 has.1)) refl

pub at_end-requires : goal.at_end-requires
at_end-requires c =
    let asked = c.requires.posed in
    let least = few_sites c.args.linked.now asked.0 c.args.demand.now asked.2.demand in
    let few = c.requires.few in
    record { few = omega (arith, least, few) }

pub sites_at-requires : goal.sites_at-requires
sites_at-requires c = λ k has.
    let asked = c.requires.posed in
    let there = (c.number_of.ensures c.unwrap-number.result).0 c.unwrap-number.ensures in
    let are = c.in_ok-numbers.ensures asked.0 c.args.node asked.2 there in
    let site = (are.each k).0 (subst (λ (ks : List ℕ). Has ks k) c.as_slice.ensures.value has) in
    slice_get-below c.args.demand.now.sites k site.0 site.1

pub returns : goal.returns
returns c =
    IfOk-weaker c.sites_at.result _ _
    (λ sites at q asks posed.
    let p = c.args.linked.now in
    let all = c.args.demand.now.sites in
    let there = (c.number_of.ensures c.unwrap-number.result).0 c.unwrap-number.ensures in
    sites_of_numbers p all (IsAtPath p q c.args.node c.args.fields.now) c.in_ok-numbers.numbers.items sites.items posed.demand.sites.ordered
    (λ o h. (posed.demand.sites.each o).1 (path_site p q c.args.node c.args.fields.now o h)) (c.in_ok-numbers.ensures q c.args.node posed there)
    (subst (λ (ks : List ℕ). Each (λ k o. slice_get all k ≡ Some o) ks sites.items) c.as_slice.ensures.value at))
    c.sites_at.ensures
