use Rattle.std.proofs.Common.{List, arith, subst, sym}
use Rattle.std.proofs.lemmas.List.{take_all}
use Rattle.std.proofs.lemmas.Option.{slice_get-get_or}
use Rattle.lists.specs.Lists.{Has}
use Rattle.spds_rules.specs.declared.edge.Edge.{Edge}
use Rattle.cert_work.proofs.Growing.{each_next}
use Rattle.cert_work.specs.Wants.{IsWanted}
use Rattle.cert_trace.proofs.Wanted.{wanted_more, wider_more, wider_none}
use Rattle.cert_trace.proofs.wanting.want_sources.Goals as goal

pub loop-edge-init : goal.loop-edge-init
loop-edge-init c = record { wider = wider_none _; all = λ e has. let h = has.1 in cc }

pub loop-edge-preserved : goal.loop-edge-preserved
loop-edge-preserved c =
    let was = c.loop-edge.invariant in
    let now = c.in_ok-add.ensures in
    record {
      wider = wider_more _ _ _ was.wider now.wider;
      all = each_next (λ (e : Edge). IsWanted c.add.new.self c.args.site e.from) c.args.edges.now c.loop-edge.edge-index _ (slice_get-get_or _ _ _ c.loop-edge-test.true)
          (λ e has. wanted_more _ _ now.wider c.args.site e.from (was.all e has)) now.wanted;
    }

pub returns-clause-all : goal.returns-clause-all
returns-clause-all c =
    let all = take_all c.loop-edge.edge-index c.args.edges.now (omega arith) in
    λ e has. c.loop-edge.invariant.all e (subst (λ (xs : List Edge). Has xs e) (sym all) has)
