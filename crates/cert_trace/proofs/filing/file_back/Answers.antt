use Rattle.std.proofs.Common.{List, arith, inl, inr, refl, subst, sym}
use Rattle.std.proofs.lemmas.List.{take_all}
use Rattle.std.proofs.lemmas.Option.{slice_get-get_or}
use Rattle.lists.specs.Lists.{Has}
use Rattle.spds_rules.specs.declared.edge.Edge.{Edge}
use Rattle.cert_work.proofs.Growing.{each_next}
use Rattle.cert_trace.specs.Settled.{IsBackFiled}
use Rattle.cert_trace.proofs.filing.file_back.Goals as goal

pub loop-edge-init : goal.loop-edge-init
loop-edge-init c = λ e has. let h = has.1 in cc

pub loop-edge-preserved : goal.loop-edge-preserved
loop-edge-preserved c =
    each_next (IsBackFiled c.add.new.self) c.args.edges.now c.loop-edge.edge-index _ (slice_get-get_or _ _ _ c.loop-edge-test.true)
    (λ e has. (c.in_ok-add.ensures.has e.to e).1 (inl (c.loop-edge.invariant e has))) ((c.in_ok-add.ensures.has _ _).1 (inr (refl, refl)))

pub returns : goal.returns
returns c =
    let all = take_all c.loop-edge.edge-index c.args.edges.now (omega arith) in
    λ e has. c.loop-edge.invariant e (subst (λ (xs : List Edge). Has xs e) (sym all) has)
