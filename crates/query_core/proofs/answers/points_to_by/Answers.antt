use Rattle.std.proofs.Common.{[], ◌∷◌, Err, None, ap, sym, subst, ◌∙◌, arith}
use Rattle.spds_rules.specs.declared.node.Node.{Node}
use Rattle.spds_rules.specs.Nodes.{IsNode}
use Rattle.query_core.specs.declared.error.QueryError.TheVariants.{NoSuchPlace}
use Rattle.query_core.specs.Answers.{HoldsAllRuns, IsAffordable, IsAnswerTo, IsOver}
use Rattle.query_core.specs.Places.{IsMissing}
use Rattle.query_core.proofs.Determined.{answer_over}
use Rattle.query_core.proofs.NamedPlaces.{missing_one, place_one, place_there}
use Rattle.query_core.proofs.Posed.{asked_nodes, place_node}
use Rattle.query_core.proofs.Refused.{demanded_never, demanded_over, is_err, refused_exactly, refused_never}
use Rattle.query_core.proofs.Sound.{answer_sound}
use Rattle.query_core.proofs.answers.points_to_by.Goals as goal

pub returns-in_err-node-clause-missing : goal.returns-in_err-node-clause-missing
returns-in_err-node-clause-missing g c =
    let part = c.in_err-node.field-0.0 in
    refused_exactly (IsMissing c.args.linked.now c.args.method.now c.args.index c.args.local.now) c.from_residual.result part
    (is_err c.from_residual.result (NoSuchPlace part) c.from_residual.ensures.1) c.in_err-node.ensures.missing
    (missing_one c.args.linked.now c.args.method.now c.args.index c.args.local.now)

pub find-requires-clause-nodes : goal.find-requires-clause-nodes
find-requires-clause-nodes g c =
    asked_nodes (IsNode c.args.linked.now) c.in_ok-node.node None
    (place_node c.args.linked.now c.args.method.now c.args.index c.args.local.now c.in_ok-node.node c.in_ok-node.ensures.ok) (λ m e. cc)

pub returns-in_err-found-clause-missing : goal.returns-in_err-found-clause-missing
returns-in_err-found-clause-missing g c =
    refused_never (IsMissing c.args.linked.now c.args.method.now c.args.index c.args.local.now) c.from_residual-in_err-found.result
    (demanded_never c.from_residual-in_err-found.result c.in_err-found.field-0.0 c.from_residual-in_err-found.ensures.1)
    (place_there c.args.linked.now c.args.method.now c.args.index c.args.local.now c.in_ok-node.node c.in_ok-node.ensures.ok)

pub returns-in_err-found-clause-enough : goal.returns-in_err-found-clause-enough
returns-in_err-found-clause-enough g c = λ n spent here few is.
    let p = c.args.linked.now in
    let same = place_one p c.args.method.now c.args.index c.args.local.now n c.in_ok-node.node here c.in_ok-node.ensures.ok in
    let error = demanded_over c.from_residual-in_err-found.result c.in_err-found.field-0.0 c.from_residual-in_err-found.ensures.1 spent is in
    c.find.ensures.enough spent (subst (λ (m : Node). IsAffordable p (m ∷ []) c.args.budget) same few) (c.in_err-found.was ∙ ap Err error)

pub returns-clause-missing : goal.returns-clause-missing
returns-clause-missing g c =
    refused_never (IsMissing c.args.linked.now c.args.method.now c.args.index c.args.local.now) _ (λ part e. cc)
    (place_there c.args.linked.now c.args.method.now c.args.index c.args.local.now c.in_ok-node.node c.in_ok-node.ensures.ok)

pub returns-clause-beyond : goal.returns-clause-beyond
returns-clause-beyond g c = λ n here over.
    let p = c.args.linked.now in
    let same = place_one p c.args.method.now c.args.index c.args.local.now n c.in_ok-node.node here c.in_ok-node.ensures.ok in
    let found = c.in_ok-found.ensures.found in
    let answer : IsAnswerTo p c.in_ok-node.node c.in_ok-found.found.sites c.in_ok-found.found.demanded = record { answer = found.are_sites; size = found.size } in
    let above = answer_over p c.in_ok-node.node c.in_ok-found.found.sites c.in_ok-found.found.demanded c.args.budget answer
    (subst (λ (m : Node). IsOver p (m ∷ []) c.args.budget) same over) in
    let within = c.in_ok-found.ensures.within in
    absurd (omega (arith, above, within))

pub returns-clause-sound : goal.returns-clause-sound
returns-clause-sound g c = λ covered n here.
    let p = c.args.linked.now in
    let same = place_one p c.args.method.now c.args.index c.args.local.now n c.in_ok-node.node here c.in_ok-node.ensures.ok in
    let found = c.in_ok-found.ensures.found in
    let answer : IsAnswerTo p c.in_ok-node.node c.in_ok-found.found.sites c.in_ok-found.found.demanded = record { answer = found.are_sites; size = found.size } in
    subst (λ (m : Node). HoldsAllRuns p m c.in_ok-found.found.sites) (sym same)
    (answer_sound p c.requires.well covered c.in_ok-node.node c.in_ok-found.found.sites c.in_ok-found.found.demanded answer)
