use Rattle.std.proofs.Common.{[], ◌∷◌, Err, ap, ◌∙◌, subst}
use Rattle.spds_rules.specs.declared.node.Node.{Node}
use Rattle.query_core.specs.declared.error.QueryError.TheVariants.{NoSuchPlace}
use Rattle.query_core.specs.Answers.{IsAffordable, IsOver}
use Rattle.query_core.specs.Places.{IsMissing}
use Rattle.query_core.proofs.NamedPlaces.{missing_one, place_one, place_there}
use Rattle.query_core.proofs.Refused.{demanded_never, demanded_over, is_err, refused_exactly, refused_never}
use Rattle.explain_text.proofs.Asked.{place_named, told_within}
use Rattle.explain_text.proofs.explaining.explained.Goals as goal

pub returns-in_err-node-clause-missing : goal.returns-in_err-node-clause-missing
returns-in_err-node-clause-missing g c =
    let part = c.in_err-node.field-0.0 in
    refused_exactly (IsMissing c.args.linked.now c.args.method.now c.args.index c.args.local.now) c.from_residual.result part
    (is_err c.from_residual.result (NoSuchPlace part) c.from_residual.ensures.1) c.in_err-node.ensures.missing
    (missing_one c.args.linked.now c.args.method.now c.args.index c.args.local.now)

pub told_within-requires-clause-target : goal.told_within-requires-clause-target
told_within-requires-clause-target g c κs within =
    place_named c.args.linked.now c.args.method.now c.args.index c.args.local.now c.in_ok-node.node c.in_ok-node.ensures.ok

pub returns-in_err-told_within-clause-missing : goal.returns-in_err-told_within-clause-missing
returns-in_err-told_within-clause-missing g c =
    refused_never (IsMissing c.args.linked.now c.args.method.now c.args.index c.args.local.now) c.from_residual-in_err-told_within.result
    (demanded_never c.from_residual-in_err-told_within.result c.in_err-told_within.field-0.0 c.from_residual-in_err-told_within.ensures.1)
    (place_there c.args.linked.now c.args.method.now c.args.index c.args.local.now c.in_ok-node.node c.in_ok-node.ensures.ok)

pub returns-in_err-told_within-clause-enough : goal.returns-in_err-told_within-clause-enough
returns-in_err-told_within-clause-enough g c = λ n spent here few is.
    let p = c.args.linked.now in
    let same = place_one p c.args.method.now c.args.index c.args.local.now n c.in_ok-node.node here c.in_ok-node.ensures.ok in
    let error = demanded_over c.from_residual-in_err-told_within.result c.in_err-told_within.field-0.0 c.from_residual-in_err-told_within.ensures.1 spent is in
    c.told_within.ensures.enough spent (subst (λ (m : Node). IsAffordable p (m ∷ []) c.args.budget) same few) (c.in_err-told_within.was ∙ ap Err error)

pub returns-clause-missing : goal.returns-clause-missing
returns-clause-missing g c =
    refused_never (IsMissing c.args.linked.now c.args.method.now c.args.index c.args.local.now) _ (λ part e. cc)
    (place_there c.args.linked.now c.args.method.now c.args.index c.args.local.now c.in_ok-node.node c.in_ok-node.ensures.ok)

pub returns-clause-beyond : goal.returns-clause-beyond
returns-clause-beyond g c = λ n here over.
    let p = c.args.linked.now in
    let same = place_one p c.args.method.now c.args.index c.args.local.now n c.in_ok-node.node here c.in_ok-node.ensures.ok in
    absurd (told_within p c.in_ok-node.node c.args.budget c.in_ok-told_within.field-0.items c.in_ok-told_within.ensures.told
    (subst (λ (m : Node). IsOver p (m ∷ []) c.args.budget) same over))
