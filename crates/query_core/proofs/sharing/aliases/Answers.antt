use Rattle.std.proofs.Common.{◌≡◌, [], ◌∷◌, Err, Some, ap, sym, subst, ◌∙◌, arith}
use Rattle.spds_rules.specs.declared.node.Node.{Node}
use Rattle.spds_rules.specs.Nodes.{IsNode}
use Rattle.query_core.specs.declared.error.QueryError.TheVariants.{NoSuchPlace}
use Rattle.query_core.specs.Answers.{AreSharedBy, IsAffordable, IsOver, SharesAllRuns}
use Rattle.query_core.specs.Places.{IsMissingOfTwo}
use Rattle.query_core.proofs.Determined.{shared_over}
use Rattle.query_core.proofs.NamedPlaces.{missing_one_of_two, places_one, places_there}
use Rattle.query_core.proofs.Posed.{asked_nodes, place_node}
use Rattle.query_core.proofs.Refused.{demanded_never, demanded_over, is_err, refused_exactly, refused_never}
use Rattle.query_core.proofs.Sound.{shared_sound}
use Rattle.query_core.proofs.sharing.aliases.Goals as goal

pub returns-in_err-both-clause-missing : goal.returns-in_err-both-clause-missing
returns-in_err-both-clause-missing g c =
    let part = c.in_err-both.field-0.0 in
    refused_exactly (IsMissingOfTwo c.args.linked.now c.args.method.now c.args.index c.args.first.now c.args.second.now) c.from_residual.result part
    (is_err c.from_residual.result (NoSuchPlace part) c.from_residual.ensures.1) c.in_err-both.ensures.missing
    (missing_one_of_two c.args.linked.now c.args.method.now c.args.index c.args.first.now c.args.second.now)

pub find-requires-clause-nodes : goal.find-requires-clause-nodes
find-requires-clause-nodes g c =
    let p = c.args.linked.now in
    let both = c.in_ok-both.both in
    let first = place_node p c.args.method.now c.args.index c.args.first.now both.first c.in_ok-both.ensures.ok.is_first in
    let second = place_node p c.args.method.now c.args.index c.args.second.now both.second c.in_ok-both.ensures.ok.is_second in
    asked_nodes (IsNode p) both.first (Some both.second) first (λ m e. let same : both.second ≡ m = cc in subst (IsNode p) same second)

pub returns-in_err-found-clause-missing : goal.returns-in_err-found-clause-missing
returns-in_err-found-clause-missing g c =
    refused_never (IsMissingOfTwo c.args.linked.now c.args.method.now c.args.index c.args.first.now c.args.second.now) c.from_residual-in_err-found.result
    (demanded_never c.from_residual-in_err-found.result c.in_err-found.field-0.0 c.from_residual-in_err-found.ensures.1)
    (places_there c.args.linked.now c.args.method.now c.args.index c.args.first.now c.args.second.now c.in_ok-both.both.first c.in_ok-both.both.second
    c.in_ok-both.ensures.ok)

pub returns-in_err-found-clause-enough : goal.returns-in_err-found-clause-enough
returns-in_err-found-clause-enough g c = λ a b spent here few is.
    let p = c.args.linked.now in
    let both = c.in_ok-both.both in
    let same = places_one p c.args.method.now c.args.index c.args.first.now c.args.second.now a b both.first both.second here c.in_ok-both.ensures.ok in
    let error = demanded_over c.from_residual-in_err-found.result c.in_err-found.field-0.0 c.from_residual-in_err-found.ensures.1 spent is in
    let moved = subst (λ (m : Node). IsAffordable p (m ∷ b ∷ []) c.args.budget) same.0 few in
    c.find.ensures.enough spent (subst (λ (m : Node). IsAffordable p (both.first ∷ m ∷ []) c.args.budget) same.1 moved) (c.in_err-found.was ∙ ap Err error)

pub returns-clause-missing : goal.returns-clause-missing
returns-clause-missing g c =
    refused_never (IsMissingOfTwo c.args.linked.now c.args.method.now c.args.index c.args.first.now c.args.second.now) _ (λ part e. cc)
    (places_there c.args.linked.now c.args.method.now c.args.index c.args.first.now c.args.second.now c.in_ok-both.both.first c.in_ok-both.both.second
    c.in_ok-both.ensures.ok)

pub returns-clause-beyond : goal.returns-clause-beyond
returns-clause-beyond g c = λ a b here over.
    let p = c.args.linked.now in
    let both = c.in_ok-both.both in
    let same = places_one p c.args.method.now c.args.index c.args.first.now c.args.second.now a b both.first both.second here c.in_ok-both.ensures.ok in
    let found = c.in_ok-found.ensures.found in
    let answer : AreSharedBy p both.first both.second c.in_ok-found.found.sites c.in_ok-found.found.demanded = record { shared = found.are_sites; size = found.size } in
    let moved = subst (λ (m : Node). IsOver p (m ∷ b ∷ []) c.args.budget) same.0 over in
    let above = shared_over p both.first both.second c.in_ok-found.found.sites c.in_ok-found.found.demanded c.args.budget answer
    (subst (λ (m : Node). IsOver p (both.first ∷ m ∷ []) c.args.budget) same.1 moved) in
    let within = c.in_ok-found.ensures.within in
    absurd (omega (arith, above, within))

pub returns-clause-sound : goal.returns-clause-sound
returns-clause-sound g c = λ covered a b here.
    let p = c.args.linked.now in
    let both = c.in_ok-both.both in
    let same = places_one p c.args.method.now c.args.index c.args.first.now c.args.second.now a b both.first both.second here c.in_ok-both.ensures.ok in
    let found = c.in_ok-found.ensures.found in
    let answer : AreSharedBy p both.first both.second c.in_ok-found.found.sites c.in_ok-found.found.demanded = record { shared = found.are_sites; size = found.size } in
    let sound = shared_sound p c.requires.well covered both.first both.second c.in_ok-found.found.sites c.in_ok-found.found.demanded answer in
    let moved = subst (λ (m : Node). SharesAllRuns p both.first m c.in_ok-found.found.sites) (sym same.1) sound in
    subst (λ (m : Node). SharesAllRuns p m b c.in_ok-found.found.sites) (sym same.0) moved
