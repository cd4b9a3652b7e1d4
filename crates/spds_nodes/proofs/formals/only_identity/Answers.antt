use Rattle.std.proofs.Common.{[], Some, sym, ap, ◌∙◌}
use Rattle.std.specs.List.{cons_option}
use Rattle.std.proofs.lemmas.Option.{slice_get-get_or}
use Rattle.spds_rules.specs.Formals.{identity_of}
use Rattle.spds_nodes.proofs.Identities.{filter_map-first, filter_map-none, only-second}
use Rattle.spds_nodes.specs.Positions.{var_of}
use Rattle.spds_nodes.proofs.formals.only_identity.Goals.{in-Some+else-is_some, in_default}
use Rattle.spds_nodes.proofs.formals.only_identity.Goals as goal

pub returns-then-is_some : goal.returns-then-is_some
returns-then-is_some c =
    only-second (λ s. identity_of s (var_of c.args.position)) c.args.code.now c.loop-statement.statement-index _ c.in-Some.to c.loop-statement.found
    (sym c.is_some.ensures ∙ c.if-is_some.true) (slice_get-get_or c.args.code.now c.loop-statement.statement-index c.statement-item.result c.loop-statement-test.true ∙ ap Some (sym c.statement-item.is))
    (sym c.identity_of.ensures ∙ c.in-Some.is) c.loop-statement.invariant

pub loop-statement-preserved : goal.loop-statement-preserved
loop-statement-preserved c =
    let code = c.args.code.now in
    let index = c.loop-statement.statement-index in
    let there = slice_get-get_or code index c.statement-item.result c.loop-statement-test.true ∙ ap Some (sym c.statement-item.is) in
    elim c.match-identity_of.branch [
      | in-Some+else-is_some w ↦
          filter_map-first (λ s. identity_of s (var_of c.args.position)) code index _ w.in-Some.to c.loop-statement.found (sym w.is_some.ensures ∙ w.if-is_some.false)
          there (sym c.identity_of.ensures ∙ w.in-Some.is) c.loop-statement.invariant ∙ ap (λ o. cons_option o []) (sym w.found-is)
      | in_default w ↦
          filter_map-none (λ s. identity_of s (var_of c.args.position)) code index _ c.loop-statement.found there (sym c.identity_of.ensures ∙ w.in_default.is)
          c.loop-statement.invariant ∙ ap (λ o. cons_option o []) (sym w.found-is)
    ]
