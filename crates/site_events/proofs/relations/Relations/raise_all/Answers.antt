use Rattle.std.proofs.Common.{◌≡◌, List, [], slice_index_or, subst}
use Rattle.std.proofs.lemmas.List.{take_all}
use Rattle.std.proofs.lemmas.Option.{slice_get-get_or}
use Rattle.lists.specs.Lists.{Has}
use Rattle.lists.proofs.Places.{Has-push, take-next}
use Rattle.site_events.specs.declared.statement.Statement.{Statement}
use Rattle.site_events.specs.Tables.{AreRaised}
use Rattle.site_events.proofs.Told.{raised_none, raised_then}
use Rattle.site_events.proofs.relations.Relations.raise_all.Goals as goal

pub loop-statement-init : goal.loop-statement-init
loop-statement-init c = raised_none c.args.self.now (λ s. Has [] s) c.args.relation (λ s h. let none = h.1 in cc)

pub loop-statement-preserved : goal.loop-statement-preserved
loop-statement-preserved c =
    let items = c.args.statements.now in
    let index = c.loop-statement.statement-index in
    let none : Statement = record { method = 0; index = 0 } in
    let x = slice_index_or items index none in
    rw (take-next items index x (slice_get-get_or items index none c.loop-statement-test.true))
    (raised_then c.args.self.now c.loop-statement.self c.raise.new.self _ (λ s. s ≡ x) _ c.args.relation c.loop-statement.invariant c.in_ok-raise.ensures
    (λ s. Has-push _ x s))

pub returns : goal.returns
returns c =
    let all = take_all c.loop-statement.statement-index c.args.statements.now c.loop-statement-test.false in
    subst (λ (list : List Statement). AreRaised c.args.self.now (λ s. Has list s) c.args.relation c.loop-statement.self) all c.loop-statement.invariant
