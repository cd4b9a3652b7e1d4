use Rattle.std.proofs.Common.{◌≡◌, ◌↔◌, ℕ, List, eqb, ap, sym, subst, ◌∙◌, Some, slice_get}
use Rattle.std.proofs.lemmas.Result.{IfOk-weaker}
use Rattle.lists.specs.Lists.{Has}
use Rattle.lists.specs.declared.groups.Keyed.{Keyed}
use Rattle.lists.specs.Groups.{items_with}
use Rattle.site_events.specs.declared.statement.Statement.{Statement}
use Rattle.site_events.proofs.Used.{at_event}
use Rattle.site_events.proofs.events.Events.by_event.Goals as goal

pub returns : goal.returns
returns c =
    IfOk-weaker c.of.result _ _
    (λ found filed event s.
    let uses = c.args.self.now.uses.items in
    let places = c.args.places.now in
    let items = c.in_ok-found.found.items in
    subst (λ (xs : List Statement). Has xs s ↔ ((i : ℕ) × Has places i × (slice_get uses i ≡ Some (record { key = event; item = s }))))
    (sym (filed event ∙ ap (λ (xs : List (Keyed ℕ Statement)). items_with eqb xs event) c.deref.ensures.value))
    (at_event uses places items c.in_ok-found.ensures event s))
    c.of.ensures
