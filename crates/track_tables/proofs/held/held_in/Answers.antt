use Rattle.std.proofs.Common.{◌≡◌, ℕ, List, eqb, ap, sym, subst, ◌∙◌}
use Rattle.std.proofs.lemmas.Result.{IfOk-weaker}
use Rattle.lists.specs.declared.groups.Keyed.{Keyed}
use Rattle.lists.specs.Groups.{items_with}
use Rattle.track_tables.specs.Held.{AreHeldAt}
use Rattle.track_tables.proofs.held.held_in.Goals as goal

pub returns : goal.returns
returns c =
    IfOk-weaker c.of.result _ _
    (λ held filed p q d solved of site a there.
    subst (λ (places : List ℕ). AreHeldAt p q d a c.args.nodes.now places)
    (sym (filed site ∙ ap (λ (xs : List (Keyed ℕ ℕ)). items_with eqb xs site) c.deref.ensures.value))
    (c.in_ok-noted.ensures p q d site a solved of there))
    c.of.ensures
