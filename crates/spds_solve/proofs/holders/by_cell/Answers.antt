use Rattle.std.proofs.Common.{◌≡◌, ◌↔◌, ℕ, List, eqb, map, ap, sym, subst, ◌∙◌}
use Rattle.lists.specs.Lists.{Has}
use Rattle.lists.specs.declared.groups.Keyed.{Keyed}
use Rattle.lists.specs.Groups.{items_with}
use Rattle.spds_solve.specs.declared.arrivals.Arrival.{Arrival}
use Rattle.spds_solve.specs.Holders.{keyed_by_cell}
use Rattle.spds_solve.proofs.Holding.{under_cell}
use Rattle.spds_solve.proofs.holders.by_cell.Goals as goal

pub returns : goal.returns
returns c = λ cell site.
    let arrivals = c.args.arrivals.now in
    let is : Arrival = record { site = site; cell = cell } in
    subst (λ (xs : List ℕ). Has xs site ↔ Has arrivals is)
    (sym (c.in_ok-sites.ensures cell ∙ ap (λ (xs : List (Keyed ℕ ℕ)). items_with eqb xs cell) (c.deref.ensures.value ∙ c.in_ok-keyed.ensures)))
    (under_cell arrivals cell site)
