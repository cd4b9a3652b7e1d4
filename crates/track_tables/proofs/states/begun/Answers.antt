use Rattle.std.proofs.Common.{ℕ, List, ap, refl, sym, subst}
use Rattle.track_tables.specs.Held.{AreHeldAt}
use Rattle.post_star.specs.Jobs.{Job}
use Rattle.track_tables.proofs.Beginning.{answering_held}
use Rattle.track_tables.proofs.Made.{begun_made}
use Rattle.weight_laws.specs.declared.rel.Rel.{Rel}
use Rattle.track_tables.proofs.states.begun.Goals as goal

pub returns : goal.returns
returns c k q a demand loaded site_is events =
    let given = c.args.given.now in
    let work = c.in_ok-growth.ensures.work in
    begun_made given.linked.now k q a given.demand.now demand given.parts.now c.requires.parts c.first_weight-first.result c.anywhere.result
    (c.first_weight-first.ensures given.linked.now k q a (rw c.sites.ensures site_is) events) (c.anywhere.ensures given.linked.now k q a events) c.starts.result.now
    c.in_ok-loaded.loaded.items (c.starts.ensures a site_is) (answering_held given.linked.now q given.demand.now a given.parts.now.loaded.keys c.at.result.now c.in_ok-loaded.loaded.items
    (subst (λ (xs : List ℕ). AreHeldAt given.linked.now q given.demand.now a given.parts.now.loaded.keys xs) (sym c.at.ensures) (loaded c.args.site a site_is))
    (rw c.loaded.ensures at c.in_ok-loaded.ensures)) c.in_ok-growth.growth c.begin_all.new.growth c.begin_all-2.new.growth
    (ap (λ (j : Job Rel). j.starts) work) (rw c.nodes-nodes.ensures at c.in_ok-begin_all.ensures)
    (rw (c.nodes-nodes.ensures, c.deref.ensures.value) at c.in_ok-begin_all-2.ensures) (ap (λ (j : Job Rel). j.steps) work) (ap (λ (j : Job Rel). j.last) work)
    (ap (λ (j : Job Rel). j.rules) work) c.open_strings.new.growth.marks.keys c.in_ok-open_strings.ensures.marks c.open_strings.new.growth c.in_ok-open_strings.ensures.work
    c.in_ok-open_strings.ensures.reached refl
