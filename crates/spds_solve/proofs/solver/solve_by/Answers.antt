use Rattle.std.proofs.Common.{List, sym, subst}
use Rattle.lists.specs.Lists.{Has}
use Rattle.spds_solve.proofs.Whole.{solved_whole}
use Rattle.spds_solve.proofs.solver.solve_by.Goals as goal
use Rattle.spds_tables.specs.declared.tables.SiteTables.{SiteTables}

pub search-requires-clause-sites : goal.search-requires-clause-sites
search-requires-clause-sites g c =
    rw c.sites.ensures (sym (c.in_ok-parts.ensures.are c.requires.demanded.0 c.requires.demanded.1).are_parts.start_count)

pub all_arrivals-requires-clause-calls : goal.all_arrivals-requires-clause-calls
all_arrivals-requires-clause-calls g c t has =
    let here : Has c.search.new.tables.each.items t = subst (λ (xs : List SiteTables). Has xs t) c.deref.ensures.value has in
    (c.in_ok-search.ensures.complete.settled.each here.0 t here.1).calls

pub whole_size-size-requires : goal.whole_size-size-requires
whole_size-size-requires g c t has =
    let here : Has c.search.new.tables.each.items t = subst (λ (xs : List SiteTables). Has xs t) c.deref-2.ensures.value has in
    let settled = c.in_ok-search.ensures.complete.settled.each here.0 t here.1 in
    (settled.fields, settled.built.fields.last, settled.calls)

pub of-requires-2 : goal.of-requires-2
of-requires-2 g c t has =
    let settled = c.in_ok-search.ensures.complete.settled.each has.0 t has.1 in
    record { fields = settled.fields; fields_last = settled.built.fields.last; calls = settled.calls; steps = settled.built.calls.steps; last = settled.built.calls.last }

pub returns : goal.returns
returns g c q is =
    rw c.of-2.ensures
    (solved_whole c.args.linked.now q c.args.demand.now is c.in_ok-parts.parts (c.in_ok-parts.ensures.are q is) c.search.new.tables.each.items c.search.new.mets
    (rw c.sites.ensures at c.in_ok-search.ensures.complete) c.in_ok-search.ensures.apart c.all_arrivals.new.arrivals (rw c.deref.ensures.value at c.in_ok-all_arrivals.ensures))
