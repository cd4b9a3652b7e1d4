use Rattle.std.proofs.Common.{◌≡◌, ◌<◌, ◌≤◌, List, [], Some, map, slice_get, length, sym, subst, arith}
use Rattle.std.proofs.lemmas.Bool.{ltb-true, ltb-false}
use Rattle.lists.proofs.Places.{slice_get-below, slice_get-read}
use Rattle.link_laws.proofs.Lists.{at_map, map_at}
use Rattle.spds_solve.specs.Solved.{IsOfBases, SolvedParts, SpellsFields}
use Rattle.spds_solve.proofs.Celled.{answered_else, answered_then}
use Rattle.spds_solve.proofs.solved.Solved.holds.Goals as goal
use Rattle.spds_solve.proofs.solved.Solved.holds.Goals.{In-Some}
use Rattle.spds_tables.specs.declared.tables.SiteTables.{SiteTables}

module _ (c : In-Some) where
  -- the tables of the site
  there : slice_get c.self.inside.tables.items c.args.site ≡ Some c.in-Some.tables.now
  there =
      let below = ltb-true _ _ (sym c.in-Some.ensures.lookup.0) in
      subst (λ (xs : List SiteTables). slice_get xs c.args.site ≡ Some c.in-Some.tables.now) c.deref.ensures.value
      (slice_get-read c.deref.result.now c.args.site c.in-Some.tables.now (omega arith) c.in-Some.ensures.lookup.1)

  -- what was solved
  abbrev solved_parts : SolvedParts
  solved_parts = record {
    field_cells = c.self.inside.parts.field_cells.items;
    call_cells = c.self.inside.parts.call_cells.items;
    places = c.self.inside.parts.places;
    fields = map (λ t. t.fields) c.self.inside.tables.items;
    calls = map (λ t. t.calls) c.self.inside.tables.items;
    mets = c.self.inside.mets;
    arrivals = c.self.inside.arrivals;
  }

  -- are over the bases
  of_bases : IsOfBases c.self.inside.parts.bases c.in-Some.tables.now
  of_bases = c.self.invariant c.in-Some.tables.now (c.args.site, there)

pub has_fields-requires-clause-settled : goal.has_fields-requires-clause-settled
has_fields-requires-clause-settled c = (of_bases (goal.at.has_fields-requires-clause-settled c).In-Some).fields

pub has_fields-requires-clause-last : goal.has_fields-requires-clause-last
has_fields-requires-clause-last c = (of_bases (goal.at.has_fields-requires-clause-last c).In-Some).fields_last

pub returns-then-is_there : goal.returns-then-is_there
returns-then-is_there c =
    let at = map_at (λ (t : SiteTables). t.fields) c.self.inside.tables.items c.args.site c.in-Some.tables.now (there (goal.at.returns-then-is_there c).In-Some) in
    rw (← c.self.view_is) (λ p q d o n solved site node.
    let job = solved.fields c.args.site o site in
    let same : job.0 ≡ c.in-Some.tables.now.fields = cc (job.1, at) in
    let words = subst (SpellsFields p q d (solved_parts (goal.at.returns-then-is_there c).In-Some) o) same job.2 in
    let leads = words c.args.node n [] node in
    let empty = rw c.field_cell.ensures at c.has_fields.ensures in
    let arrived = solved.arrived (record { site = c.args.site; cell = c.call_cell-cell.result }) o c.args.node n site node c.call_cell-cell.ensures in
    answered_then c.contains-is_there.result c.contains-is_there.ensures arrived c.has_fields.result c.if-is_there.true
    ((λ h. leads.0 (empty.0 h)), (λ h. empty.1 (leads.1 h))))

pub returns-else-is_there : goal.returns-else-is_there
returns-else-is_there c =
    rw (← c.self.view_is) (λ p q d o n solved site node.
    let arrived = solved.arrived (record { site = c.args.site; cell = c.call_cell-cell.result }) o c.args.node n site node c.call_cell-cell.ensures in
    answered_else c.contains-is_there.result c.contains-is_there.ensures arrived c.if-is_there.false)

pub returns-in-None : goal.returns-in-None
returns-in-None c =
    let past = ltb-false _ _ (sym c.in-None.ensures.lookup.0) in
    rw (← c.self.view_is) (λ p q d o n solved site node.
    let job = solved.fields c.args.site o site in
    let t = at_map (λ (t : SiteTables). t.fields) c.self.inside.tables.items c.args.site job.0 job.1 in
    let below = slice_get-below c.self.inside.tables.items c.args.site t.0 t.1 in
    absurd (let e = c.deref.ensures.value in let low : length c.deref.result.now ≤ c.args.site = omega arith in let here : c.args.site < length c.deref.result.now = rw e below in omega arith))
