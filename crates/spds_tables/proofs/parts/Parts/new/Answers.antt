use Rattle.std.proofs.Common.{◌≡◌, ◌∙◌, [], ap, subst, sym}
use Rattle.call_side.specs.Bases.{AreLed, AreStrings, IsLast}
use Rattle.call_side.specs.Indexed.{BaseList}
use Rattle.call_side.proofs.CallStrings.{IsLed-by}
use Rattle.demand_set.specs.Demands.{IsDemandOf}
use Rattle.spds_rules.specs.Demand.{Asked}
use Rattle.spds_tables.specs.PartsOf.{AreParts, names_of}
use Rattle.spds_tables.proofs.Made.{demand_names, parts_led, parts_made, store_args, store_bases}
use Rattle.spds_tables.proofs.parts.Parts.new.Goals as goal
use Rattle.spds_tables.proofs.parts.Parts.new.Goals.{In_ok-all_stores}

pub all_stores-requires-clause-bases : goal.all_stores-requires-clause-bases
all_stores-requires-clause-bases c = store_bases c.args.linked.now c.requires.demanded.0 c.args.demand.now c.requires.demanded.1

pub all_stores-requires-clause-args : goal.all_stores-requires-clause-args
all_stores-requires-clause-args c = store_args c.args.linked.now c.requires.demanded.0 c.args.demand.now c.requires.demanded.1

pub common_calls-requires : goal.common_calls-requires
common_calls-requires c =
    rw c.in_ok-strings.ensures (IsLed-by c.args.linked.now c.in_ok-steps.steps.items [] c.root.result (c.in_ok-steps.ensures.led c.requires.well) c.root.ensures (λ s has. cc has.1))

module _ (c : In_ok-all_stores) where
  steps_is : c.strings.inside.steps.items ≡ c.in_ok-steps.steps.items
  steps_is = ap (λ (b : BaseList). b.steps) (c.strings.view_is ∙ c.in_ok-strings.ensures)

  last_is : c.strings.inside.split.last ≡ c.root.result
  last_is = ap (λ (b : BaseList). b.last) (c.strings.view_is ∙ c.in_ok-strings.ensures)

module _ (c : In_ok-all_stores) (q : Asked) (is : IsDemandOf c.args.linked.now q c.args.demand.now) where
  made : AreParts c.args.linked.now q (names_of c.args.demand.now c.in_ok-places.places) (record {
    fields = c.in_ok-fields.fields.common;
    field_cells = c.in_ok-fields.fields.cells;
    calls = c.in_ok-calls.calls.common;
    call_cells = c.in_ok-calls.calls.cells;
    bases = record { steps = c.strings.inside.steps.items; last = c.strings.inside.split.last };
    places = c.places.inside.places.items;
    jumps = c.in_ok-jumps.jumps;
    starts = c.in_ok-starts.starts;
    stores = c.in_ok-all_stores.field-0;
  })
  made =
      parts_made c.args.linked.now q c.args.demand.now is _ c.in_ok-places.places c.in_ok-places.ensures (rw c.deref.ensures.value at c.in_ok-fields.ensures.cells)
      (rw (c.deref-2.ensures.value, c.deref-3.ensures.value) at c.in_ok-calls.ensures.cells)
      (c.numbered.result.now, c.numbered.ensures.value, rw c.nodes.ensures at c.in_ok-jumps.ensures) c.in_ok-starts.ensures.count c.in_ok-starts.ensures.each c.in_ok-all_stores.ensures
      (subst (AreStrings c.args.linked.now c.in_ok-places.places) (sym (steps_is c)) c.in_ok-steps.ensures.strings)
      (subst (IsLast c.args.linked.now) (sym (last_is c)) c.root.ensures) c.places.view_is

pub returns-clause-are : goal.returns-clause-are
returns-clause-are c q is = record {
  calls = c.in_ok-places.places;
  are_calls = c.in_ok-places.ensures;
  are_parts = made (goal.at.returns-clause-are c).In_ok-all_stores q is;
}

pub returns-clause-led : goal.returns-clause-led
returns-clause-led c =
    let p = c.args.linked.now in
    let q = c.requires.demanded.0 in
    let is = c.requires.demanded.1 in
    let at = (goal.at.returns-clause-led c).In_ok-all_stores in
    parts_led p q (names_of c.args.demand.now c.in_ok-places.places) (demand_names p q c.args.demand.now is c.in_ok-places.places c.in_ok-places.ensures) _
    (made at q is) (subst (AreLed p) (sym (steps_is at)) (c.in_ok-steps.ensures.led c.requires.well)) c.in_ok-fields.ensures.steps c.in_ok-fields.ensures.last
    (c.in_ok-calls.ensures.steps ∙ ap (λ (b : BaseList). b.steps) (sym c.strings.view_is)) (c.in_ok-calls.ensures.last ∙ ap (λ (b : BaseList). b.last) (sym c.strings.view_is))
