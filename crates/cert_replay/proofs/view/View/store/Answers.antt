use Rattle.std.proofs.Common.{slice_get, ap, ◌∙◌}
use Rattle.spds_rules.specs.Demand.{about}
use Rattle.cert_replay.proofs.Looking.{between_none, between_some, copied_at}
use Rattle.cert_replay.proofs.view.View.store.Goals as goal

pub returns-in_err-number : goal.returns-in_err-number
returns-in_err-number c =
    let v = c.args.self.now in
    let p = v.linked.now in
    let t = v.target in
    rw c.from_residual.ensures (between_none p (about t) v.demand.now.stores c.requires.demand.stores c.args.arg c.args.base (rw c.requires.tables.stores at c.in_err-number.ensures))

pub returns : goal.returns
returns c =
    let v = c.args.self.now in
    let p = v.linked.now in
    let t = v.target in
    between_some p (about t) v.demand.now.stores c.requires.demand.stores c.args.arg c.args.base c.in_ok-number.number (rw c.requires.tables.stores at c.in_ok-number.ensures) c.copied.result
    (c.copied.ensures ∙ copied_at c.stores.result.now c.in_ok-number.number c.get.result c.get.ensures.lookup.0 c.get.ensures.lookup.1 ∙ ap (λ xs. slice_get xs c.in_ok-number.number) c.stores.ensures)
