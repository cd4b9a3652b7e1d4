use Rattle.std.proofs.Common.{arith, rules, sym}
use Rattle.std.proofs.lemmas.Bool.{ltb-true}
use Rattle.link_program.specs.Parts.{program_with}
use Rattle.link_program.proofs.Naming.{class_at}
use Rattle.link_program.proofs.linked.Linked.field_class.Goals as goal

pub returns : goal.returns
returns c =
    let below = ltb-true _ _ (sym c.in_ok-entry.ensures.lookup.0) in
    rw (← c.self.view_is) (class_at (program_with c.self.inside.shared.value c.self.inside.bodies.items) c.as_slice.result.now c.in_ok-at.at c.args.field c.in_ok-entry.entry.now (search rules) (omega (arith, below)) c.in_ok-entry.ensures.lookup.1 (omega (arith, c.in_ok-at.ensures)))
