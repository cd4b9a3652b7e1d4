use Rattle.std.proofs.Common.{Err, refl, sym, ap, subst, arith}
use Rattle.std.proofs.lemmas.Result.{err_from_is_err_and}
use Rattle.link_rules.specs.Refusals.{RefusesWhole}
use Rattle.link_rules.specs.World.{IsWorld}
use Rattle.link_classes.specs.declared.classes.NoClasses.TheVariants as why
use Rattle.link_classes.specs.declared.names.AllNames.{AllNames}
use Rattle.link_classes.specs.Numbered.{AreNumbers, fixed_names}
use Rattle.link_classes.specs.RowTables.{world_in}
use Rattle.link_classes.proofs.FirstRefusals.{none_below_5}
use Rattle.link_classes.proofs.HeldFacts.{same_error}
use Rattle.link_classes.proofs.classes.Classes.new.Goals as goal

pub returns-in_err-found-clause-refused : goal.returns-in_err-found-clause-refused
returns-in_err-found-clause-refused c =
    let p = err_from_is_err_and c.from_residual-in_err-found.result c.from_residual-in_err-found.ensures.1 in
    rw (p.1, p.2) (λ kind place e.
    let told = c.in_err-found.ensures.refused kind place (ap Err (same_error c.in_err-found.field-0.0 (why.Refused kind place) e)) in
    let first = told.1 c.args.entry.now in (
      world_in c.in_ok-order.order c.in_ok-tables.tables c.args.entry.now,
      told.0,
      record { order = c.in_ok-order.ensures.classes; rows = c.in_ok-tables.ensures.rows; begins = refl },
      first.0,
      first.1,
    ))

pub found_in-requires-clause-root : goal.found_in-requires-clause-root
found_in-requires-clause-root c =
    let own_root = subst (λ (a : AllNames). AreNumbers a.texts (fixed_names c.args.entry.now) a.root.items) (sym c.in_ok-order.ensures.names) c.requires.of_root in
    sym own_root.as_many

pub joined-requires-clause-root : goal.joined-requires-clause-root
joined-requires-clause-root c = subst (λ (a : AllNames). AreNumbers a.texts (fixed_names c.args.entry.now) a.root.items) (sym c.in_ok-order.ensures.names) c.requires.of_root

pub returns-clause-world : goal.returns-clause-world
returns-clause-world c =
    let are : IsWorld c.args.input.now c.args.prelude.now c.args.entry.now (world_in c.in_ok-order.order c.in_ok-tables.tables c.args.entry.now) =
    record { order = c.in_ok-order.ensures.classes; rows = c.in_ok-tables.ensures.rows; begins = refl } in
    subst (IsWorld c.args.input.now c.args.prelude.now c.args.entry.now) (sym c.joined.ensures.world) are

pub returns-clause-passed : goal.returns-clause-passed
returns-clause-passed c = λ kind number among refuses.
    let world = world_in c.in_ok-order.order c.in_ok-tables.tables c.args.entry.now in
    none_below_5 world (c.in_ok-found.ensures.found.sound c.args.entry.now) kind number (subst (λ w. RefusesWhole w kind number) c.joined.ensures.world refuses) (omega (arith, among))
