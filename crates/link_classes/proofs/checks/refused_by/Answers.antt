use Rattle.std.proofs.Common.{ℕ, List, sym, subst}
use Rattle.link_rules.specs.Refusals.{IsFirst, IsPlaceOf, whole}
use Rattle.link_classes.specs.RowTables.{Tells, rows_in, world_in}
use Rattle.link_classes.proofs.FirstRefusals.{first_cyclic, first_unknown}
use Rattle.link_classes.proofs.NumberedMembers.{step_within}
use Rattle.link_classes.proofs.checks.refused_by.Goals as goal

pub refused-requires-clause-number : goal.refused-requires-clause-number
refused-requires-clause-number c =
    let told = subst (Tells (rows_in c.args.tables.now)) c.in-UnknownParent.is c.requires.tells in
    step_within c.args.order.now c.args.tables.now c.requires.tables c.in-UnknownParent.class told.holds.0 told.holds.1

pub returns-in-UnknownParent : goal.returns-in-UnknownParent
returns-in-UnknownParent c = λ kind place e.
    let world = λ (entry : List ℕ). world_in c.args.order.now c.args.tables.now entry in
    let told = subst (Tells (rows_in c.args.tables.now)) c.in-UnknownParent.is c.requires.tells in
    let placed = c.refused.ensures kind place e in (
      c.in-UnknownParent.class,
      λ entry. (
        subst (λ k. IsFirst (world entry) (whole k c.in-UnknownParent.class)) (sym placed.0) (first_unknown (world entry) c.in-UnknownParent.class (c.requires.single entry) told),
        subst (λ k. IsPlaceOf (world entry) k c.in-UnknownParent.class place) (sym placed.0) placed.1,
      ),
    )

pub refused-requires-in-Cyclic-clause-number : goal.refused-requires-in-Cyclic-clause-number
refused-requires-in-Cyclic-clause-number c =
    let told = subst (Tells (rows_in c.args.tables.now)) c.in-Cyclic.is c.requires.tells in
    step_within c.args.order.now c.args.tables.now c.requires.tables c.in-Cyclic.class told.0.holds.0 told.0.holds.1

pub returns-in-Cyclic : goal.returns-in-Cyclic
returns-in-Cyclic c = λ kind place e.
    let world = λ (entry : List ℕ). world_in c.args.order.now c.args.tables.now entry in
    let told = subst (Tells (rows_in c.args.tables.now)) c.in-Cyclic.is c.requires.tells in
    let placed = c.refused-in-Cyclic.ensures kind place e in (
      c.in-Cyclic.class,
      λ entry. (
        subst (λ k. IsFirst (world entry) (whole k c.in-Cyclic.class)) (sym placed.0) (first_cyclic (world entry) c.in-Cyclic.class (c.requires.single entry) told.1 told.0),
        subst (λ k. IsPlaceOf (world entry) k c.in-Cyclic.class place) (sym placed.0) placed.1,
      ),
    )
