use Rattle.std.proofs.Common.{◌≡◌, ℕ, Err, IfErr, Ok, refl}
use Rattle.std.specs.declared.result.Result.{Result}
use Rattle.class_tree.specs.declared.errors.TreeError.{TreeError}
use Rattle.class_tree.specs.declared.errors.TreeError.TheVariants as error
use Rattle.lists.specs.Lists.{IsLeast}
use Rattle.class_rules.specs.Rows.{IsOwnAncestor, NamesUnknown, Rows}
use Rattle.link_classes.specs.RowTables.{Tells}
use Rattle.link_classes.proofs.checks.tree_of.Goals as goal

pub returns-clause-known : goal.returns-clause-known
returns-clause-known c = rw (← c.as_slice.ensures.value, ← c.as_slice-2.ensures.value) c.build.ensures.known

pub returns-clause-acyclic : goal.returns-clause-acyclic
returns-clause-acyclic c = rw (← c.as_slice.ensures.value, ← c.as_slice-2.ensures.value) c.build.ensures.acyclic

-- an error tells what each of its variants does
tells : {T : Type 0} (rows : Rows) (r : Result T TreeError) → ((class : ℕ) → r ≡ Err (error.UnknownParent class) → IsLeast (NamesUnknown rows.classes rows.implements) class)
    → ((class : ℕ) → r ≡ Err (error.Cyclic class) → IsLeast (IsOwnAncestor rows.classes rows.implements) class)
    → ((class : ℕ) → r ≡ Err (error.Cyclic class) → (a : ℕ) → NamesUnknown rows.classes rows.implements a → ⊥) → IfErr r (Tells rows)
tells rows (Ok tree) unknown cyclic known = tt
tells rows (Err (error.UnknownParent class)) unknown cyclic known = unknown class refl
tells rows (Err (error.Cyclic class)) unknown cyclic known = (cyclic class refl, known class refl)
tells rows (Err error.NoMemory) unknown cyclic known = tt

pub returns-clause-tells : goal.returns-clause-tells
returns-clause-tells c =
    rw (← c.as_slice.ensures.value, ← c.as_slice-2.ensures.value)
    (tells (record { classes = c.as_slice.result.now; implements = c.as_slice-2.result.now; methods = c.args.tables.now.methods.rows.items; fields = c.args.tables.now.fields.rows.items }) c.build.result
    c.build.ensures.unknown_parent c.build.ensures.cyclic c.build.ensures.cyclic_is_known)
