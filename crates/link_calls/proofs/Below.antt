-- The field that a look-up finds.
use Rattle.std.proofs.Common.{ℕ, ◌<◌, Option, Some, None, Result, Ok, Err, IfOk, All, length, arith}
use Rattle.std.proofs.lemmas.Option.{slice_get-get_or}
use Rattle.std.specs.Prelude.{IfSome}
use Rattle.class_rules.specs.Lookups.{FieldOf}
use Rattle.class_rules.proofs.LawFacts.{look_up_finds, path_finds}
use Rattle.class_rules.proofs.Selected.{selection_finds}
use Rattle.lists.proofs.Places.{slice_get-below}
use Rattle.link_rules.specs.Classes.{fields_of, methods_of}
use Rattle.jim_ast.specs.declared.syntax.Mode.{Mode}
use Rattle.jim_ast.specs.declared.syntax.Mode.TheVariants.{Special, Virtual, Interface, Static}
use Rattle.link_rules.specs.Targets.{MayRun}
use Rattle.link_rules.specs.World.{AreRows, World}
use Rattle.link_calls.specs.declared.finding.Found.{Found}
use Rattle.link_calls.specs.Known.{IsFound}

-- it is one of those that are declared
pub found_below : (w : World) (class key : ℕ) (r : Option ℕ) → AreRows w.classes w.rows → FieldOf w.rows class key r → IfSome r (λ row. row < length (fields_of w.classes))
found_below w class key (Some row) are is =
    let field = look_up_finds w.rows class key row is in
    omega (arith, slice_get-below w.rows.fields row field.field field.there, are.field_rows.as_many)
found_below w class key None are is = tt

-- a method that a call may run is one of those that are declared
runs_below : (w : World) (mode : Mode) (class key row : ℕ) → AreRows w.classes w.rows → MayRun w mode class key row → row < length (methods_of w.classes)
runs_below w Static class key row are r = let m = path_finds w.rows class key row r in omega (arith, slice_get-below w.rows.methods row m.method m.there, are.method_rows.as_many)
runs_below w Special class key row are r = let m = selection_finds w.rows class key row r in omega (arith, slice_get-below w.rows.methods row m.method m.there, are.method_rows.as_many)
runs_below w Virtual class key row are r = let m = selection_finds w.rows r.0 key row r.1.finds in omega (arith, slice_get-below w.rows.methods row m.method m.there, are.method_rows.as_many)
runs_below w Interface class key row are r = let m = selection_finds w.rows r.0 key row r.1.finds in omega (arith, slice_get-below w.rows.methods row m.method m.there, are.method_rows.as_many)

pub rows_below : {E : Type 0} (w : World) (mode : Mode) (class key : ℕ) (r : Result Found E) → AreRows w.classes w.rows
    → IfOk r (IsFound w mode class key) → IfOk r (λ found. All (λ row. row < length (methods_of w.classes)) found.rows.items)
rows_below w mode class key (Ok found) are is = λ k d below. runs_below w mode class key _ are ((is.targets.each _).0 (k, slice_get-get_or found.rows.items k d below))
rows_below w mode class key (Err x) are is = cc
