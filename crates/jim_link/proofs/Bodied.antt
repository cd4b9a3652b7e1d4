-- What a call may run has a body, where no rule refuses it.
use Rattle.std.proofs.Common.{◌≡◌, ℕ, ◌<◌, Bool, true, false, Option, Some, None, length, slice_get, refl, sym, ap, ◌∙◌, arith}
use Rattle.std.specs.Option.{IsSome}
use Rattle.class_rules.proofs.LawFacts.{path_finds}
use Rattle.class_rules.proofs.Selected.{selection_finds}
use Rattle.class_rules.specs.Bodies.{has_body}
use Rattle.class_rules.specs.declared.rows.BodyKind.TheVariants.{Native}
use Rattle.class_rules.specs.declared.rows.MethodRow.{MethodRow}
use Rattle.lists.proofs.Places.{slice_get-below}
use Rattle.jim_ast.specs.declared.syntax.Body.{Body}
use Rattle.jim_ast.specs.declared.syntax.Mode.{Mode}
use Rattle.jim_ast.specs.declared.syntax.Mode.TheVariants.{Special, Virtual, Interface, Static}
use Rattle.link_rules.specs.Classes.{DeclaredMethod, methods_of}
use Rattle.link_rules.specs.Reach.{IsTarget}
use Rattle.link_rules.specs.Targets.{MayRun}
use Rattle.link_rules.specs.World.{AreRows, World, kind_of_body}
use Rattle.link_rules.specs.declared.refusal.LinkKind.TheVariants as rule

-- the row of what is run has a body, native or not
abbrev RunsBody : World → ℕ → Type 0
RunsBody w row = (m : MethodRow) × (slice_get w.rows.methods row ≡ Some m) × (has_body m.body ≡ true)

-- so has what each mode runs
runs_body : (w : World) (mode : Mode) (class key row : ℕ) → MayRun w mode class key row → RunsBody w row
runs_body w Static class key row r = let m = path_finds w.rows class key row r in (m.method, m.there, m.bodied)
runs_body w Special class key row r = let m = selection_finds w.rows class key row r in (m.method, m.there, m.bodied)
runs_body w Virtual class key row r = let m = selection_finds w.rows r.0 key row r.1.finds in (m.method, m.there, m.bodied)
runs_body w Interface class key row r = let m = selection_finds w.rows r.0 key row r.1.finds in (m.method, m.there, m.bodied)

-- a method with a body that isn't native has one of its own
own_one : (body : Option Body) (native : Bool) → has_body (kind_of_body body native) ≡ true → (kind_of_body body native ≡ Native → ⊥) → IsSome body
own_one (Some b) native has other = refl
own_one None true has other = absurd (other refl)
own_one None false has other = absurd (cc (has))

-- a target is one of the methods
pub target_below : (w : World) (m : DeclaredMethod) (index row : ℕ) → AreRows w.classes w.rows → IsTarget w m index row → row < length (methods_of w.classes)
target_below w m index row are t =
    let r = runs_body w _ _ _ row t.calls.runs in
    omega (arith, slice_get-below w.rows.methods row r.0 r.1, are.method_rows.as_many)

-- a target has a body
pub target_bodied : (w : World) (m : DeclaredMethod) (index row : ℕ) (d : DeclaredMethod) → AreRows w.classes w.rows → IsTarget w m index row
    → slice_get (methods_of w.classes) row ≡ Some d → IsSome d.decl.body
target_bodied w m index row d are t there =
    let r = runs_body w _ _ _ row t.calls.runs in
    let is = are.method_rows.each row d r.0 there r.1 in
    own_one d.decl.body d.decl.is_native (ap has_body (sym is.body) ∙ r.2)
    (λ native. t.allowed rule.NativeCallee tt (record { row = row; calls = t.calls; callee = d; there = there; native = native }))
