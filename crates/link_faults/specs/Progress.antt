-- What refuses the parts of a method, and what is known of it when its statements up to an index have been looked at.
use Rattle.std.specs.Prelude.{◌≡◌, ℕ, ◌<◌, ◌⊎◌, ◌↔◌, List, [], Some, None, IsSomeAnd, true, slice_get}
use Rattle.lists.specs.Lists.{Has}
use Rattle.jim_ast.specs.declared.names.NameId.{NameId}
use Rattle.jim_ast.specs.declared.syntax.Body.{Body}
use Rattle.jim_ast.specs.declared.syntax.Mode.TheVariants.{Static}
use Rattle.jim_ast.specs.declared.syntax.Stmt.{Stmt}
use Rattle.link_rules.specs.declared.refusal.LinkKind.{LinkKind}
use Rattle.link_rules.specs.declared.refusal.LinkKind.TheVariants as rule
use Rattle.link_rules.specs.Classes.{DeclaredMethod, IsNamed}
use Rattle.link_rules.specs.Faults.{HandlesAtEnd, HasLocalTwice, IsEmpty, RepeatsLabel, TrapsNoClass, TrapsNowhere}
use Rattle.link_rules.specs.Names.{text_of}
use Rattle.link_rules.specs.Reach.{TakesTargets}
use Rattle.link_rules.specs.Statements.{access_of, new_of}
use Rattle.link_rules.specs.World.{World}
use Rattle.link_faults.specs.declared.examined.Examined.{Examined}
use Rattle.link_faults.specs.Order.{IsFirstIn}
use Rattle.link_faults.specs.Parts.{plain_call}
use Rattle.link_faults.specs.Sites.{RefusesStmt, RunsRow}

-- what a rule refuses of a body beside its statements
abbrev pub RefusesBody : World → DeclaredMethod → ℕ → LinkKind → Type 0
RefusesBody w m index rule.DuplicateLocal = HasLocalTwice m index
RefusesBody w m index rule.DuplicateLabel = RepeatsLabel m index
RefusesBody w m index rule.UnknownLabel = TrapsNowhere m index
RefusesBody w m index rule.FallsOff = HandlesAtEnd m index ⊎ IsEmpty m index
RefusesBody w m index rule.UnknownClass = TrapsNoClass w m index
RefusesBody w m index _ = ⊥

-- the parts of it: two locals, two labels, no statement, and the traps

abbrev pub RefusesLocals : DeclaredMethod → ℕ → LinkKind → Type 0
RefusesLocals m index rule.DuplicateLocal = HasLocalTwice m index
RefusesLocals m index _ = ⊥

abbrev pub RefusesLabels : DeclaredMethod → ℕ → LinkKind → Type 0
RefusesLabels m index rule.DuplicateLabel = RepeatsLabel m index
RefusesLabels m index _ = ⊥

abbrev pub RefusesEmpty : DeclaredMethod → ℕ → LinkKind → Type 0
RefusesEmpty m index rule.FallsOff = IsEmpty m index
RefusesEmpty m index _ = ⊥

abbrev pub RefusesTraps : World → DeclaredMethod → ℕ → LinkKind → Type 0
RefusesTraps w m index rule.UnknownLabel = TrapsNowhere m index
RefusesTraps w m index rule.FallsOff = HandlesAtEnd m index
RefusesTraps w m index rule.UnknownClass = TrapsNoClass w m index
RefusesTraps w m index _ = ⊥

-- no rule takes the statement's call its targets
abbrev pub KeepsTargets : World → DeclaredMethod → Body → ℕ → Stmt → Type 0
KeepsTargets w m body index s = (kind : LinkKind) → TakesTargets kind → RefusesStmt w m body index s kind → ⊥

-- the statement's call has this target
abbrev pub HasTarget : World → DeclaredMethod → Body → ℕ → Stmt → ℕ → Type 0
HasTarget w m body index s row = IsSomeAnd (plain_call s) (λ c. RunsRow w m.names c row) × KeepsTargets w m body index s

-- the statement asks for this class
abbrev pub AsksForName : Stmt → NameId → Type 0
AsksForName s class = (new_of s ≡ Some class)
    ⊎ IsSomeAnd (access_of s) (λ a. (a.is_static ≡ true) × (a.sig.class ≡ class))
    ⊎ IsSomeAnd (plain_call s) (λ c. (c.mode ≡ Static) × (c.sig.class ≡ class))

abbrev pub AsksForClass : World → List (List ℕ) → Stmt → ℕ → Type 0
AsksForClass w names s class = (name : NameId) × AsksForName s name × IsNamed w.classes (text_of names name) class

-- what is known of the statements before an index
pub record IsExaminedTo (w : World) (m : DeclaredMethod) (body : Body) (end : ℕ) (e : Examined) : Type 0 where
  pub targets : (row : ℕ) → Has e.rows.items row
      ↔ ((index : ℕ) × (s : Stmt) × (index < end) × (slice_get body.stmts index ≡ Some s) × HasTarget w m body index s row)
  pub touched : (class : ℕ) → Has e.touched.items class
      ↔ ((index : ℕ) × (s : Stmt) × (index < end) × (slice_get body.stmts index ≡ Some s) × AsksForClass w m.names s class)
  pub fault : IsFirstIn (λ index kind. (s : Stmt) × (index < end) × (slice_get body.stmts index ≡ Some s) × RefusesStmt w m body index s kind) e.fault

-- no target, no class and no refusal
pub record IsNothing (e : Examined) : Type 0 where
  pub rows : e.rows.items ≡ []
  pub touched : e.touched.items ≡ []
  pub fault : e.fault ≡ None
