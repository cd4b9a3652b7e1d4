-- The rules on a statement, said of its site.
use Rattle.std.specs.Prelude.{◌≡◌, ℕ, ◌<◌, ◌^◌, List, [], ◌∷◌, Option, Some, None, IsSomeAnd, option_map, length, slice_get}
use Rattle.lists.specs.Lists.{Has}
use Rattle.jim_ast.specs.declared.syntax.Body.{Body}
use Rattle.link_rules.specs.declared.refusal.LinkKind.{LinkKind}
use Rattle.link_rules.specs.declared.refusal.LinkKind.TheVariants as rule
use Rattle.link_rules.specs.Classes.{DeclaredMethod}
use Rattle.link_rules.specs.Conditions.{AreWithin, stmt_names}
use Rattle.link_rules.specs.Faults.{IsOfThreads}
use Rattle.link_rules.specs.Names.{text_of}
use Rattle.link_rules.specs.Reach.{TakesTargets}
use Rattle.link_rules.specs.Refusals.{number_of}
use Rattle.link_rules.specs.Statements.{access_of, new_of}
use Rattle.link_rules.specs.World.{World}
use Rattle.link_classes.specs.Classes.{ClassTable, IsKnown}
use Rattle.link_classes.specs.declared.seen.MethodIn.{MethodIn}
use Rattle.link_classes.specs.Seen.{seen_method}
use Rattle.link_faults.specs.declared.site.Site.{Site}
use Rattle.link_faults.specs.declared.examined.Fault.{Fault}
use Rattle.link_faults.specs.Callees.{IsCalleeIf}
use Rattle.link_faults.specs.Progress.{AsksForClass, HasTarget}
use Rattle.link_faults.specs.Order.{IsFirstIn}
use Rattle.link_faults.specs.Parts.{plain_call, seen_call}
use Rattle.link_faults.specs.Sites.{HasWrongCount, IsUndeclared, RefusesStmt}

abbrev pub world_of : Site → World
world_of x = x.classes.now.world

abbrev pub method_of : Site → DeclaredMethod
method_of x = seen_method x.method.now

abbrev pub names_of : Site → List (List ℕ)
names_of x = (method_of x).names

-- the site has the statement's call and what it names, and the statement names its names within the method's
pub record IsSite (x : Site) : Type 0 where
  pub known : IsKnown x.classes.now.texts x.method.now
  pub within : AreWithin (names_of x) (stmt_names x.stmt.now)
  pub few : length x.body.now.stmts < 2 ^ 32
  pub call : option_map seen_call x.call ≡ plain_call x.stmt.now
  pub callee : IsCalleeIf (world_of x) (names_of x) x.call x.callee

-- the rule refuses the statement
abbrev pub Refuses : Site → LinkKind → Type 0
Refuses x kind = RefusesStmt (world_of x) (method_of x) x.body.now x.index x.stmt.now kind

-- the parts of the rules that speak of several classes

abbrev pub MakesThread : Site → Type 0
MakesThread x = IsSomeAnd (new_of x.stmt.now) (λ class. IsOfThreads (world_of x) (text_of (names_of x) class))

abbrev pub CallsThread : Site → Type 0
CallsThread x = IsSomeAnd (plain_call x.stmt.now) (λ c. IsOfThreads (world_of x) (text_of (names_of x) c.sig.class))

abbrev pub MakesUndeclared : Site → Type 0
MakesUndeclared x = IsSomeAnd (new_of x.stmt.now) (IsUndeclared (world_of x) (names_of x))

abbrev pub CallsUndeclared : Site → Type 0
CallsUndeclared x = IsSomeAnd (plain_call x.stmt.now) (λ c. IsUndeclared (world_of x) (names_of x) c.sig.class)

abbrev pub AccessesUndeclared : Site → Type 0
AccessesUndeclared x = IsSomeAnd (access_of x.stmt.now) (λ a. IsUndeclared (world_of x) (names_of x) a.sig.class)

abbrev pub HasBadCount : Site → Type 0
HasBadCount x = IsSomeAnd (plain_call x.stmt.now) HasWrongCount

-- the rules on statements, in their order
abbrev pub rules_of_stmts : List LinkKind
rules_of_stmts = rule.UnknownLabel
    ∷ rule.FallsOff
    ∷ rule.UnknownLocal
    ∷ rule.BadIdentity
    ∷ rule.DynamicInvoke
    ∷ rule.Reflection
    ∷ rule.Threads
    ∷ rule.RetStatement
    ∷ rule.NestedArray
    ∷ rule.UnknownClass
    ∷ rule.UnknownField
    ∷ rule.AbstractNew
    ∷ rule.UndeclaredCallee
    ∷ rule.BadArguments
    ∷ rule.NativeCallee
    ∷ rule.AmbiguousDefault
    ∷ []

-- the rules that take a call its targets
abbrev pub rules_of_targets : List LinkKind
rules_of_targets = rule.UnknownLocal
    ∷ rule.DynamicInvoke
    ∷ rule.Reflection
    ∷ rule.Threads
    ∷ rule.UnknownClass
    ∷ rule.UndeclaredCallee
    ∷ rule.BadArguments
    ∷ rule.NativeCallee
    ∷ rule.AmbiguousDefault
    ∷ []

-- of the rules the first, by their places, that refuses the statement
abbrev pub IsFirstAmong : Site → List LinkKind → Option LinkKind → Type 0
IsFirstAmong x rules (Some first) = (place : ℕ) × (slice_get rules place ≡ Some first) × Refuses x first
    × ((i : ℕ) (kind : LinkKind) → i < place → slice_get rules i ≡ Some kind → Refuses x kind → ⊥)
IsFirstAmong x rules None = (kind : LinkKind) → Has rules kind → Refuses x kind → ⊥

-- the least rule that refuses the statement, if one does
abbrev pub IsFirstRule : Site → Option LinkKind → Type 0
IsFirstRule x None = (kind : LinkKind) → Refuses x kind → ⊥
IsFirstRule x (Some first) = Refuses x first × ((kind : LinkKind) → Refuses x kind → number_of kind < number_of first → ⊥)

-- no rule takes the statement's call its targets
abbrev pub Keeps : Site → Type 0
Keeps x = (kind : LinkKind) → TakesTargets kind → Refuses x kind → ⊥

-- the statement's call has this target
abbrev pub HasTargetHere : Site → ℕ → Type 0
HasTargetHere x row = HasTarget (world_of x) (method_of x) x.body.now x.index x.stmt.now row

-- the statement asks for this class
abbrev pub AsksFor : Site → ℕ → Type 0
AsksFor x class = AsksForClass (world_of x) (names_of x) x.stmt.now class

-- what refuses the statement first
abbrev pub IsFaultHere : Site → Option Fault → Type 0
IsFaultHere x fault = IsFirstIn (λ index kind. (index ≡ x.index) × Refuses x kind) fault

-- the site of the statement with this index
pub record IsSiteOf (t : ClassTable) (m : MethodIn) (body : Body) (index : ℕ) (x : Site) : Type 0 where
  pub classes : x.classes.now ≡ t
  pub method : x.method.now ≡ m
  pub in_body : x.body.now ≡ body
  pub at : x.index ≡ index
  pub there : slice_get body.stmts index ≡ Some x.stmt.now
