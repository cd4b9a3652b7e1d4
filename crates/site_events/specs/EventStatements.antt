-- The event statements of a program, and the list of them.
use Rattle.std.specs.Prelude.{◌≡◌, ◌↔◌, ℕ, Bool, List, Option, Some, AllPairs, IsTrue, length, slice_get}
use Rattle.class_rules.specs.Rows.{Sub}
use Rattle.lists.specs.Lists.{Has, AreExactly}
use Rattle.jim_ast.specs.declared.syntax.Mode.{Mode}
use Rattle.link_rules.specs.declared.code.Arg.{Arg}
use Rattle.link_rules.specs.declared.code.Code.{Code}
use Rattle.link_rules.specs.declared.code.Code.TheVariants.{Call}
use Rattle.link_rules.specs.Linked.{LinkedProgram}
use Rattle.link_rules.specs.WellLinked.{IsInstantiableIn}
use Rattle.link_sites.specs.Places.{ComesBefore, before}
use Rattle.spds_rules.specs.declared.node.Node.{Node}
use Rattle.spds_rules.specs.declared.node.Var.TheVariants.{Local}
use Rattle.spds_rules.specs.Demand.{Asked}
use Rattle.spds_rules.specs.Nodes.{at}
use Rattle.track_rules.specs.Protocols.{ProtocolParts}
use Rattle.track_runs.specs.Events.{HasBelow, IsEventCall}
use Rattle.track_systems.specs.Events.{IsAskedBy, IsEventOn, receiver_of}
use Rattle.site_events.specs.declared.call.CallOn.{CallOn}
use Rattle.site_events.specs.declared.shared.SharedClasses.{SharedClasses}
use Rattle.site_events.specs.declared.event_statement.EventStatement.{EventStatement}
use Rattle.site_events.specs.declared.statements.Act.{Act}

-- the statement is the event, on the local
abbrev pub IsEventStatement : LinkedProgram → ProtocolParts → EventStatement → Type 0
IsEventStatement p k s = IsEventOn p k s.place s.event (Local s.receiver)

-- the order of statements, by method and index
abbrev pub StandsBefore : EventStatement → EventStatement → Type 0
StandsBefore a b = ComesBefore a.place b.place

-- all event statements, each once, in order
abbrev pub AreEventStatements : LinkedProgram → ProtocolParts → List EventStatement → Type 0
AreEventStatements p k statements = AreExactly StandsBefore (IsEventStatement p k) statements

-- those that come before an index of a method
abbrev pub AreStatementsUpTo : LinkedProgram → ProtocolParts → ℕ → ℕ → List EventStatement → Type 0
AreStatementsUpTo p k method index statements = AreExactly StandsBefore (λ s. IsEventStatement p k s × ComesBefore s.place (before method index)) statements

-- the node of the receiver
abbrev pub receiver_node : EventStatement → Node
receiver_node s = at s.place (Local s.receiver)

-- what a protocol asks of a program, with the receivers in the order of their statements: one query
pub record IsQuery (p : LinkedProgram) (k : ProtocolParts) (q : Asked) : Type 0 where
  pub asked : IsAskedBy p k q
  pub ordered : AllPairs (λ a b. ComesBefore a.place b.place) q.targets

-- the code is this call on a local
pub record IsCallOn (code : Code) (call : CallOn) : Type 0 where
  pub to : Option ℕ
  pub mode : Mode
  pub args : List Arg
  pub targets : List ℕ
  pub is : code ≡ Call to mode call.class call.key (Some call.receiver) args targets

-- the code is the event, on the local
abbrev pub IsAct : LinkedProgram → ProtocolParts → Code → ℕ → ℕ → Type 0
IsAct p k code event receiver = IsEventCall p k event code × (receiver_of code ≡ Some receiver)

-- and no other event, nor on another local
pub record IsTheAct (p : LinkedProgram) (k : ProtocolParts) (code : Code) (act : Act) : Type 0 where
  pub is : IsAct p k code act.event act.receiver
  pub one : (event receiver : ℕ) → IsAct p k code event receiver → (event ≡ act.event) × (receiver ≡ act.receiver)

-- the class may have objects, and they are of the other class
abbrev pub IsBelow : LinkedProgram → ℕ → ℕ → Type 0
IsBelow p of class = IsInstantiableIn p class × Sub p.rows class of

abbrev pub AreBelow : LinkedProgram → ℕ → List ℕ → Type 0
AreBelow p of below = (class : ℕ) → Has below class ↔ IsBelow p of class

-- what is known of the classes is so
pub record AreShared (p : LinkedProgram) (s : SharedClasses) : Type 0 where
  pub below : AreBelow p s.class s.below.items
  pub long : length s.answers.items ≡ length p.classes
  pub known : (class : ℕ) (answer : Bool) → slice_get s.answers.items class ≡ Some (Some answer) → IsTrue answer ↔ HasBelow p s.class class
