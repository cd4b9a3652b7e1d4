-- The nodes of a linked program, and those at which an object comes to be.
use Rattle.std.specs.Prelude.{◌≡◌, ◌<◌, Bool, List, [], ◌∷◌, Option, Some, None, true, false, length, slice_get}
use Rattle.lists.specs.Lists.{Has}
use Rattle.link_rules.specs.declared.code.Arg.{Arg}
use Rattle.link_rules.specs.declared.code.Arg.TheVariants as arg
use Rattle.link_rules.specs.declared.code.Code.{Code}
use Rattle.link_rules.specs.declared.code.Code.TheVariants as code
use Rattle.link_rules.specs.Flow.{MayRaise, IsRaised}
use Rattle.link_rules.specs.Linked.{LinkedMethod, LinkedProgram}
use Rattle.link_sites.specs.declared.place.Place.{Place}
use Rattle.link_sites.specs.declared.site.Site.{Site}
use Rattle.link_sites.specs.declared.site.Site.TheVariants as site
use Rattle.link_sites.specs.Sites.{HasLevel, Makes}
use Rattle.spds_rules.specs.declared.node.Node.{Node}
use Rattle.spds_rules.specs.declared.node.Var.{Var}
use Rattle.spds_rules.specs.declared.node.Var.TheVariants.{Local, This, Param, Caught, Thrown, Made, Nested, Raised, Text, Class}

-- the variable at a place
abbrev pub at : Place → Var → Node
at place var = record { place = place; var = var }

-- the operands that a statement hands on: what is copied, cast, stored, passed, returned or thrown. The operand of `lengthof` and that of a monitor
-- go nowhere
abbrev pub handed : Code → List Arg
handed (code.Copy to a) = a ∷ []
handed (code.Cast to a) = a ∷ []
handed (code.Store base field a) = a ∷ []
handed (code.StoreCell base a) = a ∷ []
handed (code.StoreStatic field a) = a ∷ []
handed (code.Call to mode class key receiver args targets) = args
handed (code.Return (Some a)) = a ∷ []
handed (code.Throw a) = a ∷ []
handed (code.Return None) = []
handed (code.This to) = []
handed (code.Param to number) = []
handed (code.Caught to) = []
handed (code.New to class) = []
handed (code.NewArray to) = []
handed (code.NewMulti to levels) = []
handed (code.Numeric to divides) = []
handed (code.Length to a) = []
handed (code.Load to base field) = []
handed (code.LoadCell to base) = []
handed (code.LoadStatic to field) = []
handed (code.If jump) = []
handed (code.Goto jump) = []
handed (code.Switch jumps) = []
handed (code.Monitor a) = []
handed code.Skip = []

-- the variable of an operand: a number and null have none
abbrev pub arg_var : Arg → Option Var
arg_var (arg.Local x) = Some (Local x)
arg_var (arg.Text number) = Some (Text number)
arg_var (arg.Class number) = Some (Class number)
arg_var arg.Number = None
arg_var arg.Null = None

-- a local, a receiver or a parameter that the method has, at any of its places; an exception in flight at a raised place; and at an unraised one what
-- its statement makes, raises or hands on
abbrev pub HasVar : LinkedMethod → Code → Bool → Var → Type 0
HasVar m c raised (Local x) = x < length m.locals
HasVar m c raised This = m.has_this ≡ true
HasVar m c raised (Param number) = number < m.params
HasVar m c raised Caught = Unit {0}
HasVar m c true Thrown = Unit {0}
HasVar m c false Made = Makes c
HasVar m c false (Nested level) = HasLevel level c
HasVar m c false (Raised kind) = MayRaise c kind
HasVar m c false (Text number) = Has (handed c) (arg.Text number)
HasVar m c false (Class number) = Has (handed c) (arg.Class number)
HasVar m c false Thrown = ⊥
HasVar m c true Made = ⊥
HasVar m c true (Nested level) = ⊥
HasVar m c true (Raised kind) = ⊥
HasVar m c true (Text number) = ⊥
HasVar m c true (Class number) = ⊥

-- an exception may come out of the statement, where one is in flight
abbrev pub MayStand : Code → Bool → Type 0
MayStand c true = IsRaised c
MayStand c false = Unit {0}

-- a node of the program: a place, and a variable that stands there
pub record IsNode (p : LinkedProgram) (n : Node) : Type 0 where
  pub method : LinkedMethod
  pub there : slice_get p.methods n.place.method ≡ Some method
  pub code : Code
  pub here : slice_get method.code n.place.index ≡ Some code
  pub stands : MayStand code n.place.raised
  pub has : HasVar method code n.place.raised n.var

-- the site of the object that comes to be as the variable at a place, if one does
abbrev pub site_at : Place → Var → Option Site
site_at place Made = Some (site.New place)
site_at place (Nested level) = Some (site.Nested place level)
site_at place (Raised kind) = Some (site.Raised place kind)
site_at place (Text number) = Some (site.Text number)
site_at place (Class number) = Some (site.Class number)
site_at place (Local x) = None
site_at place This = None
site_at place (Param number) = None
site_at place Caught = None
site_at place Thrown = None

-- the same of a node
abbrev pub site_of : Node → Option Site
site_of n = site_at n.place n.var

-- a start node of the site: objects of it come to be there. A constant has one wherever it is handed on
abbrev pub IsStart : LinkedProgram → Site → Node → Type 0
IsStart p s n = IsNode p n × (site_of n ≡ Some s)
