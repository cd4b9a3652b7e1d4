-- Edges and the methods that they join.
use Rattle.std.proofs.Common.{◌≡◌, ℕ, Bool, false, ap, inl, inr}
use Rattle.link_rules.specs.Linked.{LinkedProgram}
use Rattle.link_rules.specs.WellLinked.{HasTarget}
use Rattle.link_sites.specs.declared.place.Place.{Place}
use Rattle.link_sites.specs.Places.{before}
use Rattle.spds_rules.specs.declared.edge.EdgeKind.{EdgeKind}
use Rattle.spds_rules.specs.declared.edge.EdgeKind.TheVariants.{Flow, Load, Call, Return, Jump}
use Rattle.spds_rules.specs.declared.node.Node.{Node}
use Rattle.spds_rules.specs.declared.reach.Reach.{Reach}
use Rattle.spds_rules.specs.declared.reach.Reach.TheVariants.{Plain, Tracked}
use Rattle.spds_rules.specs.Edges.{IsBackIn, IsEdge, IsReturned}
use Rattle.spds_rules.specs.Systems.{KeepsCalls}

module _ (p : LinkedProgram) where
  -- a call leads from the call to the first statement of a target
  pub record EntersTarget (a : Node) (call : Place) (b : Node) : Type 0 where
    pub from : a.place ≡ call
    pub is_before : call ≡ before call.method call.index
    pub target : HasTarget p call.method call.index b.place.method
    pub first : b.place ≡ before b.place.method 0

  -- a return leads from a target of the call to the method of the call
  pub record LeavesTarget (a : Node) (call : Place) (b : Node) : Type 0 where
    pub is_before : call ≡ before call.method call.index
    pub target : HasTarget p call.method call.index a.place.method
    pub to : b.place.method ≡ call.method

  -- an unraised place is the one before its statement
  unraised-before : (place : Place) → place.raised ≡ false → place ≡ before place.method place.index
  unraised-before place e = ap {B = Place} (λ (r : Bool). record { method = place.method; index = place.index; raised = r }) e

  return_to : (a b : Node) (call : Place) → IsReturned p a call b → b.place.method ≡ call.method
  return_to a b call r = elim r.gives [ inl g ↦ ap (λ (x : Place). x.method) g.goes_on | inr g ↦ ap (λ (x : Place). x.method) g.at_call ]

  -- a back edge leads there too
  back_leads : (reach : Reach) (a b : Node) (call : Place) → IsBackIn p reach a call b → LeavesTarget a call b
  back_leads Plain a b call none = absurd none
  back_leads Tracked a b call row = record {
    is_before = unraised-before call row.unraised;
    target = row.target;
    to = elim row.comes [ inl g ↦ ap (λ (x : Place). x.method) g.goes_on | inr g ↦ ap (λ (x : Place). x.method) g.at_call ];
  }

module _ (p : LinkedProgram) {reach : Reach} where
  -- edges within a frame, and loads, stay in one method
  pub flow_stays : (a b : Node) → IsEdge p reach a Flow b → b.place.method ≡ a.place.method
  flow_stays a b e = e.row.same

  pub load_stays : (a b : Node) (field : ℕ) → IsEdge p reach a (Load field) b → b.place.method ≡ a.place.method
  load_stays a b field e = e.row.same

  pub keep_stays : (a b : Node) (kind : EdgeKind) → IsEdge p reach a kind b → KeepsCalls kind → b.place.method ≡ a.place.method
  keep_stays a b Flow e k = flow_stays a b e
  keep_stays a b (Load field) e k = load_stays a b field e
  keep_stays a b (Call call) e k = elim k [ ]
  keep_stays a b (Return call) e k = elim k [ ]
  keep_stays a b Jump e k = elim k [ ]

  pub call_leads : (a b : Node) (call : Place) → IsEdge p reach a (Call call) b → EntersTarget p a call b
  call_leads a b call e = record { from = e.row.from; is_before = unraised-before p call e.row.unraised; target = e.row.target; first = e.row.begins }

  pub return_leads : (a b : Node) (call : Place) → IsEdge p reach a (Return call) b → LeavesTarget p a call b
  return_leads a b call e = elim e.row [
    | inl row ↦ record { is_before = unraised-before p call row.unraised; target = row.target; to = return_to p a b call row }
    | inr row ↦ back_leads p reach a b call row
  ]
