-- What is asked under a protocol: nodes of the program, and one query.
use Rattle.std.proofs.Common.{◌≡◌, ℕ, ◌<◌, List, Some, None, false, Bool, length, refl, sym, subst, ◌∙◌, inl, inr, arith}
use Rattle.demand_set.specs.Demands.{DemandParts, IsDemandOf}
use Rattle.demand_set.specs.Numbers.{IsEdgeAt}
use Rattle.track_tables.specs.Held.{AreOfDemand}
use Rattle.lists.specs.Lists.{Has}
use Rattle.lists.proofs.Places.{slice_get-below}
use Rattle.query_core.proofs.OneWay.{statements_one_way}
use Rattle.link_program.proofs.Found.{at_map}
use Rattle.link_rules.specs.declared.code.Code.{Code}
use Rattle.link_rules.specs.declared.code.Code.TheVariants as code
use Rattle.link_rules.specs.Linked.{LinkedMethod, LinkedProgram}
use Rattle.link_rules.specs.WellLinked.{FitsCode, IsInForm}
use Rattle.link_sites.specs.declared.place.Place.{Place}
use Rattle.link_sites.specs.Places.{ComesBefore}
use Rattle.link_laws.proofs.Lists.{each_right}
use Rattle.query_core.proofs.Ordered.{ordered_one}
use Rattle.spds_nodes.proofs.Named.{FitsCode-at}
use Rattle.spds_rules.specs.declared.node.Node.{Node}
use Rattle.spds_rules.specs.declared.node.Var.{Var}
use Rattle.spds_rules.specs.declared.reach.Reach.{Reach}
use Rattle.spds_rules.specs.declared.reach.Reach.TheVariants.{Tracked}
use Rattle.spds_rules.specs.Demand.{Asked, Demanded}
use Rattle.spds_rules.specs.Nodes.{HasVar, IsNode, MayStand}
use Rattle.site_events.specs.declared.event_statement.EventStatement.{EventStatement}
use Rattle.site_events.specs.EventStatements.{AreEventStatements, IsQuery, receiver_node}
use Rattle.track_rules.specs.Protocols.{ProtocolParts}
use Rattle.track_systems.specs.Events.{IsEventNode, receiver_of}
use Rattle.track_tables.specs.declared.parts.TrackParts.{TrackParts}
use Rattle.track_tables.specs.Making.{AreTrackParts}
use Rattle.type_track.specs.Receivers.{asked_for}

-- the local on which a statement calls is one of the method
receiver_local : (p : LinkedProgram) (m : LinkedMethod) (c : Code) (x : ℕ) → receiver_of c ≡ Some x → FitsCode p m c → x < length m.locals
receiver_local p m (code.Call to mode class key (Some r) args targets) x is fits = let same : r ≡ x = cc in subst (λ (n : ℕ). n < length m.locals) same fits.2
receiver_local p m (code.Call to mode class key None args targets) x is fits = cc is
receiver_local p m _ x is fits = cc is

-- the receiver of an event statement is a node of the program
pub event_node : (p : LinkedProgram) (k : ProtocolParts) → IsInForm p → (n : Node) → IsEventNode p k n → IsNode p n
event_node p k form n (event, on) =
    let c = on.receiver.1.code in
    let at = on.receiver.1.at in
    let fits = FitsCode-at p n.place.method n.place.index c form at in
    let below = receiver_local p at.method c on.receiver.0 on.receiver.1.is_so fits in
    record {
      method = at.method;
      there = at.there;
      code = c;
      here = at.here;
      stands = subst (λ (raised : Bool). MayStand c raised) (sym on.unraised) tt;
      has = subst (λ (raised : Bool). HasVar at.method c raised n.var) (sym on.unraised)
          (subst (λ (v : Var). HasVar at.method c false v) (sym on.receiver.2) below);
    }

-- a query by its parts
asked_is : (q r : Asked) → q.targets ≡ r.targets → q.reach ≡ r.reach → q ≡ r
asked_is q r targets reach =
    subst (λ (ns : List Node). q ≡ record { targets = ns; reach = r.reach }) targets
    (subst (λ (x : Reach). q ≡ record { targets = q.targets; reach = x }) reach refl)

-- what a protocol asks of a program is one query
pub query_one : (p : LinkedProgram) (k : ProtocolParts) (q r : Asked) → IsQuery p k q → IsQuery p k r → q ≡ r
query_one p k q r one two =
    let targets = ordered_one (λ (a b : Node). ComesBefore a.place b.place) (λ a b. statements_one_way a.place b.place) q.targets r.targets one.ordered two.ordered
    (λ n has. (two.asked.receivers n).1 ((one.asked.receivers n).0 has)) (λ n has. (one.asked.receivers n).1 ((two.asked.receivers n).0 has)) in
    asked_is q r targets (one.asked.tracked ∙ sym two.asked.tracked)

-- the receivers are among the nodes of the demand
pub receivers_demanded : (p : LinkedProgram) (statements : List EventStatement) (d : DemandParts) → IsDemandOf p (asked_for statements) d
    → (s : EventStatement) → Has statements s → Has d.nodes (receiver_node s)
receivers_demanded p statements d demand s has = demand.nodes.all (receiver_node s) (Demanded.target (has.0, at_map receiver_node statements has.0 s has.1))

-- the query of these statements, which are all, by the list of its targets
pub query_for : (p : LinkedProgram) (k : ProtocolParts) (all statements : List EventStatement) (nodes targets : List Node) → AreEventStatements p k all → statements ≡ all
    → (AreEventStatements p k statements → IsQuery p k (record { targets = nodes; reach = Tracked })) → targets ≡ nodes
    → IsQuery p k (record { targets = targets; reach = Tracked })
query_for p k all statements nodes targets are same asked is =
    subst (λ (ns : List Node). IsQuery p k (record { targets = ns; reach = Tracked })) (sym is) (asked (subst (AreEventStatements p k) (sym same) are))

-- what is loaded is among the nodes of the demand
pub loaded_demanded : (p : LinkedProgram) (q : Asked) (d : DemandParts) → IsDemandOf p q d → (parts : TrackParts) → AreTrackParts p d parts → AreOfDemand d parts.loaded.keys
loaded_demanded p q d demand parts of number has =
    let edge = (of.loaded number).0 has in
    let x = each_right (IsEdgeAt d.nodes) d.edges of.edges edge.1.0 edge.0 of.numbered edge.1.1 in
    subst (λ (n : ℕ). n < length d.nodes) edge.3 (slice_get-below d.nodes edge.0.to x.0.to x.2.to_is)
