-- The receivers of event statements are what is asked of a program.
use Rattle.std.proofs.Common.{◌≡◌, ◌<◌, List, Some, map, length, get_or, slice_get, refl, sym, subst, arith}
use Rattle.std.proofs.lemmas.List.{length-map}
use Rattle.std.proofs.lemmas.Option.{get_or_from_slice_get}
use Rattle.lists.proofs.Places.{slice_get-there}
use Rattle.lists.proofs.Joined.{slice_get-mapped}
use Rattle.link_rules.specs.Linked.{LinkedProgram}
use Rattle.link_program.proofs.Found.{at_map}
use Rattle.spds_rules.specs.declared.node.Node.{Node}
use Rattle.spds_rules.specs.declared.node.Var.{Var}
use Rattle.spds_rules.specs.declared.reach.Reach.TheVariants.{Tracked}
use Rattle.spds_rules.specs.Nodes.{at}
use Rattle.track_rules.specs.Protocols.{ProtocolParts}
use Rattle.track_systems.specs.Events.{IsEventNode, IsEventOn}
use Rattle.site_events.specs.declared.event_statement.EventStatement.{EventStatement}
use Rattle.site_events.specs.EventStatements.{AreEventStatements, IsEventStatement, IsQuery, receiver_node}

pub is_query : (p : LinkedProgram) (k : ProtocolParts) (list : List EventStatement) → AreEventStatements p k list → IsQuery p k (record { targets = map receiver_node list; reach = Tracked })
is_query p k list exact = record {
  asked = record {
    tracked = refl;
    receivers = λ n. (
      (λ has.
          let s = slice_get-mapped receiver_node list has.0 n has.1 in
          let is : IsEventStatement p k s.0 = (exact.each s.0).0 (has.0, s.1) in
          subst (λ (m : Node). IsEventNode p k m) s.2 (s.0.event, is)),
      (λ node.
          let x = node.1.receiver.0 in
          let s : EventStatement = record { place = n.place; event = node.0; receiver = x } in
          let is : IsEventStatement p k s = subst (λ (v : Var). IsEventOn p k n.place node.0 v) node.1.receiver.2 node.1 in
          let has = (exact.each s).1 is in
          let same : at n.place n.var ≡ receiver_node s = subst (λ (v : Var). at n.place n.var ≡ at n.place v) node.1.receiver.2 refl in
          (has.0, subst (λ (m : Node). slice_get (map receiver_node list) has.0 ≡ Some m) (sym same) (at_map receiver_node list has.0 s has.1))),
    );
  };
  ordered = λ i j d less below.
      let inside : j < length list = let same = length-map list receiver_node in omega arith in
      let low : i < length list = omega arith in
      let a = slice_get-there list i low in
      let b = slice_get-there list j inside in
      let first : get_or (map receiver_node list) i d ≡ receiver_node a.0 = get_or_from_slice_get (map receiver_node list) i (receiver_node a.0) d (at_map receiver_node list i a.0 a.1) in
      let second : get_or (map receiver_node list) j d ≡ receiver_node b.0 = get_or_from_slice_get (map receiver_node list) j (receiver_node b.0) d (at_map receiver_node list j b.0 b.1) in
      let before = exact.ordered i j a.0 less inside in
      rw (first, second) (rw (get_or_from_slice_get list i a.0 a.0 a.1, get_or_from_slice_get list j b.0 a.0 b.1) at before);
}
