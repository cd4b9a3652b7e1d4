-- What is reached goes along edges into demanded nodes. The source of such an edge is demanded too.
use Rattle.std.proofs.Common.{◌≡◌, ℕ, List, ◌∷◌, Some, slice_get}
use Rattle.link_rules.specs.Linked.{LinkedProgram}
use Rattle.link_sites.specs.declared.place.Place.{Place}
use Rattle.link_sites.specs.declared.site.Site.{Site}
use Rattle.spds_rules.specs.declared.edge.EdgeKind.{EdgeKind}
use Rattle.spds_rules.specs.declared.edge.EdgeKind.TheVariants.{Flow, Call, Return, Jump}
use Rattle.spds_rules.specs.declared.node.Node.{Node}
use Rattle.spds_rules.specs.Demand.{Asked, Demand, source}
use Rattle.spds_rules.specs.Edges.{IsEdge}
use Rattle.spds_rules.specs.Nodes.{IsStart}
use Rattle.spds_rules.specs.Systems.{Calls, InCalls, InFields, IsString, KeepsFields}
use Rattle.run_sound.proofs.Invariant.{IsReached}

module _ (p : LinkedProgram) (q : Asked) (sites : List Site) where
  -- along an edge that keeps the fields, as the call system has it
  along : (a b : Node) (kind : EdgeKind) (old string : List Place) (x : ℕ) → IsEdge p q.reach a kind b → Demand p q b → KeepsFields kind
      → ((o : Site) → Calls p q o a old → Calls p q o b string) → (Demand p q a → IsReached p q sites a old x)
      → IsReached p q sites b string x
  along a b kind old string x edge demanded keeps calls from =
      let r = from (source edge demanded) in
      record { site = r.site; of_site = r.of_site; by_fields = InFields.keep (edge, demanded) keeps r.by_fields; by_calls = calls r.site r.by_calls }

  -- within a frame
  pub along_flow : (a b : Node) (string : List Place) (x : ℕ) → IsEdge p q.reach a Flow b → Demand p q b → (Demand p q a → IsReached p q sites a string x)
      → IsReached p q sites b string x
  along_flow a b string x edge demanded from = along a b Flow string string x edge demanded tt (λ o c. InCalls.keep (edge, demanded) tt c) from

  -- into a call
  pub along_call : (a b : Node) (call : Place) (string : List Place) (x : ℕ) → IsEdge p q.reach a (Call call) b → Demand p q b
      → (Demand p q a → IsReached p q sites a string x)
      → IsReached p q sites b (call ∷ string) x
  along_call a b call string x edge demanded from =
      along a b (Call call) string (call ∷ string) x edge demanded tt (λ o c. InCalls.push (edge, demanded) c) from

  -- back from a call
  pub along_return : (a b : Node) (call : Place) (string : List Place) (x : ℕ) → IsEdge p q.reach a (Return call) b → Demand p q b
      → (Demand p q a → IsReached p q sites a (call ∷ string) x)
      → IsReached p q sites b string x
  along_return a b call string x edge demanded from =
      along a b (Return call) (call ∷ string) string x edge demanded tt (λ o c. InCalls.pop (edge, demanded) c) from

  -- through a static field, where the string is forgotten
  pub along_jump : (a b : Node) (old string : List Place) (x : ℕ) → IsEdge p q.reach a Jump b → Demand p q b → (Demand p q a → IsReached p q sites a old x)
      → IsString p b.place.method string
      → IsReached p q sites b string x
  along_jump a b old string x edge demanded from is = along a b Jump old string x edge demanded tt (λ o c. InCalls.jump (edge, demanded) c is) from

  -- where it comes to be
  pub at_start : (n : Node) (site : Site) (string : List Place) (x : ℕ) → slice_get sites x ≡ Some site → IsStart p site n
      → IsString p n.place.method string → Demand p q n
      → IsReached p q sites n string x
  at_start n site string x of_site start is demanded = record {
    site = site;
    of_site = of_site;
    by_fields = InFields.start (start, demanded);
    by_calls = InCalls.start (start, demanded) is;
  }
