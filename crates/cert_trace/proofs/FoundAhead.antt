-- Where loads lie ahead is found from the loads back.
use Rattle.std.proofs.Common.{◌≡◌, inl, inr, ◌∙◌, ℕ, List, false, true, sym, refl}
use Rattle.std.proofs.lemmas.Bool.{false≢true}
use Rattle.lists.proofs.Grown.{has_longer}
use Rattle.lists.specs.Groups.{Grouped}
use Rattle.lists.specs.Grown.{IsLonger}
use Rattle.lists.specs.Lists.{Has}
use Rattle.link_rules.specs.Linked.{LinkedProgram}
use Rattle.spds_rules.specs.contracts.node.NodePartialEq.TheImpl as node
use Rattle.spds_rules.specs.declared.edge.Edge.{Edge}
use Rattle.spds_rules.specs.declared.edge.EdgeKind.TheVariants.{Load}
use Rattle.spds_rules.specs.declared.node.Node.{Node}
use Rattle.spds_rules.specs.declared.store.StoreAt.{StoreAt}
use Rattle.spds_rules.specs.Systems.{Meets}
use Rattle.spds_laws.proofs.Within.{meets_within}
use Rattle.demand_set.specs.Demands.{DemandParts, IsDemandOf}
use Rattle.spds_rules.specs.Demand.{about}
use Rattle.cert_lines.specs.declared.keys.FieldAt.{FieldAt}
use Rattle.cert_work.specs.declared.wants.Ahead.{Ahead}
use Rattle.cert_work.specs.Wants.{AreAhead}
use Rattle.cert_trace.specs.Ahead.{IsAheadIn, IsArgFiled, IsBefore, IsFound, IsSearched}
use Rattle.cert_trace.specs.Settled.{IsBackFiled}

pub before_more : (old new : List FieldAt) → IsLonger old new → (args : Grouped ℕ Node) (f : ℕ) (e : Edge) → IsBefore old args f e → IsBefore new args f e
before_more old new longer args f e is = record {
  kept = λ k. has_longer old new longer (record { field = f; node = e.from }) (is.kept k);
  stored = λ g n loads has. has_longer old new longer (record { field = f; node = n }) (is.stored g n loads has);
}

pub searched_more : (old new : List FieldAt) → IsLonger old new → (back : Grouped Node Edge) (args : Grouped ℕ Node) (at : FieldAt) → IsSearched old back args at
    → IsSearched new back args at
searched_more old new longer back args at is e has = before_more old new longer args at.field e (is e has)

-- where it was searched for all that was found
module _ (d : DemandParts) (back : Grouped Node Edge) (args : Grouped ℕ Node) (found : List FieldAt) (loads : (e : Edge) (f : ℕ) → Has d.edges e → e.kind ≡ Load f → IsFound found f e.from)
    (filed : (e : Edge) → Has d.edges e → IsBackFiled back e) (stored : (s : StoreAt) → Has d.stores s → IsArgFiled args s)
    (all : (at : FieldAt) → Has found at → IsSearched found back args at) where
  pub found_ahead : (a : Ahead) → a.everywhere ≡ false → a.fields.keys ≡ found → IsAheadIn d a
  found_ahead a where_ is = rw is (record {
    loaded = λ f e has load. inr (loads e f has load);
    kept = λ f e has k ahead. elim ahead [
      | inl all_ ↦ absurd (false≢true (sym where_ ∙ all_))
      | inr at ↦ inr ((all (record { field = f; node = e.to }) at e (filed e has)).kept k)
    ];
    stored = λ f e s has there load ahead. elim ahead [
      | inl all_ ↦ absurd (false≢true (sym where_ ∙ all_))
      | inr at ↦ inr ((all (record { field = f; node = e.to }) at e (filed e has)).stored s.field s.arg load (stored s there))
    ];
  })

pub everywhere_ahead : (d : DemandParts) (a : Ahead) → a.everywhere ≡ true → IsAheadIn d a
everywhere_ahead d a all = record { loaded = λ f e has load. inl all; kept = λ f e has k ahead. inl all; stored = λ f e s has there load ahead. inl all }

pub ahead_of_all : (p : LinkedProgram) (t : Node) (d : DemandParts) → IsDemandOf p (about t) d → (a : Ahead) → IsAheadIn d a → AreAhead p t a (Meets p (about t))
ahead_of_all p t d demand a is = record {
  loaded = λ f x y along. is.loaded f (record { from = x; to = y; kind = Load f }) (demand.edges.all _ along) refl;
  kept = λ f x y kind along k ahead. is.kept f (record { from = x; to = y; kind = kind }) (demand.edges.all _ along) k ahead;
  stored = λ f x y o base s m along ahead.
      is.stored f (record { from = x; to = y; kind = Load s.field }) s (demand.edges.all _ along) (demand.stores.all s (meets_within p (about t) o base s m).2) refl ahead;
}
