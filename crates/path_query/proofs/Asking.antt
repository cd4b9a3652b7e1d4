-- A path asks for one demand, in whatever order its targets are listed.
use Rattle.std.proofs.Common.{◌≡◌, ◌↔◌, ◌⊎◌, ℕ, List, inl, inr, refl, sym, ◌∙◌, subst}
use Rattle.lists.specs.Lists.{Has, AreAll, HasMore}
use Rattle.link_rules.specs.Linked.{LinkedProgram}
use Rattle.spds_rules.specs.declared.node.Node.{Node}
use Rattle.spds_rules.specs.declared.reach.Reach.{Reach}
use Rattle.spds_rules.specs.declared.reach.Reach.TheVariants.{Plain}
use Rattle.spds_rules.specs.declared.store.StoreAt.{StoreAt}
use Rattle.spds_rules.specs.Demand.{Asked, Demand, Demanded}
use Rattle.spds_rules.specs.Edges.{IsEdge}
use Rattle.spds_rules.specs.Stores.{IsStore}
use Rattle.spds_nodes.specs.Stored.{IsStoreOf}
use Rattle.demand_set.specs.Walks.{HasAtMost}
use Rattle.path_query.specs.Paths.{AsksPath, IsEndOf}

module _ (p : LinkedProgram) (n : Node) (fields : List ℕ) where
  -- the node is demanded
  pub node_demanded : (q : Asked) → AsksPath p n fields q → Demand p q n
  node_demanded q asks = Demanded.target ((asks.targets n).1 (inl refl))

  -- so are both ends of a store of one of the fields
  pub end_demanded : (q : Asked) → AsksPath p n fields q → (field : ℕ) (m : Node) → Has fields field → IsEndOf p field m → Demand p q m
  end_demanded q asks field m has end = Demanded.target ((asks.targets m).1 (inr (field, has, end)))

  -- what one query demands the other does
  demanded_too : (q r : Asked) → AsksPath p n fields q → AsksPath p n fields r → {m : Node} → Demanded (IsEdge p q.reach) (IsStore p) q.targets m
      → Demanded (IsEdge p q.reach) (IsStore p) r.targets m
  demanded_too q r asks too (Demanded.target {n = m} has) = Demanded.target ((too.targets m).1 ((asks.targets m).0 has))
  demanded_too q r asks too (Demanded.source e d) = Demanded.source e (demanded_too q r asks too d)
  demanded_too q r asks too (Demanded.base e d s f) = Demanded.base e (demanded_too q r asks too d) s f
  demanded_too q r asks too (Demanded.arg e d s f) = Demanded.arg e (demanded_too q r asks too d) s f

  pub demand_same : (q r : Asked) → AsksPath p n fields q → AsksPath p n fields r → (m : Node) → Demand p q m → Demand p r m
  demand_same q r asks too m d =
      subst (λ (way : Reach). Demanded (IsEdge p way) (IsStore p) r.targets m) (asks.plain ∙ sym too.plain) (demanded_too q r asks too d)

  -- more than so many are demanded by the one where they are by the other
  pub more_too : (q r : Asked) → AsksPath p n fields q → AsksPath p n fields r → (budget : ℕ) → HasMore (Demand p q) budget → HasMore (Demand p r) budget
  more_too q r asks too budget more = record { some = more.some; each = λ m has. demand_same q r asks too m (more.each m has); apart = more.apart; more = more.more }

  -- and no more than so many
  pub few_too : (q r : Asked) → AsksPath p n fields q → AsksPath p n fields r → (budget : ℕ) → HasAtMost (Demand p q) budget → HasAtMost (Demand p r) budget
  few_too q r asks too budget few = record { some = few.some; all = λ m d. few.all m (demand_same r q too asks m d); few = few.few }

-- what is an end of one of the stores of the field is one of a store of the program
pub ends_of : (p : LinkedProgram) (field : ℕ) (stores : List StoreAt) (Old New : Node → Type 0) → AreAll (IsStoreOf p field) stores
    → ((m : Node) → New m ↔ (Old m ⊎ ((s : StoreAt) × Has stores s × ((m ≡ s.base) ⊎ (m ≡ s.arg))))) → (m : Node) → New m ↔ (Old m ⊎ IsEndOf p field m)
ends_of p field stores Old New all are m = (
  λ h. elim ((are m).0 h) [
    | inl old ↦ inl old
    | inr end ↦ let is = all.each end.0 end.1 in inr (record { store = end.0; is_store = is.0; of_field = is.1; is_end = end.2 })
  ],
  λ h. (are m).1 (elim h [
    | inl old ↦ inl old
    | inr end ↦ inr (end.store, all.all end.store (end.is_store, end.of_field), end.is_end)
  ]),
)

-- targets that are the node and the ends ask for the path
pub asks_path : (p : LinkedProgram) (n : Node) (fields : List ℕ) (targets : List Node)
    → ((m : Node) → Has targets m ↔ ((m ≡ n) ⊎ ((field : ℕ) × Has fields field × IsEndOf p field m))) → AsksPath p n fields (record { targets = targets; reach = Plain })
asks_path p n fields targets are = record { plain = refl; targets = are }
