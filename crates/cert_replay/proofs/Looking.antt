-- What is looked up of a demand.
use Rattle.std.proofs.Common.{◌≡◌, ◌↔◌, ℕ, List, Option, Some, None, Bool, IsTrue, IfSome, get_or, length, ltb, map, slice_get, refl, sym, ap, subst, ◌∙◌}
use Rattle.std.proofs.lemmas.Bool.{ltb-false, ltb-true}
use Rattle.std.proofs.lemmas.Option.{slice_get_past}
use Rattle.std.specs.Option.{is_some, option_copied}
use Rattle.lists.proofs.Places.{slice_get-read}
use denote.Ref.{Bor}
use Rattle.lists.specs.Lists.{Has, AreAll}
use Rattle.link_laws.proofs.Lists.{at_map, map_at}
use Rattle.link_rules.specs.Linked.{LinkedProgram}
use Rattle.link_sites.specs.declared.place.Place.{Place}
use Rattle.link_sites.specs.declared.site.Site.{Site}
use Rattle.spds_rules.specs.declared.edge.Edge.{Edge}
use Rattle.spds_rules.specs.declared.edge.EdgeKind.{EdgeKind}
use Rattle.spds_rules.specs.declared.edge.EdgeKind.TheVariants as edge
use Rattle.spds_rules.specs.declared.node.Node.{Node}
use Rattle.spds_rules.specs.declared.store.StoreAt.{StoreAt}
use Rattle.spds_rules.specs.Demand.{Asked, Demand, EdgeIn, StartIn, StoreIn}
use Rattle.spds_rules.specs.Nodes.{IsNode, site_of}
use Rattle.cert_text.proofs.NodeWords.{none_iff, some_iff}
use Rattle.cert_replay.specs.declared.edges.Joined.{Joined}
use Rattle.cert_replay.specs.declared.edges.Step.{Step}
use Rattle.cert_replay.specs.declared.edges.Way.TheVariants.{Returns, Only}
use Rattle.cert_replay.specs.Joins.{Goes, HasStep, IsReturn, joined_by}
use Rattle.cert_replay.proofs.From.{Finds}
use Rattle.cert_laws.proofs.Stores.{store_one}

-- where a look-up finds a number exactly where the list has the element
abbrev pub Looks : {X : Type 0} → List X → X → Option ℕ → Type 0
Looks xs x found = (i : ℕ) → (found ≡ Some i) ↔ (slice_get xs i ≡ Some x)

pub looks_is : {X : Type 0} (xs : List X) (x : X) (found : Option ℕ) → Looks xs x found → IsTrue (is_some found) ↔ Has xs x
looks_is xs x None looks = ((λ e. cc), λ has. let e = (looks has.0).1 has.1 in cc)
looks_is xs x (Some i) looks = ((λ e. (i, (looks i).0 refl)), λ has. refl)

pub looks_none : {X : Type 0} (xs : List X) (x : X) → Looks xs x None → Has xs x → ⊥
looks_none xs x looks has = let e = (looks has.0).1 has.1 in cc

-- what is copied from a place of a list stands there
pub copied_at : {X : Type 0} (xs : List X) (i : ℕ) (r : Option (Bor X)) → is_some r ≡ ltb i (length xs) → IfSome r (λ x. x.now ≡ get_or xs i x.now) → option_copied r ≡ slice_get xs i
copied_at xs i None there read = sym (slice_get_past xs i (ltb-false _ _ (sym there)))
copied_at xs i (Some x) there read = sym (slice_get-read xs i x.now (ltb-true _ _ (sym there)) read)

module _ (p : LinkedProgram) (q : Asked) (n : Node) (nodes : List Node) (all : AreAll (Demand p q) nodes) where
  -- a node that isn't demanded starts nothing
  pub start_none : Looks nodes n None → Finds (λ (o : Site). StartIn p q o n) None
  start_none looks = none_iff (λ o st. looks_none nodes n looks (all.all n st.1))

  -- nor does one that isn't the program's
  pub start_no_node : (IsNode p n → ⊥) → Finds (λ (o : Site). StartIn p q o n) None
  start_no_node not = none_iff (λ o st. not st.0.0)

  -- another starts its site
  pub start_site : (i : ℕ) → Looks nodes n (Some i) → IsNode p n → (r : Option Site) → r ≡ site_of n → Finds (λ (o : Site). StartIn p q o n) r
  start_site i looks is r e o = (
    (λ f. ((is, sym e ∙ f), all.each n (i, (looks i).0 refl))),
    λ st. e ∙ st.0.1,
  )

module _ (p : LinkedProgram) (q : Asked) (edges : List Edge) (all : AreAll (λ (e : Edge). EdgeIn p q e.from e.kind e.to) edges) where
  -- the steps of the edges are those that go along an edge of the demand
  pub step_iff : (s : Step) → HasStep edges s ↔ ((kind : EdgeKind) × Goes s.way kind × EdgeIn p q s.joined.from kind s.joined.to)
  step_iff s = (
    (λ h.
        let e = h.0 in
        let is = all.each e h.1 in (
          e.kind,
          h.2.2,
          subst (λ (x : Node). EdgeIn p q x e.kind s.joined.to) (sym h.2.0) (subst (λ (x : Node). EdgeIn p q e.from e.kind x) (sym h.2.1) is),
        )),
    λ g. (record { from = s.joined.from; to = s.joined.to; kind = g.0 }, all.all (record { from = s.joined.from; to = s.joined.to; kind = g.0 }) g.2, (refl, refl, g.1)),
  )

  pub goes_iff : (steps : List Step) → ((s : Step) → Has steps s ↔ HasStep edges s) → (s : Step) (found : Option ℕ) → Looks steps s found
      → IsTrue (is_some found) ↔ ((kind : EdgeKind) × Goes s.way kind × EdgeIn p q s.joined.from kind s.joined.to)
  goes_iff steps has s found looks =
      let is = looks_is steps s found looks in
      let same = has s in
      let along = step_iff s in
      ((λ e. along.0 (same.0 (is.0 e))), λ g. is.1 (same.1 (along.1 g)))

-- an edge of one kind
pub only_iff : (p : LinkedProgram) (q : Asked) (a b : Node) (only : EdgeKind) (r : Bool) → IsTrue r ↔ ((kind : EdgeKind) × Goes (Only only) kind × EdgeIn p q a kind b)
    → IsTrue r ↔ EdgeIn p q a only b
only_iff p q a b only r goes = (
  (λ e. let g = goes.0 e in subst (λ (k : EdgeKind). EdgeIn p q a k b) (sym g.1) g.2),
  λ edge. goes.1 (only, refl, edge),
)

-- one of a return
pub return_iff : (p : LinkedProgram) (q : Asked) (a b : Node) (r : Bool) → IsTrue r ↔ ((kind : EdgeKind) × Goes Returns kind × EdgeIn p q a kind b)
    → IsTrue r ↔ ((call : Place) × EdgeIn p q a (edge.Return call) b)
return_iff p q a b r goes = ((λ e. let g = goes.0 e in by g.0 g.1 g.2), λ c. goes.1 (edge.Return c.0, tt, c.1))
  where
    by : (kind : EdgeKind) → IsReturn kind → EdgeIn p q a kind b → (call : Place) × EdgeIn p q a (edge.Return call) b
    by (edge.Return call) is e = (call, e)
    by edge.Flow is e = absurd is
    by (edge.Load field) is e = absurd is
    by (edge.Call call) is e = absurd is
    by edge.Jump is e = absurd is

module _ (p : LinkedProgram) (q : Asked) (stores : List StoreAt) (all : AreAll (StoreIn p q) stores) (arg base : Node) where
  -- the store between two nodes
  abbrev pub IsBetween : StoreAt → Type 0
  IsBetween s = StoreIn p q s × (s.arg ≡ arg) × (s.base ≡ base)

  pub between_none : Looks (map joined_by stores) (record { from = arg; to = base }) None → Finds IsBetween None
  between_none looks = none_iff (λ s is.
      let at = all.all s is.0 in
      let there = map_at joined_by stores at.0 s at.1 in
      let same : joined_by s ≡ record { from = arg; to = base } = λ j. record { from = is.1 j; to = is.2 j } in
      looks_none (map joined_by stores) (record { from = arg; to = base }) looks (at.0, there ∙ ap Some same))

  pub between_some : (i : ℕ) → Looks (map joined_by stores) (record { from = arg; to = base }) (Some i) → (r : Option StoreAt) → r ≡ slice_get stores i → Finds IsBetween r
  between_some i looks r e =
      let there = at_map joined_by stores i (record { from = arg; to = base }) ((looks i).0 refl) in
      let is = all.each there.0 (i, there.1) in
      let from : there.0.arg ≡ arg = sym (ap (λ (x : Joined). x.from) there.2) in
      let to : there.0.base ≡ base = sym (ap (λ (x : Joined). x.to) there.2) in
      subst (Finds IsBetween) (sym (e ∙ there.1))
      (some_iff there.0 (is, from, to) (λ s other. store_one p s there.0 other.0.0 is.0 (other.1 ∙ sym from) (other.2 ∙ sym to)))
