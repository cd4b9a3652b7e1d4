-- Edges, start nodes and ends are filed one by one.
use Rattle.std.proofs.Common.{◌≡◌, ◌↔◌, ◌⊎◌, inl, inr, ◌∙◌, ℕ, ◌+◌, ◌<◌, List, [], ◌∷◌, ◌++◌, Some, arith, length, length-append, refl, slice_get, take, sym, ap, subst}
use Rattle.std.proofs.lemmas.Bool.{cases_eq}
use Rattle.lists.specs.Groups.{found_at}
use Rattle.lists.specs.Lists.{Adds, Has, IsApart}
use Rattle.lists.specs.declared.filing.Pair.{Pair}
use Rattle.lists.specs.Filings.{items_under, row}
use Rattle.lists.specs.Grown.{IsLonger}
use Rattle.lists.proofs.Grown.{got_longer, got_shorter, longer_adds}
use Rattle.lists.proofs.Joined.{Has-adds}
use Rattle.lists.proofs.Places.{Has-push, IsApart-adds, slice_get-adds, slice_get-append_left, slice_get-below, slice_get-push, slice_get-pushed, take-next}
use Rattle.lists.proofs.Tallied.{items_under-push_other, items_under-push_same}
use Rattle.link_rules.specs.Linked.{LinkedProgram}
use Rattle.link_sites.specs.declared.site.Site.{Site}
use Rattle.spds_rules.specs.declared.edge.Edge.{Edge}
use Rattle.spds_rules.specs.declared.node.Node.{Node}
use Rattle.spds_rules.specs.declared.store.StoreAt.{StoreAt}
use Rattle.spds_rules.specs.Demand.{EdgeIn, about}
use Rattle.spds_rules.specs.Nodes.{IsNode, IsStart, site_of}
use Rattle.demand_set.specs.Demands.{DemandParts, IsDemandOf}
use Rattle.cert_lines.specs.contracts.keys.OriginPartialEq.TheImpl as origin
use Rattle.cert_lines.specs.declared.keys.Origin.{Origin}
use Rattle.cert_work.specs.declared.roads.Roads.{Roads}
use Rattle.cert_work.specs.Roads.{AreRoads, AreUnder, IsAmongFirst, IsEnd, IsEndOf}
use Rattle.cert_work.proofs.Growing.{first, second}

has_next : {X : Type 0} (xs : List X) (i : ℕ) (x : X) → slice_get xs i ≡ Some x → (y : X) → Has (take (i + 1) xs) y ↔ (Has (take i xs) y ⊎ (y ≡ x))
has_next {X} xs i x there y = (
  (λ has. elim (slice_get-pushed (take i xs) x has.0 y (subst (λ (ys : List X). slice_get ys has.0 ≡ Some y) (take-next xs i x there) has.1)) [
    | inl before ↦ inl (has.0, before)
    | inr e ↦ inr e.1
  ]),
  (λ is. subst (λ (ys : List X). Has ys y) (sym (take-next xs i x there)) (elim is [
    | inl before ↦ (before.0, slice_get-append_left (take i xs) (x ∷ []) before.0 y before.1)
    | inr e ↦ (length (take i xs), slice_get-push (take i xs) x ∙ ap Some (sym e))
  ])),
)

-- no edges are under any number
pub under_none : (keys : List Node) (es : List Edge) → AreUnder keys (take 0 es) []
under_none keys es = record {
  below = λ i p there. cc;
  numbered = λ e has. let h = has.1 in cc;
  each = λ i e. ((λ has. let h = has.1 in cc), (λ at. let h = at.1.1 in cc));
}

-- one edge more, whose source has a number or was added
module _ (keys more : List Node) (es : List Edge) (at : ℕ) (x : Edge) (there : slice_get es at ≡ Some x) (pairs : List (Pair Edge)) (number : ℕ)
    (apart : IsApart keys) (adds : Adds keys x.from more) (here : slice_get more number ≡ Some x.from) (was : AreUnder keys (take at es) pairs) where
  abbrev pair : Pair Edge
  pair = record { number = number; item = x }

  more_apart : IsApart more
  more_apart = IsApart-adds keys more x.from apart adds

  -- the source of an edge that was there has the number that it had
  old_number : (i : ℕ) (e : Edge) → slice_get more i ≡ Some e.from → Has (take at es) e → slice_get keys i ≡ Some e.from
  old_number i e numbered has =
      let before = was.numbered e has in
      let same : i ≡ before.0 = more_apart i before.0 e.from numbered (slice_get-adds keys more x.from adds before.0 e.from before.1) in
      subst (λ (j : ℕ). slice_get keys j ≡ Some e.from) (sym same) before.1

  under_same : (i : ℕ) → number ≡ i → (e : Edge) → Has (items_under (pairs ++ pair ∷ []) i) e ↔ ((slice_get more i ≡ Some e.from) × Has (take (at + 1) es) e)
  under_same i same e =
      let pushed = subst (λ (xs : List Edge). Has xs e ↔ (Has (items_under pairs i) e ⊎ (e ≡ x))) (sym (items_under-push_same pairs pair i same)) (Has-push (items_under pairs i) x e) in (
        (λ has. elim (pushed.0 has) [
          | inl old ↦ (let is = (was.each i e).0 old in (slice_get-adds keys more x.from adds i e.from is.0, (has_next es at x there e).1 (inl is.1)))
          | inr is ↦ (subst (λ (j : ℕ). slice_get more j ≡ Some e.from) same (here ∙ ap (λ (y : Edge). Some y.from) (sym is)), (has_next es at x there e).1 (inr is))
        ]),
        (λ is. elim ((has_next es at x there e).0 is.1) [
          | inl before ↦ pushed.1 (inl ((was.each i e).1 (old_number i e is.0 before, before)))
          | inr last ↦ pushed.1 (inr last)
        ]),
      )

  under_other : (i : ℕ) → (number ≡ i → ⊥) → (e : Edge) → Has (items_under (pairs ++ pair ∷ []) i) e ↔ ((slice_get more i ≡ Some e.from) × Has (take (at + 1) es) e)
  under_other i other e =
      let still = items_under-push_other pairs pair i other in (
        (λ has. let is = (was.each i e).0 (subst (λ (xs : List Edge). Has xs e) still has) in (slice_get-adds keys more x.from adds i e.from is.0, (has_next es at x there e).1 (inl is.1))),
        (λ is. elim ((has_next es at x there e).0 is.1) [
          | inl before ↦ subst (λ (xs : List Edge). Has xs e) (sym still) ((was.each i e).1 (old_number i e is.0 before, before))
          | inr last ↦ absurd (other (more_apart number i x.from here (is.0 ∙ ap (λ (y : Edge). Some y.from) last)))
        ]),
      )

  pub under_next : AreUnder more (take (at + 1) es) (pairs ++ pair ∷ [])
  under_next = record {
    below = λ i p at_. elim (slice_get-pushed pairs pair i p at_) [
      | inl old ↦ (let b = was.below i p old in let longer = longer_adds keys x.from more adds in omega (arith, b, ap length longer.1, length-append keys longer.0))
      | inr e ↦ subst (λ (q : Pair Edge). q.number < length more) (sym e.1) (slice_get-below more number x.from here)
    ];
    numbered = λ e has. elim ((has_next es at x there e).0 has) [
      | inl before ↦ (let h = was.numbered e before in (h.0, slice_get-adds keys more x.from adds h.0 e.from h.1))
      | inr last ↦ (number, here ∙ ap (λ (y : Edge). Some y.from) (sym last))
    ];
    each = λ i e. elim (cases_eq number i) [ inl same ↦ under_same i same e | inr other ↦ under_other i other e ];
  }

pub starts_next : (S : Origin → Node → Type 0) (xs : List Node) (i : ℕ) (x : Node) → slice_get xs i ≡ Some x → (Old New : Origin → Node → Type 0)
    → ((k : Origin) (n : Node) → New k n ↔ (Old k n ⊎ ((n ≡ x) × S k n))) → ((k : Origin) (n : Node) → Old k n ↔ (Has (take i xs) n × S k n))
    → (k : Origin) (n : Node) → New k n ↔ (Has (take (i + 1) xs) n × S k n)
starts_next S xs i x there Old New adds was k n = (
  (λ has. elim ((adds k n).0 has) [
    | inl old ↦ (let is = (was k n).0 old in ((has_next xs i x there n).1 (inl is.0), is.1))
    | inr last ↦ ((has_next xs i x there n).1 (inr last.0), last.1)
  ]),
  (λ is. elim ((has_next xs i x there n).0 is.0) [
    | inl before ↦ (adds k n).1 (inl ((was k n).1 (before, is.1)))
    | inr same ↦ (adds k n).1 (inr (same, is.1))
  ]),
)

pub start_one : (p : LinkedProgram) (x : Node) (o : Site) → IsNode p x → site_of x ≡ Some o → (Old New : Origin → Node → Type 0)
    → ((k : Origin) (n : Node) → New k n ↔ (Old k n ⊎ ((k ≡ record { site = o }) × (n ≡ x))))
    → (k : Origin) (n : Node) → New k n ↔ (Old k n ⊎ ((n ≡ x) × IsStart p k.site n))
start_one p x o is_node of Old New adds k n = (
  (λ has. elim ((adds k n).0 has) [
    | inl old ↦ inl old
    | inr last ↦ inr (last.1, subst (λ (m : Node). IsStart p k.site m) (sym last.1) (is_node, of ∙ ap (λ (y : Origin). Some y.site) (sym last.0)))
  ]),
  (λ is. elim is [
    | inl old ↦ (adds k n).1 (inl old)
    | inr last ↦ (
        let at : IsStart p k.site x = subst (λ (m : Node). IsStart p k.site m) last.0 (second last) in
        let site : Some o ≡ Some k.site = sym of ∙ at.1 in
        let same : o ≡ k.site = cc in
        let back = sym same in (adds k n).1 (inr ((λ j. record { site = back j }), last.0)))
  ]),
)

pub ends_put : (old mid new : List Node) (s : StoreAt) → Adds old s.arg mid → Adds mid s.base new → (n : Node) → Has new n ↔ (Has old n ⊎ IsEndOf s n)
ends_put old mid new s arg base n =
    let one = Has-adds old mid s.arg arg n in
    let two = Has-adds mid new s.base base n in (
      (λ has. elim (two.0 has) [
        | inl there ↦ elim (one.0 there) [ inl was ↦ inl was | inr e ↦ inr (inl e) ]
        | inr e ↦ inr (inr e)
      ]),
      (λ is. elim is [
        | inl was ↦ two.1 (inl (one.1 (inl was)))
        | inr end ↦ elim end [ inl e ↦ two.1 (inl (one.1 (inr e))) | inr e ↦ two.1 (inr e) ]
      ]),
    )

-- the target, and the ends of the stores
abbrev pub IsEndAmong : Node → List StoreAt → Node → Type 0
IsEndAmong t stores n = (n ≡ t) ⊎ ((s : StoreAt) × Has stores s × IsEndOf s n)

pub ends_first : (t : Node) (xs : List StoreAt) (old new : List Node) → old ≡ [] → Adds old t new → (n : Node) → Has new n ↔ IsEndAmong t (take 0 xs) n
ends_first t xs old new none adds n =
    let one = Has-adds old new t adds n in (
      (λ has. elim (one.0 has) [
        | inl was ↦ (let h : slice_get [] was.0 ≡ Some n = subst (λ (ys : List Node). slice_get ys was.0 ≡ Some n) none was.1 in cc)
        | inr e ↦ inl e
      ]),
      (λ is. elim is [ inl e ↦ one.1 (inr e) | inr at ↦ (let h = at.1.1 in cc) ]),
    )

-- the first one alone
pub apart_first : (t : Node) (old new : List Node) → old ≡ [] → Adds old t new → IsApart new
apart_first t old new none adds = IsApart-adds old new t (λ i j n here there. let h : slice_get [] i ≡ Some n = subst (λ (ys : List Node). slice_get ys i ≡ Some n) none here in cc) adds

pub ends_next : (t : Node) (xs : List StoreAt) (i : ℕ) (x : StoreAt) → slice_get xs i ≡ Some x → (Old New : Node → Type 0)
    → ((n : Node) → New n ↔ (Old n ⊎ IsEndOf x n)) → ((n : Node) → Old n ↔ IsEndAmong t (take i xs) n) → (n : Node) → New n ↔ IsEndAmong t (take (i + 1) xs) n
ends_next t xs i x there Old New adds was n = (
  (λ has. elim ((adds n).0 has) [
    | inl old ↦ elim ((was n).0 old) [ inl e ↦ inl e | inr at ↦ inr (at.0, (has_next xs i x there at.0).1 (inl at.1), at.2) ]
    | inr end ↦ inr (x, (has_next xs i x there x).1 (inr refl), end)
  ]),
  (λ is. elim is [
    | inl e ↦ (adds n).1 (inl ((was n).1 (inl e)))
    | inr at ↦ elim ((has_next xs i x there at.0).0 at.1) [
      | inl before ↦ (adds n).1 (inl ((was n).1 (inr (at.0, before, at.2))))
      | inr same ↦ (adds n).1 (inr (subst (λ (s : StoreAt). IsEndOf s n) same at.2))
    ]
  ]),
)

-- the ends have the first numbers of a list that goes on behind them
pub first_ends : (t : Node) (xs : List StoreAt) (ends keys : List Node) (count : ℕ) → count ≡ length ends → ((n : Node) → Has ends n ↔ IsEndAmong t xs n) → IsLonger ends keys
    → (n : Node) → IsAmongFirst keys count n ↔ IsEndAmong t xs n
first_ends t xs ends keys count is has longer n = (
  (λ at. (has n).0 (at.0, got_shorter ends keys longer at.0 n (omega (arith, at.1, is)) at.2)),
  (λ end. let h = (has n).1 end in (h.0, omega (arith, is, slice_get-below ends h.0 n h.1), got_longer ends keys longer h.0 n h.1)),
)

pub roads_of : (p : LinkedProgram) (t : Node) (d : DemandParts) → IsDemandOf p (about t) d → (r : Roads) (pairs : List (Pair Edge)) → AreUnder r.nodes.keys d.edges pairs
    → ((i : ℕ) → row r.edges i ≡ items_under pairs i) → ((k : Origin) (n : Node) → Has (found_at origin.eq-value.it r.starts k) n ↔ (Has d.nodes n × IsStart p k.site n))
    → ((n : Node) → IsAmongFirst r.nodes.keys r.ends n ↔ IsEndAmong t d.stores n) → AreRoads p t r
roads_of p t d is r pairs under rows starts ends = record {
  edges = λ i e. subst (λ (xs : List Edge). Has xs e ↔ ((slice_get r.nodes.keys i ≡ Some e.from) × EdgeIn p (about t) e.from e.kind e.to)) (sym (rows i)) (
    (λ has. let at = (under.each i e).0 has in (at.0, is.edges.each e (second at))),
    (λ at. (under.each i e).1 (at.0, is.edges.all e (second at))),
  );
  numbered = λ e edge. under.numbered e (is.edges.all e edge);
  ends = λ n. (
    (λ first. elim ((ends n).0 first) [ inl e ↦ inl e | inr at ↦ inr (at.0, is.stores.each at.0 at.1, at.2) ]),
    (λ end. elim end [ inl e ↦ (ends n).1 (inl e) | inr at ↦ (ends n).1 (inr (at.0, is.stores.all at.0 at.1, at.2)) ]),
  );
  starts = λ o n. (
    (λ has. let at = (starts (record { site = o }) n).0 has in (second at, is.nodes.each n at.0)),
    (λ at. (starts (record { site = o }) n).1 (is.nodes.all n (second at), first at)),
  );
}

-- what is read off at the number of a node, if it has one
module _ (p : LinkedProgram) (t : Node) (r : Roads) (roads : AreRoads p t r) (n : Node) where
  pub edges_under : (number : ℕ) → slice_get r.nodes.keys number ≡ Some n → (e : Edge) → Has (row r.edges number) e ↔ ((e.from ≡ n) × EdgeIn p (about t) e.from e.kind e.to)
  edges_under number there e = (
    (λ has. let at = (roads.edges number e).0 has in let same : e.from ≡ n = let a = at.0 in cc (a, there) in (same, second at)),
    (λ at. (roads.edges number e).1 (there ∙ ap Some (sym at.0), second at)),
  )

  pub no_edges : (Has r.nodes.keys n → ⊥) → (e : Edge) → e.from ≡ n → EdgeIn p (about t) e.from e.kind e.to → ⊥
  no_edges none e from edge = none (subst (Has r.nodes.keys) from (roads.numbered e edge))

  pub end_under : (number : ℕ) → ((i : ℕ) → slice_get r.nodes.keys i ≡ Some n → number ≡ i) → IsEnd p t n → number < r.ends
  end_under number one end =
      let at = (roads.ends n).1 end in
      let same = one at.0 at.2 in
      omega (arith, at.1, same)

  pub no_end : (Has r.nodes.keys n → ⊥) → IsEnd p t n → ⊥
  no_end none end = let at = (roads.ends n).1 end in none (at.0, at.2)
