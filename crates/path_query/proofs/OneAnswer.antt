-- A path has one answer, in whatever order its targets are listed.
use Rattle.std.proofs.Common.{◌≡◌, ◌↔◌, ℕ, zero, suc, List, [], ◌∷◌, inl, inr, sym, ◌∙◌, subst}
use Rattle.lists.specs.Lists.{AreAll, Counts}
use Rattle.link_rules.specs.Linked.{LinkedProgram}
use Rattle.link_sites.specs.declared.place.Place.{Place}
use Rattle.link_sites.specs.declared.site.Site.{Site}
use Rattle.spds_rules.specs.declared.edge.EdgeKind.{EdgeKind}
use Rattle.spds_rules.specs.declared.node.Node.{Node}
use Rattle.spds_rules.specs.declared.reach.Reach.{Reach}
use Rattle.spds_rules.specs.declared.store.StoreAt.{StoreAt}
use Rattle.spds_rules.specs.Answers.{AreSites, IsAnswered}
use Rattle.spds_rules.specs.Demand.{Asked, Demand, EdgeIn, FieldIn, StartIn, StoreIn}
use Rattle.spds_rules.specs.Edges.{IsEdge}
use Rattle.spds_rules.specs.Systems.{Calls, Fields, InCalls, InFields, Meets, MetAfter}
use Rattle.query_core.proofs.Determined.{counts_one, sites_one}
use Rattle.path_query.specs.Paths.{AsksPath, Hops, IsAtPath, IsBehind, IsBehindAll, IsPathAnswer}
use Rattle.path_query.proofs.Asking.{demand_same}

-- what the one query demands the other does, along the same edges
record DemandsAsMuch (p : LinkedProgram) (q r : Asked) : Type 0 where
  pub reach : q.reach ≡ r.reach
  pub demand : (m : Node) → Demand p q m → Demand p r m

-- so what is in the systems of the one is in those of the other
module _ (p : LinkedProgram) (q r : Asked) (more : DemandsAsMuch p q r) where
  edge_too : (a : Node) (kind : EdgeKind) (b : Node) → EdgeIn p q a kind b → EdgeIn p r a kind b
  edge_too a kind b e = (subst (λ (way : Reach). IsEdge p way a kind b) more.reach e.0, more.demand b e.1)

  start_too : (o : Site) (n : Node) → StartIn p q o n → StartIn p r o n
  start_too o n s = (s.0, more.demand n s.1)

  field_too : (field : ℕ) → FieldIn p q field → FieldIn p r field
  field_too field f = record {
    from = f.from;
    to = f.to;
    edge = (edge_too f.from _ f.to (f.edge, f.demanded)).0;
    demanded = (edge_too f.from _ f.to (f.edge, f.demanded)).1;
  }

  store_too : (s : StoreAt) → StoreIn p q s → StoreIn p r s
  store_too s h = (h.0, field_too s.field h.1)

  module _ (M N : Site → Site → StoreAt → Type 0) (met : (o base : Site) (s : StoreAt) → M o base s → N o base s) (o : Site) where
    fields_too : {n : Node} {word : List ℕ} → InFields p q M o n word → InFields p r N o n word
    fields_too (InFields.start {n} s) = InFields.start (start_too o n s)
    fields_too (InFields.keep {a} {b} {kind} e keeps f) = InFields.keep (edge_too a kind b e) keeps (fields_too f)
    fields_too (InFields.load {a} {b} {field} e f) = InFields.load (edge_too a _ b e) (fields_too f)
    fields_too (InFields.store {base} {s} {n} m at f) = InFields.store (met o base s m) (start_too base n at) (fields_too f)

    calls_too : {n : Node} {string : List Place} → InCalls p q M o n string → InCalls p r N o n string
    calls_too (InCalls.start {n} s is) = InCalls.start (start_too o n s) is
    calls_too (InCalls.keep {a} {b} {kind} e keeps c) = InCalls.keep (edge_too a kind b e) keeps (calls_too c)
    calls_too (InCalls.push {a} {b} e c) = InCalls.push (edge_too a _ b e) (calls_too c)
    calls_too (InCalls.pop {a} {b} e c) = InCalls.pop (edge_too a _ b e) (calls_too c)
    calls_too (InCalls.jump {a} {b} e c is) = InCalls.jump (edge_too a _ b e) (calls_too c) is
    calls_too (InCalls.store {base} {s} {n} m at c is) = InCalls.store (met o base s m) (start_too base n at) (calls_too c) is

  met_too : (rounds : ℕ) (o base : Site) (s : StoreAt) → MetAfter p q rounds o base s → MetAfter p r rounds o base s
  met_too zero o base s m = m
  met_too (suc rounds) o base s (inl m) = inl (met_too rounds o base s m)
  met_too (suc rounds) o base s (inr (string, under)) = inr (
    string,
    record {
      store = store_too s under.store;
      at_arg = calls_too (MetAfter p q rounds) (MetAfter p r rounds) (met_too rounds) o under.at_arg;
      at_base = calls_too (MetAfter p q rounds) (MetAfter p r rounds) (met_too rounds) base under.at_base;
      is_base = fields_too (MetAfter p q rounds) (MetAfter p r rounds) (met_too rounds) base under.is_base;
      has = under.has;
    },
  )

  meets_too : (o base : Site) (s : StoreAt) → Meets p q o base s → Meets p r o base s
  meets_too o base s m = (m.0, met_too m.0 o base s m.1)

  call_too : (o : Site) (n : Node) (string : List Place) → Calls p q o n string → Calls p r o n string
  call_too o n string c = calls_too (Meets p q) (Meets p r) meets_too o c

  answered_too : (n : Node) (o : Site) → IsAnswered p q n o → IsAnswered p r n o
  answered_too n o is = (fields_too (Meets p q) (Meets p r) meets_too o is.0, (is.1.0, call_too o n is.1.0 is.1.1))

  -- and what is at the end of fields for the one is there for the other
  behind_too : (P R : Site → Type 0) → ((o : Site) → P o → R o) → (field : ℕ) (o : Site) → IsBehind p q P field o → IsBehind p r R field o
  behind_too P R from field o h = record {
    base = h.base;
    from = from h.base h.from;
    store = h.store;
    of_field = h.of_field;
    hops = record {
      store = h.hops.store;
      arg = answered_too h.store.arg o h.hops.arg;
      owner = answered_too h.store.base h.base h.hops.owner;
      string = h.hops.string;
      at_arg = call_too o h.store.arg h.hops.string h.hops.at_arg;
      at_base = call_too h.base h.store.base h.hops.string h.hops.at_base;
      has = h.hops.has;
    };
  }

  ends_too : (fields : List ℕ) (P R : Site → Type 0) → ((o : Site) → P o → R o) → (o : Site) → IsBehindAll p q P fields o → IsBehindAll p r R fields o
  ends_too [] P R from o h = from o h
  ends_too (field ∷ rest) P R from o h = ends_too rest (IsBehind p q P field) (IsBehind p r R field) (behind_too P R from field) o h

  path_too : (n : Node) (fields : List ℕ) (o : Site) → IsAtPath p q n fields o → IsAtPath p r n fields o
  path_too n fields o h = ends_too fields (IsAnswered p q n) (IsAnswered p r n) (answered_too n) o h

module _ (p : LinkedProgram) (n : Node) (fields : List ℕ) where
  as_much : (q r : Asked) → AsksPath p n fields q → AsksPath p n fields r → DemandsAsMuch p q r
  as_much q r asks too = record { reach = asks.plain ∙ sym too.plain; demand = demand_same p n fields q r asks too }

  -- a path has one answer
  pub path_answer_one : (xs ys : List Site) (a b : ℕ) → IsPathAnswer p n fields xs a → IsPathAnswer p n fields ys b → (xs ≡ ys) × (a ≡ b)
  path_answer_one xs ys a b here there =
      let q = here.query in
      let r = there.query in
      let onward = as_much q r here.asks there.asks in
      let back = as_much r q there.asks here.asks in
      let moved : AreSites p (IsAtPath p q n fields) ys = record {
        each = λ o. (λ has. path_too p r q back n fields o ((there.answer.each o).0 has), λ is. (there.answer.each o).1 (path_too p q r onward n fields o is));
        ordered = there.answer.ordered;
      } in
      let counted : Counts (Demand p q) b = (
        there.size.0,
        record {
          each = λ m has. back.demand m (there.size.1.each m has);
          all = λ m is. there.size.1.all m (onward.demand m is);
          apart = there.size.1.apart;
        },
        there.size.2,
      ) in
      (sites_one p (IsAtPath p q n fields) xs ys here.answer moved, counts_one (Demand p q) a b here.size counted)
