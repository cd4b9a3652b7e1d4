-- Rules that come one after the other, of edges back from calls.
use Rattle.std.proofs.Common.{◌≡◌, ℕ, ◌+◌, ◌<◌, List, length, get_or, take, slice_get, Some, sym, subst, inl, inr}
use Rattle.auto_table.specs.declared.rule.Rule.{Rule}
use Rattle.demand_set.specs.declared.numbered.EdgeAt.{EdgeAt}
use Rattle.lists.specs.Lists.{Has}
use Rattle.link_rules.specs.Linked.{LinkedProgram}
use Rattle.link_sites.specs.declared.place.Place.{Place}
use Rattle.link_sites.specs.declared.site.Site.{Site}
use Rattle.spds_rules.specs.declared.node.Node.{Node}
use Rattle.spds_rules.specs.Demand.{Asked}
use Rattle.call_side.proofs.Lists.{Has-take_more}
use Rattle.track_rules.specs.Protocols.{ProtocolParts}
use Rattle.track_tables.specs.declared.returns.Return.{Return}
use Rattle.track_tables.specs.Making.{AreOf, IsBackAmong}
use Rattle.track_tables.proofs.Taken.{no_edge}
use Rattle.weight_laws.specs.declared.rel.Rel.{Rel}

-- what an index past the end reads
abbrev pub no_return : Return
no_return = record { edge = no_edge; mark = 0 }

-- one more element was looked at
pub each_of_more : {X : Type 0} (xs : List X) (i : ℕ) (d : X) → i < length xs → (Q : X → Type 0) → ((x : X) → Has (take i xs) x → Q x) → Q (get_or xs i d)
    → (x : X) → Has (take (i + 1) xs) x → Q x
each_of_more xs i d below Q was now x has = elim ((Has-take_more xs i d x below).0 has) [
  | inl before ↦ was x before
  | inr same ↦ subst Q (sym same) now
]

module _ (p : LinkedProgram) (k : ProtocolParts) (q : Asked) (a : Site) (nodes : List Node) (calls : List Place) where
  -- rules came twice
  pub of_more : (Among : EdgeAt → Type 0) (first old new : List (Rule Rel)) → AreOf p k q a nodes calls Among first old → AreOf p k q a nodes calls Among old new
      → AreOf p k q a nodes calls Among first new
  of_more Among first old new was now r has = elim (now r has) [ inl before ↦ was r before | inr came ↦ inr came ]

  -- of edges among more
  pub of_wider : (Among More : EdgeAt → Type 0) (old new : List (Rule Rel)) → ((e : EdgeAt) → Among e → More e) → AreOf p k q a nodes calls Among old new
      → AreOf p k q a nodes calls More old new
  of_wider Among More old new wider was r has = elim (was r has) [ inl before ↦ inl before | inr came ↦ inr (came.0, wider came.0 came.1, came.2) ]

  -- of one of the edges
  pub of_one : (returns : List Return) (i : ℕ) (r : Return) (first old new : List (Rule Rel)) → slice_get returns i ≡ Some r
      → AreOf p k q a nodes calls (IsBackAmong returns) first old → AreOf p k q a nodes calls (λ e. r.edge ≡ e) old new
      → AreOf p k q a nodes calls (IsBackAmong returns) first new
  of_one returns i r first old new at was now =
      of_more (IsBackAmong returns) first old new was (of_wider (λ e. r.edge ≡ e) (IsBackAmong returns) old new (λ e same. (r, (i, at), same)) now)
