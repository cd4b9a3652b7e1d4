-- Edges back from calls.
use Rattle.std.specs.Prelude.{◌≡◌, ℕ, List, Some, slice_get}
use Rattle.call_side.specs.Indexed.{IsFiledBy}
use Rattle.demand_set.specs.declared.numbered.EdgeAt.{EdgeAt}
use Rattle.link_sites.specs.declared.place.Place.{Place}
use Rattle.post_star.specs.declared.key.Key.{Key}
use Rattle.post_star.specs.declared.key.Key.TheVariants as key
use Rattle.post_star.specs.Groups.{Groups}
use Rattle.spds_rules.specs.declared.edge.EdgeKind.{EdgeKind}
use Rattle.spds_rules.specs.declared.edge.EdgeKind.TheVariants.{Flow, Load, Call, Return, Jump}
use Rattle.call_side.specs.Gathered.{AreGathered}
use Rattle.track_tables.specs.declared.returns.Return.{Return as AReturn}

-- an edge of this kind comes back from the call with the mark
abbrev pub IsReturnOver : List Place → EdgeKind → ℕ → Type 0
IsReturnOver calls (Return call) mark = slice_get calls mark ≡ Some call
IsReturnOver calls Flow mark = ⊥
IsReturnOver calls (Call call) mark = ⊥
IsReturnOver calls (Load field) mark = ⊥
IsReturnOver calls Jump mark = ⊥

-- the edge with the mark of its call
abbrev pub IsReturnOf : List Place → EdgeAt → AReturn → Type 0
IsReturnOf calls e r = (r.edge ≡ e) × IsReturnOver calls e.kind r.mark

-- those of the edges that come back from calls
abbrev pub AreReturns : List Place → List EdgeAt → List AReturn → Type 0
AreReturns calls edges returns = AreGathered (IsReturnOf calls) edges returns

-- the keys of an edge back from a call: by its source, by its mark, and by both
abbrev pub source_of : AReturn → Key
source_of r = key.Node r.edge.from

abbrev pub mark_key : AReturn → Key
mark_key r = key.Mark r.mark

abbrev pub crossing_key : AReturn → Key
crossing_key r = key.Marked r.edge.from r.mark

-- they are found by all three
pub record AreReturnsFiled (returns : List AReturn) (by_source by_mark by_both : Groups AReturn) : Type 0 where
  pub sources : IsFiledBy source_of returns by_source
  pub marks : IsFiledBy mark_key returns by_mark
  pub both : IsFiledBy crossing_key returns by_both
