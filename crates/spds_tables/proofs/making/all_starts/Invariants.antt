use Rattle.std.proofs.Common.{◌≡◌, ◌<◌, ◌↔◌, ℕ, Some, length, map, slice_get}
use Rattle.lists.specs.Lists.{Has}
use Rattle.lists.specs.Filings.{row}
use Rattle.link_sites.specs.declared.site.Site.{Site}
use Rattle.spds_tables.specs.declared.numbered.StartAt.{StartAt}
use Rattle.spds_tables.specs.Making.{IsStartHere}
use Rattle.spds_tables.proofs.making.all_starts.Given as goal

abbrev pub invariant-loop-site : goal.invariant-loop-site
invariant-loop-site l = record {
  count : length l.all.items ≡ l.site;
  each : (site : ℕ) (o : Site) → site < l.site → slice_get l.demand.sites site ≡ Some o
      → (s : StartAt) → Has (row (map (λ v. v.items) l.all.items) site) s ↔ IsStartHere l.linked l.demand.nodes o s;
}
