use Rattle.std.proofs.Common.{◌≡◌, ◌+◌, ◌-◌, ◌≤◌, All, false, length, take, if◌then◌else◌}
use Rattle.lists.specs.Lists.{IsApart}
use Rattle.spds_solve.specs.Composing.{AreComposed}
use Rattle.spds_solve.specs.Looks.{AreLooked}
use Rattle.spds_solve.specs.Mets.{numbers_of}
use Rattle.spds_solve.specs.Searches.{AreFoundBy, IsComplete}
use Rattle.spds_solve.proofs.Turns.{all_mets}
use Rattle.spds_solve.proofs.solver.search.Given as goal
use Rattle.spds_tables.specs.Parts.{IsInParts}

abbrev pub invariant-loop-goes_on : goal.invariant-loop-goes_on
invariant-loop-goes_on g l = record {
  taken : l.taken ≤ length l.mets;
  inside : All (IsInParts l.given.parts.now) (numbers_of l.mets);
  apart : IsApart (numbers_of l.mets);
  looked : AreLooked l.given.linked.now l.given.sites.now l.given.parts.now (take l.taken (numbers_of l.mets)) l.mets l.tables l.known;
  composed : AreComposed l.mets l.ways;
  found : AreFoundBy l.given.linked.now l.given.sites.now l.given.parts.now l.mets;
  done : l.goes_on ≡ false → IsComplete l.given.linked.now l.given.sites.now l.given.parts.now l.tables.each.items l.mets;
}

abbrev pub decreases-loop-goes_on : goal.decreases-loop-goes_on
decreases-loop-goes_on g l =
    if l.goes_on then 1 + (length (all_mets (length l.given.parts.now.starts.items) (length l.given.parts.now.stores.items)) - length l.mets) else 0
