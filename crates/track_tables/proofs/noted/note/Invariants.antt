use Rattle.std.proofs.Common.{◌≡◌, ◌++◌, map, take}
use Rattle.track_tables.specs.Noted.{noted_at}
use Rattle.track_tables.proofs.noted.note.Given as goal

abbrev pub invariant-loop-site : goal.invariant-loop-site
invariant-loop-site l = l.noted.items ≡ l.initial.noted.items ++ map (noted_at l.place) (take l.site-index l.sites)
