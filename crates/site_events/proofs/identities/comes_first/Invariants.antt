use Rattle.std.proofs.Common.{◌≡◌, drop}
use Rattle.track_systems.specs.Settled.{comes_first}
use Rattle.spds_nodes.specs.Positions.{var_of}
use Rattle.site_events.proofs.identities.comes_first.Given as goal

abbrev pub invariant-loop-statement : goal.invariant-loop-statement
invariant-loop-statement l = comes_first (var_of l.position) l.code ≡ comes_first (var_of l.position) (drop l.statement-index l.code)
