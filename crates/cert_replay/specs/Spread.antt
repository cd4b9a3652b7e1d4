-- The numbers by which pairs of nodes are spread, where they are looked for. Nothing but speed hangs on them.
use Rattle.std.specs.Prelude.{ℕ, ◌+◌, ◌*◌, ◌/◌}
use Rattle.spds_rules.specs.Spread.{node_spread}
use Rattle.cert_replay.specs.declared.edges.Joined.{Joined}

abbrev pub joined_spread : Joined → ℕ
joined_spread j = node_spread j.from / 4 * 3 + node_spread j.to / 4
