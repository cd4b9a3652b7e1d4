-- Statements, and the places that they have.
use Rattle.std.specs.Prelude.{ℕ, ◌+◌, ◌*◌, ◌^◌}
use Rattle.link_sites.specs.declared.place.Place.{Place}
use Rattle.link_sites.specs.Places.{before}
use Rattle.site_events.specs.declared.statement.Statement.{Statement}

-- the number by which statements are spread
abbrev pub statement_spread : Statement → ℕ
statement_spread s = s.method * 2 ^ 32 + s.index

-- the statement at which the place is
abbrev pub statement_at : Place → Statement
statement_at place = record { method = place.method; index = place.index }

-- the place before the statement
abbrev pub before_it : Statement → Place
before_it s = before s.method s.index
