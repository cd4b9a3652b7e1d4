-- Places that are noted for sites.
use Rattle.std.specs.Prelude.{ℕ}
use Rattle.lists.specs.declared.groups.Keyed.{Keyed}

-- the place, noted for the site
abbrev pub noted_at : ℕ → ℕ → Keyed ℕ ℕ
noted_at place site = record { key = site; item = place }
