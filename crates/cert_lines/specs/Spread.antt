-- The numbers by which facts are spread, where they are looked for. Nothing but speed hangs on them.
use Rattle.std.specs.Prelude.{ℕ, ◌+◌, ◌*◌, ◌%◌, ◌^◌}
use Rattle.link_sites.specs.declared.place.Place.{Place}
use Rattle.link_sites.specs.declared.site.Site.{Site}
use Rattle.link_sites.specs.declared.site.Site.TheVariants as site
use Rattle.spds_rules.specs.Spread.{node_spread}
use Rattle.spds_rules.specs.declared.store.StoreAt.{StoreAt}
use Rattle.cert_rules.specs.declared.fact.Entry.{Entry}
use Rattle.cert_rules.specs.declared.fact.Entry.TheVariants as entry
use Rattle.cert_rules.specs.declared.fact.Fact.{Fact}
use Rattle.cert_rules.specs.declared.fact.Fact.TheVariants.{At, Link, Shared, Met}
use Rattle.cert_rules.specs.declared.line.Side.{Side}
use Rattle.cert_rules.specs.declared.line.Side.TheVariants as side
use Rattle.cert_lines.specs.declared.keys.Known.{Known}
use Rattle.cert_lines.specs.declared.keys.Spot.{Spot}
use Rattle.cert_lines.specs.declared.keys.Word.{Word}

-- a number for two numbers, in their order
abbrev pub mix : ℕ → ℕ → ℕ
mix first second = ((first * 11400714819323198485) % 2 ^ 64 + second) % 2 ^ 64

abbrev pub place_spread : Place → ℕ
place_spread place = place.method * 4294967296 + place.index

abbrev pub site_spread : Site → ℕ
site_spread (site.New place) = place_spread place
site_spread (site.Nested place level) = mix (place_spread place) (level + 1)
site_spread (site.Raised place kind) = mix (place_spread place) (kind + 512)
site_spread (site.Text number) = mix 1 number
site_spread (site.Class number) = mix 2 number

abbrev pub entry_spread : Entry → ℕ
entry_spread entry.Base = 1
entry_spread (entry.Field node field) = mix (node_spread node) field
entry_spread (entry.Call node call) = mix (node_spread node) (place_spread call)

abbrev pub store_spread : StoreAt → ℕ
store_spread store = mix (node_spread store.base) (node_spread store.arg)

-- of a word that is spread so, of the side
abbrev pub sided : Side → ℕ → ℕ
sided side.Field word = word
sided side.Call word = mix word 1

abbrev pub word_spread : Word → ℕ
word_spread w = sided w.side (mix (site_spread w.site) (entry_spread w.entry))

abbrev pub spot_spread : Spot → ℕ
spot_spread s = mix (site_spread s.site) (node_spread s.node)

abbrev pub fact_spread : Fact → ℕ
fact_spread (At side site entry node) = mix (word_spread (record { side = side; site = site; entry = entry })) (node_spread node)
fact_spread (Link side site entry below) = mix (word_spread (record { side = side; site = site; entry = entry })) (entry_spread below)
fact_spread (Shared object arg base at) = mix (spot_spread (record { site = object; node = arg })) (spot_spread (record { site = base; node = at }))
fact_spread (Met object base store) = mix (mix (site_spread object) (site_spread base)) (store_spread store)

-- the fact with the number by which it is spread
abbrev pub known_of : Fact → Known
known_of fact = record { spread = fact_spread fact; fact = fact }
