-- Meets by their numbers, as triples of sites and stores.
use Rattle.std.specs.Prelude.{◌<◌, false, List, length, map, slice_index_or}
use Rattle.link_sites.specs.declared.place.Place.{Place}
use Rattle.link_sites.specs.declared.site.Site.{Site}
use Rattle.link_sites.specs.declared.site.Site.TheVariants as site
use Rattle.spds_laws.specs.Found.{Listed, Triple}
use Rattle.spds_rules.specs.declared.node.Node.{Node}
use Rattle.spds_rules.specs.declared.node.Var.TheVariants.{This}
use Rattle.spds_rules.specs.declared.store.StoreAt.{StoreAt}
use Rattle.spds_tables.specs.declared.numbered.Met.{Met}
use Rattle.spds_tables.specs.Names.{Names}

-- what numbers past the end stand for
abbrev pub no_place : Place
no_place = record { method = 0; index = 0; raised = false }

abbrev pub no_node : Node
no_node = record { place = no_place; var = This }

abbrev pub no_site : Site
no_site = site.Text 0

abbrev pub no_store_at : StoreAt
no_store_at = record { place = no_place; field = 0; base = no_node; arg = no_node }

-- the triple that a meet stands for
abbrev pub triple_of : Names → Met → Triple
triple_of names m = record {
  object = slice_index_or names.sites m.object no_site;
  base = slice_index_or names.sites m.base no_site;
  store = slice_index_or names.stores m.store no_store_at;
}

-- those of a list
abbrev pub triples_of : Names → List Met → List Triple
triples_of names mets = map (triple_of names) mets

-- the meets of a list, as a relation
abbrev pub MetIn : Names → List Met → Site → Site → StoreAt → Type 0
MetIn names mets = Listed (triples_of names mets)

-- the numbers of a meet stand for something
pub record IsInRange (names : Names) (m : Met) : Type 0 where
  pub object : m.object < length names.sites
  pub base : m.base < length names.sites
  pub store : m.store < length names.stores
