-- More meets keep what was derived over fewer.
use Rattle.std.proofs.Common.{ℕ, List}
use Rattle.link_rules.specs.Linked.{LinkedProgram}
use Rattle.link_sites.specs.declared.place.Place.{Place}
use Rattle.link_sites.specs.declared.site.Site.{Site}
use Rattle.spds_rules.specs.declared.node.Node.{Node}
use Rattle.spds_rules.specs.declared.store.StoreAt.{StoreAt}
use Rattle.spds_rules.specs.Demand.{Asked}
use Rattle.spds_rules.specs.Systems.{InCalls, InFields, MayStore, StoresUnder}

module _ (p : LinkedProgram) (q : Asked) (Few More : Site → Site → StoreAt → Type 0)
    (more : (o base : Site) (s : StoreAt) → Few o base s → More o base s) where
  -- words
  pub fields_more : (o : Site) {n : Node} {word : List ℕ} → InFields p q Few o n word → InFields p q More o n word
  fields_more o (InFields.start st) = InFields.start st
  fields_more o (InFields.keep e k c) = InFields.keep e k (fields_more o c)
  fields_more o (InFields.load e c) = InFields.load e (fields_more o c)
  fields_more o (InFields.store {base} {s} m st c) = InFields.store (more o base s m) st (fields_more o c)

  -- call strings
  pub calls_more : (o : Site) {n : Node} {string : List Place} → InCalls p q Few o n string → InCalls p q More o n string
  calls_more o (InCalls.start st is) = InCalls.start st is
  calls_more o (InCalls.keep e k c) = InCalls.keep e k (calls_more o c)
  calls_more o (InCalls.push e c) = InCalls.push e (calls_more o c)
  calls_more o (InCalls.pop e c) = InCalls.pop e (calls_more o c)
  calls_more o (InCalls.jump e c is) = InCalls.jump e (calls_more o c) is
  calls_more o (InCalls.store {base} {s} m st c is) = InCalls.store (more o base s m) st (calls_more o c) is

  -- what may be stored
  pub stores_more : (o base : Site) (s : StoreAt) (string : List Place) → StoresUnder p q Few o base s string → StoresUnder p q More o base s string
  stores_more o base s string h = record {
    store = h.store;
    at_arg = calls_more o h.at_arg;
    at_base = calls_more base h.at_base;
    is_base = fields_more base h.is_base;
    has = h.has;
  }

  pub may_store_more : (o base : Site) (s : StoreAt) → MayStore p q Few o base s → MayStore p q More o base s
  may_store_more o base s m = (m.0, stores_more o base s m.0 m.1)
