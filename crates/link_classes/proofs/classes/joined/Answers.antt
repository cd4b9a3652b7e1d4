use Rattle.std.proofs.Common.{sym, subst}
use Rattle.class_rules.specs.Rows.{Rows}
use Rattle.link_rules.specs.World.{AreRows}
use Rattle.link_classes.specs.Held.{world_of}
use Rattle.link_classes.specs.RowTables.{IsSound}
use Rattle.link_classes.specs.Seen.{seen_classes}
use Rattle.link_classes.proofs.classes.joined.Goals as goal

pub invariant_of-result : goal.invariant_of-result
invariant_of-result c =
    let order = c.args.order in
    let entry = c.args.entry.now in
    let tables = c.requires.tables in
    let found = c.requires.found in
    record {
      order = c.requires.order;
      rows = subst (AreRows (seen_classes order.classes.items)) (sym found.tree) tables.rows;
      sound = subst (λ (r : Rows). IsSound (world_of order r entry)) (sym found.tree) (found.sound entry);
      methods = tables.methods.methods;
      few_methods = tables.methods.few;
      known = tables.methods.known;
      method_keys = tables.methods.keys;
      fields = tables.fields.fields;
      few_fields = tables.fields.few;
      known_fields = tables.fields.known;
      field_keys = tables.fields.keys;
      root = c.requires.root;
      main = found.main entry c.requires.root;
      initializer = found.initializer entry c.requires.root;
      root_names = found.root entry c.requires.root;
    }
