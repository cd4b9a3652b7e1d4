use Rattle.std.proofs.Common.{◌≡◌, ◌++◌, ◌<◌, ◌^◌, All, length, map, take}
use Rattle.link_rules.specs.Classes.{class_name}
use Rattle.link_classes.specs.Classes.{IsKnown}
use Rattle.link_classes.specs.Seen.{seen_class, seen_methods}
use Rattle.link_classes.proofs.members.push_methods.Given as goal

abbrev pub invariant-loop-decl : goal.invariant-loop-decl
invariant-loop-decl l = record {
  pushed : seen_methods l.methods.items ≡ seen_methods l.fn.methods.items
      ++ map (λ m. record { class = l.number; owner = class_name (seen_class l.class); names = l.class.names.now; decl = m }) (take l.decl-index l.decls);
  few : length l.methods.items < 2 ^ 32;
  known : All (IsKnown l.all) l.methods.items;
}
