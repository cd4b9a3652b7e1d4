use Rattle.std.proofs.Common.{◌≡◌, ◌++◌, ◌<◌, ◌^◌, All, length, map, take}
use Rattle.link_classes.specs.Seen.{IsFieldSeen, seen_fields}
use Rattle.link_classes.proofs.members.push_fields.Given as goal

abbrev pub invariant-loop-decl : goal.invariant-loop-decl
invariant-loop-decl l = record {
  pushed : seen_fields l.fields.items ≡ seen_fields l.fn.fields.items
      ++ map (λ f. record { class = l.number; names = l.class.names.now; decl = f }) (take l.decl-index l.decls);
  few : length l.fields.items < 2 ^ 32;
  known : All (IsFieldSeen l.all) l.fields.items;
}
