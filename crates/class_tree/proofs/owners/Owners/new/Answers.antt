use Rattle.std.proofs.Common.{◌<◌, length}
use Rattle.std.proofs.lemmas.List.Elements.{All-contains, Contains-get_or}
use Rattle.class_tree.specs.declared.first_rows.Member.{Member}
use Rattle.class_tree.proofs.Owned.{few_known, others_exact}
use Rattle.class_tree.proofs.owners.Owners.new.Goals as goal

pub new-requires-2-clause-known : goal.new-requires-2-clause-known
new-requires-2-clause-known c = rw (c.as_slice.ensures.value, c.requires.len) (λ k d h.
    let m = (c.in_ok-others.ensures _).0 (Contains-get_or c.in_ok-others.others.items k d h) in
    All-contains (λ (m : Member). m.class < length c.args.classes.now) c.args.members.now _ c.requires.known m.0)

pub returns : goal.returns
returns c =
    let held = c.in_ok-interfaces.ensures in
    let keyed = rw c.as_slice.ensures.value at c.in_ok-new.ensures in
    record {
      served = record {
        others_len = keyed.len;
        others_apart = keyed.apart;
        interfaces_len = held.len;
        known = λ k b. few_known c.args.classes.now c.args.members.now _ held (length c.args.table.now) k b c.requires.len;
        apart = c.requires.apart;
      };
      others = λ k p.
          let same = others_exact c.args.members.now c.in_ok-others.others.items c.args.table.now c.in_ok-interfaces.interfaces k p c.in_ok-others.ensures in
          (λ h. same.0 ((keyed.exact k p).0 h), λ h. (keyed.exact k p).1 (same.1 h));
      interfaces = held;
    }
