use Rattle.std.proofs.Common.{map, ap, ◌∙◌, arith}
use Rattle.std.proofs.lemmas.List.{length-map, take_all}
use Rattle.link_program.specs.Parts.{linked_key}
use Rattle.link_rules.specs.Classes.{methods_of}
use Rattle.link_rules.specs.Linked.{key_of}
use Rattle.jim_link.proofs.MemberFacts.{mapped_taken}
use Rattle.jim_link.proofs.members.keys.Goals as goal

pub loop-row-init : goal.loop-row-init
loop-row-init c = ap (map linked_key) c.new-keys.ensures.items

pub loop-row-preserved : goal.loop-row-preserved
loop-row-preserved c =
    mapped_taken linked_key (map key_of (methods_of c.args.classes.now.world.classes)) c.loop-row.row c.in_ok-key_entry.field-0 c.loop-row.keys.items c.push.new.self.items
    c.in_ok-key_entry.ensures c.loop-row.invariant c.in_ok-push.ensures.items

pub returns : goal.returns
returns c =
    let methods = methods_of c.args.classes.now.world.classes in
    ap (map linked_key) c.from_vec.ensures ∙ c.loop-row.invariant
    ∙ take_all c.loop-row.row (map key_of methods) (omega (arith, c.loop-row-test.false, c.method_count-row-end.ensures, length-map methods key_of))
