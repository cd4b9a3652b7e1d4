use Rattle.std.proofs.Common.{List, ℕ, subst}
use Rattle.std.proofs.lemmas.Result.{on_ok_weaker}
use Rattle.link_classes.specs.Classes.{ClassTable}
use Rattle.link_classes.specs.Seen.{seen_method}
use Rattle.jim_link.specs.Made.{AddsMethod, IsMethodOf}
use Rattle.jim_link.proofs.Making.{made_more}
use Rattle.jim_link.proofs.OfRows.{row_accepted, row_bodied, row_numbered}
use Rattle.jim_link.proofs.made.add_row.Goals as goal

pub method-method-requires : goal.method-method-requires
method-method-requires c = rw c.classes.ensures ((c.requires.reached.each c.args.row).0 c.requires.row).0

pub add-requires-clause-body : goal.add-requires-clause-body
add-requires-clause-body c =
    let r = c.requires in
    let m = seen_method c.method-method.result in
    let there = subst (λ (t : ClassTable). IsMethodOf t.world c.args.row m) c.classes.ensures c.method-method.ensures.there in
    row_bodied c.args.targets.now.world r.rows r.accepted c.args.numbering.now r.reached c.args.row m r.row there

pub add-requires-clause-accepted : goal.add-requires-clause-accepted
add-requires-clause-accepted c =
    let r = c.requires in
    let m = seen_method c.method-method.result in
    let there = subst (λ (t : ClassTable). IsMethodOf t.world c.args.row m) c.classes.ensures c.method-method.ensures.there in
    row_accepted c.args.targets.now.world r.rows r.accepted c.args.numbering.now r.reached c.args.row m r.row there

pub add-requires-clause-numbered : goal.add-requires-clause-numbered
add-requires-clause-numbered c =
    let r = c.requires in
    let m = seen_method c.method-method.result in
    let there = subst (λ (t : ClassTable). IsMethodOf t.world c.args.row m) c.classes.ensures c.method-method.ensures.there in
    row_numbered c.args.targets.now.world r.rows r.accepted c.args.numbering.now r.reached c.args.row m r.row there

pub returns-clause-added : goal.returns-clause-added
returns-clause-added c =
    let w = c.args.targets.now.world in
    let rows = c.args.numbering.now in
    let m = seen_method c.method-method.result in
    let there = subst (λ (t : ClassTable). IsMethodOf t.world c.args.row m) c.classes.ensures c.method-method.ensures.there in
    on_ok_weaker c.add.result
    (λ adds done made. made_more w rows done c.args.row m c.args.made.now c.add.new.made there
    (subst (λ (t : List ℕ). AddsMethod w rows t m c.args.made.now c.add.new.made) c.in_ok-text.ensures adds) made)
    c.add.ensures.added
