use Rattle.std.proofs.Common.{◌≡◌, List, ℕ, sym, subst}
use Rattle.std.specs.Prelude.{codes}
use Rattle.std.proofs.lemmas.Result.{on_ok_weaker}
use Rattle.lists.specs.Lists.{Has}
use Rattle.link_classes.specs.Classes.{ClassTable}
use Rattle.link_classes.specs.Seen.{seen_method}
use Rattle.link_rules.specs.declared.refusal.LinkKind.{LinkKind}
use Rattle.link_rules.specs.Classes.{DeclaredMethod}
use Rattle.link_rules.specs.Reach.{IsTarget, RefusesAt}
use Rattle.link_rules.specs.Root.{root_of}
use Rattle.jim_link.specs.Made.{AddsMethod}
use Rattle.jim_link.proofs.Making.{made_whole}
use Rattle.jim_link.proofs.OfRows.{initialized_below, root_accepted, root_numbered}
use Rattle.jim_link.proofs.made.add_root.Goals as goal

pub root-requires : goal.root-requires
root-requires c = rw c.classes-classes.ensures (initialized_below c.args.targets.now.world c.args.initialized.now c.requires.known c.requires.initialized)

pub add-requires-clause-accepted : goal.add-requires-clause-accepted
add-requires-clause-accepted c =
    let r = c.requires in
    let w = c.args.targets.now.world in
    let m = seen_method c.root_method.result in
    let seen = subst (λ (t : ClassTable). m ≡ root_of t.world c.args.initialized.now) c.classes-classes.ensures (c.root_method.ensures.seen c.args.initialized.now c.in_ok-root.ensures) in
    subst (λ (d : DeclaredMethod). (index : ℕ) (kind : LinkKind) → RefusesAt w d index kind → ⊥) (sym seen)
    (root_accepted w r.rows r.accepted c.args.numbering.now r.reached c.args.initialized.now r.initialized)

pub add-requires-clause-numbered : goal.add-requires-clause-numbered
add-requires-clause-numbered c =
    let r = c.requires in
    let w = c.args.targets.now.world in
    let m = seen_method c.root_method.result in
    let seen = subst (λ (t : ClassTable). m ≡ root_of t.world c.args.initialized.now) c.classes-classes.ensures (c.root_method.ensures.seen c.args.initialized.now c.in_ok-root.ensures) in
    subst (λ (d : DeclaredMethod). (index row : ℕ) → IsTarget w d index row → Has c.args.numbering.now row) (sym seen)
    (root_numbered w r.rows r.accepted c.args.numbering.now r.reached c.args.initialized.now r.initialized)

pub returns-clause-made : goal.returns-clause-made
returns-clause-made c =
    let w = c.args.targets.now.world in
    let rows = c.args.numbering.now in
    let m = seen_method c.root_method.result in
    let seen = subst (λ (t : ClassTable). m ≡ root_of t.world c.args.initialized.now) c.classes-classes.ensures (c.root_method.ensures.seen c.args.initialized.now c.in_ok-root.ensures) in
    on_ok_weaker c.add.result
    (λ adds. made_whole w rows c.args.initialized.now c.args.made.now c.add.new.made
    (subst (λ (d : DeclaredMethod). AddsMethod w rows (codes "root") d c.args.made.now c.add.new.made) seen
    (subst (λ (t : List ℕ). AddsMethod w rows t m c.args.made.now c.add.new.made) c.in_ok-text.ensures adds)) c.requires.made)
    c.add.ensures.added
