use Rattle.std.proofs.Common.{◌≡◌, Some, slice_get, sym, ap, ◌∙◌, true≢false}
use Rattle.lists.specs.Lists.{Adds}
use Rattle.lists.proofs.Places.{Has-adds_itself}
use Rattle.post_star.specs.Jobs.{Job}
use Rattle.track_tables.proofs.Beginning.{begun_nowhere, begun_one}
use Rattle.track_tables.proofs.Growing.{kept_adds}
use Rattle.weight_laws.specs.declared.rel.Rel.{Rel}
use Rattle.track_tables.proofs.starts.begin.Goals as goal

pub returns-in_ok-add : goal.returns-in_ok-add
returns-in_ok-add c =
    let old = c.args.growth.now.reached.keys in
    let new = c.add.new.self.keys in
    let number = c.args.number in
    let adds : Adds old number new = c.in_ok-add.ensures.keys in
    let ok = c.in_ok-add_start.ensures.ok in
    begun_one c.args.linked.now c.args.nodes.now c.args.weight c.args.growth.now (record { work = c.add_start.new.self; reached = c.add.new.self; marks = c.args.growth.now.marks }) number c.in-Some.node
    (sym c.in-Some.ensures) (c.is_node.ensures.0 c.if-is_node.true) (ap (λ (j : Job Rel). j.steps) ok) (ap (λ (j : Job Rel). j.last) ok) (ap (λ (j : Job Rel). j.rules) ok)
    (ap (λ (j : Job Rel). j.starts) ok) (kept_adds old new number adds) (Has-adds_itself old new number adds)

pub returns-else-is_node : goal.returns-else-is_node
returns-else-is_node c =
    begun_nowhere c.args.linked.now c.args.nodes.now c.args.weight c.args.growth.now c.args.number (λ n there node.
    let found : slice_get c.args.nodes.now c.args.number ≡ Some c.in-Some.node = sym c.in-Some.ensures in
    let same : n ≡ c.in-Some.node = cc in
    true≢false (sym (c.is_node.ensures.1 (rw same at node)) ∙ c.if-is_node.false))

pub returns-in_default : goal.returns-in_default
returns-in_default c =
    begun_nowhere c.args.linked.now c.args.nodes.now c.args.weight c.args.growth.now c.args.number (λ n there node.
    c.in_default.not-Some n (c.node_at.ensures ∙ there))
