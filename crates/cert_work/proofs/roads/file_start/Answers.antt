use Rattle.std.proofs.Common.{◌≡◌, Some, rules}
use Rattle.lists.specs.Groups.{found_at}
use Rattle.lists.specs.Lists.{Has}
use Rattle.spds_rules.specs.declared.node.Node.{Node}
use Rattle.spds_rules.specs.Nodes.{IsNode, site_of}
use Rattle.cert_lines.specs.contracts.keys.OriginPartialEq.TheImpl as origin
use Rattle.cert_lines.specs.declared.keys.Origin.{Origin}
use Rattle.cert_work.proofs.Filed.{start_one}
use Rattle.cert_work.proofs.roads.file_start.Goals as goal

pub returns : goal.returns
returns c =
    let is : IsNode c.args.linked.now c.args.node = c.is_node.ensures.0 (search rules) in
    let at : site_of c.args.node ≡ Some c.in-Some.site = cc (c.site_of.ensures, c.in-Some.is) in
    start_one c.args.linked.now c.args.node c.in-Some.site is at (λ (k : Origin) (n : Node). Has (found_at origin.eq-value.it c.args.files.now k) n)
    (λ (k : Origin) (n : Node). Has (found_at origin.eq-value.it c.add.new.self k) n) c.in_ok-add.ensures.has
