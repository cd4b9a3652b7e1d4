use Rattle.std.proofs.Common.{ℕ, subst}
use Rattle.std.specs.Prelude.{◌↔◌}
use Rattle.lists.specs.Lists.{Has}
use Rattle.jim_ast.specs.declared.syntax.Mode.{Mode}
use Rattle.link_rules.specs.Targets.{MayRun}
use Rattle.link_faults.proofs.callees.Callee.finds_none.Goals as goal

pub selects_none-requires-clause-rows : goal.selects_none-requires-clause-rows
selects_none-requires-clause-rows c =
    let w = c.args.classes.now.world in
    let k = c.args.self.now in
    subst (λ (mode : Mode). (row : ℕ) → Has k.rows.items row ↔ MayRun w mode k.class k.key row) c.in-Special.is c.requires.rows
