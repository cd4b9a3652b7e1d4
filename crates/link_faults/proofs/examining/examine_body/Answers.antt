use Rattle.std.proofs.Common.{◌≡◌, length, refl, subst, ◌∙◌}
use Rattle.jim_ast.specs.declared.syntax.Body.{Body}
use Rattle.link_classes.specs.Classes.{ClassTable}
use Rattle.link_classes.specs.Seen.{seen_method}
use Rattle.link_faults.specs.Progress.{IsExaminedTo, RefusesBody}
use Rattle.link_faults.specs.Order.{IsFirstIn}
use Rattle.link_faults.proofs.Steps.{examined_all}
use Rattle.link_faults.proofs.examining.examine_body.Goals as goal

pub returns-clause-examined : goal.returns-clause-examined
returns-clause-examined c =
    let m = seen_method c.args.method.now in
    let e = c.in_ok-examined.examined in
    let same : c.classes.result.now ≡ c.args.targets.now = c.classes.ensures ∙ c.in_ok-examined.ensures.same in
    let stmts = subst (λ (b : Body). IsExaminedTo c.args.targets.now.world m b (length b.stmts) e) c.in_ok-body.ensures c.in_ok-examined.ensures.examined in
    let beside = subst (λ (t : ClassTable). IsFirstIn (RefusesBody t.world m) c.fault_beside-beside.result) same c.fault_beside-beside.ensures in
    examined_all c.args.targets.now.world m c.args.body.now c.requires.in_body e (record { fault = c.earlier-examined.result; rows = e.rows; touched = e.touched }) c.fault_beside-beside.result
    stmts beside c.earlier-examined.ensures refl refl
