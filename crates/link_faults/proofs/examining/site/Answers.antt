use Rattle.std.proofs.Common.{◌≡◌, subst, sym, ◌∙◌}
use Rattle.link_classes.specs.Classes.{ClassTable, IsKnown}
use Rattle.link_classes.specs.Seen.{seen_method}
use Rattle.link_faults.specs.Callees.{IsCalleeIf}
use Rattle.link_faults.proofs.Placed.{call_within, stmt_within}
use Rattle.link_faults.proofs.examining.site.Goals as goal

pub callee_if-requires-clause-within : goal.callee_if-requires-clause-within
callee_if-requires-clause-within c =
    let m = c.args.method.now in
    let s = c.stmt_at-stmt.result.now in
    let within = stmt_within c.args.targets.now.texts m c.args.body.now c.args.index s c.requires.known c.requires.in_body c.stmt_at-stmt.ensures in
    call_within (seen_method m).names s c.plain_call-call.result c.plain_call-call.ensures within

pub returns-clause-site : goal.returns-clause-site
returns-clause-site c =
    let m = c.args.method.now in
    let s = c.stmt_at-stmt.result.now in
    let same : c.classes.result.now ≡ c.args.targets.now = c.classes.ensures ∙ c.in_ok-callee.ensures.same in
    let callee : IsCalleeIf c.args.targets.now.world (seen_method m).names c.plain_call-call.result c.in_ok-callee.callee = c.in_ok-callee.ensures.callee in
    record {
      known = subst (λ (t : ClassTable). IsKnown t.texts m) (sym same) c.requires.known;
      within = stmt_within c.args.targets.now.texts m c.args.body.now c.args.index s c.requires.known c.requires.in_body c.stmt_at-stmt.ensures;
      few = c.requires.few;
      call = c.plain_call-call.ensures;
      callee = subst (λ (t : ClassTable). IsCalleeIf t.world (seen_method m).names c.plain_call-call.result c.in_ok-callee.callee) (sym same) callee;
    }
