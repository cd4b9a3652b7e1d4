use Rattle.std.proofs.Common.{◌≡◌, ◌<◌, Some, None, length, slice_get, sym, ap, subst, ◌∙◌, true, false, true≢false, arith}
use Rattle.std.specs.Option.{is_some}
use Rattle.class_rules.specs.Lookups.{own_body}
use Rattle.class_rules.specs.Rows.{Rows}
use Rattle.link_rules.specs.Classes.{methods_of}
use Rattle.link_classes.specs.declared.seen.MethodIn.{MethodIn}
use Rattle.link_classes.specs.Seen.{seen_method}
use Rattle.link_classes.proofs.DeclaredBodies.{declares_found, declares_none, declares_only, method_there, own_below}
use Rattle.link_classes.proofs.bodies.declared_body.Goals as goal

pub bounds-methods-row : goal.bounds-methods-row
bounds-methods-row c = omega (arith, own_below c.args.tree.now.methods c.args.class c.args.number c.in-Some.row c.in-Some.ensures, c.requires)

pub bounds-methods-row-in-Some : goal.bounds-methods-row-in-Some
bounds-methods-row-in-Some c = omega (arith, own_below c.args.tree.now.methods c.args.class c.args.number c.in-Some.row c.in-Some.ensures, c.requires)

pub returns-then-is_some : goal.returns-then-is_some
returns-then-is_some c = λ w key rows methods is_number row.
    let below : c.in-Some.row < length c.args.methods.now = omega (arith, own_below c.args.tree.now.methods c.args.class c.args.number c.in-Some.row c.in-Some.ensures, c.requires) in
    let there : slice_get (methods_of w.classes) c.in-Some.row ≡ Some (seen_method c.index-methods-row.result) =
    subst (λ ms. slice_get ms c.in-Some.row ≡ Some (seen_method c.index-methods-row.result)) (sym methods)
    (method_there c.args.methods.now c.in-Some.row c.index-methods-row.result below c.index-methods-row.is) in
    let own : Some c.in-Some.row ≡ own_body w.rows.methods c.args.class c.args.number =
    subst (λ (r : Rows). Some c.in-Some.row ≡ own_body r.methods c.args.class c.args.number) (sym rows) c.in-Some.ensures in (
      λ e. let same : c.in-Some.row ≡ row = cc (e) in
          declares_found w c.args.class c.args.number key is_number c.in-Some.row (seen_method c.index-methods-row.result) own there
          (subst (λ (m : MethodIn). is_some m.decl.now.body ≡ true) (sym c.index-methods-row.is) (sym c.if-is_some.ensures)) row same,
      λ d. ap Some (declares_only w c.args.class c.args.number key is_number c.in-Some.row (seen_method c.index-methods-row.result) own there row d).0,
    )

pub returns-else-is_some : goal.returns-else-is_some
returns-else-is_some c = λ w key rows methods is_number row.
    let below : c.in-Some.row < length c.args.methods.now = omega (arith, own_below c.args.tree.now.methods c.args.class c.args.number c.in-Some.row c.in-Some.ensures, c.requires) in
    let there : slice_get (methods_of w.classes) c.in-Some.row ≡ Some (seen_method c.index-methods-row.result) =
    subst (λ ms. slice_get ms c.in-Some.row ≡ Some (seen_method c.index-methods-row.result)) (sym methods)
    (method_there c.args.methods.now c.in-Some.row c.index-methods-row.result below c.index-methods-row.is) in
    let own : Some c.in-Some.row ≡ own_body w.rows.methods c.args.class c.args.number =
    subst (λ (r : Rows). Some c.in-Some.row ≡ own_body r.methods c.args.class c.args.number) (sym rows) c.in-Some.ensures in (
      λ e. cc (e),
      λ d. absurd (true≢false (sym (declares_only w c.args.class c.args.number key is_number c.in-Some.row (seen_method c.index-methods-row.result) own there row d).1
          ∙ subst (λ (m : MethodIn). is_some m.decl.now.body ≡ false) (sym c.index-methods-row.is) (sym c.if-is_some.ensures))),
    )

pub returns-in-None : goal.returns-in-None
returns-in-None c = λ w key rows methods is_number row.
    let none : None ≡ own_body w.rows.methods c.args.class c.args.number =
    subst (λ (r : Rows). None ≡ own_body r.methods c.args.class c.args.number) (sym rows) c.in-None.ensures in
    (λ e. cc (e), λ d. absurd (declares_none w c.args.class c.args.number key is_number none row d))
