use Rattle.std.proofs.Common.{◌≡◌, List, ◌∙◌, subst}
use Rattle.lists.proofs.Places.{slice_get-there}
use Rattle.link_rules.specs.declared.code.Code.{Code}
use Rattle.link_indexes.specs.declared.method.MethodCode.{MethodCode}
use Rattle.narrow_rules.specs.Narrowed.{IsNarrowedBody}
use Rattle.link_narrow.specs.Bodies.{IsBodyOf}
use Rattle.link_narrow.proofs.Whole.{body_found, body_lost, if_ok_both}
use Rattle.link_narrow.proofs.narrowing.body_of.Goals as goal

pub returns-in-Some : goal.returns-in-Some
returns-in-Some c =
    let p = c.args.linked.now in
    let kept = c.args.named.now in
    let number = c.args.method in
    let m = slice_get-there p.methods number c.requires.there in
    let codes = c.code-codes.ensures m.0 m.1 in
    let catches = c.catches.ensures m.0 m.1 in
    if_ok_both (λ (b : MethodCode). IsNarrowedBody kept number c.code-codes.result.now b.code) (λ (b : MethodCode). b.catches ≡ c.catches.result.now) (IsBodyOf p kept number)
    c.narrowed_method.result c.narrowed_method.ensures.code c.narrowed_method.ensures.catches
    (λ b code handlers. body_found p kept c.args.found.now.keys number c.in-Some.field-0 m.0 b c.requires.reached ((c.find.ensures c.in-Some.field-0).0 c.in-Some.is) m.1
    (subst (λ (xs : List Code). IsNarrowedBody kept number xs b.code) codes code) (handlers ∙ catches))

pub returns-in-None : goal.returns-in-None
returns-in-None c = body_lost c.args.linked.now c.args.named.now c.args.found.now.keys c.args.method c.lost_method.result c.requires.reached
    (λ has. let some = (c.find.ensures has.0).1 has.1 in let none = c.in-None.is in cc (some, none)) c.lost_method.ensures.code c.lost_method.ensures.catches
