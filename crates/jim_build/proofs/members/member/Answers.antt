use Rattle.std.proofs.Common.{List, refl, sym, ◌∙◌, append-nil}
use Rattle.std.proofs.lemmas.Bool.{false≢true}
use Rattle.jim_ast.specs.declared.syntax.FieldDecl.{FieldDecl}
use Rattle.jim_ast.specs.declared.syntax.MethodDecl.{MethodDecl}
use Rattle.jim_build.proofs.Parts.{head_part, tail_part, member_parts, member_field, member_method}
use Rattle.jim_build.proofs.members.member.Goals as goal

pub returns-then-is_at-clause-fields : goal.returns-then-is_at-clause-fields
returns-then-is_at-clause-fields c = λ x r h.
    let tail = c.member_head-head.ensures.rest (head_part x) (tail_part x r) (h ∙ member_parts x r) in
    let f = member_field x _ r tail (c.is_at.ensures.0 c.if-is_at.true) in
    rw (c.in_ok-push.ensures.items, f.2, c.member_head-head.ensures.head (head_part x) (tail_part x r) (h ∙ member_parts x r)) (refl {A = List FieldDecl})

pub returns-then-is_at-clause-methods : goal.returns-then-is_at-clause-methods
returns-then-is_at-clause-methods c = λ x r h.
    let tail = c.member_head-head.ensures.rest (head_part x) (tail_part x r) (h ∙ member_parts x r) in
    let f = member_field x _ r tail (c.is_at.ensures.0 c.if-is_at.true) in
    rw f.3 (sym (append-nil c.args.methods.now.items))

pub returns-then-is_at-clause-rest : goal.returns-then-is_at-clause-rest
returns-then-is_at-clause-rest c = λ x r h.
    let tail = c.member_head-head.ensures.rest (head_part x) (tail_part x r) (h ∙ member_parts x r) in
    let f = member_field x _ r tail (c.is_at.ensures.0 c.if-is_at.true) in
    c.skip.ensures.rest _ _ f.1

pub returns-clause-fields : goal.returns-clause-fields
returns-clause-fields c = λ x r h.
    let tail = c.member_head-head.ensures.rest (head_part x) (tail_part x r) (h ∙ member_parts x r) in
    let m = member_method x _ r tail (λ e. false≢true (sym c.if-is_at.false ∙ c.is_at.ensures.1 e)) in
    rw m.2 (sym (append-nil c.args.fields.now.items))

pub returns-clause-methods : goal.returns-clause-methods
returns-clause-methods c = λ x r h.
    let tail = c.member_head-head.ensures.rest (head_part x) (tail_part x r) (h ∙ member_parts x r) in
    let m = member_method x _ r tail (λ e. false≢true (sym c.if-is_at.false ∙ c.is_at.ensures.1 e)) in
    rw (c.in_ok-push-2.ensures.items, m.3, c.in_ok-method.ensures.method m.0 r m.1, c.member_head-head.ensures.head (head_part x) (tail_part x r) (h ∙ member_parts x r)) (refl {A = List MethodDecl})

pub returns-clause-rest : goal.returns-clause-rest
returns-clause-rest c = λ x r h.
    let tail = c.member_head-head.ensures.rest (head_part x) (tail_part x r) (h ∙ member_parts x r) in
    let m = member_method x _ r tail (λ e. false≢true (sym c.if-is_at.false ∙ c.is_at.ensures.1 e)) in
    c.in_ok-method.ensures.rest m.0 r m.1
