use Rattle.std.proofs.Common.{◌≡◌, ◌∙◌, List, refl, sym, length, append-nil}
use Rattle.std.proofs.lemmas.Bool.{false≢true}
use Rattle.jim_ast.specs.declared.syntax.Stmt.{Stmt}
use Rattle.jim_ast.specs.declared.syntax.Label.{Label}
use Rattle.jim_stmts.specs.Meanings.{id}
use Rattle.jim_build.proofs.Parts.{line_label, line_stmt}
use Rattle.jim_build.proofs.lines.line.Goals as goal

pub returns-then-begins_label-clause-stmts : goal.returns-then-begins_label-clause-stmts
returns-then-begins_label-clause-stmts c = λ x r h.
    let begins = c.begins_label.ensures.0 c.if-begins_label.true in
    let l = line_label x _ r h begins.0 begins.1 in
    rw l.3 (sym (append-nil c.args.stmts.now.items))

pub returns-then-begins_label-clause-labels : goal.returns-then-begins_label-clause-labels
returns-then-begins_label-clause-labels c = λ x r h.
    let begins = c.begins_label.ensures.0 c.if-begins_label.true in
    let l = line_label x _ r h begins.0 begins.1 in
    let named : c.name-name.result ≡ id l.0 = c.name-name.ensures.name _ _ l.2 in
    let index : c.len.result ≡ length c.args.stmts.now.items = c.len.ensures ∙ c.args.stmts.now.ok.0 in
    rw (c.in_ok-push.ensures.items, c.in_ok-label.ensures, l.4 (length c.args.stmts.now.items), named, index) (refl {A = List Label})

pub returns-then-begins_label-clause-rest : goal.returns-then-begins_label-clause-rest
returns-then-begins_label-clause-rest c = λ x r h.
    let begins = c.begins_label.ensures.0 c.if-begins_label.true in
    let l = line_label x _ r h begins.0 begins.1 in
    c.skip.ensures.rest _ _ (c.name-name.ensures.rest _ _ l.2)

pub returns-clause-stmts : goal.returns-clause-stmts
returns-clause-stmts c = λ x r h.
    let l = line_stmt x _ r h (λ k. false≢true (sym c.if-begins_label.false ∙ c.begins_label.ensures.1 k)) in
    rw (c.in_ok-push-2.ensures.items, l.2, c.in_ok-stmt.ensures.stmt l.0 r l.1) (refl {A = List Stmt})

pub returns-clause-labels : goal.returns-clause-labels
returns-clause-labels c = λ x r h.
    let l = line_stmt x _ r h (λ k. false≢true (sym c.if-begins_label.false ∙ c.begins_label.ensures.1 k)) in
    rw (l.3 (length c.args.stmts.now.items)) (sym (append-nil c.args.labels.now.items))

pub returns-clause-rest : goal.returns-clause-rest
returns-clause-rest c = λ x r h.
    let l = line_stmt x _ r h (λ k. false≢true (sym c.if-begins_label.false ∙ c.begins_label.ensures.1 k)) in
    c.in_ok-stmt.ensures.rest l.0 r l.1
