use Rattle.std.proofs.Common.{◌≡◌, true, false, refl, sym, ap, ◌∙◌, arith}
use Rattle.std.proofs.lemmas.Bool.{false≢true}
use Rattle.jim_stmts.specs.Leads.{lead_at}
use Rattle.jim_build.specs.Splits.{begins_line}
use Rattle.jim_build.proofs.LineLoop.{lines_more, lines_end}
use Rattle.jim_build.proofs.Begins.{line_begins, begins_line-some}
use Rattle.jim_build.proofs.lines.lines.Goals as goal

pub loop-alloc-init : goal.loop-alloc-init
loop-alloc-init c = record {
  through = λ x r h n. record {
    left = x;
    is_next = h;
    stmts_are = rw c.new-stmts.ensures.items refl;
    labels_are = rw (c.new-labels.ensures.items, c.new-stmts.ensures.items) refl;
  };
  no_longer = omega arith;
}

pub loop-alloc-smaller : goal.loop-alloc-smaller
loop-alloc-smaller c =
    let begins : begins_line (lead_at c.loop-alloc.reader) ≡ true = cc in
    omega (arith, begins_line-some c.loop-alloc.reader begins, c.in_ok-line.ensures.shorter)

pub loop-alloc-preserved : goal.loop-alloc-preserved
loop-alloc-preserved c =
    let begins : begins_line (lead_at c.loop-alloc.reader) ≡ true = cc in record {
      through = λ x r h n.
          lines_more x r _ _ _ _ _ _ (c.loop-alloc.invariant.through x r h n)
          (λ e. false≢true (sym n ∙ (sym (ap (λ w. begins_line (lead_at w)) e) ∙ begins))) c.in_ok-line.ensures.stmts c.in_ok-line.ensures.labels c.in_ok-line.ensures.rest;
      no_longer = omega (arith, begins_line-some c.loop-alloc.reader begins, c.in_ok-line.ensures.shorter);
    }

pub returns-clause-stmts : goal.returns-clause-stmts
returns-clause-stmts c = λ x r h n.
    let out : begins_line (lead_at c.loop-alloc.reader) ≡ false = cc in
    rw c.from_vec.ensures
    (lines_end x r _ _ _ (c.loop-alloc.invariant.through x r h n) (λ y w e. false≢true (sym out ∙ (ap (λ w. begins_line (lead_at w)) e ∙ line_begins y w)))).0

pub returns-clause-labels : goal.returns-clause-labels
returns-clause-labels c = λ x r h n.
    let out : begins_line (lead_at c.loop-alloc.reader) ≡ false = cc in
    rw c.from_vec-2.ensures
    (lines_end x r _ _ _ (c.loop-alloc.invariant.through x r h n) (λ y w e. false≢true (sym out ∙ (ap (λ w. begins_line (lead_at w)) e ∙ line_begins y w)))).1

pub returns-clause-rest : goal.returns-clause-rest
returns-clause-rest c = λ x r h n.
    let out : begins_line (lead_at c.loop-alloc.reader) ≡ false = cc in
    (lines_end x r _ _ _ (c.loop-alloc.invariant.through x r h n) (λ y w e. false≢true (sym out ∙ (ap (λ w. begins_line (lead_at w)) e ∙ line_begins y w)))).2
