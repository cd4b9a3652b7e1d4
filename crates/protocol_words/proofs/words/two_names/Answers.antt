use Rattle.std.proofs.Common.{sym, subst, ◌∙◌, true≢false, lit<}
use Rattle.track_rules.specs.Protocols.{IsName}
use Rattle.protocol_words.proofs.Names.{head_one, once_none, once_some}
use Rattle.lists.proofs.Cutting.{has_between}
use Rattle.protocol_words.proofs.words.two_names.Goals as goal
use Rattle.protocol_words.proofs.words.two_names.Goals.{else-is_name-via-then-is_name+else-is_name-2, else-is_name-via-else-is_name}

pub returns-in_err-first-clause-none : goal.returns-in_err-first-clause-none
returns-in_err-first-clause-none c = rw c.from_residual.ensures (λ a b head.
    once_none 32 c.args.part.now c.in_err-first.ensures.cases (lit< tt) (rw head.is_text (has_between a b 32)))

pub returns-else-is_name-clause-none : goal.returns-else-is_name-clause-none
returns-else-is_name-clause-none c = λ a b head.
    let cut = once_some 32 c.args.part.now (c.in_ok-first.first, c.in_ok-first.second) c.in_ok-first.ensures.cases (lit< tt) in
    let same = head_one c.args.part.now a b c.in_ok-first.first.now c.in_ok-first.second.now head cut.0 cut.1 in
    elim c.else-is_name.branch [
      | else-is_name-via-then-is_name+else-is_name-2 w ↦
          absurd (true≢false (sym (w.is_name-then-is_name.ensures.1 (subst IsName same.1 head.is_second)) ∙ w.if-is_name-2.false))
      | else-is_name-via-else-is_name w ↦ absurd (true≢false (sym (c.is_name.ensures.1 (subst IsName same.0 head.is_first)) ∙ w.if-is_name.false))
    ]
