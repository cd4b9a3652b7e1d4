use Rattle.std.proofs.Common.{sym, subst, ◌∙◌, true≢false, lit<}
use Rattle.track_rules.specs.Protocols.{IsName, head_text}
use Rattle.protocol_words.proofs.Names.{last_none, last_some, row_head, row_one}
use Rattle.lists.proofs.Cutting.{has_between}
use Rattle.protocol_words.proofs.words.row_names.Goals as goal

pub returns-in_err-key-clause-none : goal.returns-in_err-key-clause-none
returns-in_err-key-clause-none c = rw c.from_residual.ensures (λ row is.
    last_none 32 c.args.part.now c.in_err-key.ensures.cases (lit< tt) (rw is.is_text (has_between (head_text row.from row.event) row.to 32)))

pub returns-in_err-from-clause-none : goal.returns-in_err-from-clause-none
returns-in_err-from-clause-none c = rw c.from_residual-in_err-from.ensures (λ row is.
    let cut = last_some 32 c.args.part.now (c.in_ok-key.key, c.in_ok-key.to) c.in_ok-key.ensures.cases (lit< tt) in
    let same = row_one c.args.part.now c.in_ok-key.key.now c.in_ok-key.to.now row is cut.0 cut.1 in
    c.in_err-from.ensures.none row.from row.event (row_head c.in_ok-key.key.now row is.names same.0))

pub returns-else-is_name-clause-none : goal.returns-else-is_name-clause-none
returns-else-is_name-clause-none c = λ row is.
    let cut = last_some 32 c.args.part.now (c.in_ok-key.key, c.in_ok-key.to) c.in_ok-key.ensures.cases (lit< tt) in
    let same = row_one c.args.part.now c.in_ok-key.key.now c.in_ok-key.to.now row is cut.0 cut.1 in
    absurd (true≢false (sym (c.is_name.ensures.1 (subst IsName same.1 is.names.to)) ∙ c.if-is_name.false))
