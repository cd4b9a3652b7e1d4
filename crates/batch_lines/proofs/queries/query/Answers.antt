use Rattle.std.proofs.Common.{◌<◌, length, sym, subst}
use Rattle.std.specs.Str.{IsUtf8}
use Rattle.std.specs.Fmt.{decimal}
use Rattle.lists.specs.Lists.{Has}
use Rattle.lists.proofs.Cutting.{has_between}
use Rattle.batch_lines.proofs.Spelled.{first_word, next_words}
use Rattle.batch_lines.proofs.queries.query.Goals as goal

pub returns-in_default-clause-none : goal.returns-in_default-clause-none
returns-in_default-clause-none c = λ q is. c.in_default.ensures.none (subst (λ l. Has l 32) (sym is.in_order) (has_between (decimal q.index) _ 32))

pub returns-in_default-split_once-clause-none : goal.returns-in_default-split_once-clause-none
returns-in_default-split_once-clause-none c = λ q is.
    let first = first_word c.args.line.now q is c.in-Some.index.now c.in-Some.rest.now c.in-Some.ensures.some c.in-Some.ensures.first in
    c.in_default-split_once.ensures.none (subst (λ l. Has l 32) first.1 (has_between q.local q.method 32))

pub returns-in_default-2-clause-none : goal.returns-in_default-2-clause-none
returns-in_default-2-clause-none c = λ q is.
    let first = first_word c.args.line.now q is c.in-Some.index.now c.in-Some.rest.now c.in-Some.ensures.some c.in-Some.ensures.first in
    c.in_default-2.not-Some q.index (c.in_ok-index.ensures.only q.index is.small (sym first.0))

pub returns-in_default-text_of-clause-none : goal.returns-in_default-text_of-clause-none
returns-in_default-text_of-clause-none c = λ q is.
    let words = next_words c.args.line.now q is c.in-Some.index.now c.in-Some.rest.now c.in-Some-split_once.local.now c.in-Some-split_once.method.now c.in-Some.ensures.some c.in-Some.ensures.first
    c.in-Some-split_once.ensures.some c.in-Some-split_once.ensures.first in
    c.in_default-text_of.ensures.none (subst (λ l. 0 < length l) words.0 is.is_local.0) (subst IsUtf8 words.0 is.is_local.1)

pub returns-in_default-text_of-2-clause-none : goal.returns-in_default-text_of-2-clause-none
returns-in_default-text_of-2-clause-none c = λ q is.
    let words = next_words c.args.line.now q is c.in-Some.index.now c.in-Some.rest.now c.in-Some-split_once.local.now c.in-Some-split_once.method.now c.in-Some.ensures.some c.in-Some.ensures.first
    c.in-Some-split_once.ensures.some c.in-Some-split_once.ensures.first in
    c.in_default-text_of-2.ensures.none (subst (λ l. 0 < length l) words.1 is.is_method.0) (subst IsUtf8 words.1 is.is_method.1)
