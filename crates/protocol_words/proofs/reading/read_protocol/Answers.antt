use Rattle.protocol_words.specs.Spellings.{named_protocol}
use Rattle.std.proofs.lemmas.Result.{err_from_is_err_and}
use Rattle.protocol_words.proofs.Counting.{crowded_refused, few_names, form_of}
use Rattle.protocol_words.proofs.reading.read_protocol.Goals as goal

pub returns-in_default-clause-err : goal.returns-in_default-clause-err
returns-in_default-clause-err c =
    let named = named_protocol c.in_ok-spelling.spelling in
    let numbering = c.in_ok-numbered.ensures.ok in
    record {
      named = named;
      spelled = c.in_ok-spelling.ensures.ok;
      few = few_names named c.in_ok-numbered.numbered.states numbering.states numbering.few;
      unknown = c.in_default.ensures.none;
    }

pub of-requires : goal.of-requires
of-requires c = form_of c.args.word.now (named_protocol c.in_ok-spelling.spelling) c.in-Some.class c.in_ok-numbered.numbered c.in_ok-spelling.ensures.ok c.in_ok-numbered.ensures.ok

pub returns-in_err-numbered-clause-err : goal.returns-in_err-numbered-clause-err
returns-in_err-numbered-clause-err c =
    let told = err_from_is_err_and c.from_residual-in_err-numbered.result c.from_residual-in_err-numbered.ensures.1 in
    rw (told.1, told.2) (crowded_refused c.args.linked.now c.args.word.now (named_protocol c.in_ok-spelling.spelling) c.in_ok-spelling.ensures.ok
    c.in_err-numbered.field-0.0 c.in_err-numbered.ensures.err)
