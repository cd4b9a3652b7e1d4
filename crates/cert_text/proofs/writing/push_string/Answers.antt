use Rattle.std.proofs.Common.{string_bytes}
use Rattle.cert_text.proofs.LineWords.{calls_pushed, on_ok}
use Rattle.cert_text.proofs.writing.push_string.Goals as goal

pub returns : goal.returns
returns c =
    on_ok c.push_more_calls.result
    (calls_pushed c.args.string.now c.in-Some.first.now c.in-Some.others.now (string_bytes c.args.text.now) (string_bytes c.push_call.new.text) (string_bytes c.push_more_calls.new.text)
    c.in-Some.ensures.cases.0 c.in_ok-push_call.ensures) c.push_more_calls.ensures
