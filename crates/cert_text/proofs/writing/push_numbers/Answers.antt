use Rattle.std.proofs.Common.{string_bytes}
use Rattle.cert_text.proofs.LineWords.{numbers_pushed, on_ok}
use Rattle.cert_text.proofs.writing.push_numbers.Goals as goal

pub returns : goal.returns
returns c =
    on_ok c.push_more_numbers.result
    (numbers_pushed c.args.numbers.now c.in-Some.first.now c.in-Some.others.now (string_bytes c.args.text.now) (string_bytes c.write.new.self) (string_bytes c.push_more_numbers.new.text)
    c.in-Some.ensures.cases.0 c.in_ok-write.ensures.bytes) c.push_more_numbers.ensures
