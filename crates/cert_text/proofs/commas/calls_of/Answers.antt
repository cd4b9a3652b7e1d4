use Rattle.std.proofs.Common.{arith}
use Rattle.cert_rules.specs.Spelled.{FitsCall, call_text}
use Rattle.cert_text.proofs.ListWords.{words_end, words_more, words_none}
use Rattle.cert_text.proofs.NodeWords.{call_one}
use Rattle.cert_text.proofs.commas.calls_of.Goals as goal

pub returns-in_default : goal.returns-in_default
returns-in_default c = words_none call_text FitsCall call_one c.args.words.now c.loop-word.word-index _ (omega arith) c.in_default.ensures

pub loop-word-preserved : goal.loop-word-preserved
loop-word-preserved c =
    words_more call_text FitsCall call_one c.args.words.now c.loop-word.word-index _ c.loop-word.calls.items c.push.new.self.items c.in-Some.call (omega arith) c.in_ok-push.ensures.items c.in-Some.ensures
    c.loop-word.invariant

pub returns : goal.returns
returns c = words_end call_text FitsCall call_one c.args.words.now c.loop-word.word-index c.loop-word.calls.items c.from_vec.result (omega arith) c.from_vec.ensures c.loop-word.invariant
