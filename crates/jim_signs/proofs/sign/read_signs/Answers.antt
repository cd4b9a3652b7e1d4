use Rattle.jim_signs.proofs.SignLemmas.{all_read, more_read, none_read}
use Rattle.jim_signs.proofs.sign.read_signs.Goals as goal

pub loop-lexeme-preserved : goal.loop-lexeme-preserved
loop-lexeme-preserved c = record {
  within = c.in-Token.ensures.0.spelled.within;
  read = more_read c.args.bytes.now c.loop-lexeme.at c.loop-lexeme.found.names c.put.new.found.names c.loop-lexeme.found.signs.items c.put.new.found.signs.items
      c.in-Token.lexeme.token c.loop-lexeme.invariant.read c.in-Token.ensures.0 c.in_ok-put-in-Token.ensures.names c.in_ok-put-in-Token.ensures.sign c.in_ok-put-in-Token.ensures.below
      c.in_ok-put-in-Token.ensures.known;
}

pub returns-in-End-clause-read : goal.returns-in-End-clause-read
returns-in-End-clause-read c =
    all_read c.args.bytes.now c.loop-lexeme.at c.loop-lexeme.found.names c.loop-lexeme.found.signs.items c.loop-lexeme.invariant.read c.in-End.ensures

pub returns-in-Nothing-clause-error : goal.returns-in-Nothing-clause-error
returns-in-Nothing-clause-error c =
    none_read c.args.bytes.now c.loop-lexeme.at c.in-Nothing.at c.loop-lexeme.found.names c.loop-lexeme.found.signs.items c.loop-lexeme.invariant.read c.in-Nothing.ensures.0
    c.in-Nothing.ensures.1 c.in-Nothing.ensures.2
