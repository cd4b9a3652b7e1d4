use Rattle.std.proofs.Common.{◌≡◌, [], ◌∷◌, ◌++◌, length, rules, append_assoc, arith, append-nil}
use Rattle.jim_text.specs.Lexes.{StopsAt, Lexes}
use Rattle.jim_text.proofs.ReadLemmas.{stop_no_list, read_spelled, read_order, order_few}
use Rattle.jim_text.proofs.lexer.lex.Goals as goal
use Rattle.jim_text.proofs.lexer.lex.Goals.{In-End}

pub loop-lexeme-preserved : goal.loop-lexeme-preserved
loop-lexeme-preserved c =
    let first = c.in-Token.lexeme.token in
    let next = c.in-Token.ensures.0 in
    let pushed : c.push.new.self.items ≡ c.loop-lexeme.tokens.items ++ (first ∷ []) = search rules in
    record {
      within = next.spelled.within;
      read = λ to tokens more. rw (pushed, append_assoc) (c.loop-lexeme.invariant.read to (first ∷ tokens) (next.reads to tokens more));
    }

-- all bytes are read
whole : (c : In-End) → Lexes c.args.bytes.now c.loop-lexeme.tokens.items
whole c = rw append-nil at (c.loop-lexeme.invariant.read (length c.args.bytes.now) [] c.in-End.ensures)

pub returns-in-End-clause-tokens : goal.returns-in-End-clause-tokens
returns-in-End-clause-tokens c = whole c

pub returns-in-End-clause-spelled : goal.returns-in-End-clause-spelled
returns-in-End-clause-spelled c = read_spelled (whole c)

pub returns-in-End-clause-order : goal.returns-in-End-clause-order
returns-in-End-clause-order c = read_order (whole c)

pub returns-in-End-clause-few : goal.returns-in-End-clause-few
returns-in-End-clause-few c = omega (arith, c.loop-lexeme.tokens.ok.0, order_few c.loop-lexeme.tokens.items 0 (length c.args.bytes.now) (read_order (whole c)))

pub returns-in-Nothing-clause-error : goal.returns-in-Nothing-clause-error
returns-in-Nothing-clause-error c =
    let stop : StopsAt c.args.bytes.now c.in-Nothing.at = record {
      tokens = c.loop-lexeme.tokens.items;
      reached = rw append-nil at (c.loop-lexeme.invariant.read c.in-Nothing.at [] c.in-Nothing.ensures.0);
      before = c.in-Nothing.ensures.1;
      stuck = c.in-Nothing.ensures.2;
    } in
    (stop_no_list stop, stop)
