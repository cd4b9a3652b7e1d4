use Rattle.std.proofs.Common.{◌≡◌, ◌++◌, string_bytes}
use Rattle.demo_text.specs.Demo.{each_of, statements_of}
use Rattle.demo_text.proofs.push_all_statements.Given as goal

abbrev pub invariant-loop-number : goal.invariant-loop-number
invariant-loop-number l = string_bytes l.text ≡ string_bytes l.fn.text ++ each_of statements_of l.number
