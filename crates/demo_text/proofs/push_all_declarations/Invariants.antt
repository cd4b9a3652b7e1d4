use Rattle.std.proofs.Common.{◌≡◌, ◌++◌, string_bytes}
use Rattle.demo_text.specs.Demo.{declarations_of, each_of}
use Rattle.demo_text.proofs.push_all_declarations.Given as goal

abbrev pub invariant-loop-number : goal.invariant-loop-number
invariant-loop-number l = string_bytes l.text ≡ string_bytes l.fn.text ++ each_of declarations_of l.number
