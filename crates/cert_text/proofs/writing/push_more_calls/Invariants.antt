use Rattle.std.proofs.Common.{◌≡◌, ◌∷◌, ◌++◌, flat_map, string_bytes, take}
use Rattle.cert_rules.specs.Spelled.{call_text}
use Rattle.cert_text.proofs.writing.push_more_calls.Given as goal

abbrev pub invariant-loop-call : goal.invariant-loop-call
invariant-loop-call l = string_bytes l.text ≡ string_bytes l.fn.text ++ flat_map (λ call. 44 ∷ call_text call) (take l.call-index l.calls)
