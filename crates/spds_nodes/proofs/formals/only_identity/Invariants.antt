use Rattle.std.proofs.Common.{◌≡◌, [], filter_map, take}
use Rattle.std.specs.List.{cons_option}
use Rattle.spds_rules.specs.Formals.{identity_of}
use Rattle.spds_nodes.specs.Positions.{var_of}
use Rattle.spds_nodes.proofs.formals.only_identity.Given as goal

abbrev pub invariant-loop-statement : goal.invariant-loop-statement
invariant-loop-statement l = filter_map (λ c. identity_of c (var_of l.position)) (take l.statement-index l.code) ≡ cons_option l.found []
