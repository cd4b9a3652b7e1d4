use Rattle.std.proofs.Common.{All, sym, subst}
use Rattle.link_codes.specs.Contexts.{context_of}
use Rattle.link_codes.specs.Needs.{HasJump, HasParts}
use Rattle.link_codes.proofs.stmts.statement.Goals as goal

pub jumps-requires : goal.jumps-requires
jumps-requires c =
    subst (All (HasJump (context_of c.args.scope.now))) (sym c.as_slice.ensures) (subst (HasParts (context_of c.args.scope.now)) c.in-Switch.is c.requires.parts)

pub returns-in_ok-any_arg-in-Return-clause-code : goal.returns-in_ok-any_arg-in-Return-clause-code
returns-in_ok-any_arg-in-Return-clause-code c = λ later kept. rw c.in-Return.is (c.in_ok-any_arg-in-Return.ensures.arg later kept)
