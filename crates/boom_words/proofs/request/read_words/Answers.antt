use Rattle.std.proofs.Common.{arith, map, string_bytes}
use Rattle.std.proofs.lemmas.Grind.{common_steps}
use Rattle.boom_words.specs.Commands.{request_of}
use Rattle.boom_words.specs.Requests.{IsRequest}
use Rattle.boom_words.proofs.Words.{request_one}
use Rattle.boom_words.proofs.request.read_words.Goals as goal

pub returns-in-Ok-clause-only : goal.returns-in-Ok-clause-only
returns-in-Ok-clause-only c =
    let is : IsRequest (map string_bytes c.args.words.now) (request_of c.in-Ok.command) = grind (arith, common_steps) in
    λ r h. request_one (map string_bytes c.args.words.now) (request_of c.in-Ok.command) r is h
