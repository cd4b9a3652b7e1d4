use Rattle.link_program.proofs.Placing.{place_at}
use Rattle.link_program.proofs.places.FirstPlaces.find.Goals as goal

pub returns-clause-some : goal.returns-clause-some
returns-clause-some c = λ texts are. place_at texts c.args.text.now c.args.self.now c.in_ok-id.id.0 c.index.result.now are c.in_ok-id.ensures.found c.index.ensures
