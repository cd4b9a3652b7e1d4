use Rattle.std.proofs.Common.{refl}
use Rattle.path_query.proofs.Sound.{path_answer, path_sound}
use Rattle.path_query.proofs.answer.path_sites.Goals as goal

pub sites_over-requires-clause-posed : goal.sites_over-requires-clause-posed
sites_over-requires-clause-posed g c =
    let asked = c.in_ok-demand.ensures.demanded in
    (asked.0, asked.1, record { demand = asked.2; solved = c.in_ok-solved.ensures asked.0 asked.2 })

pub returns-clause-answer : goal.returns-clause-answer
returns-clause-answer g c =
    let asked = c.in_ok-demand.ensures.demanded in
    let are = c.in_ok-sites.ensures asked.0 asked.1 (record { demand = asked.2; solved = c.in_ok-solved.ensures asked.0 asked.2 }) in
    path_answer c.args.linked.now c.args.node c.args.fields.now asked.0 asked.1 c.in_ok-demand.demand asked.2 _ c.in_ok-sites.sites.items c.nodes.result.now _
    c.from_vec.ensures are c.nodes.ensures refl

pub returns-clause-sound : goal.returns-clause-sound
returns-clause-sound g c = λ covered.
    let asked = c.in_ok-demand.ensures.demanded in
    let are = c.in_ok-sites.ensures asked.0 asked.1 (record { demand = asked.2; solved = c.in_ok-solved.ensures asked.0 asked.2 }) in
    path_sound c.args.linked.now c.requires.well covered c.args.node c.args.fields.now _ _
    (path_answer c.args.linked.now c.args.node c.args.fields.now asked.0 asked.1 c.in_ok-demand.demand asked.2 _ c.in_ok-sites.sites.items c.nodes.result.now _
    c.from_vec.ensures are c.nodes.ensures refl)
