use Rattle.track_tables.proofs.Made.{system_made}
use Rattle.track_tables.proofs.states.SiteStates.of.Goals as goal

pub returns : goal.returns
returns c k q a demand solved site_is events =
    let given = c.args.given.now in
    record {
      job = _;
      system = system_made given.linked.now k q a given.demand.now demand given.parts.now c.requires.parts c.in_ok-growth.growth c.spread.new.growth
          (c.in_ok-growth.ensures k q a demand solved site_is events) c.in_ok-spread.ensures.grown (c.in_ok-spread.ensures.each k q a events)
          (c.in_ok-spread.ensures.onward k q a events) (c.in_ok-spread.ensures.back k q a events);
      saturated = c.in_ok-table.ensures;
    }
