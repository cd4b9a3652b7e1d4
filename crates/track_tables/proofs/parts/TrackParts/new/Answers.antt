use Rattle.track_tables.proofs.parts.TrackParts.new.Goals as goal

pub returns : goal.returns
returns c =
    let p = c.args.linked.now in
    let edges = c.numbered.result.now in
    let strings = c.in_ok-strings.ensures in
    record {
      edges = edges;
      numbered = c.numbered.ensures.value;
      onward = c.in_ok-edges.ensures.onward;
      returns = c.in_ok-edges.ensures.returns;
      loaded = c.in_ok-edges.ensures.loaded;
      are_calls = c.in_ok-calls.ensures;
      none = strings.none;
      strings = strings.strings;
      last = strings.last;
      led = strings.led;
      steps = strings.steps;
    }
