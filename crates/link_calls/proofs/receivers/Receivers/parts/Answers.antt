use Rattle.std.proofs.Common.{None, get_or, subst, sym}
use Rattle.class_rules.specs.Lookups.{OnPath}
use Rattle.class_tree.specs.Turns.{turned}
use Rattle.default_turns.specs.Turns.{defaults_at}
use Rattle.object_ranges.specs.Selections.{selected_at}
use Rattle.link_calls.proofs.Selecting.{selection_told}
use Rattle.link_calls.proofs.receivers.Receivers.parts.Goals as goal

pub turns-turns-requires : goal.turns-turns-requires
turns-turns-requires c = c.requires.1.laid.methods.len

pub returns : goal.returns
returns c = λ w are told.
    let key = c.args.key in
    let turns = c.turns-turns.result.now in
    let defaults = c.args.defaults.now in
    record {
      in_order = c.in_ok-parts.ensures.in_order;
      select = selected_at turns defaults;
      selects = λ class h.
          let place = get_or c.args.self.now.layout.places.now class 0 in
          let path : OnPath w.rows class key (turned None turns place) = subst (λ ts. OnPath w.rows class key (turned None ts place)) (sym c.turns-turns.ensures) (are.laid.methods.exact class key h) in
          selection_told w.rows class key (turned None turns place) (defaults_at defaults place) path (told.exact class h);
      told = c.in_ok-parts.ensures.told;
    }
