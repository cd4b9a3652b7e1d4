use Rattle.std.proofs.Common.{List, false, refl, subst, sym}
use Rattle.lists.proofs.Grown.{has_longer}
use Rattle.lists.specs.Lists.{Has}
use Rattle.spds_rules.specs.declared.edge.Edge.{Edge}
use Rattle.spds_rules.specs.declared.store.StoreAt.{StoreAt}
use Rattle.cert_trace.proofs.FoundAhead.{everywhere_ahead, found_ahead}
use Rattle.cert_trace.proofs.ahead.ahead_of.Goals as goal

pub returns : goal.returns
returns c =
    let d = c.args.demand.now in
    found_ahead d c.args.back.now c.in_ok-args.args c.search.new.found.keys
    (λ e f has loads.
    has_longer _ _ c.in_ok-search.ensures.longer (record { field = f; node = e.from })
    (c.in_ok-add_loads.ensures.all e f (subst (λ (xs : List Edge). Has xs e) (sym c.edges.ensures) has) loads))
    c.requires (λ s has. c.in_ok-args.ensures s (subst (λ (xs : List StoreAt). Has xs s) (sym c.stores.ensures) has))
    (c.in_ok-search.ensures.all c.if-not-branch.false) (record { everywhere = false; fields = c.search.new.found }) refl refl
