use Rattle.std.proofs.Common.{◌≡◌, ◌↔◌, ℕ, List, slice_index_or, sym, subst, take}
use Rattle.std.proofs.lemmas.List.{take_all}
use Rattle.std.proofs.lemmas.Option.{slice_get-get_or}
use Rattle.lists.specs.Lists.{Has}
use Rattle.lists.proofs.Places.{take-next}
use Rattle.rule_cells.specs.Renamed.{number_in}
use Rattle.spds_solve.specs.declared.arrivals.Arrival.{Arrival}
use Rattle.spds_solve.proofs.Holding.{AreAsked, asked_all, asked_more, asked_none}
use Rattle.spds_solve.proofs.solved.Solved.holding.Goals as goal

pub loop-site-init : goal.loop-site-init
loop-site-init c = rw c.new-found.ensures (asked_none c.args.self.now c.args.node)

pub loop-site-preserved : goal.loop-site-preserved
loop-site-preserved c =
    let sites = c.at-site-items.result.now in
    let index = c.loop-site.site-index in
    let x = slice_index_or sites index 0 in
    let at = slice_get-get_or sites index 0 c.loop-site-test.true in
    rw (take-next sites index x at)
    (asked_more c.args.self.now c.args.node (take index sites) x c.loop-site.found.keys c.put_holding.new.found.keys c.loop-site.invariant c.in_ok-put_holding.ensures)

pub returns : goal.returns
returns c =
    let s = c.args.self.now in
    let node = c.args.node in
    let sites = c.at-site-items.result.now in
    let cell : c.call_cell.result ≡ number_in s.call_cells node = rw (← c.self.view_is) c.call_cell.ensures in
    asked_all s node sites c.loop-site.found.keys
    (λ site. subst (λ (n : ℕ). Has sites site ↔ Has s.arrivals (record { site = site; cell = n })) cell
    (subst (λ (xs : List ℕ). Has xs site ↔ Has s.arrivals (record { site = site; cell = c.call_cell.result })) (sym c.at-site-items.ensures) (c.requires c.call_cell.result site)))
    (subst (λ (xs : List ℕ). AreAsked s node xs c.loop-site.found.keys) (take_all c.loop-site.site-index sites c.loop-site-test.false) c.loop-site.invariant)
