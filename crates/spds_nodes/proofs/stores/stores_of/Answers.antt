use Rattle.std.proofs.Common.{[], refl}
use Rattle.std.proofs.lemmas.Option.{slice_get-get_or}
use Rattle.link_indexes.specs.declared.method.Place.{Place}
use Rattle.link_indexes.specs.Facts.{Stores}
use Rattle.link_indexes.specs.Tables.{IsAt}
use Rattle.link_rules.specs.Accessed.{codes_in}
use Rattle.link_sites.specs.Places.{before}
use Rattle.spds_nodes.specs.Stored.{IsStoreAt, IsStoreOf}
use Rattle.spds_nodes.specs.Added.{Over}
use Rattle.spds_nodes.proofs.Filed.{ordered_more, stores_over}
use Rattle.spds_nodes.proofs.Froms.{one_place, places_apart}
use Rattle.spds_nodes.proofs.Joined.{AreAll-added, AreAll-same, Over-end, Over-next}
use Rattle.spds_nodes.proofs.stores.stores_of.Goals as goal

pub loop-indexed-preserved : goal.loop-indexed-preserved
loop-indexed-preserved c =
    let list = c.stores-places.result.now in
    let i = c.loop-indexed.indexed-index in
    let there = slice_get-get_or list i (record { method = 0; index = 0 }) c.loop-indexed-test.true in
    let here = rw c.before-place.ensures at c.in_ok-push_stores.ensures in
    record {
      added =
          Over-next list (λ (q : Place). IsStoreAt c.args.linked.now c.args.field (before q.method q.index)) _ _ _ i _ there
          (places_apart list c.stores-places.ensures.ordered) (λ a b s x y. one_place s.place a b x.1 y.1) c.loop-indexed.invariant.added here.added;
      ordered =
          ordered_more list i _ (λ (q : Place). IsStoreAt c.args.linked.now c.args.field (before q.method q.index)) (λ q s x. x.1) c.stores-places.ensures.ordered there _ _
          c.loop-indexed.invariant.added here c.loop-indexed.invariant.ordered;
    }

pub returns-clause-all : goal.returns-clause-all
returns-clause-all c =
    let p = c.args.linked.now in
    let field = c.args.field in
    let gives = λ (q : Place). IsStoreAt p field (before q.method q.index) in
    AreAll-same (Over (IsAt (Stores field) (codes_in p)) gives) (IsStoreOf p field) _ (stores_over p field)
    (AreAll-added (Over (IsAt (Stores field) (codes_in p)) gives) [] _ refl
    (Over-end c.stores-places.result.now gives _ _ _ c.loop-indexed.indexed-index c.loop-indexed-test.false c.stores-places.ensures.each c.loop-indexed.invariant.added))
