use Rattle.std.proofs.Common.{◌∙◌, arith}
use Rattle.class_rules.specs.Rows.{HasParent}
use Rattle.class_order.specs.Tables.{Under}
use Rattle.class_order.proofs.Reached.{proper_map}
use Rattle.class_rules.proofs.Parents.{parent-below}
use Rattle.class_order.proofs.Searches.{finishing_by}
use Rattle.class_tree.proofs.numbering.Numbering.new.Goals as goal

pub children-requires-clause-all : goal.children-requires-clause-all
children-requires-clause-all c = λ a h. rw c.as_slice.ensures.value (c.in_ok-listed.ensures.all a (c.requires.all a h))

pub finish_order-requires-clause-below : goal.finish_order-requires-clause-below
finish_order-requires-clause-below c = λ a b u. rw c.in_ok-below.ensures.len (parent-below c.args.classes.now a b ((c.in_ok-below.ensures.steps a b).0 u))

pub finish_order-requires-clause-all : goal.finish_order-requires-clause-all
finish_order-requires-clause-all c = λ a h. rw c.as_slice-2.ensures.value (c.in_ok-starts.ensures.all a (rw c.in_ok-below.ensures.len at h))

pub places_of-requires-clause-known : goal.places_of-requires-clause-known
places_of-requires-clause-known c = λ a b u. rw c.in_ok-below.ensures.len (parent-below c.args.classes.now a b ((c.in_ok-below.ensures.steps a b).0 u))

pub places_of-requires-clause-order : goal.places_of-requires-clause-order
places_of-requires-clause-order c = rw c.as_slice-3.ensures.value (finishing_by c.in_ok-below.below c.in_ok-finish.finish.order.items c.in_ok-finish.finish.straight c.in_ok-finish.ensures.straight
    (λ a p. c.requires.acyclic a (proper_map (Under c.in_ok-below.below) (HasParent c.args.classes.now) (λ x y u. (c.in_ok-below.ensures.steps x y).0 u) a a p)))

pub returns : goal.returns
returns c =
    let places = c.in_ok-numbers.ensures.places in
    record {
      within = λ k m. omega (arith, c.in_ok-finish.ensures.within k m, c.in_ok-below.ensures.len);
      all = λ k h. c.in_ok-finish.ensures.all k (omega (arith, h, c.in_ok-below.ensures.len));
      placed = rw c.as_slice-3.ensures.value at c.in_ok-numbers.ensures.each;
      own = record {
        len = places.len ∙ c.in_ok-below.ensures.len;
        within = λ k h. omega (arith, places.within k (omega (arith, h, c.in_ok-below.ensures.len)), c.in_ok-below.ensures.len);
        own = λ a b ha hb e. places.own a b (omega (arith, ha, c.in_ok-below.ensures.len)) (omega (arith, hb, c.in_ok-below.ensures.len)) e;
      };
      falls = λ a b named. places.falls a b ((c.in_ok-below.ensures.steps a b).1 named);
      known = c.requires.known;
    }
