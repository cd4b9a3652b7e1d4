use Rattle.std.proofs.Common.{◌<◌, length, arith, ◌∙◌}
use Rattle.std.proofs.lemmas.List.{length-set}
use Rattle.site_events.proofs.Sharing.{below_inside, has_below, known_more}
use Rattle.site_events.proofs.shared.SharedClasses.has.Goals as goal

pub has_one_below-found-requires-clause-some : goal.has_one_below-found-requires-clause-some
has_one_below-found-requires-clause-some c =
    rw c.as_slice.ensures.value (below_inside c.args.linked.now c.args.self.now.class c.args.self.now.below.items c.requires.are.below)

pub returns-clause-is : goal.returns-clause-is
returns-clause-is c =
    let both = has_below c.args.linked.now c.args.self.now.class c.args.self.now.below.items c.args.class c.requires.are.below in
    let found = rw c.as_slice.ensures.value at c.has_one_below-found.ensures in
    ((λ t. both.0 (found.0 t)), (λ h. found.1 (both.1 h)))

pub returns-clause-are : goal.returns-clause-are
returns-clause-are c =
    let both = has_below c.args.linked.now c.args.self.now.class c.args.self.now.below.items c.args.class c.requires.are.below in
    let found = rw c.as_slice.ensures.value at c.has_one_below-found.ensures in
    let within : c.args.class < length c.args.self.now.answers.items = omega (arith, c.requires.class, c.requires.are.long) in
    record {
      below = c.requires.are.below;
      long = length-set c.args.self.now.answers.items c.args.class _ ∙ c.requires.are.long;
      known = known_more c.args.linked.now c.args.self.now.class c.args.self.now.answers.items c.args.class c.has_one_below-found.result within
          ((λ t. both.0 (found.0 t)), (λ h. found.1 (both.1 h))) c.requires.are.known;
    }
