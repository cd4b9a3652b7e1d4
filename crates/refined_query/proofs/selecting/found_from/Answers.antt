use Rattle.std.proofs.Common.{◌≡◌, ℕ}
use Rattle.link_sites.specs.Sites.{IsSiteClass}
use Rattle.refined_query.proofs.Chosen.{none_found, row_found, site_within}
use Rattle.refined_query.proofs.selecting.found_from.Goals as goal

pub sub-requires-clause-a : goal.sub-requires-clause-a
sub-requires-clause-a c = rw c.tree.ensures
    (site_within c.args.linked.now c.args.site c.in_ok-from.from c.tell_form.ensures ((c.site_class.ensures.is c.in_ok-from.from).0 c.in_ok-from.was))

pub resolve-requires : goal.resolve-requires
resolve-requires c =
    (site_within c.args.linked.now c.args.site c.in_ok-from.from c.tell_form.ensures ((c.site_class.ensures.is c.in_ok-from.from).0 c.in_ok-from.was))

pub returns-in_err-row : goal.returns-in_err-row
returns-in_err-row c = λ target.
    let from = c.in_ok-from.from in
    let was = c.in_ok-from.was in
    let one : (k : ℕ) → IsSiteClass c.args.linked.now c.args.site k → k ≡ from = λ k is. (let some = (c.site_class.ensures.is k).1 is in cc (some, was)) in
    let finds = c.in_err-row.ensures in
    let none = c.from_residual-in_err-row.ensures in
    ((λ some. cc (some, none)), λ f. absurd (none_found c.args.linked.now c.args.site c.args.class c.args.key from one target finds f))

pub returns : goal.returns
returns c = λ target.
    let from = c.in_ok-from.from in
    let was = c.in_ok-from.was in
    let of_class = (c.site_class.ensures.is from).0 was in
    let one : (k : ℕ) → IsSiteClass c.args.linked.now c.args.site k → k ≡ from = λ k is. (let some = (c.site_class.ensures.is k).1 is in cc (some, was)) in
    let finds = c.in_ok-row.ensures in
    let is_sub = rw c.tree.ensures at c.sub.ensures in
    let found = row_found c.args.linked.now c.args.site c.args.class c.args.key from one c.in_ok-row.row target of_class (is_sub.0 c.if-not-sub.false) finds in
    ((λ some. found.0 ((c.method_of_row.ensures target).0 some)), λ f. (c.method_of_row.ensures target).1 (found.1 f))
