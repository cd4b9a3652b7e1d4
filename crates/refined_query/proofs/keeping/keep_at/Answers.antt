use Rattle.std.proofs.Common.{ℕ, ◌↔◌, length, subst}
use Rattle.std.proofs.lemmas.Result.{on_ok_weaker}
use Rattle.std.specs.Result.{OnOk}
use Rattle.link_sites.specs.Places.{CodeAt}
use Rattle.refine_rules.specs.Refined.{receiver_at}
use Rattle.refined_query.specs.Keeping.{AreAdded, IsKeptAmong}
use Rattle.refined_query.specs.Selecting.{IsAmong, StaysFor}
use Rattle.refined_query.proofs.Called.{call_class, call_keeps, call_keeps_none, other_keeps, receiver_node}
use Rattle.refined_query.proofs.keeping.keep_at.Goals as goal

pub selection-requires-clause-node : goal.selection-requires-clause-node
selection-requires-clause-node g c κs within =
    let p = c.args.linked.now in
    let here = subst (CodeAt p c.args.place.method c.args.place.index) c.in-Call.is c.requires.code in
    rw c.receiver_of-node.ensures
    (receiver_node p c.args.budget c.args.place.method c.args.place.index c.in-Call.to c.in-Call.mode c.in-Call.class c.in-Call.key c.in-Call.receiver c.in-Call.args
    c.in-Call.targets here c.decided_by.result c.decided_by.ensures c.in-Some.x c.in-Some.is c.requires.well)

pub selection-requires-clause-class : goal.selection-requires-clause-class
selection-requires-clause-class g c κs within =
    let p = c.args.linked.now in
    let here = subst (CodeAt p c.args.place.method c.args.place.index) c.in-Call.is c.requires.code in
    call_class p c.args.budget c.args.place.method c.args.place.index c.in-Call.to c.in-Call.mode c.in-Call.class c.in-Call.key c.in-Call.receiver c.in-Call.args c.in-Call.targets here
    c.requires.well

pub returns-in-None : goal.returns-in-None
returns-in-None g c =
    let p = c.args.linked.now in
    let here = subst (CodeAt p c.args.place.method c.args.place.index) c.in-Call.is c.requires.code in
    call_keeps_none p c.args.budget c.args.place.method c.args.place.index c.in-Call.to c.in-Call.mode c.in-Call.class c.in-Call.key c.in-Call.receiver c.in-Call.args
    c.in-Call.targets here c.decided_by.result c.decided_by.ensures c.in-None.is c.args.kept.now.items c.requires.before

pub returns-in_default : goal.returns-in_default
returns-in_default g c =
    other_keeps c.args.linked.now c.args.budget c.args.place.method c.args.place.index c.args.code.now c.requires.code c.in_default.not-Call c.args.kept.now.items c.requires.before

pub returns-in_ok-found-in-Some : goal.returns-in_ok-found-in-Some
returns-in_ok-found-in-Some g c =
    let p = c.args.linked.now in
    let place = c.args.place in
    let found = c.in_ok-found-in-Some.found in
    let old = c.args.kept.now.items in
    let new = c.keep_targets.new.kept.items in
    let here = subst (CodeAt p place.method place.index) c.in-Call.is c.requires.code in
    let finds = subst (λ n. (target : ℕ) → IsAmong found target ↔ StaysFor p c.args.budget n c.in-Call.class c.in-Call.key target) {y = receiver_at place.method place.index c.in-Some.x} c.receiver_of-node.ensures c.in_ok-found-in-Some.ensures in
    let adds = subst (λ ts. OnOk c.keep_targets.result (AreAdded (IsKeptAmong place ts (length ts) found) old new)) c.as_slice.ensures c.keep_targets.ensures in
    on_ok_weaker c.keep_targets.result
    (λ added. call_keeps p c.args.budget place.method place.index c.in-Call.to c.in-Call.mode c.in-Call.class c.in-Call.key c.in-Call.receiver c.in-Call.args c.in-Call.targets here
    c.decided_by.result c.decided_by.ensures c.in-Some.x c.in-Some.is found finds old new added c.requires.before) adds
