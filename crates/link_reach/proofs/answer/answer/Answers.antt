use Rattle.std.proofs.Common.{◌≡◌, ◌<◌, sym, subst, length, List, ℕ, All}
use Rattle.link_reach.proofs.Answering.{are_reached, are_initialized, is_accepted, is_first_method, is_first_root, told, started_within}
use Rattle.link_reach.proofs.answer.answer.Goals as goal

pub returns-in-Some-clause-refused : goal.returns-in-Some-clause-refused
returns-in-Some-clause-refused c = λ number index kind e.
    let r = c.requires in
    let first = is_first_method c.args.targets.now.world r.bounded c.args.search.now r.searched r.methods r.classes r.passed c.in-Some.first (rw c.in-Some.is at r.searched.first) in
    let n : c.in-Some.first.number ≡ number = cc in
    let i : c.in-Some.first.fault.index ≡ index = cc in
    let k : c.in-Some.first.fault.kind ≡ kind = cc in
    told _ _ _ _ first number index kind n i k

pub root_fault-requires : goal.root_fault-requires
root_fault-requires c =
    let w = c.args.targets.now.world in
    let those = rw c.classes-classes.ensures at c.in_ok-initialized.ensures in
    let within = started_within w c.args.search.now.found.classes (length w.classes) c.in_ok-initialized.initialized.items those in
    subst (λ (xs : List ℕ). All (λ k. k < length w.classes) xs) (sym c.as_slice.ensures.value) within

pub returns-in-Some-2-clause-refused : goal.returns-in-Some-2-clause-refused
returns-in-Some-2-clause-refused c = λ number index kind e.
    let r = c.requires in
    let w = c.args.targets.now.world in
    let those = rw c.classes-classes.ensures at c.in_ok-initialized.ensures in
    let are = are_initialized w r.bounded c.args.search.now r.searched r.methods r.classes c.in_ok-initialized.initialized.items those in
    let fault_here = rw (c.as_slice.ensures.value, c.in-Some-2.is) at c.in_ok-fault.ensures.fault in
    let count = rw c.classes-classes.ensures at c.method_count.ensures in
    let first = is_first_root w r.bounded c.args.search.now r.searched r.methods r.classes r.passed c.in_ok-initialized.initialized.items c.in-Some-2.fault c.method_count.result count
    (rw c.in_default.is at r.searched.first) are fault_here in
    let n : c.method_count.result ≡ number = cc in
    let i : c.in-Some-2.fault.index ≡ index = cc in
    let k : c.in-Some-2.fault.kind ≡ kind = cc in
    told _ _ _ _ first number index kind n i k

pub returns-clause-reached : goal.returns-clause-reached
returns-clause-reached c =
    let r = c.requires in
    let count = rw c.classes-classes.ensures at c.method_count-2.ensures in
    are_reached c.args.targets.now.world r.bounded c.args.search.now r.searched r.methods r.classes c.method_count-2.result c.in_ok-rows.rows.items count c.in_ok-rows.ensures

pub returns-clause-initialized : goal.returns-clause-initialized
returns-clause-initialized c =
    let r = c.requires in
    let those = rw c.classes-classes.ensures at c.in_ok-initialized.ensures in
    are_initialized c.args.targets.now.world r.bounded c.args.search.now r.searched r.methods r.classes c.in_ok-initialized.initialized.items those

pub returns-clause-accepted : goal.returns-clause-accepted
returns-clause-accepted c =
    let r = c.requires in
    let w = c.args.targets.now.world in
    let those = rw c.classes-classes.ensures at c.in_ok-initialized.ensures in
    let are = are_initialized w r.bounded c.args.search.now r.searched r.methods r.classes c.in_ok-initialized.initialized.items those in
    let no_fault = rw (c.as_slice.ensures.value, c.in_default-2.is) at c.in_ok-fault.ensures.fault in
    is_accepted w r.bounded c.args.search.now r.searched r.methods r.classes r.passed c.in_ok-initialized.initialized.items (rw c.in_default.is at r.searched.first) are no_fault
