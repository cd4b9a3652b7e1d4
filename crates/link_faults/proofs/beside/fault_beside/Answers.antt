use Rattle.link_classes.specs.Seen.{seen_method}
use Rattle.link_faults.specs.Progress.{RefusesBody, RefusesEmpty, RefusesLabels, RefusesLocals, RefusesTraps}
use Rattle.link_faults.proofs.BodyFaults.{RefusesParts, from_parts, to_parts}
use Rattle.link_faults.proofs.FirstFaults.{Either, earlier_first, same_first}
use Rattle.link_faults.proofs.beside.fault_beside.Goals as goal

pub returns : goal.returns
returns c =
    let w = c.args.classes.now.world in
    let m = seen_method c.args.method.now in
    let locals = c.locals_fault.ensures m c.requires.in_body in
    let labels = c.labels_fault.ensures m c.requires.in_body in
    let empty = c.empty_fault.ensures m c.requires.in_body in
    let doubled = earlier_first (RefusesLocals m) (RefusesLabels m) c.locals_fault.result c.labels_fault.result c.earlier-doubled.result locals labels c.earlier-doubled.ensures in
    let rest = earlier_first (RefusesEmpty m) (RefusesTraps w m) c.empty_fault.result c.traps_fault.result c.earlier-rest.result empty c.traps_fault.ensures c.earlier-rest.ensures in
    let all = earlier_first (Either (RefusesLocals m) (RefusesLabels m)) (Either (RefusesEmpty m) (RefusesTraps w m)) c.earlier-doubled.result c.earlier-rest.result c.earlier.result doubled rest c.earlier.ensures in
    same_first (RefusesParts w m) (RefusesBody w m) c.earlier.result (from_parts w m) (to_parts w m) all
