use Rattle.std.proofs.Common.{subst, arith}
use Rattle.link_rules.specs.Faults.{thread_name}
use Rattle.link_rules.specs.Names.{text_of}
use Rattle.link_classes.specs.Seen.{seen_method}
use Rattle.link_faults.proofs.Named.{LooksUp, below_by, named_below, not_below_none, not_below_nothing}
use Rattle.link_faults.proofs.mentioned.is_below_thread.Goals as goal

pub returns-in_default : goal.returns-in_default
returns-in_default c =
    let w = c.args.classes.now.world in
    let name = text_of (seen_method c.args.method.now).names c.args.class in
    not_below_none w name thread_name (subst (LooksUp w.classes name) c.in_default.is c.class_number.ensures)

pub returns-in_default-find : goal.returns-in_default-find
returns-in_default-find c =
    let w = c.args.classes.now.world in
    let name = text_of (seen_method c.args.method.now).names c.args.class in
    not_below_nothing w name thread_name (subst (LooksUp w.classes thread_name) c.in_default-find.is c.find.ensures)

pub sub-requires-clause-a : goal.sub-requires-clause-a
sub-requires-clause-a c =
    let w = c.args.classes.now.world in
    let name = text_of (seen_method c.args.method.now).names c.args.class in
    let below = named_below w.classes name c.in-Some.lower (subst (LooksUp w.classes name) c.in-Some.is c.class_number.ensures) in
    rw c.tree.ensures.rows (omega (arith, c.tree.ensures.classes, below))

pub sub-requires-clause-b : goal.sub-requires-clause-b
sub-requires-clause-b c =
    let w = c.args.classes.now.world in
    let below = named_below w.classes thread_name c.in-Some-find.upper (subst (LooksUp w.classes thread_name) c.in-Some-find.is c.find.ensures) in
    rw c.tree.ensures.rows (omega (arith, c.tree.ensures.classes, below))

pub returns : goal.returns
returns c =
    let w = c.args.classes.now.world in
    let name = text_of (seen_method c.args.method.now).names c.args.class in
    below_by w name thread_name c.in-Some.lower c.in-Some-find.upper c.sub.result (subst (LooksUp w.classes name) c.in-Some.is c.class_number.ensures) (subst (LooksUp w.classes thread_name) c.in-Some-find.is c.find.ensures)
    (rw c.tree.ensures.rows at c.sub.ensures)
