use Rattle.link_rules.specs.Classes.{IsNamed}
use Rattle.link_rules.specs.Names.{text_of}
use Rattle.link_faults.specs.AtSite.{AsksFor, names_of, world_of}
use Rattle.link_faults.proofs.Growing.{asks_by, asks_none, both_ways, on_ok, stays}
use Rattle.link_faults.proofs.Placed.{asked_within}
use Rattle.link_faults.proofs.examining.add_touched.Goals as goal

pub add_class-requires-clause-within : goal.add_class-requires-clause-within
add_class-requires-clause-within c =
    let x = c.args.site.now in
    asked_within (names_of x) x.stmt.now c.in-Some.class c.requires.within ((c.asked.ensures c.in-Some.class).0 c.in-Some.is)

pub returns-in-Some : goal.returns-in-Some
returns-in-Some c =
    let x = c.args.site.now in
    let same = asks_by (world_of x) (names_of x) x.stmt.now c.asked.result c.in-Some.class c.asked.ensures c.in-Some.is in
    on_ok c.add_class.result
    (λ says. both_ways c.args.touched.now.items c.add_class.new.touched.items (IsNamed (world_of x).classes (text_of (names_of x) c.in-Some.class)) (AsksFor x) same says)
    c.add_class.ensures

pub returns-in-None : goal.returns-in-None
returns-in-None c =
    let x = c.args.site.now in
    stays c.args.touched.now.items (AsksFor x) (asks_none (world_of x) (names_of x) x.stmt.now c.asked.result c.asked.ensures c.in-None.is)
