use Rattle.std.proofs.Common.{◌≡◌, ℕ, List, refl, sym, subst}
use Rattle.link_rules.specs.Refusals.{IsFirst, IsPlaceOf, whole}
use Rattle.link_classes.specs.declared.classes.NoClasses.TheVariants as why
use Rattle.link_classes.specs.RowTables.{rows_in, world_in}
use Rattle.link_classes.specs.Seen.{seen_classes}
use Rattle.link_classes.proofs.FirstRefusals.{first_duplicate}
use Rattle.link_classes.proofs.NumberedMembers.{names_classes}
use Rattle.link_classes.proofs.checks.checked_tree.Goals as goal

pub returns-in-Some-clause-refused : goal.returns-in-Some-clause-refused
returns-in-Some-clause-refused c = λ kind place e.
    let world = λ (entry : List ℕ). world_in c.args.order.now c.args.tables.now entry in
    let err : c.refused.result ≡ why.Refused kind place = cc (e) in
    let told = c.refused.ensures kind place err in (
      c.in-Some.number,
      λ entry. (
        subst (λ k. IsFirst (world entry) (whole k c.in-Some.number)) (sym told.0) (first_duplicate (world entry) c.in-Some.number (c.in-Some.ensures.some (world entry) refl)),
        subst (λ k. IsPlaceOf (world entry) k c.in-Some.number place) (sym told.0) told.1,
      ),
    )

pub tree_of-requires-clause-named : goal.tree_of-requires-clause-named
tree_of-requires-clause-named c = names_classes (seen_classes c.args.order.now.classes.items) (rows_in c.args.tables.now) c.requires.tables.rows

pub refused_by-requires-clause-single : goal.refused_by-requires-clause-single
refused_by-requires-clause-single c = λ entry n. c.in_default.ensures.none (world_in c.args.order.now c.args.tables.now entry) n refl

pub returns-in-Err-clause-refused : goal.returns-in-Err-clause-refused
returns-in-Err-clause-refused c = λ kind place e.
    let err : c.refused_by.result ≡ why.Refused kind place = cc (e) in
    c.refused_by.ensures kind place err

pub returns-in-Ok-clause-sound : goal.returns-in-Ok-clause-sound
returns-in-Ok-clause-sound c = λ entry. record {
  single = λ n. c.in_default.ensures.none (world_in c.args.order.now c.args.tables.now entry) n refl;
  known = c.in-Ok.ensures.known;
  acyclic = c.in-Ok.ensures.acyclic;
}
