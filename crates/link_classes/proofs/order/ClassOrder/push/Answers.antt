use Rattle.std.proofs.Common.{◌≡◌, ◌<◌, ◌++◌, ◌∷◌, [], Some, length, length-append, ◌∙◌, sym, ap, subst, arith, slice_get}
use Rattle.std.specs.List.{slice_set}
use Rattle.std.proofs.lemmas.List.{map-append}
use Rattle.std.proofs.lemmas.List.Elements.{All-push}
use Rattle.std.proofs.lemmas.Option.{slice_get-get_or}
use Rattle.lists.proofs.Places.{slice_get-below}
use Rattle.link_classes.specs.Seen.{IsSeen, KnowsClasses, seen_class, seen_classes}
use Rattle.link_classes.proofs.Naming.{knows_pushed}
use Rattle.link_classes.proofs.Within.{name_number}
use Rattle.link_classes.proofs.order.ClassOrder.push.Goals as goal

pub index-requires : goal.index-requires
index-requires c =
    let there = name_number c.args.self.now.all.now.texts c.args.class c.name_id-name.result c.requires.class c.name_id-name.ensures in
    omega (arith, slice_get-below c.args.self.now.all.now.texts c.name_id-name.result.0 _ there, c.requires.order.knows.as_many)

pub index_mut-requires : goal.index_mut-requires
index_mut-requires c =
    let there = name_number c.args.self.now.all.now.texts c.args.class c.name_id-name.result c.requires.class c.name_id-name.ensures in
    omega (arith, slice_get-below c.args.self.now.all.now.texts c.name_id-name.result.0 _ there, c.requires.order.knows.as_many)

pub returns-clause-order : goal.returns-clause-order
returns-clause-order c =
    let there = name_number c.args.self.now.all.now.texts c.args.class c.name_id-name.result c.requires.class c.name_id-name.ensures in
    let within : c.name_id-name.result.0 < length c.args.self.now.numbers.items =
    omega (arith, slice_get-below c.args.self.now.all.now.texts c.name_id-name.result.0 _ there, c.requires.order.knows.as_many) in
    let was : slice_get c.args.self.now.numbers.items c.name_id-name.result.0 ≡ Some c.index.result.now =
    slice_get-get_or c.args.self.now.numbers.items c.name_id-name.result.0 c.index.result.now within ∙ ap Some (sym c.index.ensures) in
    let pushed : c.push.new.self.items ≡ c.args.self.now.classes.items ++ c.args.class ∷ [] = c.in_ok-push.ensures.items in
    let put : seen_classes c.push.new.self.items ≡ seen_classes c.args.self.now.classes.items ++ seen_class c.args.class ∷ [] =
    ap seen_classes pushed ∙ map-append seen_class c.args.self.now.classes.items (c.args.class ∷ []) in
    let counted : c.len-number.result ≡ length c.args.self.now.classes.items = omega (arith, c.len-number.ensures, c.args.self.now.classes.ok.0) in
    record {
      apart = c.requires.order.apart;
      few = omega (arith, ap length pushed, length-append c.args.self.now.classes.items (c.args.class ∷ []), c.if-number.false, c.len-number.ensures);
      seen = rw pushed (All-push (IsSeen c.args.self.now.all.now.texts) c.args.self.now.classes.items c.args.class c.requires.order.seen c.requires.class);
      knows = subst (λ n. KnowsClasses c.args.self.now.all.now.texts (seen_classes c.push.new.self.items) (slice_set c.args.self.now.numbers.items c.name_id-name.result.0 n)) (sym c.or.ensures)
          (knows_pushed c.args.self.now.all.now.texts c.args.self.now.classes.items c.push.new.self.items c.args.self.now.numbers.items c.args.class c.name_id-name.result.0 c.len-number.result c.index.result.now
          c.requires.order.apart c.requires.order.knows there was counted put);
    }
