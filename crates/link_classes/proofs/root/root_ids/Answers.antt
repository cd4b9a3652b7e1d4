use Rattle.std.proofs.Common.{◌≡◌, ◌+◌, ◌++◌, ◌∷◌, [], All, map, take, sym, ap, subst, ◌∙◌, append_assoc}
use Rattle.std.proofs.lemmas.List.{map-append, take_all}
use Rattle.link_rules.specs.Classes.{class_name}
use Rattle.link_classes.specs.Numbered.{AreNumbers, IsNumber, fixed_names}
use Rattle.link_classes.specs.Seen.{IsSeen, seen_class, seen_classes}
use Rattle.link_classes.proofs.Growing.{seen_more}
use Rattle.lists.proofs.SideBySide.{Each-push}
use Rattle.link_classes.proofs.Within.{class_numbered, name_number}
use Rattle.link_classes.proofs.root.root_ids.Goals as goal

pub name_id-requires : goal.name_id-requires
name_id-requires c =
    let seen : IsSeen c.args.order.now.all.now.texts c.class-item.result = subst (IsSeen c.args.order.now.all.now.texts) (sym c.class-item.is)
    (subst (λ cs. All (IsSeen c.args.order.now.all.now.texts) cs) (sym c.as_slice-classes.ensures.value) c.requires.seen c.loop-class.class-index c.class-item.result c.loop-class-test.true) in
    class_numbered c.args.order.now.all.now.texts c.class-item.result seen

pub loop-class-preserved : goal.loop-class-preserved
loop-class-preserved c = λ entry fixed.
    let texts = c.args.order.now.all.now.texts in
    let classes = c.as_slice-classes.result.now in
    let before = fixed_names entry ++ map class_name (seen_classes (take c.loop-class.class-index classes)) in
    let text = class_name (seen_class c.class-item.result) in
    let seen : IsSeen texts c.class-item.result = subst (IsSeen texts) (sym c.class-item.is)
    (subst (λ cs. All (IsSeen texts) cs) (sym c.as_slice-classes.ensures.value) c.requires.seen c.loop-class.class-index c.class-item.result c.loop-class-test.true) in
    let there = name_number texts c.class-item.result c.name_id.result seen c.name_id.ensures in
    let more : fixed_names entry ++ map class_name (seen_classes (take (c.loop-class.class-index + 1) classes)) ≡ before ++ text ∷ [] =
    ap (λ cs. fixed_names entry ++ map class_name cs) (seen_more classes c.loop-class.class-index c.class-item.result c.loop-class-test.true c.class-item.is)
    ∙ ap (λ ts. fixed_names entry ++ ts) (map-append class_name (seen_classes (take c.loop-class.class-index classes)) (seen_class c.class-item.result ∷ []))
    ∙ sym (append_assoc (fixed_names entry) (map class_name (seen_classes (take c.loop-class.class-index classes))) (text ∷ [])) in
    subst (λ names. AreNumbers texts names c.push.new.self.items) (sym more)
    (rw c.in_ok-push.ensures.items (Each-push (IsNumber texts) before c.loop-class.ids.items text c.name_id.result (c.loop-class.invariant entry fixed) there))

pub returns : goal.returns
returns c = λ entry fixed.
    let all : take c.loop-class.class-index c.as_slice-classes.result.now ≡ c.args.order.now.classes.items =
    take_all c.loop-class.class-index c.as_slice-classes.result.now c.loop-class-test.false ∙ c.as_slice-classes.ensures.value in
    subst (λ cs. AreNumbers c.args.order.now.all.now.texts (fixed_names entry ++ map class_name (seen_classes cs)) c.loop-class.ids.items) all (c.loop-class.invariant entry fixed)
