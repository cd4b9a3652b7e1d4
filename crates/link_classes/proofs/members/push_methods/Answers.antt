use Rattle.std.proofs.Common.{◌≡◌, [], List, Some, ℕ, slice_get, refl, sym, ap, subst, ◌∙◌, arith}
use Rattle.std.proofs.lemmas.List.Elements.{All-push}
use Rattle.std.proofs.lemmas.Option.{get_or_from_slice_get, slice_get-get_or}
use Rattle.link_rules.specs.Classes.{DeclaredMethod, class_name}
use Rattle.link_classes.specs.Classes.{IsKnown}
use Rattle.link_classes.specs.Seen.{seen_class, seen_method, seen_methods}
use Rattle.link_classes.proofs.Growing.{added_more}
use Rattle.link_classes.proofs.Known.{known_method, numbered_names}
use Rattle.link_classes.proofs.members.push_methods.Goals as goal

pub loop-decl-preserved : goal.loop-decl-preserved
loop-decl-preserved c =
    let made : List ℕ → List (List ℕ) → DeclaredMethod = λ o names. record { class = c.args.number; owner = o; names = names; decl = c.decl-item.result } in
    let named : class_name (seen_class c.args.class.now) ≡ c.text-owner.result.now =
    get_or_from_slice_get c.args.class.now.names.now c.args.class.now.class.now.name.0 c.text-owner.result.now [] c.text-owner.ensures in
    let names = numbered_names c.args.all.now c.args.class.now.names.now c.args.class.now.ids.now c.requires.seen.numbered in
    let item : slice_get c.args.class.now.class.now.methods c.loop-decl.decl-index ≡ Some c.decl-item.result =
    subst (λ xs. slice_get xs c.loop-decl.decl-index ≡ Some c.decl-item.result) c.as_slice-decls.ensures
    (slice_get-get_or c.as_slice-decls.result.now c.loop-decl.decl-index c.decl-item.result c.loop-decl-test.true ∙ ap Some (sym c.decl-item.is)) in
    record {
      pushed = ap seen_methods c.in_ok-push.ensures.items ∙
          added_more seen_method (λ m. record { class = c.args.number; owner = class_name (seen_class c.args.class.now); names = c.args.class.now.names.now; decl = m })
          (seen_methods c.args.methods.now.items) c.loop-decl.methods.items _ c.as_slice-decls.result.now c.loop-decl.decl-index c.decl-item.result
          c.loop-decl.invariant.pushed c.loop-decl-test.true c.decl-item.is (λ i. made (sym named i) (names i));
      few = omega (arith, c.in_ok-push.ensures.len, c.push.new.self.ok.0, c.if-len.false, c.len.ensures, c.loop-decl.methods.ok.0);
      known = rw c.in_ok-push.ensures.items
          (All-push (IsKnown c.args.all.now) c.loop-decl.methods.items _ c.loop-decl.invariant.known
          (known_method c.args.all.now c.args.class.now c.loop-decl.decl-index c.decl-item.result _ c.requires.seen item refl refl refl));
    }
