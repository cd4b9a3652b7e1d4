use Rattle.std.proofs.Common.{◌≡◌, ◌+◌, ◌++◌, ◌∷◌, [], All, length, take, drop, refl, sym, ap, subst, ◌∙◌, inl, arith, length-take}
use Rattle.std.proofs.lemmas.List.{length-map}
use Rattle.lists.specs.Lists.{IsLeast, Each}
use Rattle.link_rules.specs.Keys.{HasMethodKey, method_key}
use Rattle.link_rules.specs.World.{IsMethodRow}
use Rattle.link_classes.specs.Classes.{IsKnown}
use Rattle.link_classes.specs.Keyed.{IsMethodKeyIn}
use Rattle.link_classes.specs.Seen.{seen_method, seen_methods}
use Rattle.link_classes.specs.Tables.{KnowsMethods}
use Rattle.link_classes.proofs.FirstMembers.{least_of_front}
use Rattle.link_classes.proofs.Growing.{taken_more, taken_whole}
use Rattle.lists.proofs.SideBySide.{Each-push}
use Rattle.link_classes.proofs.KeyTests.{makes_method, opens_method}
use Rattle.link_classes.proofs.member_tables.MethodTable.new.Goals as goal

pub loop-row-preserved : goal.loop-row-preserved
loop-row-preserved c =
    let members = c.as_slice-members.result.now in
    let texts = c.args.order.now.all.now.texts in
    let so_far = seen_methods (take c.loop-row.row members) in
    let next = seen_method c.index-members-row.result in
    let known : IsKnown c.args.order.now.all.now.texts c.index-members-row.result =
    subst (IsKnown c.args.order.now.all.now.texts) (sym c.index-members-row.is)
    (subst (λ ms. All (IsKnown c.args.order.now.all.now.texts) ms) (sym c.as_slice-members.ensures.value) c.in_ok-methods.ensures.known c.loop-row.row c.index-members-row.result c.loop-row-test.true) in
    let last : c.loop-row.row ≡ length so_far = omega (arith, length-map (take c.loop-row.row members) seen_method, length-take c.loop-row.row members) in
    let numbered = c.in_ok-first.ensures texts so_far next c.requires.apart c.loop-row.invariant.knows (subst (λ ts. IsMethodKeyIn ts (method_key (seen_method c.index-members-row.result)) c.in_ok-key.key) known.all c.in_ok-key.ensures) last in
    let more : seen_methods (take (c.loop-row.row + 1) members) ≡ so_far ++ next ∷ [] = taken_more seen_method members c.loop-row.row c.index-members-row.result c.loop-row-test.true c.index-members-row.is in
    let whole : (so_far ++ next ∷ []) ++ seen_methods (drop (c.loop-row.row + 1) members) ≡ seen_methods members =
    ap (λ ms. ms ++ seen_methods (drop (c.loop-row.row + 1) members)) (sym more) ∙ taken_whole seen_method members (c.loop-row.row + 1) in
    let least : IsLeast (HasMethodKey (seen_methods members) (method_key next)) c.in_ok-first.first =
    subst (λ ms. IsLeast (HasMethodKey ms (method_key next)) c.in_ok-first.first) whole
    (least_of_front method_key HasMethodKey opens_method makes_method (so_far ++ next ∷ []) (seen_methods (drop (c.loop-row.row + 1) members)) (method_key next) c.in_ok-first.first numbered.1) in
    record {
      knows = subst (λ ms. KnowsMethods texts ms c.number.new.self) (sym more) numbered.0;
      rows = subst (λ ms. Each (IsMethodRow (seen_methods members)) ms c.push.new.self.items) (sym more)
          (rw c.in_ok-push.ensures.items
          (Each-push (IsMethodRow (seen_methods members)) so_far c.loop-row.rows.items next _ c.loop-row.invariant.rows (record { class = refl; body = c.body_kind.ensures; key = inl least })));
    }
