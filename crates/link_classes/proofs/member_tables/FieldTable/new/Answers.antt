use Rattle.std.proofs.Common.{◌≡◌, ◌+◌, ◌++◌, ◌∷◌, [], length, take, drop, refl, sym, ap, subst, ◌∙◌, inl, arith, length-take}
use Rattle.std.proofs.lemmas.List.{length-map}
use Rattle.lists.specs.Lists.{IsLeast, Each}
use Rattle.link_rules.specs.Keys.{HasFieldKey, field_key}
use Rattle.link_rules.specs.World.{IsFieldRow}
use Rattle.link_classes.specs.Seen.{seen_field, seen_fields}
use Rattle.link_classes.specs.Tables.{KnowsFields}
use Rattle.link_classes.proofs.FirstMembers.{least_of_front}
use Rattle.link_classes.proofs.Growing.{taken_more, taken_whole}
use Rattle.lists.proofs.SideBySide.{Each-push}
use Rattle.link_classes.proofs.KeyTests.{makes_field, opens_field}
use Rattle.link_classes.proofs.member_tables.FieldTable.new.Goals as goal

pub loop-row-preserved : goal.loop-row-preserved
loop-row-preserved c =
    let members = c.as_slice-members.result.now in
    let texts = c.args.order.now.all.now.texts in
    let so_far = seen_fields (take c.loop-row.row members) in
    let next = seen_field c.index-members-row.result in
    let last : c.loop-row.row ≡ length so_far = omega (arith, length-map (take c.loop-row.row members) seen_field, length-take c.loop-row.row members) in
    let numbered = c.in_ok-first.ensures texts so_far next c.requires.apart c.loop-row.invariant.knows c.key_of_field-key.ensures last in
    let more : seen_fields (take (c.loop-row.row + 1) members) ≡ so_far ++ next ∷ [] = taken_more seen_field members c.loop-row.row c.index-members-row.result c.loop-row-test.true c.index-members-row.is in
    let whole : (so_far ++ next ∷ []) ++ seen_fields (drop (c.loop-row.row + 1) members) ≡ seen_fields members =
    ap (λ ms. ms ++ seen_fields (drop (c.loop-row.row + 1) members)) (sym more) ∙ taken_whole seen_field members (c.loop-row.row + 1) in
    let least : IsLeast (HasFieldKey (seen_fields members) (field_key next)) c.in_ok-first.first =
    subst (λ ms. IsLeast (HasFieldKey ms (field_key next)) c.in_ok-first.first) whole
    (least_of_front field_key HasFieldKey opens_field makes_field (so_far ++ next ∷ []) (seen_fields (drop (c.loop-row.row + 1) members)) (field_key next) c.in_ok-first.first numbered.1) in
    record {
      knows = subst (λ ms. KnowsFields texts ms c.number.new.self) (sym more) numbered.0;
      rows = subst (λ ms. Each (IsFieldRow (seen_fields members)) ms c.push.new.self.items) (sym more)
          (rw c.in_ok-push.ensures.items
          (Each-push (IsFieldRow (seen_fields members)) so_far c.loop-row.rows.items next _ c.loop-row.invariant.rows (record { class = refl; key = inl least })));
    }
