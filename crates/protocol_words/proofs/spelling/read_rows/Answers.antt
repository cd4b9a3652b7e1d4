use Rattle.std.proofs.Common.{◌<◌, ◌≤◌, suc, [], ◌∷◌, ap, sym, subst, ◌∙◌, add-one, length, map, arith}
use Rattle.std.proofs.lemmas.List.{map-append, take_all}
use Rattle.lists.specs.Lists.{Has}
use Rattle.protocol_words.specs.Spellings.{AreRows, named_row, texts}
use Rattle.protocol_words.proofs.Rows.{are_rows, breaks_again, breaks_form, key_found, key_new, length-texts, read_next, text_at, unbroken}
use Rattle.protocol_words.proofs.spelling.read_rows.Goals as goal

pub returns-in_default-clause-err : goal.returns-in_default-clause-err
returns-in_default-clause-err c = λ head.
    let below : c.loop-index.index < length c.args.parts.now = omega arith in
    let behind : 0 < suc c.loop-index.index = omega arith in
    let at = text_at c.args.parts.now c.loop-index.index _ below in
    let none = c.in_default.ensures.none in
    let are = are_rows _ _ _ c.loop-index.invariant in
    rw add-one (behind, breaks_form head (texts c.args.parts.now) c.loop-index.index (map named_row c.loop-index.rows.items) _ at none, unbroken head (texts c.args.parts.now) c.loop-index.index (map named_row c.loop-index.rows.items) are)

pub returns-then-is_some-clause-err : goal.returns-then-is_some-clause-err
returns-then-is_some-clause-err c = λ head.
    let row = named_row c.in-Some.row in
    let below : c.loop-index.index < length c.args.parts.now = omega arith in
    let behind : 0 < suc c.loop-index.index = omega arith in
    let at = text_at c.args.parts.now c.loop-index.index _ below in
    let found = key_found c.loop-index.keys c.in-Some.row.key.now c.find.result c.find.ensures.found (sym c.is_some.ensures ∙ c.if-is_some.true) in
    let has = subst (Has c.loop-index.keys) c.in-Some.ensures.key found in
    let are = are_rows _ _ _ c.loop-index.invariant in
    rw add-one (
      behind,
      breaks_again head (texts c.args.parts.now) c.loop-index.index (map named_row c.loop-index.rows.items) c.loop-index.keys _ row c.loop-index.invariant at c.in-Some.ensures.some has,
      unbroken head (texts c.args.parts.now) c.loop-index.index (map named_row c.loop-index.rows.items) are,
    )

pub loop-index-preserved : goal.loop-index-preserved
loop-index-preserved c =
    let new = key_new c.loop-index.keys c.in-Some.row.key.now c.find.result c.find.ensures.none (sym c.is_some.ensures ∙ c.if-is_some.false) in
    let rows = ap (map named_row) c.in_ok-push.ensures.items ∙ map-append named_row c.loop-index.rows.items (c.in-Some.row ∷ []) in
    let below : c.loop-index.index < length c.args.parts.now = omega arith in
    rw rows (read_next c.args.parts.now c.loop-index.index _ (map named_row c.loop-index.rows.items) c.loop-index.keys c.add.new.self c.in-Some.row.key.now (named_row c.in-Some.row)
    below c.loop-index.invariant c.in-Some.ensures.some c.in-Some.ensures.key new c.in_ok-add.ensures.last c.in_ok-add.ensures.apart)

pub returns-clause-ok : goal.returns-clause-ok
returns-clause-ok c =
    let all : length (texts c.args.parts.now) ≤ c.loop-index.index = omega (arith, length-texts c.args.parts.now) in
    subst (λ parts. AreRows parts (map named_row c.loop-index.rows.items)) (take_all c.loop-index.index (texts c.args.parts.now) all) (are_rows _ _ _ c.loop-index.invariant)
