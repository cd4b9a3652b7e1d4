use Rattle.std.proofs.Common.{◌≡◌, ◌≤◌, ◌++◌, [], ◌∷◌, ap, subst, ◌∙◌, add-one, length, map, arith}
use Rattle.std.specs.List.{AllZip}
use Rattle.std.proofs.lemmas.List.{map-append, take_all}
use Rattle.boom_words.specs.Fields.{field_name, texts}
use Rattle.boom_words.proofs.Elements.{zip_next}
use Rattle.boom_words.proofs.Parts.{Reads, all_read, bad_part, too_many}
use Rattle.boom_words.proofs.fields.read_fields.Goals as goal

pub returns-then-len-gt-MOST_FIELDS-clause-none : goal.returns-then-len-gt-MOST_FIELDS-clause-none
returns-then-len-gt-MOST_FIELDS-clause-none c =
    too_many c.args.word.now c.in_ok-parts.parts.items c.in_ok-parts.ensures (omega (arith, c.if-len-gt-MOST_FIELDS.true, c.len.ensures))

pub returns-in_default-clause-none : goal.returns-in_default-clause-none
returns-in_default-clause-none c =
    bad_part c.args.word.now c.as_slice-part-items.result.now c.loop-part.part-index _ (ap texts c.as_slice-part-items.ensures.value ∙ c.in_ok-parts.ensures)
    c.loop-part-test.true c.in_default.ensures.none

pub loop-part-preserved : goal.loop-part-preserved
loop-part-preserved c =
    let fields : map field_name c.push.new.self.items ≡ map field_name c.loop-part.fields.items ++ field_name c.in-Some.field ∷ [] =
    ap (map field_name) c.in_ok-push.ensures.items ∙ map-append field_name c.loop-part.fields.items (c.in-Some.field ∷ []) in
    rw (fields, add-one) (zip_next Reads c.as_slice-part-items.result.now (map field_name c.loop-part.fields.items) c.loop-part.part-index _ (field_name c.in-Some.field)
    c.loop-part-test.true c.loop-part.invariant c.in-Some.ensures.some)

pub returns-clause-some : goal.returns-clause-some
returns-clause-some c =
    let few : length c.as_slice-part-items.result.now ≤ 4 = omega (arith, c.if-len-gt-MOST_FIELDS.false, c.len.ensures, c.as_slice-part-items.ensures.len) in
    all_read c.args.word.now c.as_slice-part-items.result.now (map field_name c.loop-part.fields.items)
    (ap texts c.as_slice-part-items.ensures.value ∙ c.in_ok-parts.ensures) few
    (subst (λ parts. AllZip Reads parts (map field_name c.loop-part.fields.items)) (take_all c.loop-part.part-index _ c.loop-part-test.false) c.loop-part.invariant)
