use Rattle.std.proofs.Common.{◌≡◌, ◌<◌, All, length, sym, ap, subst, arith}
use Rattle.std.proofs.lemmas.List.{length-map}
use Rattle.jim_ast.specs.declared.names.NameId.{NameId}
use Rattle.link_rules.specs.Classes.{fields_of}
use Rattle.link_rules.specs.Conditions.{field_sig_names}
use Rattle.link_rules.specs.Keys.{IsFieldKeyNumber}
use Rattle.link_classes.specs.Classes.{ClassTable}
use Rattle.link_classes.specs.Seen.{seen_classes, seen_field}
use Rattle.link_classes.proofs.Parts.{accessed_name, accessed_type, within_numbers}
use Rattle.link_classes.proofs.classes.Classes.accessed.Goals as goal

pub field_key_in-key-requires-clause-name : goal.field_key_in-key-requires-clause-name
field_key_in-key-requires-clause-name c =
    accessed_name (λ (id : NameId). id.0 < length c.args.ids.now) c.args.sig.now (within_numbers c.args.self.now.texts c.args.ids.now (field_sig_names c.args.sig.now) c.requires.within)

pub field_key_in-key-requires-clause-ty : goal.field_key_in-key-requires-clause-ty
field_key_in-key-requires-clause-ty c =
    accessed_type (λ (id : NameId). id.0 < length c.args.ids.now) c.args.sig.now (within_numbers c.args.self.now.texts c.args.ids.now (field_sig_names c.args.sig.now) c.requires.within)

pub returns : goal.returns
returns c =
    let order = c.self.inside.order in
    let texts = order.all.now.texts in
    let fields = fields_of (seen_classes order.classes.items) in
    let numbers = subst (λ (t : ClassTable). All (λ (id : NameId). id.0 < length t.texts) c.args.ids.now) (sym c.self.view_is) c.requires.numbers in
    let key = c.field_key_in-key.ensures texts numbers in
    let count : c.len.result ≡ length fields =
    omega (arith, c.len.ensures, c.self.inside.fields.ok.0, ap length c.self.invariant.fields, length-map c.self.inside.fields.items seen_field, c.self.invariant.few_fields) in
    rw (← c.self.view_is) (subst (λ k. IsFieldKeyNumber fields k c.field_number.result) key.stands (c.field_number.ensures texts fields c.self.invariant.field_keys key.within count))
