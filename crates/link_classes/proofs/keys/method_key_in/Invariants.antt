use Rattle.std.proofs.Common.{◌≡◌, ℕ, ◌<◌, All, List, length, map, take}
use Rattle.jim_ast.specs.declared.names.NameId.{NameId}
use Rattle.link_rules.specs.Names.{type_key}
use Rattle.link_classes.specs.Classes.{texts_at}
use Rattle.link_classes.specs.Keyed.{IsTypeWithin, type_of}
use Rattle.link_classes.proofs.keys.method_key_in.Given as goal

abbrev pub invariant-loop-ty : goal.invariant-loop-ty
invariant-loop-ty l = record {
  same : (texts : List (List ℕ)) → map (λ t. type_key texts (type_of t)) l.types.items ≡ map (type_key (texts_at texts l.ids)) (take l.ty-index l.params);
  within : (texts : List (List ℕ)) → All (λ (id : NameId). id.0 < length texts) l.ids → All (IsTypeWithin texts) l.types.items;
}
