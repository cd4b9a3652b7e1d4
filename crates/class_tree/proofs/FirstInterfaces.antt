-- The way from class to first interface.
use Rattle.std.proofs.Common.{◌≡◌, ℕ, ◌<◌, Option, Some, None, List, [], false, get_or, length, slice_get, ap, subst, sym, ◌∙◌, arith}
use Rattle.std.specs.List.{Contains}
use Rattle.std.proofs.lemmas.List.{length-map}
use Rattle.std.proofs.lemmas.Option.{get_or_from_slice_get}
use Rattle.class_order.specs.Groups.{group}
use Rattle.class_order.specs.Tables.{IsOver}
use Rattle.class_tree.specs.declared.first_fields.FirstFields.{FirstFields}
use Rattle.class_tree.specs.FirstFields.{TellFirstFields, rows_of_firsts}
use Rattle.class_tree.specs.Indexed.{AreRanked}
use Rattle.class_tree.specs.Turns.{turned, turns_of}
use Rattle.class_rules.specs.Lookups.{own_field, FieldHere, Upwards, found, further, ended}
use Rattle.class_rules.specs.Rows.{Rows, HasInterface, HasParent, interfaces_of}
use Rattle.class_rules.proofs.Parents.{interface_named}
use Rattle.lists.proofs.Elements.{Contains-at}
use Rattle.lists.proofs.Joined.{slice_get-mapped}
use Rattle.class_tree.proofs.TreeFacts.{field_in_class, field_from_interface}

pub firsts_len : (interfaces : List (List ℕ)) → length (rows_of_firsts interfaces) ≡ length interfaces
firsts_len interfaces = length-map interfaces (λ (listed : List ℕ). record { parent = slice_get listed 0; interface = false })

-- what stands for the parent is the first interface
first_named : (interfaces : List (List ℕ)) (a b : ℕ) → HasParent (rows_of_firsts interfaces) a b → slice_get (group interfaces a) 0 ≡ Some b
first_named interfaces a b named =
    let m = slice_get-mapped (λ (listed : List ℕ). record { parent = slice_get listed 0; interface = false }) interfaces a named.row named.there in
    ap (λ xs. slice_get xs 0) (get_or_from_slice_get interfaces a m.0 [] m.1) ∙ ap (λ row. row.parent) m.2 ∙ named.names

pub first_listed : (interfaces : List (List ℕ)) (a b : ℕ) → HasParent (rows_of_firsts interfaces) a b → IsOver interfaces a b
first_listed interfaces a b named = Contains-at (group interfaces a) 0 b (first_named interfaces a b named)

-- what stands in the list of a class is one of its interfaces
pub over_named : (implements : List (ℕ × ℕ)) (interfaces : List (List ℕ)) → ((a : ℕ) → group interfaces a ≡ interfaces_of implements a) → (a b : ℕ) → IsOver interfaces a b → HasInterface implements a b
over_named implements interfaces are a b m = interface_named implements a b (subst (λ xs. Contains xs b) (are a) m)

module _ (rows : Rows) (ranks : List ℕ) (ranked : AreRanked rows ranks) (interfaces : List (List ℕ)) (len : length interfaces ≡ length rows.classes) (are : (a : ℕ) → group interfaces a ≡ interfaces_of rows.implements a) (key : ℕ) where
  abbrev pub FirstField : ℕ → Option ℕ → Type 0
  FirstField = Upwards (rows_of_firsts interfaces) (λ c r. r ≡ own_field rows.fields c key)

  pub first_path : (f : FirstFields) → TellFirstFields interfaces rows.fields f → (c : ℕ) → c < length rows.classes → FirstField c (turned None (turns_of f.fields key) (get_or f.numbers.items c 0))
  first_path f tells c h = tells.paths.exact c key (omega (arith, h, len, firsts_len interfaces))

  -- what is found on the way is the field, since the order of interfaces begins with this way
  pub found_first : {c : ℕ} {r : Option ℕ} → FirstField c r → (row : ℕ) → r ≡ Some row → FieldHere rows key c (Some row)
  found_first {c} (found own) row e = field_in_class rows ranks ranked c key row (sym e ∙ own)
  found_first {c} (further {p = p} own named rest) row e =
      field_from_interface rows ranks ranked c key p 0 row own (ap (λ xs. slice_get xs 0) (sym (are c)) ∙ first_named interfaces c p named) (λ k d h. absurd (omega (arith, h))) (found_first rest row e)
  found_first (ended own none) row e = absurd (cc)

  -- where nothing is found on the way, the class itself has no such field
  pub none_first : {c : ℕ} {r : Option ℕ} → FirstField c r → r ≡ None → None ≡ own_field rows.fields c key
  none_first (found own) e = absurd (cc)
  none_first (further own named rest) e = own
  none_first (ended own none) e = own
