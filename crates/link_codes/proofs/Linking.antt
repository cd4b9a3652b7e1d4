-- What the codes of methods make of a linked program.
use Rattle.std.proofs.Common.{◌≡◌, ℕ, ◌++◌, List, [], ◌∷◌, flat_map, length, map, sym, ap, subst, ◌∙◌}
use Rattle.std.specs.Prelude.{not}
use Rattle.std.proofs.lemmas.Grind.{flat_map-append}
use Rattle.std.proofs.lemmas.List.{append-nil}
use Rattle.link_rules.specs.Classes.{DeclaredMethod}
use Rattle.link_rules.specs.Linked.{IsLinkedMethod, LinkedMethod, LinkedProgram, class_text_in, text_in, used_by}
use Rattle.lists.specs.Lists.{FirstSeen}
use Rattle.link_rules.specs.Names.{text_of}
use Rattle.link_rules.specs.World.{World}
use Rattle.link_codes.specs.declared.constants.Constants.{Constants}
use Rattle.link_codes.specs.declared.method.MethodCode.{MethodCode}
use Rattle.link_codes.specs.Constants.{Extends}
use Rattle.link_program.specs.Elements.{elements_in}
use Rattle.link_codes.specs.Methods.{IsMethodCode, UsesMethod}

-- with all constants in place, a method with its code is one of the linked program
pub linked_method : (w : World) (p : LinkedProgram) (text : List ℕ) (m : DeclaredMethod) (now : Constants) (c : MethodCode) (l : LinkedMethod) (made : IsMethodCode w p.method_rows m now c)
    → Extends now (record { texts = p.texts; class_texts = p.class_texts }) → l.text ≡ text → l.has_this ≡ not m.decl.is_static → l.params ≡ length m.decl.params
    → l.locals ≡ map (text_of m.names) made.body.locals → l.code ≡ c.code.items → l.catches ≡ c.catches.items → l.elements ≡ elements_in c.elements.items → IsLinkedMethod w p text m l
linked_method w p text m now c l made kept named has_this params locals code catches elements =
    let all : Constants = record { texts = p.texts; class_texts = p.class_texts } in
    record {
      body = made.body;
      in_body = made.in_body;
      named = named;
      has_this = has_this;
      params = params;
      locals = locals;
      code = rw code (made.code all kept);
      catches = rw catches (made.catches all);
      elements = elements ∙ made.elements;
    }

-- the constants of one method more
module _ (users : List DeclaredMethod) (m : DeclaredMethod) (old new : Constants) (uses : UsesMethod m old new) where
  pub texts_more : FirstSeen (flat_map (used_by text_in) users) old.texts → FirstSeen (flat_map (used_by text_in) (users ++ m ∷ [])) new.texts
  texts_more seen =
      subst (λ us. FirstSeen us new.texts) (sym (flat_map-append (used_by text_in) users (m ∷ []) ∙ ap (λ l. flat_map (used_by text_in) users ++ l) (append-nil (used_by text_in m))))
      (uses.texts (flat_map (used_by text_in) users) seen)

  pub class_texts_more : FirstSeen (flat_map (used_by class_text_in) users) old.class_texts → FirstSeen (flat_map (used_by class_text_in) (users ++ m ∷ [])) new.class_texts
  class_texts_more seen =
      subst (λ us. FirstSeen us new.class_texts)
      (sym (flat_map-append (used_by class_text_in) users (m ∷ []) ∙ ap (λ l. flat_map (used_by class_text_in) users ++ l) (append-nil (used_by class_text_in m))))
      (uses.class_texts (flat_map (used_by class_text_in) users) seen)
