-- The parts are those of the linked program.
use Rattle.std.proofs.Common.{ℕ, List, Result, Ok, Err, refl, sym, subst}
use Rattle.std.specs.Result.{IfErr}
use Rattle.link_codes.proofs.Used.{extends_itself}
use Rattle.link_program.specs.Parts.{program_of}
use Rattle.link_program.specs.declared.parts.CodePart.{CodePart}
use Rattle.link_program.specs.declared.parts.MemberPart.{MemberPart}
use Rattle.link_rules.specs.Classes.{DeclaredMethod}
use Rattle.link_rules.specs.Linked.{IsLinkOf, IsLinkedMethod, LinkedMethod, LinkedProgram}
use Rattle.link_rules.specs.Reach.{AreInitialized}
use Rattle.link_rules.specs.Refusals.{IsAccepted}
use Rattle.link_rules.specs.World.{World}
use Rattle.jim_link.specs.Made.{AreAllMade, IsMadeMethod}
use Rattle.jim_link.specs.declared.made.Made.{Made}
use Rattle.link_reach.specs.Reaches.{AreReached}
use Rattle.jim_link.specs.Members.{AreMembers}
use Rattle.jim_link.specs.Rows.{AreCodes, ArePartsOf, IsCodeOf, made_in}
use Rattle.jim_link.specs.declared.rows.Parts.{Parts}

module _ (w : World) (c : CodePart) (m : MemberPart) where
  -- the program of these parts
  abbrev whole : LinkedProgram
  whole = program_of c m w.rows

  -- what is made is a method of it
  linked_method : (text : List ℕ) (d : DeclaredMethod) (l : LinkedMethod) → IsMadeMethod w c.rows text d (made_in c).constants l → IsLinkedMethod w whole text d l
  linked_method text d l is = record {
    body = is.body;
    in_body = is.in_body;
    named = is.named;
    has_this = is.has_this;
    params = is.params;
    locals = is.locals;
    code = is.code (made_in c).constants (extends_itself (made_in c).constants);
    catches = is.catches (made_in c).constants;
    elements = is.elements;
  }

  -- it is the linked program
  pub is_link : (initialized : List ℕ) → IsAccepted w → AreInitialized w initialized → AreCodes w initialized c → AreMembers w m → IsLinkOf w whole
  is_link initialized accepted are codes members = record {
    accepted = accepted;
    initialized = initialized;
    are_initialized = are;
    methods = record {
      ordered = codes.reached.ordered;
      reached = codes.reached.each;
      before = codes.made.before;
      each = record {
        as_many = codes.made.each.as_many;
        each = λ i row l p q. let r = codes.made.each.each i row l p q in record { method = r.method; there = r.there; linked = linked_method _ r.method l r.made };
      };
      root = codes.made.root;
      is_root = linked_method _ _ codes.made.root codes.made.is_root;
      all = codes.made.all;
    };
    constants = record {
      users = codes.made.used.users;
      each = codes.made.used.each;
      texts = codes.made.used.texts;
      class_texts = codes.made.used.class_texts;
    };
    classes = members.classes;
    rows = refl;
    keys = members.keys;
    fields = members.fields;
    static_count = members.static_count;
  }

-- the parts of an accepted program
pub are_parts : (w : World) (initialized : List ℕ) (p : Parts) → IsAccepted w → AreInitialized w initialized → AreCodes w initialized p.code → AreMembers w p.members → ArePartsOf w p
are_parts w initialized p accepted are codes members = record {
  parts = record { methods = codes.made.methods; classes = members.table; few_fields = members.few_fields };
  linked = is_link w p.code p.members initialized accepted are codes members;
}

-- the code is that of what a run may reach
pub are_codes : (w : World) (rows initialized : List ℕ) (made : Made) (c : CodePart) → AreReached w rows → AreAllMade w rows initialized made → IsCodeOf rows made c → AreCodes w initialized c
are_codes w rows initialized made c reached all is = record {
  reached = subst (AreReached w) (sym is.rows) reached;
  made = subst (λ rs. AreAllMade w rs initialized (made_in c)) (sym is.rows) (subst (AreAllMade w rows initialized) (sym is.made) all);
}

-- what a clause says of an error
pub on_error : {T E : Type 0} (r : Result T E) (P Q : E → Type 0) → ((e : E) → P e → Q e) → IfErr r P → IfErr r Q
on_error (Ok x) P Q f p = tt
on_error (Err e) P Q f p = f e p
