-- The linked program is one.
use Rattle.std.proofs.Common.{◌≡◌, ℕ, ◌++◌, Some, List, [], ◌∷◌, codes, flat_map, map, refl, sym, ap, ◌∙◌, subst, inl, inr, slice_get}
use Rattle.lists.specs.Lists.{IsApart, Each, FirstSeen}
use Rattle.jim_ast.specs.declared.syntax.Body.{Body}
use Rattle.link_rules.specs.Classes.{DeclaredClass, DeclaredMethod, method_text, methods_of}
use Rattle.link_rules.specs.Codes.{IsCatch, IsCode, Scope}
use Rattle.link_rules.specs.Linked.{AreLinkedMethods, IsLinkedClass, IsLinkedMethod, IsLinkedRow, IsLinkOf, LinkedClass, LinkedMethod, LinkedProgram, class_text_in, elements_of, scope_of, text_in, used_by}
use Rattle.link_rules.specs.Names.{text_of}
use Rattle.link_rules.specs.Reach.{AreInitialized, Reached}
use Rattle.link_rules.specs.Refusals.{IsAccepted, IsReachedAs, within}
use Rattle.link_rules.specs.Root.{root_number, root_of}
use Rattle.link_rules.specs.Statements.{HasBody}
use Rattle.link_rules.specs.World.{World}
use Rattle.link_rules.specs.declared.refusal.LinkKind.TheVariants as rule
use Rattle.link_rules.proofs.OneWorld.{world_one}
use Rattle.link_laws.proofs.Lists.{first_seen_apart, increasing_apart}
use Rattle.link_laws.specs.One.{HasOneLink}
use Rattle.link_laws.proofs.OneCode.{HasOneEach, catch_one, code_one}
use Rattle.link_laws.proofs.OneList.{apart_unless, bool_one, each_one, each_two, first_seen_one, increasing_one}
use Rattle.link_laws.proofs.OneClass.{class_one}

module _ (w : World) (accepted : IsAccepted w) where
  -- the locals of a method that may be reached stand at one place each
  locals_apart : (number : ℕ) (m : DeclaredMethod) (body : Body) → IsReachedAs w number m → HasBody m body → IsApart body.locals
  locals_apart number m body reached in_body = apart_unless body.locals (λ repeated.
      accepted (within number 0 rule.DuplicateLocal) (m, reached, record { body = body; in_body = in_body; repeated = repeated; at_zero = refl }))

-- the classes that are initialized are one list
initialized_one : (w : World) (a b : List ℕ) → AreInitialized w a → AreInitialized w b → a ≡ b
initialized_one w a b p q = increasing_one a b (λ x h. (q.each x).1 ((p.each x).0 h)) (λ x h. (p.each x).1 ((q.each x).0 h)) p.ordered q.ordered

-- a method of two linked programs that number alike
module _ (w : World) (p q : LinkedProgram) (accepted : IsAccepted w) (texts : p.texts ≡ q.texts) (class_texts : p.class_texts ≡ q.class_texts)
    (rows : p.method_rows ≡ q.method_rows) (texts_apart : IsApart q.texts) (class_texts_apart : IsApart q.class_texts) (rows_apart : IsApart q.method_rows) where
  -- their codes are made over one scope
  scopes : (m : DeclaredMethod) (a b : Body) → a ≡ b → scope_of w p m a ≡ scope_of w q m b
  scopes m a b bodies j = record { world = w; texts = texts j; class_texts = class_texts j; method_rows = rows j; names = m.names; body = bodies j }

  linked_one : (number : ℕ) (text : List ℕ) (m : DeclaredMethod) (l k : LinkedMethod) → IsReachedAs w number m → IsLinkedMethod w p text m l → IsLinkedMethod w q text m k
      → l ≡ k
  linked_one number text m l k reached a b =
      let bodies : a.body ≡ b.body = cc (a.in_body, b.in_body) in
      let same = scopes m a.body b.body bodies in
      let one : HasOneEach (scope_of w q m b.body) = record {
        locals = locals_apart w accepted number m b.body reached b.in_body;
        classes = class_one w accepted;
        texts = texts_apart;
        class_texts = class_texts_apart;
        rows = rows_apart;
      } in
      let code_there = subst (λ (x : Body). Each (IsCode (scope_of w q m b.body)) x.stmts l.code) bodies (subst (λ (s : Scope). Each (IsCode s) a.body.stmts l.code) same a.code) in
      let catches_there = subst (λ (x : Body). Each (IsCatch (scope_of w q m b.body)) x.traps l.catches) bodies (subst (λ (s : Scope). Each (IsCatch s) a.body.traps l.catches) same a.catches) in
      let named = a.named ∙ sym b.named in
      let has_this = a.has_this ∙ sym b.has_this in
      let params = a.params ∙ sym b.params in
      let locals = a.locals ∙ ap (λ (x : Body). map (text_of m.names) x.locals) bodies ∙ sym b.locals in
      let code = each_one (IsCode (scope_of w q m b.body)) b.body.stmts l.code k.code (code_one (scope_of w q m b.body) one) code_there b.code in
      let catches = each_one (IsCatch (scope_of w q m b.body)) b.body.traps l.catches k.catches (catch_one (scope_of w q m b.body) one) catches_there b.catches in
      let elements = a.elements ∙ ap (λ (x : Body). elements_of m.names x.stmts) bodies ∙ sym b.elements in
      λ j. record { text = named j; has_this = has_this j; params = params j; locals = locals j; code = code j; catches = catches j; elements = elements j }

  row_one : (row : ℕ) (l k : LinkedMethod) → Reached w row → IsLinkedRow w p row l → IsLinkedRow w q row k → l ≡ k
  row_one row l k reached a b =
      let same : b.method ≡ a.method = cc (a.there, b.there) in
      linked_one row (method_text a.method) a.method l k (inl (reached, a.there)) a.linked
      (subst (λ (m : DeclaredMethod). IsLinkedMethod w q (method_text m) m k) same b.linked)

  -- all methods are one list
  methods_one : (a b : List ℕ) → AreInitialized w a → AreInitialized w b → AreLinkedMethods w p a → AreLinkedMethods w q b → p.methods ≡ q.methods
  methods_one a b are are_too x y =
      let before = each_two (IsLinkedRow w p) (IsLinkedRow w q) q.method_rows x.before y.before
      (λ i row l k there c d. row_one row l k (((y.reached row).0 (i, there)).1) c d)
      (subst (λ rs. Each (IsLinkedRow w p) rs x.before) rows x.each) y.each in
      let initialized = initialized_one w a b are are_too in
      let root = linked_one (root_number w) (codes "root") (root_of w b) x.root y.root (inr (refl, b, are_too, refl))
      (subst (λ i. IsLinkedMethod w p (codes "root") (root_of w i) x.root) initialized x.is_root) y.is_root in
      x.all ∙ ap (λ ms. ms ++ x.root ∷ []) before ∙ ap (λ m. y.before ++ m ∷ []) root ∙ sym y.all

-- the class that a declared one becomes is one
linked_class_one : (c : DeclaredClass) (a b : LinkedClass) → IsLinkedClass c a → IsLinkedClass c b → a ≡ b
linked_class_one c a b p q =
    let name = p.name ∙ sym q.name in
    let flag = bool_one a.instantiable b.instantiable (λ h. q.instantiable.1 (p.instantiable.0 h)) (λ h. p.instantiable.1 (q.instantiable.0 h)) in
    λ j. record { name = name j; instantiable = flag j }

-- of one world
world_link_one : (w : World) (p q : LinkedProgram) → IsLinkOf w p → IsLinkOf w q → p ≡ q
world_link_one w p q a b =
    let rows = increasing_one p.method_rows q.method_rows (λ x h. (b.methods.reached x).1 ((a.methods.reached x).0 h)) (λ x h. (a.methods.reached x).1 ((b.methods.reached x).0 h))
    a.methods.ordered b.methods.ordered in
    let Used : ℕ → DeclaredMethod → Type 0 = λ row m. slice_get (methods_of w.classes) row ≡ Some m in
    let users = each_one Used q.method_rows a.constants.users b.constants.users
    (λ row m n x y. let same : m ≡ n = cc (x, y) in same) (subst (λ rs. Each Used rs a.constants.users) rows a.constants.each) b.constants.each in
    let texts = first_seen_one (subst (λ us. FirstSeen (flat_map (used_by text_in) us) p.texts) users a.constants.texts) q.texts b.constants.texts in
    let class_texts = first_seen_one (subst (λ us. FirstSeen (flat_map (used_by class_text_in) us) p.class_texts) users a.constants.class_texts) q.class_texts b.constants.class_texts in
    let methods = methods_one w p q a.accepted texts class_texts rows (first_seen_apart b.constants.texts) (first_seen_apart b.constants.class_texts)
    (increasing_apart q.method_rows b.methods.ordered) a.initialized b.initialized a.are_initialized b.are_initialized a.methods b.methods in
    let classes = each_one IsLinkedClass w.classes p.classes q.classes linked_class_one a.classes b.classes in
    let tree = a.rows ∙ sym b.rows in
    let keys = a.keys ∙ sym b.keys in
    let fields = a.fields ∙ sym b.fields in
    let statics = a.static_count ∙ sym b.static_count in
    λ j. record {
      methods = methods j;
      classes = classes j;
      fields = fields j;
      static_count = statics j;
      keys = keys j;
      texts = texts j;
      class_texts = class_texts j;
      rows = tree j;
      method_rows = rows j;
    }

pub link_one : HasOneLink
link_one input prelude entry p q a b =
    let worlds = world_one input prelude entry a.world b.world a.is_world b.is_world in
    world_link_one b.world p q (subst (λ (w : World). IsLinkOf w p) worlds a.linked) b.linked
