-- The call system of start nodes derives exactly the call strings that edges give from them, as words of the numbers of their calls.
use Rattle.std.proofs.Common.{◌≡◌, ◌↔◌, ℕ, List, [], ◌∷◌, Some, slice_get, refl, ap, subst}
use Rattle.lists.specs.Lists.{Has}
use Rattle.auto_table.specs.declared.rule.Rule.TheVariants as rule
use Rattle.call_side.specs.Bases.{AreMarks}
use Rattle.call_side.proofs.Order.{ordered_once}
use Rattle.link_rules.specs.declared.code.Code.TheVariants as code
use Rattle.link_rules.specs.Linked.{LinkedProgram}
use Rattle.link_rules.specs.WellLinked.{HasTarget}
use Rattle.link_sites.specs.declared.place.Place.{Place}
use Rattle.link_sites.specs.Places.{before}
use Rattle.post_star.specs.declared.bases.Start.{Start}
use Rattle.post_star.specs.Derivations.{Derives, Leads}
use Rattle.post_star.specs.Jobs.{Job}
use Rattle.spds_laws.proofs.Crossings.{call_leads}
use Rattle.spds_laws.specs.Starts.{FromStarts}
use Rattle.spds_rules.specs.declared.edge.EdgeKind.{EdgeKind}
use Rattle.spds_rules.specs.declared.edge.EdgeKind.TheVariants.{Call, Return}
use Rattle.spds_rules.specs.declared.node.Node.{Node}
use Rattle.spds_rules.specs.Demand.{Asked, Demanded, EdgeIn}
use Rattle.spds_rules.specs.Systems.{IsString, KeepsCalls}
use Rattle.spds_tables.specs.Names.{AreNames, Names}
use Rattle.spds_tables.specs.Systems.{IsCallStart, IsCallSystem, IsCrossed, IsKept, Reaches}
use Rattle.weight_laws.specs.declared.reach.Reach.{Reach}
use Rattle.weight_laws.specs.Reach.{reach_domain}

module _ (p : LinkedProgram) (q : Asked) (names : Names) (are : AreNames p q names) where
  -- a call with a target has a number
  target_numbered : (call : Place) (target : ℕ) → call ≡ before call.method call.index → HasTarget p call.method call.index target → Has names.calls call
  target_numbered call target e h =
      (are.calls.each call).1 (
        ap (λ (c : Place). c.raised) e,
        record {
          code = code.Call h.to h.mode h.class h.key h.receiver h.args h.targets;
          at = record { method = h.method; there = h.there; here = h.call };
          is_so = tt;
        },
      )

  -- so have the calls of a string
  pub string_marks : {number : ℕ} {string : List Place} → IsString p number string → (word : List ℕ) × AreMarks names.calls word string
  string_marks (IsString.root last) = ([], tt)
  string_marks (IsString.called {number} {index} {target} has is) =
      let mark = target_numbered (before number index) target refl has in
      let rest = string_marks is in
      (mark.0 ∷ rest.0, (mark.1, rest.1))

  -- a word stands for one string, and a string for one word
  pub same_string : (word : List ℕ) (first second : List Place) → AreMarks names.calls word first → AreMarks names.calls word second → first ≡ second
  same_string [] [] [] a b = refl
  same_string [] [] (y ∷ ys) a b = absurd b
  same_string [] (x ∷ xs) second a b = absurd a
  same_string (m ∷ word) [] second a b = absurd a
  same_string (m ∷ word) (x ∷ xs) [] a b = absurd b
  same_string (m ∷ word) (x ∷ xs) (y ∷ ys) a b = let e : xs ≡ ys = same_string word xs ys a.1 b.1 in cc (a.0, b.0)

  pub same_word : (string : List Place) (first second : List ℕ) → AreMarks names.calls first string → AreMarks names.calls second string → first ≡ second
  same_word [] [] [] a b = refl
  same_word [] [] (y ∷ ys) a b = absurd b
  same_word [] (x ∷ xs) second a b = absurd a
  same_word (c ∷ string) [] second a b = absurd a
  same_word (c ∷ string) (x ∷ xs) [] a b = absurd b
  same_word (c ∷ string) (x ∷ xs) (y ∷ ys) a b =
      let e : xs ≡ ys = same_word string xs ys a.1 b.1 in
      let same : x ≡ y = ordered_once names.calls x y c are.calls.ordered a.0 b.0 in
      cc

  module _ (Begins : Node → Type 0) (job : Job Reach) (is : IsCallSystem p q names Begins job) where
    -- a word that is derived, and a string of the node with the number
    record IsIn (number : ℕ) (word : List ℕ) : Type 0 where
      pub node : Node
      pub string : List Place
      pub there : slice_get names.nodes number ≡ Some node
      pub marks : AreMarks names.calls word string
      pub given : FromStarts p q Begins node string

    in_node : (number : ℕ) (n m : Node) (string : List Place) → slice_get names.nodes number ≡ Some n → slice_get names.nodes number ≡ Some m
        → FromStarts p q Begins m string → FromStarts p q Begins n string
    in_node number n m string there here given = let same : m ≡ n = cc in subst (λ (x : Node). FromStarts p q Begins x string) same given

    start_in : (s : Start Reach) (word : List ℕ) → IsCallStart names Begins s → Leads job.steps s.base word job.last → IsIn s.node word
    start_in s word st leads =
        let spelt = (is.steps job.last s.base word is.last).0 leads in
        record {
          node = st.node;
          string = spelt.string;
          there = st.node_is;
          marks = spelt.marks;
          given = FromStarts.start st.start (subst (λ (m : ℕ). IsString p m spelt.string) st.base_is spelt.is_string);
        }

    keep_in : (from to : ℕ) (word : List ℕ) → IsKept p q names KeepsCalls from to → IsIn from word → IsIn to word
    keep_in from to word k h = record {
      node = k.target;
      string = h.string;
      there = k.to_is;
      marks = h.marks;
      given = FromStarts.keep k.edge k.keeps (in_node from k.source h.node h.string k.from_is h.there h.given);
    }

    push_in : (from mark to : ℕ) (word : List ℕ) → IsCrossed p q names Call from mark to → IsIn from word → IsIn to (mark ∷ word)
    push_in from mark to word k h = record {
      node = k.target;
      string = k.call ∷ h.string;
      there = k.to_is;
      marks = (k.mark_is, h.marks);
      given = FromStarts.push k.edge (in_node from k.source h.node h.string k.from_is h.there h.given);
    }

    pop_from : (from mark to : ℕ) (word : List ℕ) (node : Node) (string : List Place) → IsCrossed p q names Return from mark to → slice_get names.nodes from ≡ Some node
        → AreMarks names.calls (mark ∷ word) string → FromStarts p q Begins node string → IsIn to word
    pop_from from mark to word node [] k there marks given = absurd marks
    pop_from from mark to word node (call ∷ string) k there marks given =
        let over : call ≡ k.call = cc (marks.0, k.mark_is) in
        let source = in_node from k.source node (call ∷ string) k.from_is there given in
        record {
          node = k.target;
          string = string;
          there = k.to_is;
          marks = marks.1;
          given = FromStarts.pop k.edge (subst (λ (c : Place). FromStarts p q Begins k.source (c ∷ string)) over source);
        }

    -- what is derived is given
    derived_in : {number : ℕ} {word : List ℕ} {x : Reach} → Derives reach_domain job.rules job.starts job.steps job.last number word x → IsIn number word
    derived_in (Derives.starts_at {s} {word} has leads) = start_in s word ((is.starts s).0 has) leads
    derived_in (Derives.flows {from} {to} {word} {x} {weight} has d) = keep_in from to word ((is.rules (rule.Flow from to weight)).0 has).1 (derived_in d)
    derived_in (Derives.pushes {from} {to} {mark} {word} {x} {weight} has d) =
        push_in from mark to word ((is.rules (rule.Push from to mark weight)).0 has).1 (derived_in d)
    derived_in (Derives.pops {from} {mark} {to} {word} {x} {weight} has d) =
        let h = derived_in d in
        pop_from from mark to word h.node h.string ((is.rules (rule.Pop from mark to weight)).0 has).1 h.there h.marks h.given

    -- a word of the string is derived at the node
    record IsReached (n : Node) (string : List Place) : Type 0 where
      pub word : List ℕ
      pub marks : AreMarks names.calls word string
      pub reached : (number : ℕ) → slice_get names.nodes number ≡ Some n → Reaches job number word

    source_there : (a b : Node) (kind : EdgeKind) → EdgeIn p q a kind b → Has names.nodes a
    source_there a b kind e = are.nodes.all a (Demanded.source e.0 e.1)

    start_reached : (n : Node) (string : List Place) → Begins n → IsString p n.place.method string → IsReached n string
    start_reached n string st is_string =
        let spelt = string_marks is_string in
        record {
          word = spelt.0;
          marks = spelt.1;
          reached = λ number there.
              let s : Start Reach = record { base = n.place.method; node = number; weight = reach_domain.one } in
              let has : Has job.starts s = (is.starts s).1 (record { node = n; start = st; base_is = refl; node_is = there; weight_is = refl }) in
              let leads : Leads job.steps n.place.method spelt.0 job.last =
              (is.steps job.last n.place.method spelt.0 is.last).1 (record { string = string; is_string = is_string; marks = spelt.1 }) in
              Derives.starts_at has leads;
        }

    keep_reached : (a b : Node) (kind : EdgeKind) (string : List Place) → EdgeIn p q a kind b → KeepsCalls kind → IsReached a string → IsReached b string
    keep_reached a b kind string e k h =
        let from = source_there a b kind e in
        record {
          word = h.word;
          marks = h.marks;
          reached = λ number there.
              let has : Has job.rules (rule.Flow from.0 number reach_domain.one) =
              (is.rules (rule.Flow from.0 number reach_domain.one)).1
              (refl, record { source = a; target = b; kind = kind; edge = e; keeps = k; from_is = from.1; to_is = there }) in
              Derives.flows has (h.reached from.0 from.1);
        }

    push_reached : (a b : Node) (call : Place) (string : List Place) → EdgeIn p q a (Call call) b → IsReached a string → IsReached b (call ∷ string)
    push_reached a b call string e h =
        let from = source_there a b (Call call) e in
        let over = call_leads p a b call e.0 in
        let mark = target_numbered call b.place.method over.is_before over.target in
        record {
          word = mark.0 ∷ h.word;
          marks = (mark.1, h.marks);
          reached = λ number there.
              let has : Has job.rules (rule.Push from.0 number mark.0 reach_domain.one) =
              (is.rules (rule.Push from.0 number mark.0 reach_domain.one)).1
              (refl, record { source = a; target = b; call = call; edge = e; mark_is = mark.1; from_is = from.1; to_is = there }) in
              Derives.pushes has (h.reached from.0 from.1);
        }

    pop_reached : (a b : Node) (call : Place) (string : List Place) (word : List ℕ) → EdgeIn p q a (Return call) b → AreMarks names.calls word (call ∷ string)
        → ((number : ℕ) → slice_get names.nodes number ≡ Some a → Reaches job number word) → IsReached b string
    pop_reached a b call string [] e marks reached = absurd marks
    pop_reached a b call string (mark ∷ word) e marks reached =
        let from = source_there a b (Return call) e in
        record {
          word = word;
          marks = marks.1;
          reached = λ number there.
              let has : Has job.rules (rule.Pop from.0 mark number reach_domain.one) =
              (is.rules (rule.Pop from.0 mark number reach_domain.one)).1
              (refl, record { source = a; target = b; call = call; edge = e; mark_is = marks.0; from_is = from.1; to_is = there }) in
              Derives.pops has (reached from.0 from.1);
        }

    -- what is given is derived
    given_reached : {n : Node} {string : List Place} → FromStarts p q Begins n string → IsReached n string
    given_reached (FromStarts.start {n} {string} st s) = start_reached n string st s
    given_reached (FromStarts.keep {a} {b} {kind} {string} e k c) = keep_reached a b kind string e k (given_reached c)
    given_reached (FromStarts.push {a} {b} {call} {string} e c) = push_reached a b call string e (given_reached c)
    given_reached (FromStarts.pop {a} {b} {call} {string} e c) =
        let h = given_reached c in pop_reached a b call string h.word e h.marks h.reached

    -- what is given has marks
    pub given_marks : (n : Node) (string : List Place) → FromStarts p q Begins n string → (word : List ℕ) × AreMarks names.calls word string
    given_marks n string c = let h = given_reached c in (h.word, h.marks)

    -- the system derives the marks of a string at a node exactly where edges give it there from the start nodes
    pub calls_exact : (number : ℕ) (n : Node) (word : List ℕ) (string : List Place) → slice_get names.nodes number ≡ Some n → AreMarks names.calls word string
        → Reaches job number word ↔ FromStarts p q Begins n string
    calls_exact number n word string there marks = (
      (λ d.
          let h = derived_in d in
          let spelt : h.string ≡ string = same_string word h.string string h.marks marks in
          subst (FromStarts p q Begins n) spelt (in_node number n h.node h.string there h.there h.given)),
      (λ c.
          let h = given_reached c in
          let spelt : h.word ≡ word = same_word string h.word word h.marks marks in
          subst (Reaches job number) spelt (h.reached number there)),
    )

    -- it derives only words of strings
    pub derived_marks : (number : ℕ) (word : List ℕ) → Reaches job number word → (string : List Place) × AreMarks names.calls word string
    derived_marks number word d = let h = derived_in d in (h.string, h.marks)

    -- some word is derived exactly where some string is given
    pub calls_some : (number : ℕ) (n : Node) → slice_get names.nodes number ≡ Some n
        → ((word : List ℕ) × Reaches job number word) ↔ ((string : List Place) × FromStarts p q Begins n string)
    calls_some number n there = (
      (λ w. let s = derived_marks number w.0 w.1 in (s.0, (calls_exact number n w.0 s.0 there s.1).0 w.1)),
      (λ s. let h = given_reached s.1 in (h.word, h.reached number there)),
    )
