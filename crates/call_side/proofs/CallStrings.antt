-- The words of call strings, and that methods have some.
use Rattle.std.proofs.Common.{◌≡◌, ℕ, List, [], ◌∷◌, refl, subst, arith}
use Rattle.lists.specs.Lists.{Has}
use Rattle.link_rules.specs.declared.code.Code.TheVariants.{Call}
use Rattle.link_rules.specs.Linked.{LinkedProgram}
use Rattle.link_rules.specs.WellLinked.{IsReachedByCalls, IsWellLinked}
use Rattle.link_sites.specs.declared.place.Place.{Place}
use Rattle.link_sites.specs.Places.{before}
use Rattle.post_star.specs.declared.bases.BaseStep.{BaseStep}
use Rattle.post_star.specs.declared.bases.Start.{Start}
use Rattle.post_star.specs.Derivations.{IsLed, IsNamed, Leads, step_of}
use Rattle.spds_rules.specs.Systems.{IsString}
use Rattle.call_side.specs.Bases.{AreCallSteps, AreLed, AreMarks, AreStrings, HasStatements, IsLast, IsLedFrom, IsWordOf}
use Rattle.call_side.specs.Calls.{AreTheCalls, IsCallPlace}
use Rattle.call_side.proofs.Targets.{caller_statements, target_statements}

module _ (p : LinkedProgram) (calls : List Place) where
  module _ (steps : List BaseStep) (exact : AreCallSteps p calls steps) (root : ℕ) (last : IsLast p root) where
    -- a word that leads to the root is that of a call string
    pub word_leads : (method : ℕ) (word : List ℕ) → Leads steps method word root → IsWordOf p calls method word
    word_leads method [] h = record { string = []; is_string = IsString.root (let e : method ≡ root = h in omega (arith, last)); marks = tt }
    word_leads method (mark ∷ word) h =
        let rest = word_leads h.0 word h.2 in
        let is = (exact.each (step_of method mark h.0)).0 h.1 in
        record { string = before h.0 is.index ∷ rest.string; is_string = IsString.called is.target rest.is_string; marks = (is.numbered, rest.marks) }

    -- and each word of a call string leads there
    pub leads_word : (method : ℕ) (string : List Place) (word : List ℕ) → IsString p method string → AreMarks calls word string → Leads steps method word root
    leads_word method string word (IsString.root is) marks = ends word marks
      where
        ends : (word : List ℕ) → AreMarks calls word [] → Leads steps method word root
        ends [] marks = omega (arith, last, is)
        ends (mark ∷ word) marks = absurd marks
    leads_word m s word (IsString.called {number} {index} {target} {string} has rest) marks =
        goes_on word marks (λ word marks. leads_word number string word rest marks)
      where
        goes_on : (word : List ℕ) → AreMarks calls word (before number index ∷ string) → ((word : List ℕ) → AreMarks calls word string → Leads steps number word root) → Leads steps target word root
        goes_on [] marks on = absurd marks
        goes_on (mark ∷ word) marks on = (number, (exact.each (step_of target mark number)).1 (record { index = index; numbered = marks.0; target = has }), on word marks.1)

  pub are_strings : (steps : List BaseStep) → AreCallSteps p calls steps → AreStrings p calls steps
  are_strings steps exact root method word last = (
    word_leads steps exact root last method word,
    (λ w. leads_word steps exact root last method w.string word w.is_string w.marks),
  )

  -- each call string has a word
  pub string_word : AreTheCalls p calls → {method : ℕ} {string : List Place} → IsString p method string → (word : List ℕ) × AreMarks calls word string
  string_word exact (IsString.root is) = ([], tt)
  string_word exact (IsString.called {number} {index} {target} {string} has rest) =
      let call : IsCallPlace p (before number index) = (
        refl,
        record {
          code = Call has.to has.mode has.class has.key has.receiver has.args has.targets;
          at = record { method = has.method; there = has.there; here = has.call };
          is_so = tt;
        },
      ) in
      let mark = (exact.each (before number index)).1 call in
      let word = string_word exact rest in
      (mark.0 ∷ word.0, (mark.1, word.1))

  -- each method with statements has a call string
  pub reached_string : {root number : ℕ} → IsLast p root → IsReachedByCalls p root number → (string : List Place) × IsString p number string
  reached_string last IsReachedByCalls.root = ([], IsString.root last)
  reached_string last (IsReachedByCalls.called {number} {index} {target} reached has) =
      let rest = reached_string last reached in
      (before number index ∷ rest.0, IsString.called has rest.1)

  module _ (steps : List BaseStep) (exact : AreCallSteps p calls steps) (counted : AreTheCalls p calls) (well : IsWellLinked p) where
    led_from : (number : ℕ) → HasStatements p number → IsLedFrom p steps number
    led_from number has root last =
        let string = reached_string well.form.is_root.last (well.reached number has.0 has.1 has.2) in
        let word = string_word counted string.1 in
        (word.0, leads_word steps exact root last number string.0 word.0 string.1 word.1)

    pub are_led : AreLed p steps
    are_led = record {
      methods = led_from;
      bases = λ step has. let is = (exact.each step).0 has in led_from step.base (target_statements p step.below is.index step.base well is.target);
      belows = λ step has. let is = (exact.each step).0 has in led_from step.below (caller_statements p step.below is.index step.base is.target);
    }

-- what saturation asks for: each base that a start or a step names leads to the root
pub IsLed-by : {W : Type 0} (p : LinkedProgram) (steps : List BaseStep) (starts : List (Start W)) (root : ℕ) → AreLed p steps → IsLast p root
    → ((s : Start W) → Has starts s → HasStatements p s.base) → IsLed starts steps root
IsLed-by p steps starts root led last are b (IsNamed.by_start s has e) = subst (λ (n : ℕ). (word : List ℕ) × Leads steps n word root) e (led.methods s.base (are s has) root last)
IsLed-by p steps starts root led last are b (IsNamed.by_base s has e) = subst (λ (n : ℕ). (word : List ℕ) × Leads steps n word root) e (led.bases s has root last)
IsLed-by p steps starts root led last are b (IsNamed.by_below s has e) = subst (λ (n : ℕ). (word : List ℕ) × Leads steps n word root) e (led.belows s has root last)
