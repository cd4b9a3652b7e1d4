-- Call strings as base steps of a pushdown system: a method stands for its call strings, whose words are the numbers of their calls.
use Rattle.std.specs.Prelude.{◌≡◌, ◌+◌, ◌<◌, ◌⊎◌, ◌↔◌, ℕ, List, Some, length, slice_get}
use Rattle.std.specs.List.{AllZip}
use Rattle.lists.specs.Lists.{Has, AreExactly}
use Rattle.link_rules.specs.Linked.{LinkedMethod, LinkedProgram}
use Rattle.link_rules.specs.WellLinked.{HasTarget}
use Rattle.link_indexes.specs.declared.method.Place.{Place as CallPlace}
use Rattle.link_sites.specs.declared.place.Place.{Place}
use Rattle.link_sites.specs.Places.{before}
use Rattle.spds_rules.specs.Systems.{IsString}
use Rattle.post_star.specs.declared.bases.BaseStep.{BaseStep}
use Rattle.post_star.specs.Derivations.{Leads}

-- the base is a target of the call with this number, which stands in the method below
pub record IsCallStep (p : LinkedProgram) (calls : List Place) (step : BaseStep) : Type 0 where
  pub index : ℕ
  pub numbered : slice_get calls step.mark ≡ Some (before step.below index)
  pub target : HasTarget p step.below index step.base

-- the order of the steps: by target, and those of one target by call
abbrev pub PrecedesStep : BaseStep → BaseStep → Type 0
PrecedesStep a b = (a.base < b.base) ⊎ ((a.base ≡ b.base) × (a.mark < b.mark))

-- a step for each call and each of its targets, each once
abbrev pub AreCallSteps : LinkedProgram → List Place → List BaseStep → Type 0
AreCallSteps p calls steps = AreExactly PrecedesStep (IsCallStep p calls) steps

-- the word has the numbers of the calls of a string
abbrev pub AreMarks : List Place → List ℕ → List Place → Type 0
AreMarks calls word string = AllZip (λ mark call. slice_get calls mark ≡ Some call) word string

-- the word of a call string of the method
pub record IsWordOf (p : LinkedProgram) (calls : List Place) (method : ℕ) (word : List ℕ) : Type 0 where
  pub string : List Place
  pub is_string : IsString p method string
  pub marks : AreMarks calls word string

-- the last method, which is the root
abbrev pub IsLast : LinkedProgram → ℕ → Type 0
IsLast p root = root + 1 ≡ length p.methods

-- from a method the steps lead to the root by the words of its call strings, and by no others
abbrev pub AreStrings : LinkedProgram → List Place → List BaseStep → Type 0
AreStrings p calls steps = (root method : ℕ) (word : List ℕ) → IsLast p root → Leads steps method word root ↔ IsWordOf p calls method word

-- the method has statements
abbrev pub HasStatements : LinkedProgram → ℕ → Type 0
HasStatements p number = (m : LinkedMethod) × (slice_get p.methods number ≡ Some m) × (0 < length m.code)

-- the steps lead from the method to the root by some word
abbrev pub IsLedFrom : LinkedProgram → List BaseStep → ℕ → Type 0
IsLedFrom p steps number = (root : ℕ) → IsLast p root → (word : List ℕ) × Leads steps number word root

-- so they do from each method with statements, and from each that a step names
pub record AreLed (p : LinkedProgram) (steps : List BaseStep) : Type 0 where
  pub methods : (number : ℕ) → HasStatements p number → IsLedFrom p steps number
  pub bases : (step : BaseStep) → Has steps step → IsLedFrom p steps step.base
  pub belows : (step : BaseStep) → Has steps step → IsLedFrom p steps step.below

-- a step for a target before this one, or for this one and one of the callers
abbrev pub IsStepUpTo : LinkedProgram → List Place → ℕ → List CallPlace → BaseStep → Type 0
IsStepUpTo p calls target callers step = (is : IsCallStep p calls step)
    × ((step.base < target) ⊎ ((step.base ≡ target) × Has callers (record { method = step.below; index = is.index })))

-- exactly these, each once, in order
abbrev pub AreStepsUpTo : LinkedProgram → List Place → ℕ → List CallPlace → List BaseStep → Type 0
AreStepsUpTo p calls target callers steps = AreExactly PrecedesStep (IsStepUpTo p calls target callers) steps
