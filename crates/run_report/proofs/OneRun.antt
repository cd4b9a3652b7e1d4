-- Digits name one run, and each run is named by its choices.
use Rattle.std.proofs.Common.{◌≡◌, ℕ, suc, ◌<◌, ◌≤◌, ◌++◌, List, [], ◌∷◌, Some, codes, length, slice_get, refl, sym, ap, subst, ◌∙◌, inl, inr, arith}
use Rattle.std.proofs.lemmas.Bool.{cases_order}
use Rattle.std.proofs.lemmas.List.{append-nil}
use Rattle.std.proofs.Math.Seq.{append_snoc}
use Rattle.lists.proofs.Places.{slice_get-below}
use Rattle.link_rules.specs.Accessed.{linked_class_names}
use Rattle.link_rules.specs.Linked.{LinkedMethod, LinkedProgram}
use Rattle.link_rules.specs.WellLinked.{IsInForm}
use Rattle.step_rules.proofs.Determined.{choices_one, least_one, step_one}
use Rattle.step_rules.proofs.Listing.{same_place}
use Rattle.step_rules.specs.Runs.{IsFirstState, Run, first_state}
use Rattle.step_rules.specs.Runs as runs
use Rattle.step_rules.specs.States.{State, running}
use Rattle.step_rules.specs.Steps.{HasChoices, Step}
use Rattle.run_report.specs.Laws.{NamedRunIsARun, NamedRunIsOne, RunsAreNamed}
use Rattle.run_report.specs.Named.{IsRunTo, NamedRun, Takes, begins, goes_on}

-- a program has one first state
first_one : (p : LinkedProgram) (s t : State) → IsFirstState p s → IsFirstState p t → s ≡ t
first_one p s t x y =
    let number : x.number ≡ y.number = omega (arith, x.is_root.last, y.is_root.last) in
    let root = same_place p.methods y.number x.root y.root (subst (λ n. slice_get p.methods n ≡ Some x.root) number x.is_root.there) y.is_root.there in
    let string = least_one (λ i. slice_get (linked_class_names p.classes) i ≡ Some (codes "java.lang.String")) x.string y.string x.is_string y.is_string in
    let class = least_one (λ i. slice_get (linked_class_names p.classes) i ≡ Some (codes "java.lang.Class")) x.class y.class x.is_class y.is_class in
    x.is_state ∙ ap (λ n. first_state p n x.root x.string x.class) number ∙ ap (λ (m : LinkedMethod). first_state p y.number m x.string x.class) root
    ∙ ap (λ n. first_state p y.number y.root n x.class) string ∙ ap (λ n. first_state p y.number y.root y.string n) class ∙ sym y.is_state

-- a step takes one choice, and leaves the same digits
takes_one : (count choice other : ℕ) (unused left rest : List ℕ) → Takes count unused choice left → Takes count unused other rest
    → (choice ≡ other) × (left ≡ rest)
takes_one count choice other [] left rest x y = (x.0 ∙ sym y.0, x.1 ∙ sym y.1)
takes_one count choice other (d ∷ ds) left rest x y = elim x [
  | inl h ↦ elim y [ inl k ↦ (h.1 ∙ sym k.1, h.2 ∙ sym k.2) | inr k ↦ absurd (omega (arith, h.0, k.0)) ]
  | inr h ↦ elim y [ inl k ↦ absurd (omega (arith, h.0, k.0)) | inr k ↦ (h.1 ∙ sym k.1, h.2 ∙ sym k.2) ]
]

module _ (p : LinkedProgram) (form : IsInForm p) (digits : List ℕ) where
  -- one step of a named run
  step_same : (s t new other : State) (unused spare left rest : List ℕ) (count counted choice chosen : ℕ) → s ≡ t → unused ≡ spare → HasChoices p s count
      → HasChoices p t counted → Takes count unused choice left → Takes counted spare chosen rest → Step p s choice new → Step p t chosen other
      → (new ≡ other) × (left ≡ rest)
  step_same s t new other unused spare left rest count counted choice chosen state digit has had takes took step stepped =
      let at : HasChoices p t count = subst (λ x. HasChoices p x count) state has in
      let counts = choices_one p t count counted form (inr at) (inr had) in
      let taken : Takes counted spare choice left = subst (λ n. Takes n spare choice left) counts (subst (λ ds. Takes count ds choice left) digit takes) in
      let same = takes_one counted choice chosen spare left rest taken took in
      let stands : Step p t chosen new = subst (λ n. Step p t n new) same.0 (subst (λ x. Step p x choice new) state step) in
      (step_one p t chosen new other form stands stepped, same.1)

  -- after so many steps it stands in one state
  state_same : {n : ℕ} {s t : State} {left rest : List ℕ} → NamedRun p digits n s left → NamedRun p digits n t rest → (s ≡ t) × (left ≡ rest)
  state_same {s = s} {t = t} (begins first) (begins other) = (first_one p s t first other, refl)
  state_same (goes_on run has takes step) (goes_on other had took stepped) =
      let same = state_same run other in
      step_same _ _ _ _ _ _ _ _ _ _ _ _ same.0 same.1 has had takes took step stepped

  -- it has gone on where it goes further
  gone_on : {n : ℕ} {s : State} {left : List ℕ} (m : ℕ) → NamedRun p digits n s left → m < n
      → (t : State) × (rest : List ℕ) × NamedRun p digits m t rest × (t.ending ≡ running)
  gone_on m (begins first) below = absurd (omega (arith, below))
  gone_on m (goes_on {steps} {s = s} {unused = unused} run has takes step) below = elim (cases_order m steps) [
    | inl same ↦ (s, unused, subst (λ k. NamedRun p digits k s unused) (sym same) run, ap (λ (x : State). x.ending) step.stands)
    | inr other ↦ elim other [ inl less ↦ gone_on m run less | inr more ↦ absurd (omega (arith, below, more)) ]
  ]

  -- a run that is made to its end, or for all its steps, is no shorter than another
  no_shorter : (steps made others : ℕ) (s other : State) → IsRunTo p digits steps made s → IsRunTo p digits steps others other → made < others → ⊥
  no_shorter steps made others s other x y less =
      let before = gone_on made y.run less in
      let same : s ≡ before.0 = (state_same x.run before.2).0 in
      x.sooner (omega (arith, less, y.within)) (ap (λ (z : State). z.ending) same ∙ before.3)

  -- it has one last state
  run_one : (steps made others : ℕ) (s other : State) → IsRunTo p digits steps made s → IsRunTo p digits steps others other → (made ≡ others) × (s ≡ other)
  run_one steps made others s other x y = elim (cases_order made others) [
    | inl same ↦ (same, (state_same (subst (λ n. NamedRun p digits n s x.unused) same x.run) y.run).0)
    | inr differs ↦ elim differs [
      | inl less ↦ absurd (no_shorter steps made others s other x y less)
      | inr more ↦ absurd (no_shorter steps others made other s y x more)
    ]
  ]

pub named_one : NamedRunIsOne
named_one p digits steps made others s other form x y = run_one p form digits steps made others s other x y

-- a named run is a run
pub named_is_run : {p : LinkedProgram} {digits left : List ℕ} {n : ℕ} {s : State} → NamedRun p digits n s left → Run p n s
named_is_run (begins first) = runs.begins first
named_is_run (goes_on run has takes step) = runs.steps (named_is_run run) step

pub named_run : NamedRunIsARun
named_run p digits left count s run = named_is_run run

-- a step with no other choice takes no digit
takes_none : (count choice : ℕ) (rest : List ℕ) → count ≤ 1 → choice < count → Takes count rest choice rest
takes_none count choice [] few below = (omega (arith, few, below), refl)
takes_none count choice (d ∷ ds) few below = inl (few, omega (arith, few, below), refl)

-- a step with more choices takes the one that is named
takes_named : (count choice : ℕ) (rest : List ℕ) → 1 < count → choice < count → Takes count (choice ∷ rest) choice rest
takes_named count choice rest more below = inr (more, omega (arith, more, below), refl)

module _ (p : LinkedProgram) where
  -- the choices of a run name it, whatever digits follow them
  choices_name : {n : ℕ} {s : State} → Run p n s → (digits : List ℕ) × ((rest : List ℕ) → NamedRun p (digits ++ rest) n s rest)
  choices_name (runs.begins first) = ([], λ rest. begins first)
  choices_name (runs.steps {count} {choice} {s} {next} run step) =
      let before = choices_name run in
      let many = length step.offered in
      let has : HasChoices p s many = record { at = step.at; stands = step.stands; offered = step.offered; offers = step.offers; as_many = refl } in
      let below = slice_get-below step.offered choice step.effect step.chosen in
      elim (cases_order many 1) [
        | inl one ↦ (before.0, λ rest. goes_on (before.1 rest) has (takes_none many choice rest (omega (arith, one)) below) step)
        | inr other ↦ elim other [
          | inl none ↦ (before.0, λ rest. goes_on (before.1 rest) has (takes_none many choice rest (omega (arith, none)) below) step)
          | inr more ↦ (
            before.0 ++ choice ∷ [],
            λ rest. subst (λ ds. NamedRun p ds (suc count) next rest) (sym (append_snoc before.0 choice rest))
                (goes_on (before.1 (choice ∷ rest)) has (takes_named many choice rest more below) step),
          )
        ]
      ]

pub runs_named : RunsAreNamed
runs_named p count s run =
    let named = choices_name p run in
    (named.0, subst (λ ds. NamedRun p ds count s []) (append-nil named.0) (named.1 []))
