-- What a system derives, and what its table over split marks holds.
use Rattle.std.proofs.Common.{◌≡◌, ◌<◌, ◌↔◌, ◌||◌, ℕ, Bool, List, [], ◌∷◌, ◌++◌, false, eqb, get_or, inl, inr, OnErr, OnOk, refl, sym, ap, ◌∙◌, subst}
use Rattle.std.specs.declared.result.Result.{Result}
use Rattle.std.specs.declared.result.Result.TheVariants.{Err, Ok}
use Rattle.auto_table.specs.declared.rule.Rule.{Rule}
use Rattle.auto_table.specs.Cells.{Cells}
use Rattle.lists.specs.Lists.{Has}
use Rattle.call_side.specs.Words.{Holds}
use Rattle.post_star.specs.declared.bases.BaseStep.{BaseStep}
use Rattle.post_star.specs.declared.bases.Start.{Start}
use Rattle.post_star.specs.Derivations.{Derives, flows, IsLed, Leads, pops, pushes, starts_at}
use Rattle.post_star.specs.Jobs.{Job, Stock}
use Rattle.post_star.specs.Readings.{IsSaturated, Reads, ReadsAt}
use Rattle.post_star.proofs.Sums.{sum_same}
use Rattle.rule_marks.specs.Making.{AreSplitRules, AreStepsOf, AreWithin, splits_by, splitting_of}
use Rattle.rule_marks.specs.Sharing.{AreBelow}
use Rattle.rule_marks.specs.Split.{IsSplit, SplitSystem}
use Rattle.rule_marks.proofs.Placing.{base_at, lists_places, node_at}
use Rattle.rule_marks.proofs.Splitting.{back, bases_led_still, bases_split, coded_back, forth}
use Rattle.rule_marks.proofs.Writing.{has_put, writing_none}
use Rattle.weight_laws.specs.declared.reach.Reach.{Reach}
use Rattle.weight_laws.specs.Reach.{reach_domain}
use Rattle.weight_laws.specs.ReachLaws.{reach_lawful}
use Rattle.call_side.specs.Arrivals.{IsReadAt}
use Rattle.call_side.specs.Coded.{base_count, code, common_mark, HasWord, IsCoded, IsCodedTable, IsCodedWork, is_split, node_count, splitting}
use Rattle.call_side.specs.Crowds.{crowded}
use Rattle.call_side.proofs.Arriving.{read_derives}
use Rattle.call_side.proofs.Truth.{holds_derives}

none : {X : Type 0} {x : X} → Has [] x → ⊥
none has = cc has.1

-- marks that are flagged are those that are crowded
same_marks : (f g : ℕ → Bool) → ((k : ℕ) → f k ≡ g k) → f ≡ g
same_marks f g same = λ i. λ k. same k i

pub flagged_splitting : (crowds : ℕ → Bool) (steps : List BaseStep) → ((k : ℕ) → crowds k ≡ crowded steps k)
    → splitting_of (λ k. eqb k common_mark || crowds k) common_mark node_count base_count ≡ splitting steps
flagged_splitting crowds steps same =
    ap (λ (f : ℕ → Bool). splitting_of (λ k. eqb k common_mark || f k) common_mark node_count base_count) (same_marks crowds (crowded steps) same)

-- a node that a system derives a word at is one of its own
pub derived_within : {rules : List (Rule Reach)} {starts : List (Start Reach)} {steps : List BaseStep} {last : ℕ}
    → AreWithin node_count base_count rules starts steps last → {n : ℕ} {word : List ℕ} {x : Reach} → Derives reach_domain rules starts steps last n word x → n < node_count
derived_within within (starts_at {s} has leads) = (within.start_nodes s has).0
derived_within within (flows has derived) = (within.rule_nodes _ has).1
derived_within within (pushes has derived) = (within.rule_nodes _ has).1
derived_within within (pops has derived) = (within.rule_nodes _ has).1

module _ (rules : List (Rule Reach)) (steps : List BaseStep) (last : ℕ) (split : List (Rule Reach)) (split_steps : List BaseStep) (are : IsCoded rules steps last split split_steps)
    (starts : List (Start Reach)) (starts_in : (s : Start Reach) → Has starts s → (s.node < node_count) × (s.base < base_count)) where
  abbrev pub system : SplitSystem Reach
  system = record { rules = rules; split = split; starts = starts; steps = steps; split_steps = split_steps; last = last }

  pub all_within : AreWithin node_count base_count rules starts steps last
  all_within = record { rule_nodes = are.within.rule_nodes; start_nodes = starts_in; step_bases = are.within.step_bases; last_base = are.within.last_base }

  pub is_system : IsSplit reach_domain (splitting steps) system
  is_system = record {
    told = record { rule = λ r has. tt; start = λ s has. tt };
    common_too = λ room mark split_is. refl;
    roomed = record {
      flow_room = λ m n w has. refl;
      push_home = λ m n k w has. refl;
      pop_home = λ m k n w has. refl;
      start_room = λ s has. refl;
      step_home = λ s has. refl;
    };
    placed = lists_places reach_domain (is_split steps) common_mark node_count base_count rules starts steps last all_within;
    rules_are = are.rules_are;
    steps_are = are.steps_are.steps_are;
  }

  -- a node has a word exactly where it has the code of the word over split marks
  pub word_forth : (n : ℕ) (word : List ℕ) → Derives reach_domain rules starts steps last n word reach_domain.one
      → Derives reach_domain split starts split_steps last n (code steps word) reach_domain.one
  word_forth n word derived = forth reach_lawful (splitting steps) system is_system derived

  pub word_back : (n : ℕ) → n < node_count → (word : List ℕ) → Derives reach_domain split starts split_steps last n (code steps word) reach_domain.one
      → Derives reach_domain rules starts steps last n word reach_domain.one
  word_back n low word derived = coded_back reach_lawful (splitting steps) system is_system n (node_at node_count n low) word reach_domain.one derived

  -- and no other words
  pub word_coded : (n : ℕ) → n < node_count → (word : List ℕ) → Derives reach_domain split starts split_steps last n word reach_domain.one
      → (plain : List ℕ) × (word ≡ code steps plain) × Derives reach_domain rules starts steps last n plain reach_domain.one
  word_coded n low word derived =
      let a = (back reach_lawful (splitting steps) system is_system derived).at (node_at node_count n low) in (a.plain, a.word_is, a.derived)

  -- a base is led over split marks
  pub led_forth : (base : ℕ) → base < base_count → ((word : List ℕ) × Leads steps base word last) → (word : List ℕ) × Leads split_steps base word last
  led_forth base low led = (
    code steps led.0,
    ((bases_split reach_lawful (splitting steps) system is_system base (base_at base_count base low)).coded_leads led.0).0 led.1,
  )

  pub all_led : IsLed starts steps last → IsLed starts split_steps last
  all_led led = bases_led_still reach_lawful (splitting steps) system is_system led

-- over base steps that are the same set, the same words are held
leads_as : (few more : List BaseStep) → ((s : BaseStep) → Has few s → Has more s) → (b : ℕ) (word : List ℕ) (last : ℕ) → Leads few b word last → Leads more b word last
leads_as few more f b [] last h = h
leads_as few more f b (k ∷ word) last h = (h.0, f _ h.1, leads_as few more f h.0 word last h.2)

module _ (few more : List BaseStep) (f : (s : BaseStep) → Has few s → Has more s) (last : ℕ) (t : Cells Reach) where
  reads_as : {e : _} {word : List ℕ} {x : Reach} → Reads reach_domain few last t e word x → Reads reach_domain more last t e word x
  reads_as (Reads.at_base {b} {word} leads) = Reads.at_base (leads_as few more f b word last leads)
  reads_as (Reads.at_link reads) = Reads.at_link (reads_as reads)

  reads_at_as : {n : ℕ} {word : List ℕ} {x : Reach} → ReadsAt reach_domain few last t n word x → ReadsAt reach_domain more last t n word x
  reads_at_as (ReadsAt.from_entry reads) = ReadsAt.from_entry (reads_as reads)

module _ (steps other : List BaseStep) (same : (s : BaseStep) → Has steps s ↔ Has other s) (last : ℕ) (t : Cells Reach) where
  pub holds_as : (n : ℕ) (word : List ℕ) → Holds steps last t n word → Holds other last t n word
  holds_as n word h = record {
    value = h.value;
    is_value = sum_same reach_lawful (ReadsAt reach_domain steps last t n word) (ReadsAt reach_domain other last t n word)
        (λ x r. reads_at_as steps other (λ s. (same s).0) last t r) (λ x r. reads_at_as other steps (λ s. (same s).1) last t r) h.value h.is_value;
    some = h.some;
  }

-- steps with split marks are the same set, where the steps are the same
pub same_split : (steps split other : List BaseStep) → AreStepsOf (splitting steps) steps split → AreStepsOf (splitting steps) steps other → (s : BaseStep) → Has split s ↔ Has other s
same_split steps split other a b s = ((λ has. (b.steps_are s).1 ((a.steps_are s).0 has)), (λ has. (a.steps_are s).1 ((b.steps_are s).0 has)))

-- the marks of a list of flags, and the numbers that go with them
pub marks_splitting : (flags crowds : List Bool) (common nodes bases : ℕ) (steps : List BaseStep) → flags ≡ crowds → common ≡ common_mark → nodes ≡ node_count → bases ≡ base_count
    → ((k : ℕ) → get_or crowds k false ≡ crowded steps k) → splitting_of (splits_by flags common) common nodes bases ≡ splitting steps
marks_splitting flags crowds common nodes bases steps a b c e same =
    ap (λ (fs : List Bool). splitting_of (splits_by fs common) common nodes bases) a
    ∙ ap (λ (m : ℕ). splitting_of (splits_by crowds m) m nodes bases) b
    ∙ ap (λ (m : ℕ). splitting_of (splits_by crowds common_mark) common_mark m bases) c
    ∙ ap (λ (m : ℕ). splitting_of (splits_by crowds common_mark) common_mark node_count m) e
    ∙ flagged_splitting (λ k. get_or crowds k false) steps same

-- no rules, over steps with split marks
pub steps_coded : (steps split : List BaseStep) (last : ℕ) → ((s : BaseStep) → Has steps s → (s.base < base_count) × (s.below < base_count)) → last < base_count
    → AreStepsOf (splitting steps) steps split → IsCoded [] steps last [] split
steps_coded steps split last within low are = record {
  within = record {
    rule_nodes = λ r has. absurd (none has);
    start_nodes = λ s has. absurd (none has);
    step_bases = within;
    last_base = low;
  };
  rules_are = (writing_none reach_domain (splitting steps) [] [] (λ n. refl) (λ n. refl)).rules_are;
  steps_are = are;
}

-- rules over steps with split marks
pub rules_coded : (rules split : List (Rule Reach)) (steps split_steps : List BaseStep) (last : ℕ) → AreBelow node_count rules → IsCoded [] steps last [] split_steps
    → AreSplitRules reach_domain (splitting steps) rules split → IsCoded rules steps last split split_steps
rules_coded rules split steps split_steps last below is are = record {
  within = record {
    rule_nodes = below;
    start_nodes = λ s has. absurd (none has);
    step_bases = is.within.step_bases;
    last_base = is.within.last_base;
  };
  rules_are = are;
  steps_are = is.steps_are;
}

-- the base of a start is led in the work too
pub work_led : (plain : Stock Reach) (work : Job Reach) → IsCodedWork plain work → (base : ℕ) → base < base_count → ((word : List ℕ) × Leads plain.steps base word plain.last)
    → (word : List ℕ) × Leads work.steps base word work.last
work_led plain work is base low led =
    subst (λ (last : ℕ). (word : List ℕ) × Leads work.steps base word last) (sym is.last)
    (led_forth plain.rules plain.steps plain.last work.rules work.steps is.coded [] (λ s has. absurd (none has)) base low led)

module _ (plain : Stock Reach) (old new : Job Reach) (is : IsCodedWork plain old) where
  pub work_same : new ≡ old → IsCodedWork plain new
  work_same e = subst (IsCodedWork plain) (sym e) is

  pub work_settled : (b : Bool) → new ≡ record old { settled = b } → IsCodedWork plain new
  work_settled b e = subst (IsCodedWork plain) (sym e) (record { coded = is.coded; last = is.last; starts = is.starts })

  pub work_started : (start : Start Reach) → (start.node < node_count) × (start.base < base_count) → new ≡ record old { starts = old.starts ++ start ∷ []; settled = false }
      → IsCodedWork plain new
  work_started start low e =
      subst (IsCodedWork plain) (sym e) (record {
        coded = is.coded;
        last = is.last;
        starts = λ s has. elim (has_put old.starts start s has) [
          | inl before ↦ is.starts s before
          | inr same ↦ subst (λ (x : Start Reach). (x.node < node_count) × (x.base < base_count)) (sym same) low
        ];
      })

-- what holds after an answer and after want of memory
pub either_way : {T E : Type 0} (r : Result T E) (Fine Failed P : Type 0) → OnOk r Fine → OnErr r Failed → (Fine → P) → (Failed → P) → P
either_way (Ok x) Fine Failed P fine failed f g = f fine
either_way (Err x) Fine Failed P fine failed f g = g failed

-- a work over split marks has a coded table
pub work_table : (plain : Stock Reach) (work : Job Reach) (t : Cells Reach) → IsCodedWork plain work
    → IsSaturated reach_domain work.rules work.starts work.steps work.last t
    → IsCodedTable (record { steps = plain.steps; last = plain.last; rules = plain.rules; starts = work.starts; settled = work.settled }) t
work_table plain work t is saturated = record {
  split = work.rules;
  split_steps = work.steps;
  coded = is.coded;
  starts = is.starts;
  saturated = subst (λ (last : ℕ). IsSaturated reach_domain work.rules work.starts work.steps last t) is.last saturated;
}

module _ (job : Job Reach) (t : Cells Reach) (is : IsCodedTable job t) where
  -- a table over split marks holds the code of each word of the system
  pub holds_code : (n : ℕ) (word : List ℕ) → HasWord job n word → Holds is.split_steps job.last t n (code job.steps word)
  holds_code n word has =
      (holds_derives is.split job.starts is.split_steps job.last t is.saturated n (code job.steps word)).1
      (word_forth job.rules job.steps job.last is.split is.split_steps is.coded job.starts is.starts n word has)

  -- and at a node of the system no other word
  pub code_held : (n : ℕ) → n < node_count → (word : List ℕ) → Holds is.split_steps job.last t n word → (plain : List ℕ) × (word ≡ code job.steps plain) × HasWord job n plain
  code_held n low word holds =
      word_coded job.rules job.steps job.last is.split is.split_steps is.coded job.starts is.starts n low word
      ((holds_derives is.split job.starts is.split_steps job.last t is.saturated n word).0 holds)

  pub has_within : (n : ℕ) (word : List ℕ) → HasWord job n word → n < node_count
  has_within n word has =
      derived_within (all_within job.rules job.steps job.last is.split is.split_steps is.coded job.starts is.starts) has

  -- a word is read at a node of the system exactly where the system derives one
  pub read_has : (n : ℕ) → (IsReadAt t n × (n < node_count)) ↔ ((word : List ℕ) × HasWord job n word)
  read_has n = (
    (λ r.
        let w = (read_derives is.split job.starts is.split_steps job.last t is.saturated n).0 r.0 in
        let p = word_coded job.rules job.steps job.last is.split is.split_steps is.coded job.starts is.starts n r.1 w.0 w.1 in
        (p.0, p.2)),
    (λ w. (
      (read_derives is.split job.starts is.split_steps job.last t is.saturated n).1
          (code job.steps w.0, word_forth job.rules job.steps job.last is.split is.split_steps is.coded job.starts is.starts n w.0 w.1),
      has_within n w.0 w.1,
    )),
  )

module _ (steps : List BaseStep) (last : ℕ) (split : List BaseStep) (coded_is : IsCoded [] steps last [] split) (job : Job Reach) (t : Cells Reach) (is : IsCodedTable job t)
    (steps_is : job.steps ≡ steps) (last_is : job.last ≡ last) where
  are_same : (s : BaseStep) → Has split s ↔ Has is.split_steps s
  are_same = same_split steps split is.split_steps coded_is.steps_are (subst (λ (ss : List BaseStep). AreStepsOf (splitting ss) ss is.split_steps) steps_is is.coded.steps_are)

  -- what a table holds over any steps with split marks of the same steps
  pub shared_word : (n : ℕ) → n < node_count → (word : List ℕ) → Holds split last t n word → (plain : List ℕ) × (word ≡ code steps plain) × HasWord job n plain
  shared_word n low word holds =
      let own = holds_as split is.split_steps are_same last t n word holds in
      let p = code_held job t is n low word (subst (λ (l : ℕ). Holds is.split_steps l t n word) (sym last_is) own) in
      (p.0, subst (λ (ss : List BaseStep). word ≡ code ss p.0) steps_is p.1, p.2)

  pub word_shared : (n : ℕ) (word : List ℕ) → HasWord job n word → Holds split last t n (code steps word)
  word_shared n word has =
      let own = subst (λ (l : ℕ). Holds is.split_steps l t n (code job.steps word)) last_is (holds_code job t is n word has) in
      holds_as is.split_steps split (λ s. ((are_same s).1, (are_same s).0)) last t n (code steps word)
      (subst (λ (ss : List BaseStep). Holds is.split_steps last t n (code ss word)) steps_is own)
