-- With which marks words begin, read off the entries of a table over split marks.
use Rattle.std.proofs.Common.{◌≡◌, ◌≢◌, ℕ, Bool, true, false, true≢false, eqb-true, eq-eqb, List, [], ◌∷◌, Option, Some, None, refl, sym, ap, ◌∙◌, subst, inl, inr}
use Rattle.std.proofs.lemmas.Bool.{cases_eq}
use Rattle.auto_table.specs.declared.entry.Entry.{Entry}
use Rattle.auto_table.specs.declared.entry.Entry.TheVariants.{Base, Pushed}
use Rattle.auto_table.specs.declared.row.Linked.{Linked}
use Rattle.auto_table.specs.declared.row.Reached.{Reached}
use Rattle.auto_table.specs.Cells.{AreParents, by_weight, Cells, IsListed, IsRow, link_at}
use Rattle.lists.specs.Lists.{Has}
use Rattle.call_side.specs.Words.{Spells}
use Rattle.call_side.proofs.Spelled.{Holds-entry}
use Rattle.post_star.specs.declared.bases.BaseStep.{BaseStep}
use Rattle.post_star.specs.Jobs.{Job}
use Rattle.weight_laws.specs.declared.reach.Reach.{Reach}
use Rattle.weight_laws.specs.Reach.{reach_domain}
use Rattle.call_side.specs.declared.opening.Opening.{Opening}
use Rattle.call_side.specs.Coded.{code, common_mark, IsCodedTable}
use Rattle.call_side.specs.Openings.{AreOpened, AreOpenings, begins_common, BeginsBy, first_of, opening_of, Opens}
use Rattle.call_side.proofs.Coding.{holds_code}
use Rattle.call_side.proofs.Decoding.{common_first, other_first}

module _ (t : Cells Reach) (split_steps : List BaseStep) (last : ℕ) where
  spells_first : (e : Entry) (mark : ℕ) (word plain : List ℕ) → Spells split_steps last t e (mark ∷ word) → BeginsBy (first_of e) (mark ∷ plain)
  spells_first (Base b) mark word plain spells = tt
  spells_first (Pushed n m) mark word plain spells = (plain, ap (λ (k : ℕ). k ∷ plain) spells.1.0)

  -- an entry that reads the code of a word opens with its first mark
  pub opened : (steps : List BaseStep) (e : Entry) (word plain : List ℕ) → Spells split_steps last t e word → word ≡ code steps plain
      → (first : Option ℕ) × Opens t e first × BeginsBy first plain
  opened steps (Base b) word plain spells coded = (None, refl, tt)
  opened steps (Pushed n m) [] plain spells coded = cc
  opened steps (Pushed n m) (k ∷ word) plain spells coded = elim (cases_eq m common_mark) [
    | inl common ↦
        let front : common_mark ∷ word ≡ code steps plain = ap (λ (j : ℕ). j ∷ word) (sym (spells.1.0 ∙ common)) ∙ coded in
        let c = common_first steps word plain front in
        let next : Spells split_steps last t spells.0 (c.0 ∷ code steps c.1) = subst (λ (u : List ℕ). Spells split_steps last t spells.0 u) c.3 spells.2 in (
          first_of spells.0,
          inr (common, (spells.0, spells.1.1, refl)),
          subst (λ (u : List ℕ). BeginsBy (first_of spells.0) u) (sym c.2) (spells_first spells.0 c.0 (code steps c.1) c.1 next),
        )
    | inr apart ↦
        let c = other_first steps m word plain apart (ap (λ (j : ℕ). j ∷ word) (sym spells.1.0) ∙ coded) in
        (Some m, inl (apart, refl), (c.0, c.1))
  ]

-- the openings of all entries are those of the table
pub all_opened : (t : Cells Reach) (entries : List Entry) (openings : List Opening) → IsListed reach_domain t entries → ((e : Entry) → Has entries e → AreOpened t e openings)
    → (e : Entry) → AreOpened t e openings
all_opened t entries openings listed each e first node opens some = each e (listed.all e (by_weight node some)) first node opens some

-- so each word at a node begins as one of them says
pub words_opened : (job : Job Reach) (t : Cells Reach) → IsCodedTable job t → (openings : List Opening) → ((e : Entry) → AreOpened t e openings) → AreOpenings job openings
words_opened job t is openings all node word has =
    let holds = holds_code job t is node word has in
    let from = Holds-entry is.split_steps job.last t node (code job.steps word) holds in
    let o = opened t is.split_steps job.last job.steps from.0 (code job.steps word) word from.2 refl in
    (o.0, all from.0 o.0 node o.1 from.1, o.2)

-- openings of an entry, at the nodes of its row
module _ (t : Cells Reach) (e : Entry) (row : List (Reached Reach)) (is : IsRow reach_domain t e row) where
  -- whose own mark is first
  pub opened_own : (openings : List Opening) (common : Bool) → common ≡ begins_common e → common ≡ false → (first : Option ℕ) → first ≡ first_of e
      → ((x : Reached Reach) → Has row x → Has openings (opening_of first x.node)) → AreOpened t e openings
  opened_own openings common is_common apart first first_is there other node opens some =
      subst (λ (f : Option ℕ). Has openings (opening_of f node)) (first_is ∙ sym (by e opens (sym is_common ∙ apart))) (there _ (is.all node some))
    where
      by : (entry : Entry) → Opens t entry other → begins_common entry ≡ false → other ≡ first_of entry
      by (Base b) opens apart = opens
      by (Pushed n m) (inl own) apart = own.1
      by (Pushed n m) (inr through) apart = absurd (true≢false (sym (eq-eqb m common_mark through.0) ∙ apart))

  -- and where the common mark is
  pub opened_through : (links : List (Linked Reach)) → AreParents reach_domain t e links → (openings : List Opening) (common : Bool) → common ≡ begins_common e → common ≡ true
      → ((p : Linked Reach) → Has links p → (x : Reached Reach) → Has row x → Has openings (opening_of (first_of p.parent) x.node)) → AreOpened t e openings
  opened_through links parents openings common is_common true_is there other node opens some = by e refl opens (sym is_common ∙ true_is)
    where
      by : (entry : Entry) → entry ≡ e → Opens t entry other → begins_common entry ≡ true → Has openings (opening_of other node)
      by (Base b) same opens common_is = absurd (true≢false (sym common_is))
      by (Pushed n m) same (inl own) common_is = absurd (own.0 (eqb-true m common_mark common_is))
      by (Pushed n m) same (inr through) common_is =
          let p = through.1 in
          let some_link : link_at reach_domain t e p.0 ≢ reach_domain.zero = subst (λ (x : Entry). link_at reach_domain t x p.0 ≢ reach_domain.zero) same p.1 in
          subst (λ (f : Option ℕ). Has openings (opening_of f node)) (sym p.2) (there _ (parents.all p.0 some_link) _ (is.all node some))
