use Rattle.std.proofs.Common.{◌≡◌, ◌↔◌, ◌⊎◌, List, [], inl, inr}
use Rattle.lists.specs.Lists.{Has}
use Rattle.spds_tables.specs.declared.numbered.StartAt.{StartAt}
use Rattle.spds_tables.proofs.Questions.{jumped_begun}
use Rattle.spds_tables.proofs.asking.asked.Goals as goal

-- what was put behind no element is all that there is
from_none : (first last : List StartAt) (s : StartAt) (New : Type 0) → first ≡ [] → (Has last s ↔ (Has first s ⊎ New)) → Has last s ↔ New
from_none first last s New e now = ((λ h. elim (now.0 h) [ inl f ↦ (let at = rw e at f.1 in cc) | inr n ↦ n ]), (λ n. now.1 (inr n)))

pub returns-then-all_begun : goal.returns-then-all_begun
returns-then-all_begun c s =
    let all = rw c.deref.ensures.value at (c.all_begun.ensures.0 c.if-all_begun.true) in (
      (λ has. let at = rw c.new-asked.ensures.items at has.1 in cc),
      (λ h. absurd (h.1 (jumped_begun c.args.parts.now.call_cells.items c.args.parts.now.jumps.items c.args.tables.now.calls c.args.tables.now.begun all s h.0))),
    )

pub returns : goal.returns
returns c s = from_none c.new-asked.result.items _ s _ c.new-asked.ensures.items (rw (c.deref-2.ensures.value, c.deref-3.ensures.value) at (c.in_ok-ask_jumps.ensures s))
