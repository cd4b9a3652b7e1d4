-- The call strings that the call system of a site spells at the cells of nodes.
use Rattle.std.proofs.Common.{◌≡◌, ℕ, ◌↔◌, Bool, true, false, true≢false, IsTrue, List, Some, slice_get, sym, ◌∙◌}
use Rattle.demand_set.specs.Demands.{DemandParts}
use Rattle.link_rules.specs.Linked.{LinkedProgram}
use Rattle.link_sites.specs.declared.place.Place.{Place}
use Rattle.link_sites.specs.declared.site.Site.{Site}
use Rattle.post_star.specs.Jobs.{Job}
use Rattle.rule_cells.specs.Renamed.{number_in}
use Rattle.spds_rules.specs.declared.node.Node.{Node}
use Rattle.spds_rules.specs.Demand.{Asked}
use Rattle.spds_rules.specs.Systems.{Calls}
use Rattle.spds_solve.specs.Solved.{SolvedParts, SpellsCalls}
use Rattle.spds_tables.specs.Systems.{Reaches}
use Rattle.weight_laws.specs.declared.reach.Reach.{Reach}

-- two sites' systems give one word at two cells exactly where the sites have a common string at the nodes of these
pub strings_shared : (p : LinkedProgram) (q : Asked) (d : DemandParts) (s : SolvedParts) (o x : Site) (job other : Job Reach) → SpellsCalls p q d s o job
    → SpellsCalls p q d s x other → (a b : ℕ) (n m : Node) → slice_get d.nodes a ≡ Some n → slice_get d.nodes b ≡ Some m
    → ((word : List ℕ) × Reaches job (number_in s.call_cells a) word × Reaches other (number_in s.call_cells b) word)
    ↔ ((string : List Place) × Calls p q o n string × Calls p q x m string)
strings_shared p q d s o x job other words others a b n m at_a at_b = (
  (λ h.
      let string = words.spelt a h.0 h.1 in
      (string.0, (words.strings a n h.0 string.0 at_a string.1).0 h.1, (others.strings b m h.0 string.0 at_b string.1).0 h.2)),
  (λ h.
      let word = words.marked n h.0 h.1 in
      (word.0, (words.strings a n word.0 h.0 at_a word.1).1 h.1, (others.strings b m word.0 h.0 at_b word.1).1 h.2)),
)

-- an answer is both there and reached
module _ {There Arrived Leads : Type 0} (a : Bool) (told : IsTrue a ↔ There) (arrived : There ↔ Arrived) where
  pub answered_then : (b : Bool) → a ≡ true → (IsTrue b ↔ Leads) → IsTrue b ↔ (Leads × Arrived)
  answered_then b is leads = ((λ h. (leads.0 h, arrived.0 (told.0 is))), (λ both. leads.1 both.0))

  pub answered_else : a ≡ false → IsTrue a ↔ (Leads × Arrived)
  answered_else isnt = ((λ h. absurd (true≢false (sym h ∙ isnt))), (λ both. told.1 (arrived.1 both.1)))
