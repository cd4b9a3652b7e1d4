-- Nodes and bases of lists have places in the split system.
use Rattle.std.proofs.Common.{◌≡◌, ◌<◌, ◌≤◌, ◌+◌, ◌-◌, ℕ, true, false, cond, length, ltb, ap, ◌∙◌, arith}
use Rattle.std.proofs.lemmas.Bool.{lt-ltb}
use Rattle.std.proofs.lemmas.Bool.Decides.{nat_tests}
use Rattle.weight_laws.specs.Law.{Domain}
use Rattle.rule_marks.specs.Split.{At, Entry, Exit}
use Rattle.rule_marks.specs.Making.{ListsGivePlaces, base_place_of, node_place_of}

below_true : (a b : ℕ) → a < b → ltb a b ≡ true
below_true a b less = lt-ltb a b less

not_below : (a b : ℕ) → b ≤ a → ltb a b ≡ false
not_below a b past = grind (arith, nat_tests)

pub node_at : (count n : ℕ) → n < count → node_place_of count n ≡ At n
node_at count n low = ap (λ t. cond t (At n) (cond (ltb n (count + count)) (Entry (n - count)) (Exit (n - (count + count))))) (below_true n count low)

node_entry : (count n : ℕ) → n < count → node_place_of count (count + n) ≡ Entry n
node_entry count n low =
    let back : count + n - count ≡ n = omega arith in
    ap (λ t. cond t (At (count + n)) (cond (ltb (count + n) (count + count)) (Entry (count + n - count)) (Exit (count + n - (count + count))))) (not_below (count + n) count (omega arith))
    ∙ ap (λ t. cond t (Entry (count + n - count)) (Exit (count + n - (count + count)))) (below_true (count + n) (count + count) (omega (arith, low))) ∙ ap Entry back

node_exit : (count n : ℕ) → n < count → node_place_of count (count + (count + n)) ≡ Exit n
node_exit count n low =
    let back : count + (count + n) - (count + count) ≡ n = omega arith in
    ap (λ t. cond t (At (count + (count + n))) (cond (ltb (count + (count + n)) (count + count)) (Entry (count + (count + n) - count)) (Exit (count + (count + n) - (count + count)))))
    (not_below (count + (count + n)) count (omega arith))
    ∙ ap (λ t. cond t (Entry (count + (count + n) - count)) (Exit (count + (count + n) - (count + count)))) (not_below (count + (count + n)) (count + count) (omega arith)) ∙ ap Exit back

pub base_at : (count b : ℕ) → b < count → base_place_of count b ≡ At b
base_at count b low = ap (λ t. cond t (At b) (Exit (b - count))) (below_true b count low)

base_exit : (count b : ℕ) → base_place_of count (count + b) ≡ Exit b
base_exit count b =
    let back : count + b - count ≡ b = omega arith in
    ap (λ t. cond t (At (count + b)) (Exit (count + b - count))) (not_below (count + b) count (omega arith)) ∙ ap Exit back

pub lists_places : {W : Type 0} (d : Domain W) → ListsGivePlaces d
lists_places d is_split common nodes bases rules starts steps last within = record {
  flow_places = λ m n w has. let r = within.rule_nodes _ has in (node_at nodes m r.0, node_at nodes n r.1);
  push_places = λ m n k w has. let r = within.rule_nodes _ has in (node_at nodes m r.0, node_at nodes n r.1);
  pop_places = λ m k n w has. let r = within.rule_nodes _ has in (node_at nodes m r.0, node_at nodes n r.1);
  start_places = λ x has. let r = within.start_nodes x has in (node_at nodes x.node r.0, base_at bases x.base r.1);
  step_places = λ x has. let r = within.step_bases x has in (base_at bases x.base r.0, base_at bases x.below r.1);
  last_place = base_at bases last within.last_base;
  entry_place = λ m n k w has split. node_entry nodes n (within.rule_nodes _ has).1;
  exit_place = λ m k n w has split. node_exit nodes m (within.rule_nodes _ has).0;
  below_place = λ x has split. base_exit bases x.base;
}
