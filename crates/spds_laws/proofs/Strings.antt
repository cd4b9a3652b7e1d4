-- Call strings and the methods that they belong to.
use Rattle.std.proofs.Common.{◌≡◌, ℕ, ◌+◌, List, [], ◌∷◌, length, refl, sym, subst, arith}
use Rattle.lists.proofs.Places.{slice_get-below}
use Rattle.link_rules.specs.Linked.{LinkedProgram}
use Rattle.link_rules.specs.WellLinked.{HasTarget, IsReachedByCalls, IsWellLinked}
use Rattle.link_sites.specs.declared.place.Place.{Place}
use Rattle.link_sites.specs.declared.site.Site.{Site}
use Rattle.link_sites.specs.Places.{before}
use Rattle.spds_rules.specs.declared.node.Node.{Node}
use Rattle.spds_rules.specs.declared.store.StoreAt.{StoreAt}
use Rattle.spds_rules.specs.Demand.{Asked}
use Rattle.spds_rules.specs.Nodes.{IsNode}
use Rattle.spds_rules.specs.Systems.{InCalls, IsString}
use Rattle.spds_laws.specs.Strings.{EachMethodHasAString}
use Rattle.spds_laws.proofs.Crossings.{call_leads, keep_stays, return_leads}

module _ (p : LinkedProgram) where
  -- what a string that isn't empty is made of
  pub record IsCalledString (number : ℕ) (call : Place) (rest : List Place) : Type 0 where
    pub is_before : call ≡ before call.method call.index
    pub target : HasTarget p call.method call.index number
    pub below : IsString p call.method rest

  pub string_called : {number : ℕ} {call : Place} {rest : List Place} → IsString p number (call ∷ rest) → IsCalledString number call rest
  string_called (IsString.called target below) = record { is_before = refl; target = target; below = below }

  -- a target of a call has the call in front of each string of its method
  pub call_string : (call : Place) (number : ℕ) (string : List Place) → call ≡ before call.method call.index → HasTarget p call.method call.index number
      → IsString p call.method string → IsString p number (call ∷ string)
  call_string call number string e target below =
      subst (λ (c : Place). IsString p number (c ∷ string)) (sym e) (IsString.called target below)

  -- a call string of a node is one of its method
  pub calls_strings : (q : Asked) (Meet : Site → Site → StoreAt → Type 0) (o : Site) {n : Node} {string : List Place}
      → InCalls p q Meet o n string → IsString p n.place.method string
  calls_strings q Meet o (InCalls.start st is) = is
  calls_strings q Meet o (InCalls.keep {a} {b} {kind} {string} e k c) =
      subst (λ (m : ℕ). IsString p m string) (sym (keep_stays p a b kind e.0 k)) (calls_strings q Meet o c)
  calls_strings q Meet o (InCalls.push {a} {b} {call} {string} e c) =
      let leads = call_leads p a b call e.0 in
      call_string call b.place.method string leads.is_before leads.target
      (subst (λ (x : Place). IsString p x.method string) leads.from (calls_strings q Meet o c))
  calls_strings q Meet o (InCalls.pop {a} {b} {call} {string} e c) =
      subst (λ (m : ℕ). IsString p m string) (sym (return_leads p a b call e.0).to) (string_called (calls_strings q Meet o c)).below
  calls_strings q Meet o (InCalls.jump e c is) = is
  calls_strings q Meet o (InCalls.store m st c is) = is

  -- a method that the root reaches has a call string
  reached_string : (root : ℕ) → root + 1 ≡ length p.methods → {number : ℕ} → IsReachedByCalls p root number
      → (string : List Place) × IsString p number string
  reached_string root last IsReachedByCalls.root = ([], IsString.root last)
  reached_string root last (IsReachedByCalls.called {number} {index} {target} r has) =
      let s = reached_string root last r in (before number index ∷ s.0, IsString.called has s.1)

-- in a well linked program each method with statements has a call string
pub method_string : EachMethodHasAString
method_string p well number m there some = reached_string p well.form.number well.form.is_root.last (well.reached number m there some)

-- so has the method of each node
pub node_string : (p : LinkedProgram) → IsWellLinked p → (n : Node) → IsNode p n → (string : List Place) × IsString p n.place.method string
node_string p well n node =
    let below = slice_get-below node.method.code n.place.index node.code node.here in
    method_string p well n.place.method node.method node.there (omega (arith, below))
