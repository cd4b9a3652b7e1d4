use Rattle.std.proofs.Common.{◌≡◌, ◌<◌, ◌⊎◌, ◌↔◌, ℕ, List, [], ◌∷◌, ◌++◌, false, length, map, inl, inr, refl, sym, subst, ◌∙◌}
use Rattle.std.specs.Bool.{◌==◌}
use Rattle.lists.specs.Lists.{Has, AreAll}
use Rattle.lists.proofs.Places.{Has-push}
use Rattle.lists.proofs.Joined.{slice_get-mapped}
use Rattle.link_rules.specs.Linked.{LinkedProgram}
use Rattle.site_events.specs.Callers.{AreMethodNumbers}
use Rattle.site_events.specs.Loud.{IsLoud}
use Rattle.site_events.proofs.Entering.{loud_calls_enter}
use Rattle.weight_laws.proofs.Meaning.{meaning}
use Rattle.weight_laws.specs.declared.rel.Rel.{Rel}
use Rattle.weight_laws.specs.Rel.{Relates}
use Rattle.site_events.specs.declared.statement.Statement.{Statement}
use Rattle.site_events.specs.declared.inner.Inner.{Inner}
use Rattle.site_events.specs.Sites.{AreInMethods, IsInnerOf}
use Rattle.site_events.proofs.site.SiteEvents.add.Goals as goal

-- a list that isn't empty has a statement
has_some : (statements : List Statement) → false ≡ (length statements == 0) → (s : Statement) × Has statements s
has_some [] other = cc (other)
has_some (s ∷ rest) other = (s, (0, refl))

-- the methods of statements in methods of the program are such
methods_in : (p : LinkedProgram) (statements : List Statement) (told : List ℕ) → told ≡ map (λ (s : Statement). s.method) statements → AreInMethods p statements → AreMethodNumbers p told
methods_in p statements told is among m has =
    let listed = subst (λ (xs : List ℕ). Has xs m) is has in
    let x = slice_get-mapped (λ (s : Statement). s.method) statements listed.0 m listed.1 in
    subst (λ (n : ℕ). n < length p.methods) x.2 (among x.0 (listed.0, x.1))

-- the methods from which a run may come to one of the statements are entered exactly where it may
inner_is : (p : LinkedProgram) (statements : List Statement) (told loud : List ℕ) (does : Rel) (x : Inner) → told ≡ map (λ (s : Statement). s.method) statements → x.does ≡ does
    → x.loud.keys ≡ loud → AreAll (IsLoud p told) loud → IsInnerOf p statements does x
inner_is p statements told loud does x is same keys are = record {
  does_is = same;
  enters = λ c.
      let law = loud_calls_enter p told c in (
        (λ h.
            let among = subst (λ (xs : List ℕ). Has xs h.0) keys h.2 in
            let y = law.0 (h.0, h.1, are.each h.0 among) in
            (y.0, y.1, subst (λ (xs : List ℕ). Has xs y.0) is y.2)),
        (λ h.
            let y = law.1 (h.0, h.1, subst (λ (xs : List ℕ). Has xs h.0) (sym is) h.2) in
            (y.0, y.1, subst (λ (xs : List ℕ). Has xs y.0) (sym keys) (are.all y.0 y.2))),
      );
}

pub returns : goal.returns
returns c = λ p calling among.
    let statements = c.args.statements.now in
    let told = c.deref.result.now in
    let is = c.deref.ensures.value ∙ c.in_ok-methods.ensures in
    let x : Inner = record { does = c.args.does; loud = c.in_ok-loud.loud } in
    let inner = inner_is p statements told x.loud.keys c.args.does x is refl refl (c.in_ok-loud.ensures p calling (methods_in p statements told is among)) in
    let old = c.args.self.now.inner.items in
    let pushed : c.push.new.self.items ≡ old ++ x ∷ [] = c.in_ok-push.ensures.items in
    let both : (y : Inner) → Has c.push.new.self.items y ↔ (Has old y ⊎ (y ≡ x)) = λ y. subst (λ (xs : List Inner). Has xs y ↔ (Has old y ⊎ (y ≡ x))) (sym pushed) (Has-push old x y) in
    record {
      own = c.in_ok-raise_all.ensures;
      kept = λ y h. (both y).1 (inl h);
      each = λ y h. elim ((both y).0 h) [ inl a ↦ inl a | inr e ↦ inr (subst (λ (z : Inner). IsInnerOf p statements c.args.does z) (sym e) inner) ];
      inner = λ s h. (x, (both x).1 (inr refl), inner);
      anywhere = λ i j h.
          let sum = meaning.combine c.args.self.now.anywhere c.args.does i j h in
          let one = has_some statements c.if-is_empty.ensures in (
            (λ r. elim (sum.0 (subst (λ (w : Rel). Relates w i j) c.combine-self.ensures r)) [ inl a ↦ inl a | inr b ↦ inr (one, b) ]),
            (λ r. subst (λ (w : Rel). Relates w i j) (sym c.combine-self.ensures) (sum.1 (elim r [ inl a ↦ inl a | inr b ↦ inr b.1 ]))),
          );
    }
