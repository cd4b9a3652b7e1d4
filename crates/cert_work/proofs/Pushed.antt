-- One line more.
use Rattle.std.proofs.Common.{◌≡◌, ◌∙◌, inl, inr, ℕ, List, [], ◌∷◌, ◌++◌, Some, length, slice_index_or, refl, sym, ap, subst, arith}
use Rattle.lists.proofs.Places.{slice_get-push}
use Rattle.link_rules.specs.Linked.{LinkedProgram}
use Rattle.spds_rules.specs.declared.node.Node.{Node}
use Rattle.cert_rules.specs.declared.fact.Fact.{Fact}
use Rattle.cert_rules.specs.declared.line.Line.{Line}
use Rattle.cert_rules.specs.Given.{Gives}
use Rattle.cert_lines.specs.Noted.{IsNotedIn, IsThere, Noted, length_at, with_line}
use Rattle.cert_work.specs.Added.{AreAdded, length_told}

index-last : (xs : List ℕ) (x : ℕ) → slice_index_or (xs ++ x ∷ []) (length xs) 0 ≡ x
index-last [] x = refl
index-last (y ∷ xs) x = index-last xs x

pub added_one : (p : LinkedProgram) (t : Node) (old new : Noted) (l : Line) (fact : Fact) (n : ℕ) → length old.lengths ≡ length old.given
    → Gives p t old.given l (Some fact) → n ≡ length_told old l → IsNotedIn old new l fact n → AreAdded p t old new
added_one p t old new l fact n even gives long (inl a) = subst (AreAdded p t old) (sym a.0) AreAdded.none
added_one p t old new l fact n even gives long (inr b) =
    let is : new ≡ with_line old l fact (length_told old l) = b.0 ∙ ap (with_line old l fact) long in
    subst (AreAdded p t old) (sym is) (AreAdded.more l fact AreAdded.none even gives (λ there. b.1 (subst (IsThere old fact) (sym long) there)))

pub there_one : (old new : Noted) (l : Line) (fact : Fact) (n : ℕ) → length old.lengths ≡ length old.given → IsNotedIn old new l fact n → IsThere new fact n
there_one old new l fact n even (inl a) = subst (λ (w : Noted). IsThere w fact n) (sym a.0) a.1
there_one old new l fact n even (inr b) =
    let last : IsThere (with_line old l fact n) fact n =
    record {
      at = length old.given;
      gives = slice_get-push old.given (Some fact);
      short = let e : length_at (with_line old l fact n) (length old.given) ≡ n = ap (λ (k : ℕ). slice_index_or (old.lengths ++ n ∷ []) k 0) (sym even) ∙ index-last old.lengths n in omega arith;
    } in
    subst (λ (w : Noted). IsThere w fact n) (sym b.0) last
