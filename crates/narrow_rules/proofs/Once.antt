-- One program is left.
use Rattle.std.proofs.Common.{◌≡◌, ℕ, ◌<◌, List, sym, ap, ◌∙◌, subst, inl, inr, arith}
use Rattle.lists.proofs.Places.{slice_get-below, slice_get-extensional, slice_get-there}
use Rattle.link_rules.specs.declared.code.Catch.{Catch}
use Rattle.link_rules.specs.declared.code.Code.{Code}
use Rattle.link_rules.specs.Linked.{LinkedMethod, LinkedProgram}
use Rattle.narrow_rules.specs.declared.kept.Kept.{Kept}
use Rattle.narrow_rules.specs.Laws.{HasOneNarrowed}
use Rattle.narrow_rules.specs.Narrowed.{IsNarrowedBody, IsNarrowedMethod}
use Rattle.narrow_rules.proofs.Bodies.{code_once}

module _ (p : LinkedProgram) (kept : List Kept) where
  -- one list of statements is left
  body_once : (number : ℕ) (old a b : List Code) → IsNarrowedBody kept number old a → IsNarrowedBody kept number old b → a ≡ b
  body_once number old a b first second = slice_get-extensional a b (sym first.as_many ∙ second.as_many) (λ i c d at_a at_b.
      let o = slice_get-there old i (subst (λ k. i < k) (sym first.as_many) (slice_get-below a i c at_a)) in
      code_once kept number i o.0 c d (first.each i o.0 c o.1 at_a) (second.each i o.0 d o.1 at_b))

  -- a method by its statements and handlers
  by_parts : (old one two : LinkedMethod) → one ≡ record old { code = one.code; catches = one.catches }
      → two ≡ record old { code = two.code; catches = two.catches } → one.code ≡ two.code → one.catches ≡ two.catches → one ≡ two
  by_parts old one two a b codes catches =
      a ∙ ap (λ (c : List Code). record old { code = c; catches = one.catches }) codes
      ∙ ap (λ (h : List Catch). record old { code = two.code; catches = h }) catches ∙ sym b

  -- one method is left
  method_once : (root number : ℕ) (old one two : LinkedMethod) → IsNarrowedMethod p kept root number old one
      → IsNarrowedMethod p kept root number old two → one ≡ two
  method_once root number old one two a b = elim a.becomes [
    | inl goes ↦ elim b.becomes [
      | inl too ↦ by_parts old one two a.same b.same (body_once number old.code one.code two.code goes.code too.code) (goes.catches ∙ sym too.catches)
      | inr lost ↦ absurd (lost.unreached goes.reached)
    ]
    | inr lost ↦ elim b.becomes [
      | inl goes ↦ absurd (lost.unreached goes.reached)
      | inr too ↦ by_parts old one two a.same b.same (lost.code ∙ sym too.code) (lost.catches ∙ sym too.catches)
    ]
  ]

-- the law
pub narrowed_once : HasOneNarrowed
narrowed_once p one two kept a b =
    let roots : b.root ≡ a.root = let x = a.last in let y = b.last in omega (arith, x, y) in
    let methods : one.methods ≡ two.methods = slice_get-extensional one.methods two.methods (sym a.as_many ∙ b.as_many) (λ i m n at_one at_two.
    let o = slice_get-there p.methods i (subst (λ k. i < k) (sym a.as_many) (slice_get-below one.methods i m at_one)) in
    method_once p kept a.root i o.0 m n (a.each i o.0 m o.1 at_one)
    (subst (λ r. IsNarrowedMethod p kept r i o.0 n) roots (b.each i o.0 n o.1 at_two))) in
    a.same ∙ ap (λ (ms : List LinkedMethod). record p { methods = ms }) methods ∙ sym b.same
