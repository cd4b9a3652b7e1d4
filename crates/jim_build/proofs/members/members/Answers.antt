use Rattle.std.proofs.Common.{◌≡◌, [], ◌∷◌, true, false, refl, sym, ap, ◌∙◌, arith}
use Rattle.std.proofs.lemmas.Bool.{false≢true}
use Rattle.jim_grammar.specs.Expressions.{spell}
use Rattle.jim_grammar.specs.Grammar.{member}
use Rattle.jim_stmts.specs.Leads.{lead_at}
use Rattle.jim_build.specs.Members.{fields_of, methods_of}
use Rattle.jim_build.specs.Splits.{begins_member}
use Rattle.jim_build.proofs.Loops.{through_more, through_end}
use Rattle.jim_build.proofs.Parts.{split_fields, split_methods}
use Rattle.jim_build.proofs.Begins.{member_begins, begins_member-some}
use Rattle.jim_build.proofs.members.members.Goals as goal

pub loop-alloc-init : goal.loop-alloc-init
loop-alloc-init c = record {
  fields = λ x r h n. record { left = x; is_next = h; is_found = rw c.new-fields.ensures.items refl };
  methods = λ x r h n. record { left = x; is_next = h; is_found = rw c.new-methods.ensures.items refl };
  no_longer = omega arith;
}

pub loop-alloc-smaller : goal.loop-alloc-smaller
loop-alloc-smaller c =
    let begins : begins_member (lead_at c.loop-alloc.reader) ≡ true = cc in
    omega (arith, begins_member-some c.loop-alloc.reader begins, c.in_ok-member.ensures.shorter)

pub loop-alloc-preserved : goal.loop-alloc-preserved
loop-alloc-preserved c =
    let begins : begins_member (lead_at c.loop-alloc.reader) ≡ true = cc in record {
      fields = λ x r h n.
          through_more (spell member) fields_of (λ y. fields_of (y ∷ [])) x r _ _ _ _ split_fields (c.loop-alloc.invariant.fields x r h n)
          (λ e. false≢true (sym (ap begins_member n) ∙ (sym (ap (λ w. begins_member (lead_at w)) e) ∙ begins))) c.in_ok-member.ensures.fields c.in_ok-member.ensures.rest;
      methods = λ x r h n.
          through_more (spell member) methods_of (λ y. methods_of (y ∷ [])) x r _ _ _ _ split_methods (c.loop-alloc.invariant.methods x r h n)
          (λ e. false≢true (sym (ap begins_member n) ∙ (sym (ap (λ w. begins_member (lead_at w)) e) ∙ begins))) c.in_ok-member.ensures.methods c.in_ok-member.ensures.rest;
      no_longer = omega (arith, begins_member-some c.loop-alloc.reader begins, c.in_ok-member.ensures.shorter);
    }

pub returns-clause-fields : goal.returns-clause-fields
returns-clause-fields c = λ x r h n.
    let out : begins_member (lead_at c.loop-alloc.reader) ≡ false = cc in
    rw c.from_vec.ensures
    (through_end (spell member) fields_of x r _ _ refl (c.loop-alloc.invariant.fields x r h n)
    (λ y w e. false≢true (sym out ∙ (ap (λ w. begins_member (lead_at w)) e ∙ member_begins y w)))).0

pub returns-clause-methods : goal.returns-clause-methods
returns-clause-methods c = λ x r h n.
    let out : begins_member (lead_at c.loop-alloc.reader) ≡ false = cc in
    rw c.from_vec-2.ensures
    (through_end (spell member) methods_of x r _ _ refl (c.loop-alloc.invariant.methods x r h n)
    (λ y w e. false≢true (sym out ∙ (ap (λ w. begins_member (lead_at w)) e ∙ member_begins y w)))).0

pub returns-clause-rest : goal.returns-clause-rest
returns-clause-rest c = λ x r h n.
    let out : begins_member (lead_at c.loop-alloc.reader) ≡ false = cc in
    (through_end (spell member) fields_of x r _ _ refl (c.loop-alloc.invariant.fields x r h n)
    (λ y w e. false≢true (sym out ∙ (ap (λ w. begins_member (lead_at w)) e ∙ member_begins y w)))).1
