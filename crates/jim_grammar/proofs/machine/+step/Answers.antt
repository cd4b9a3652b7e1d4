use Rattle.std.proofs.Common.{◌+◌, IsTrue, refl, sym, ap, ◌∙◌, arith}
use Rattle.jim_grammar.specs.Residuals.{Null, null_eps, null_star, null_opt, null_upto}
use Rattle.jim_text.specs.declared.lead.Lead.TheVariants as lead
use Rattle.jim_grammar.specs.declared.item.Item.TheVariants as item
use Rattle.jim_grammar.specs.Forms.{forms}
use Rattle.jim_grammar.specs.Items.{re}
use Rattle.jim_grammar.specs.Stacks.{re_entry, size, total, rest_of}
use Rattle.jim_grammar.proofs.Steps.{adds_none, adds_at, null_at, eps_none, any_step, any_empty_first, any_empty_more, part_over, part_and, part_full, part_null, part_less, rule_is, seq_end, plain_any, plain_star, plain_opt, plain_upto, total_map, tok_step, tok_no_step, one_step, star_step, opt_step, upto_step, null_rule, any_rule_adds, any_rule_null, shared_none_step, shared_rule_null, shared_step, shared_and_step, shared_less}
use Rattle.jim_grammar.proofs.machine.+step.Goals as goal

pub any-returns-then-first-clause-adds : goal.any-returns-then-first-clause-adds
any-returns-then-first-clause-adds t c = any_step c.args.lead c.args.items.now _ _ _ _ _ _ _ (omega arith) c.whole.ensures c.in_ok-first.ensures.adds c.in_ok-first.ensures.same c.in_ok-more.ensures.adds

pub any-returns-then-first-clause-empty : goal.any-returns-then-first-clause-empty
any-returns-then-first-clause-empty t c = any_empty_first c.args.items.now _ _ c.in_ok-first.first (omega arith) c.whole.ensures c.in_ok-first.ensures.empty c.if-first.true

pub any-returns-else-first-clause-adds : goal.any-returns-else-first-clause-adds
any-returns-else-first-clause-adds t c = any_step c.args.lead c.args.items.now _ _ _ _ _ _ _ (omega arith) c.whole.ensures c.in_ok-first.ensures.adds c.in_ok-first.ensures.same c.in_ok-more.ensures.adds

pub any-returns-else-first-clause-empty : goal.any-returns-else-first-clause-empty
any-returns-else-first-clause-empty t c = any_empty_more c.args.items.now _ _ c.in_ok-first.first c.in_ok-more.more (omega arith) c.whole.ensures c.in_ok-first.ensures.empty c.if-first.false c.in_ok-more.ensures.empty

pub sequence-returns-then-entry-items-clause-adds : goal.sequence-returns-then-entry-items-clause-adds
sequence-returns-then-entry-items-clause-adds t c =
    adds_at _ _ _ _ _ _ (ap (rest_of c.args.entry.at) c.requires ∙ seq_end c.args.entry.at c.args.items.now (omega arith)) (adds_none _ _ _ _ (eps_none c.args.lead))

pub sequence-returns-then-entry-items-clause-empty : goal.sequence-returns-then-entry-items-clause-empty
sequence-returns-then-entry-items-clause-empty t c =
    null_at _ _ _ (ap (rest_of c.args.entry.at) c.requires ∙ seq_end c.args.entry.at c.args.items.now (omega arith)) ((λ x. null_eps), λ x. refl)

pub sequence-over-requires : goal.sequence-over-requires
sequence-over-requires t c =
    let e = part_less c.args.entry.item c.args.entry.at c.args.items.now (item.Tok lead.Name) c.requires (omega arith) in
    (omega (arith, c.decreases, e), tt)

pub sequence-returns-then-not-empty-clause-adds : goal.sequence-returns-then-not-empty-clause-adds
sequence-returns-then-not-empty-clause-adds t c =
    part_over c.args.lead c.args.entry.item c.args.entry.at c.args.items.now (item.Tok lead.Name) _ _ _ c.requires (omega arith) c.in_ok-empty.ensures.adds (λ n. let e : IsTrue c.in_ok-empty.empty = c.in_ok-empty.ensures.empty.1 n in cc (e, c.if-not-empty.true))

pub sequence-returns-then-not-empty-clause-empty : goal.sequence-returns-then-not-empty-clause-empty
sequence-returns-then-not-empty-clause-empty t c =
    ((λ x. cc x), λ m. absurd (part_full c.args.entry.item c.args.entry.at c.args.items.now (item.Tok lead.Name) c.requires (omega arith) (λ n. let e : IsTrue c.in_ok-empty.empty = c.in_ok-empty.ensures.empty.1 n in cc (e, c.if-not-empty.true)) m))

pub sequence-step-requires : goal.sequence-step-requires
sequence-step-requires t c =
    let e = part_less c.args.entry.item c.args.entry.at c.args.items.now (item.Tok lead.Name) c.requires (omega arith) in
    (omega (arith, c.decreases, e), tt)

pub step-any-requires : goal.step-any-requires
step-any-requires t c =
    let e = rule_is c.args.entry.at c.args.entry.item _ c.in-Any.ensures.2 (plain_any c.args.entry.at c.in-Any.ensures.0 c.in-Any.ensures.1) in
    let s = ap size e in
    let m = ap (total (λ e. 1 + size e)) c.in-Any.ensures.3 in
    let n = total_map (λ e. 1 + size e) c.in-Any.ensures.1 (forms c.in-Any.ensures.0) in
    (omega (arith, c.decreases, s, m, n), tt)

pub step-step-requires : goal.step-step-requires
step-step-requires t c =
    let e = rule_is c.args.entry.at c.args.entry.item _ c.in-Opt.ensures (plain_opt c.args.entry.at (re c.in-Opt.item)) in
    let s = ap size e in
    let w = ap (λ e. size (re_entry e)) c.whole.ensures in
    (omega (arith, c.decreases, s, w), tt)

pub step-returns-in_ok-push-in-Tok-clause-adds : goal.step-returns-in_ok-push-in-Tok-clause-adds
step-returns-in_ok-push-in-Tok-clause-adds t c = tok_step c.args.lead c.in-Tok.wanted c.args.entry.at c.args.entry.item _ _ _ _ c.in-Tok.ensures (c.is_same.ensures.0 c.if-is_same.true) c.in_ok-push-in-Tok.ensures.items (c.in_ok-copy_of-in-Tok.ensures ∙ c.deref.ensures.value)

pub step-returns-else-is_same-clause-adds : goal.step-returns-else-is_same-clause-adds
step-returns-else-is_same-clause-adds t c = tok_no_step c.args.lead c.in-Tok.wanted c.args.entry.at c.args.entry.item _ _ c.in-Tok.ensures (λ q. let e : IsTrue c.is_same.result = c.is_same.ensures.1 q in cc (e, c.if-is_same.false))

pub step-returns-in_ok-push-in-One-clause-adds : goal.step-returns-in_ok-push-in-One-clause-adds
step-returns-in_ok-push-in-One-clause-adds t c = one_step c.args.lead c.in-One.set c.args.entry.at c.args.entry.item _ _ _ _ c.in-One.ensures (sym c.contains.ensures ∙ c.if-contains.true) c.in_ok-push-in-One.ensures.items (c.in_ok-copy_of-in-One.ensures ∙ c.deref-then-contains.ensures.value)

pub step-returns-in_ok-over-in-Star-clause-adds : goal.step-returns-in_ok-over-in-Star-clause-adds
step-returns-in_ok-over-in-Star-clause-adds t c = star_step c.args.lead c.args.entry.at c.args.entry.item _ _ _ _ c.in-Star.ensures c.in_ok-over-in-Star.ensures.adds

pub step-returns-in_ok-over-in-Star-clause-empty : goal.step-returns-in_ok-over-in-Star-clause-empty
step-returns-in_ok-over-in-Star-clause-empty t c = null_rule c.args.entry.at c.args.entry.item _ c.in-Star.ensures (plain_star c.args.entry.at _) null_star

pub step-returns-in_ok-step-in-Opt-clause-adds : goal.step-returns-in_ok-step-in-Opt-clause-adds
step-returns-in_ok-step-in-Opt-clause-adds t c = opt_step c.args.lead c.args.entry.at c.args.entry.item c.in-Opt.item _ _ _ _ c.in-Opt.ensures c.whole.ensures c.in_ok-step-in-Opt.ensures.adds

pub step-returns-in_ok-step-in-Opt-clause-empty : goal.step-returns-in_ok-step-in-Opt-clause-empty
step-returns-in_ok-step-in-Opt-clause-empty t c = null_rule c.args.entry.at c.args.entry.item _ c.in-Opt.ensures (plain_opt c.args.entry.at _) null_opt

pub step-over-requires-in-FullShared : goal.step-over-requires-in-FullShared
step-over-requires-in-FullShared t c = let e = shared_less c.args.entry.at 0 c.args.entry.item _ _ _ c.in-FullShared.ensures.0 in (omega (arith, c.decreases, e), tt)

pub step-over-requires-in-Shared : goal.step-over-requires-in-Shared
step-over-requires-in-Shared t c = let e = shared_less c.args.entry.at _ c.args.entry.item _ _ _ c.in-Shared.ensures.1 in (omega (arith, c.decreases, e), tt)

pub step-over-requires-in-Shared-2 : goal.step-over-requires-in-Shared-2
step-over-requires-in-Shared-2 t c = let e = shared_less c.args.entry.at _ c.args.entry.item _ _ _ c.in-Shared.ensures.1 in (omega (arith, c.decreases, e), tt)

pub step-over-requires-in-Shared-3 : goal.step-over-requires-in-Shared-3
step-over-requires-in-Shared-3 t c = let e = shared_less c.args.entry.at _ c.args.entry.item _ _ _ c.in-Shared.ensures.1 in (omega (arith, c.decreases, e), tt)

pub sequence-returns-clause-adds : goal.sequence-returns-clause-adds
sequence-returns-clause-adds t c = part_and c.args.lead c.args.entry.item c.args.entry.at c.args.items.now (item.Tok lead.Name) _ _ _ _ _ c.requires (omega arith) c.in_ok-empty.ensures.adds (c.in_ok-empty.ensures.empty.0 c.if-not-empty.false) c.in_ok-empty.ensures.same c.in_ok-rest.ensures.adds

pub sequence-returns-clause-empty : goal.sequence-returns-clause-empty
sequence-returns-clause-empty t c = part_null c.args.entry.item c.args.entry.at c.args.items.now (item.Tok lead.Name) _ c.requires (omega arith) (c.in_ok-empty.ensures.empty.0 c.if-not-empty.false) c.in_ok-rest.ensures.empty

pub step-returns-in_ok-some-in-Any-clause-adds : goal.step-returns-in_ok-some-in-Any-clause-adds
step-returns-in_ok-some-in-Any-clause-adds t c = any_rule_adds c.args.lead c.args.entry.at c.args.entry.item _ c.in-Any.ensures.1 c.in-Any.items.now _ _ _ c.in-Any.ensures.2 c.in-Any.ensures.3 c.in_ok-some-in-Any.ensures.adds

pub step-returns-in_ok-some-in-Any-clause-empty : goal.step-returns-in_ok-some-in-Any-clause-empty
step-returns-in_ok-some-in-Any-clause-empty t c = any_rule_null c.args.entry.at c.args.entry.item _ c.in-Any.ensures.1 c.in-Any.items.now _ c.in-Any.ensures.2 c.in-Any.ensures.3 c.in_ok-some-in-Any.ensures.empty

pub step-returns-in-Full-clause-empty : goal.step-returns-in-Full-clause-empty
step-returns-in-Full-clause-empty t c = null_rule c.args.entry.at c.args.entry.item _ c.in-Full.ensures (plain_upto c.args.entry.at 0 _) null_upto

pub step-returns-in_ok-over-in-UpTo-clause-adds : goal.step-returns-in_ok-over-in-UpTo-clause-adds
step-returns-in_ok-over-in-UpTo-clause-adds t c = upto_step c.args.lead _ c.args.entry.at c.args.entry.item c.in-UpTo.fewer _ _ _ _ _ c.in-UpTo.ensures.1 c.in-UpTo.ensures.2 c.whole-in-UpTo.ensures c.in_ok-over-in-UpTo.ensures.adds

pub step-returns-in_ok-over-in-UpTo-clause-empty : goal.step-returns-in_ok-over-in-UpTo-clause-empty
step-returns-in_ok-over-in-UpTo-clause-empty t c = null_rule c.args.entry.at c.args.entry.item _ c.in-UpTo.ensures.1 (plain_upto c.args.entry.at _ _) null_upto

pub step-returns-in_ok-only-in-FullShared-clause-adds : goal.step-returns-in_ok-only-in-FullShared-clause-adds
step-returns-in_ok-only-in-FullShared-clause-adds t c = shared_none_step c.args.lead c.args.entry.at c.args.entry.item c.in-FullShared.rest _ _ _ _ _ _ _ c.in-FullShared.ensures.0 c.in-FullShared.ensures.1 c.whole-in-FullShared.ensures c.in_ok-only-in-FullShared.ensures.adds

pub step-returns-in_ok-only-in-FullShared-clause-empty : goal.step-returns-in_ok-only-in-FullShared-clause-empty
step-returns-in_ok-only-in-FullShared-clause-empty t c = shared_rule_null c.args.entry.at 0 c.args.entry.item _ _ _ _ c.in-FullShared.ensures.0 c.in_ok-only-in-FullShared.ensures.empty

pub step-returns-then-not-empty-clause-adds : goal.step-returns-then-not-empty-clause-adds
step-returns-then-not-empty-clause-adds t c = shared_step c.args.lead _ c.args.entry.at c.args.entry.item c.in-Shared.fewer c.in-Shared.rest _ _ _ _ _ _ _ _ _ _ c.in-Shared.ensures.1 c.in-Shared.ensures.2 c.in-Shared.ensures.3 c.whole-in-Shared.ensures c.whole-in-Shared-2.ensures (λ n. let e : IsTrue c.in_ok-empty-in-Shared.empty = c.in_ok-empty-in-Shared.ensures.empty.1 n in cc (e, c.if-not-empty.true)) c.in_ok-over-in-Shared.ensures.adds c.in_ok-over-in-Shared.ensures.same c.in_ok-empty-in-Shared.ensures.adds

pub step-returns-then-not-empty-clause-empty : goal.step-returns-then-not-empty-clause-empty
step-returns-then-not-empty-clause-empty t c =
    let full : Null (re c.in-Shared.middle) → ⊥ = λ n. let e : IsTrue c.in_ok-empty-in-Shared.empty = c.in_ok-empty-in-Shared.ensures.empty.1 n in cc (e, c.if-not-empty.true) in
    shared_rule_null c.args.entry.at _ c.args.entry.item _ _ _ _ c.in-Shared.ensures.1 ((λ x. cc x), λ n. absurd (full n))

pub step-returns-in_ok-over-in-Shared-2-clause-adds : goal.step-returns-in_ok-over-in-Shared-2-clause-adds
step-returns-in_ok-over-in-Shared-2-clause-adds t c = shared_and_step c.args.lead _ c.args.entry.at c.args.entry.item c.in-Shared.fewer c.in-Shared.rest c.in-Shared.last _ _ _ _ _ _ _ _ _ _ _ _ _ c.in-Shared.ensures.1 c.in-Shared.ensures.2 c.in-Shared.ensures.3 c.in-Shared.ensures.4 c.whole-in-Shared.ensures c.whole-in-Shared-2.ensures c.whole-in-Shared-3.ensures (c.in_ok-empty-in-Shared.ensures.empty.0 c.if-not-empty.false) c.in_ok-over-in-Shared.ensures.adds c.in_ok-over-in-Shared.ensures.same c.in_ok-empty-in-Shared.ensures.adds c.in_ok-empty-in-Shared.ensures.same c.in_ok-over-in-Shared-2.ensures.adds

pub step-returns-in_ok-over-in-Shared-2-clause-empty : goal.step-returns-in_ok-over-in-Shared-2-clause-empty
step-returns-in_ok-over-in-Shared-2-clause-empty t c = shared_rule_null c.args.entry.at _ c.args.entry.item _ _ _ _ c.in-Shared.ensures.1 ((λ x. c.in_ok-empty-in-Shared.ensures.empty.0 c.if-not-empty.false), λ n. refl)
