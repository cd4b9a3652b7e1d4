use Rattle.std.proofs.Common.{inl, inr, sym, ◌∙◌, true≢false}
use Rattle.track_tables.proofs.Filing.{onward_added}
use Rattle.track_tables.proofs.parts.add_onward.Goals as goal

pub returns-in_ok-add : goal.returns-in_ok-add
returns-in_ok-add c = onward_added c.args.onward.now c.add.new.self c.args.edge c.in_ok-add.ensures.last (c.is_onward.ensures.0 c.if-is_onward.true)

pub returns-else-is_onward : goal.returns-else-is_onward
returns-else-is_onward c = λ number e. (
  (λ has. inl has),
  (λ h. elim h [ inl was ↦ was | inr is ↦ absurd (true≢false (sym (c.is_onward.ensures.1 is.1) ∙ c.if-is_onward.false)) ]),
)
