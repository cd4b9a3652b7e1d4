use Rattle.std.proofs.Common.{◌≡◌, ◌++◌, [], ◌∷◌, ◌∙◌, List, Some, ap, arith, length, refl, slice_get, subst}
use Rattle.jim_step.proofs.Moving.{same_state}
use Rattle.jim_step.specs.declared.frame.Frame.{Frame as KeptFrame}
use Rattle.jim_step.specs.Frames.{frames_of}
use Rattle.step_rules.proofs.Firsts.{first_fits}
use Rattle.jim_step.proofs.starting.first.Goals as goal

pub returns-clause-first : goal.returns-clause-first
returns-clause-first c =
    let form = c.tell_form.ensures in
    let same : form.number ≡ c.root.result = omega (arith, form.is_root.last, c.root.ensures) in
    let there : slice_get c.args.linked.now.methods c.root.result ≡ Some form.root = subst (λ k. slice_get c.args.linked.now.methods k ≡ Some form.root) same form.is_root.there in
    let frames = ap frames_of (c.in_ok-push.ensures.items ∙ ap (λ (l : List KeptFrame). l ++ c.in_ok-root.root ∷ []) c.new-frames.ensures.items) in
    record {
      number = c.root.result;
      root = form.root;
      is_root = record {
        last = c.root.ensures;
        there = there;
        has_statements = form.is_root.has_statements;
        no_params = form.is_root.no_params;
        no_receiver = form.is_root.no_receiver;
      };
      string = c.args.classes.now.string;
      is_string = c.requires.named.string;
      class = c.args.classes.now.class;
      is_class = c.requires.named.class;
      is_state = same_state _ _ _ _ _ _ _ _ (frames ∙ rw (c.in_ok-root.ensures form.root there) refl) c.in_ok-heap.ensures c.in_ok-statics.ensures refl;
    }

pub returns-clause-steady : goal.returns-clause-steady
returns-clause-steady c = record {
  form = c.tell_form.ensures;
  small = c.requires.small;
  named = c.requires.named;
  shape = first_fits c.args.linked.now _ (returns-clause-first c);
  depth = omega (arith, ap (λ (l : List KeptFrame). length l) (c.in_ok-push.ensures.items ∙ ap (λ (l : List KeptFrame). l ++ c.in_ok-root.root ∷ []) c.new-frames.ensures.items));
}
