use Rattle.std.proofs.Common.{◌≡◌, ◌∙◌, Some, ap, subst, sym}
use Rattle.std.proofs.lemmas.Option.{get_or_from_slice_get}
use Rattle.jim_step.proofs.Readies.{here_of}
use Rattle.jim_step.specs.Frames.{frame_of, seen}
use Rattle.jim_step.specs.Ready.{IsReady}
use Rattle.jim_step.proofs.plans.plan_of.Goals as goal

pub row-requires-clause-ready : goal.row-requires-clause-ready
row-requires-clause-ready c =
    let h = here_of c.args.linked.now (seen (frame_of c.args.frame.now) c.args.heap.now c.args.statics.now) c.tell_form.ensures c.requires.small
    c.requires.fits in
    let same : c.index-code-frame.result ≡ h.code = c.index-code-frame.is
    ∙ rw (c.code-code.ensures h.method h.there) (get_or_from_slice_get h.method.code c.args.frame.now.place.index h.code _ h.here) in
    subst (λ code. IsReady c.args.linked.now code) (sym same) h.is_ready

pub returns-clause-row : goal.returns-clause-row
returns-clause-row c =
    let h = here_of c.args.linked.now (seen (frame_of c.args.frame.now) c.args.heap.now c.args.statics.now) c.tell_form.ensures c.requires.small
    c.requires.fits in
    let same : c.index-code-frame.result ≡ h.code = c.index-code-frame.is
    ∙ rw (c.code-code.ensures h.method h.there) (get_or_from_slice_get h.method.code c.args.frame.now.place.index h.code _ h.here) in
    rw c.if-frame.false (record {
      code = c.index-code-frame.result;
      at = record { method = h.method; there = h.there; here = h.here ∙ ap Some (sym same) };
      is_so = c.row.ensures.row;
    })
