use Rattle.std.proofs.Common.{length, sym, ◌∙◌, ap}
use Rattle.std.proofs.lemmas.List.{length-map}
use Rattle.batch_lines.specs.Queries.{parts_of}
use Rattle.boom_top.specs.Batches.{Batch}
use Rattle.boom_top.proofs.Batched.{told_answers}
use Rattle.boom_top.proofs.batches.answered_all.Goals as goal

pub returns-clause-text : goal.returns-clause-text
returns-clause-text g c = told_answers c.args.batch.now _ _ c.in_ok-text.text.items (sym (length-map c.batch.inside.queries.now parts_of) ∙ ap (λ (b : Batch). length b.queries) c.batch.view_is) c.in_ok-texts.ensures c.in_ok-text.ensures
