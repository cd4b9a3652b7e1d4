use Rattle.std.proofs.Common.{sym, subst}
use Rattle.std.proofs.lemmas.List.Elements.{All-get_or}
use Rattle.link_codes.specs.Contexts.{context_of}
use Rattle.link_codes.specs.Needs.{HasParts}
use Rattle.link_codes.proofs.Arrays.{element_more, element_none, names_within}
use Rattle.link_codes.proofs.elements.elements.Goals as goal
use Rattle.link_codes.proofs.elements.elements.Goals.{in-Some+in_ok-element+in_ok-push, in_default}

pub element-requires : goal.element-requires
element-requires c =
    let b = context_of c.args.scope.now in
    let here : HasParts b c.index-stmts-index.result =
    subst (HasParts b) (sym c.index-stmts-index.is) (All-get_or (HasParts b) c.args.stmts.now c.loop-index.index c.index-stmts-index.result c.loop-index-test.true c.requires) in
    names_within b c.index-stmts-index.result c.in-Some.ty c.in-Some.ensures.some here

pub loop-index-preserved : goal.loop-index-preserved
loop-index-preserved c =
    let names = (context_of c.args.scope.now).names in
    let stmts = c.args.stmts.now in
    let at = c.loop-index.index in
    let s = c.index-stmts-index.result in
    let before = c.loop-index.elements.items in
    elim c.match-element_type.branch [
      | in-Some+in_ok-element+in_ok-push w ↦
          rw w.elements-is
          (element_more names stmts at s c.loop-index-test.true c.index-stmts-index.is before c.loop-index.invariant w.push.new.self.items w.in_ok-element.field-0
          w.in-Some.ty w.in_ok-push.ensures.items w.in-Some.ensures.some w.in_ok-element.ensures.index w.in_ok-element.ensures.text)
      | in_default w ↦
          rw w.elements-is
          (element_none names stmts at s c.loop-index-test.true c.index-stmts-index.is before c.loop-index.invariant (w.in_default.ensures.none names at))
    ]
