use Rattle.std.proofs.Common.{◌∙◌}
use Rattle.link_codes.proofs.Whole.{all_parts, all_traps, catches_same, codes_same, elements_same, uses_same}
use Rattle.link_codes.proofs.method.method_code.Goals as goal

pub statements-requires-clause-parts : goal.statements-requires-clause-parts
statements-requires-clause-parts c =
    all_parts c.args.targets.now c.args.numbering.now c.args.method.now c.in-Some.body c.in-Some.is c.requires.known c.requires.accepted c.requires.numbered
    c.classes.result.now c.in_ok-new.field-0 c.as_slice-stmts.result.now c.classes.ensures c.in_ok-new.ensures c.as_slice-stmts.ensures

pub catches-requires : goal.catches-requires
catches-requires c =
    all_traps c.args.targets.now c.args.numbering.now c.args.method.now c.in-Some.body c.in-Some.is c.requires.known c.requires.accepted c.requires.numbered
    c.classes.result.now c.in_ok-new.field-0 c.as_slice.result.now c.classes.ensures c.in_ok-new.ensures c.as_slice.ensures

pub elements-requires : goal.elements-requires
elements-requires c =
    all_parts c.args.targets.now c.args.numbering.now c.args.method.now c.in-Some.body c.in-Some.is c.requires.known c.requires.accepted c.requires.numbered
    c.classes.result.now c.in_ok-new.field-0 c.as_slice-stmts.result.now c.classes.ensures c.in_ok-new.ensures c.as_slice-stmts.ensures

pub returns-clause-code : goal.returns-clause-code
returns-clause-code c =
    record {
      body = c.in-Some.body;
      in_body = c.in-Some.is;
      code = codes_same c.args.targets.now c.args.numbering.now c.args.method.now c.in-Some.body c.in-Some.is c.requires.known c.classes.result.now c.in_ok-new.field-0 c.classes.ensures
          c.in_ok-new.ensures c.as_slice-stmts.result.now c.statements.new.constants c.in_ok-code.code.items c.as_slice-stmts.ensures c.in_ok-code.ensures.code;
      catches = catches_same c.args.targets.now c.args.numbering.now c.args.method.now c.in-Some.body c.in-Some.is c.requires.known c.classes.result.now c.in_ok-new.field-0 c.classes.ensures
          c.in_ok-new.ensures c.as_slice.result.now c.in_ok-catches.catches.items c.as_slice.ensures c.in_ok-catches.ensures;
      elements = c.in_ok-elements.ensures
          ∙ elements_same c.args.targets.now c.args.numbering.now c.args.method.now c.in-Some.body c.in-Some.is c.requires.known c.classes.result.now c.in_ok-new.field-0 c.classes.ensures
          c.in_ok-new.ensures c.as_slice-stmts.result.now c.as_slice-stmts.ensures;
    }

pub returns-clause-uses : goal.returns-clause-uses
returns-clause-uses c =
    uses_same c.args.targets.now c.args.numbering.now c.args.method.now c.in-Some.body c.in-Some.is c.requires.known c.classes.result.now c.in_ok-new.field-0 c.classes.ensures
    c.in_ok-new.ensures c.as_slice-stmts.result.now c.args.constants.now c.statements.new.constants c.as_slice-stmts.ensures c.in_ok-code.ensures.uses
