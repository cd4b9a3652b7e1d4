use Rattle.std.proofs.Common.{◌∙◌, ap, subst, sym}
use Rattle.jim_ast.specs.declared.syntax.MethodDecl.{MethodDecl}
use Rattle.link_rules.specs.Conditions.{AreWithin, method_names}
use Rattle.link_rules.specs.Root.{root_names}
use Rattle.link_classes.proofs.RootNames.{root_read, root_within}
use Rattle.link_classes.proofs.classes.root_method.Goals as goal

pub returns-clause-known : goal.returns-clause-known
returns-clause-known c =
    let t = c.args.classes.now in
    let initialized = c.requires.root.0 in
    let root = c.requires.root.1 in
    record {
      all = c.names.ensures;
      numbers = c.root_names.ensures.numbers;
      within = subst (λ ns. AreWithin ns (method_names c.args.root.now.decl)) (sym c.root_names.ensures.names)
          (subst (λ (d : MethodDecl). AreWithin (root_names t.world) (method_names d)) (sym root.decl) (root_within t.world initialized root.classes));
      read = λ body h. root_read t.world initialized body (ap (λ (d : MethodDecl). d.body) (sym root.decl) ∙ h);
    }
