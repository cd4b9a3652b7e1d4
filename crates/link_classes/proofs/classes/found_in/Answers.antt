use Rattle.std.proofs.Common.{◌≡◌, ℕ, List, length, ap, sym, subst, arith}
use Rattle.std.proofs.lemmas.List.{length-map}
use Rattle.link_rules.specs.Classes.{methods_of}
use Rattle.link_classes.specs.Numbered.{AreNumbers, fixed_names}
use Rattle.link_classes.specs.Seen.{seen_classes, seen_method}
use Rattle.link_classes.proofs.classes.found_in.Goals as goal

pub returns-clause-found : goal.returns-clause-found
returns-clause-found c =
    let order = c.args.order.now in
    let tables = c.requires.tables in
    let methods = methods_of (seen_classes order.classes.items) in
    let texts = order.all.now.texts in
    let fixed : (entry : List ℕ) → AreNumbers texts (fixed_names entry) order.all.now.root.items → AreNumbers texts (fixed_names entry) c.as_slice-fixed.result.now = λ entry numbered. subst (λ ids. AreNumbers texts (fixed_names entry) ids) (sym c.as_slice-fixed.ensures.value) numbered in
    let count : c.len-count.result ≡ length methods =
    omega (arith, c.len-count.ensures, c.args.tables.now.methods.methods.ok.0, ap length tables.methods.methods, length-map c.args.tables.now.methods.methods.items seen_method, tables.methods.few) in
    record {
      tree = c.in_ok-tree.ensures.tree;
      sound = c.in_ok-tree.ensures.sound;
      main = λ entry numbered. c.in_ok-main.ensures texts entry methods (fixed entry numbered) tables.methods.keys count;
      initializer = λ entry numbered. c.in_ok-initializer.ensures texts entry methods (fixed entry numbered) tables.methods.keys count;
      root = c.in_ok-root.ensures;
    }
