use Rattle.std.proofs.Common.{◌+◌, arith, sym, ◌∙◌, refl, slice_get, ◌≡◌, Some}
use Rattle.lists.proofs.Places.{slice_get-below}
use Rattle.link_reach.proofs.Searching.{searched_class, class_done, class_within, classes_left}
use Rattle.link_reach.proofs.search.Search.turn_class.Goals as goal

pub visit_class-requires : goal.visit_class-requires
visit_class-requires c =
    class_within c.args.targets.now.world c.requires.bounded c.args.self.now c.requires.searched c.args.self.now.classes_done c.in-Some.number (sym c.get.ensures.value ∙ c.in-Some.is)

pub returns-clause-searched : goal.returns-clause-searched
returns-clause-searched c =
    let there : slice_get c.args.self.now.found.classes c.args.self.now.classes_done ≡ Some c.in-Some.number = sym c.get.ensures.value ∙ c.in-Some.is in
    searched_class c.args.targets.now.world c.args.self.now c.requires.searched c.visit_class.new.found c.in-Some.number there c.in_ok-visit_class.ensures.found

pub returns-clause-turned : goal.returns-clause-turned
returns-clause-turned c =
    let there : slice_get c.args.self.now.found.classes c.args.self.now.classes_done ≡ Some c.in-Some.number = sym c.get.ensures.value ∙ c.in-Some.is in
    λ _. class_done c.args.targets.now.world c.args.self.now (record { found = c.visit_class.new.found; methods_done = c.args.self.now.methods_done; classes_done = c.args.self.now.classes_done + 1; first = c.args.self.now.first }) refl refl (classes_left c.args.targets.now.world c.requires.bounded c.args.self.now c.requires.searched c.in-Some.number c.get.ensures.distinct there)

pub overflow_add-self : goal.overflow_add-self
overflow_add-self c = omega (arith, c.get.ensures.few, slice_get-below c.args.self.now.found.classes c.args.self.now.classes_done c.in-Some.number (sym c.get.ensures.value ∙ c.in-Some.is))
