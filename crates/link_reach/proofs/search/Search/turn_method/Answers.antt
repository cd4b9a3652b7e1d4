use Rattle.std.proofs.Common.{◌+◌, arith, sym, ◌∙◌, refl, slice_get, ◌≡◌, Some}
use Rattle.lists.proofs.Places.{slice_get-below}
use Rattle.link_reach.proofs.Searching.{searched_method, method_done, method_within, method_there, methods_left}
use Rattle.link_reach.proofs.search.Search.turn_method.Goals as goal

pub visit_method-requires : goal.visit_method-requires
visit_method-requires c = record {
  row = method_within c.args.targets.now.world c.requires.bounded c.args.self.now c.requires.searched c.args.self.now.methods_done c.in-Some.row (sym c.get.ensures.value ∙ c.in-Some.is);
}

pub returns-clause-searched : goal.returns-clause-searched
returns-clause-searched c =
    let w = c.args.targets.now.world in
    let there : slice_get c.args.self.now.found.methods c.args.self.now.methods_done ≡ Some c.in-Some.row = sym c.get.ensures.value ∙ c.in-Some.is in
    let m = method_there w c.requires.bounded c.args.self.now c.requires.searched c.args.self.now.methods_done c.in-Some.row there in
    searched_method w c.args.self.now c.requires.searched c.visit_method.new.found c.in-Some.row c.earlier-self.result there c.in_ok-fault.ensures.found
    (c.earlier-self.ensures w _ m.0 m.1 (c.in_ok-fault.ensures.fault m.0 m.1) c.requires.searched.first)

pub returns-clause-turned : goal.returns-clause-turned
returns-clause-turned c =
    let there : slice_get c.args.self.now.found.methods c.args.self.now.methods_done ≡ Some c.in-Some.row = sym c.get.ensures.value ∙ c.in-Some.is in
    λ _. method_done c.args.targets.now.world c.args.self.now (record { found = c.visit_method.new.found; methods_done = c.args.self.now.methods_done + 1; classes_done = c.args.self.now.classes_done; first = c.earlier-self.result }) refl refl (methods_left c.args.targets.now.world c.requires.bounded c.args.self.now c.requires.searched c.in-Some.row c.get.ensures.distinct there)

pub overflow_add-self : goal.overflow_add-self
overflow_add-self c = omega (arith, c.get.ensures.few, slice_get-below c.args.self.now.found.methods c.args.self.now.methods_done c.in-Some.row (sym c.get.ensures.value ∙ c.in-Some.is))
