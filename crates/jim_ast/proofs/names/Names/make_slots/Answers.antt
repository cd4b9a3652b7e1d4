use Rattle.std.proofs.Common.{map, string_bytes}
use Rattle.std.specs.BTreeMap.{get_by_text}
use Rattle.jim_ast.proofs.Filed.{IsIndexed-more}
use Rattle.jim_ast.proofs.names.Names.make_slots.Goals as goal

pub invariant_of-self : goal.invariant_of-self
invariant_of-self c =
    let slots = c.self.inside.notes.slots.items in (
      c.self.invariant.0,
      IsIndexed-more (map string_bytes c.self.inside.texts.items) slots slots (get_by_text c.self.inside.others) (get_by_text c.file_all.new.others) c.self.invariant.1
          (rw c.deref.ensures.value at c.file_all.ensures.sound) c.file_all.ensures.kept,
    )
