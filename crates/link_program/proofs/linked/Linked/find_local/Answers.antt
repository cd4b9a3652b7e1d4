use Rattle.lists.proofs.Places.{slice_get-there}
use Rattle.link_program.proofs.linked.Linked.find_local.Goals as goal

pub first_name-requires : goal.first_name-requires
first_name-requires c =
    let m = slice_get-there c.args.self.now.methods c.args.method c.requires in
    rw c.as_slice.ensures ((c.head.ensures.head m.0 m.1).few_locals)
