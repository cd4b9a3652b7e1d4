use Rattle.std.proofs.Common.{ap}
use Rattle.jim_build.specs.Classes.{classes_of}
use Rattle.jim_build.proofs.ApartProgram.{program_same}
use Rattle.jim_build.proofs.classes.derives_one.Goals as goal

pub returns-clause-tree : goal.returns-clause-tree
returns-clause-tree c = program_same

pub returns-clause-classes : goal.returns-clause-classes
returns-clause-classes c = λ one other h. ap classes_of (program_same one other h)
