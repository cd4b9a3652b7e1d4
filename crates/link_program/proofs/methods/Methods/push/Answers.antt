use Rattle.std.proofs.Common.{arith}
use Rattle.link_program.proofs.Pushed.{are_more, put_last}
use Rattle.link_program.proofs.methods.Methods.push.Goals as goal

pub returns-clause-are : goal.returns-clause-are
returns-clause-are c =
    let m = c.args.self.now in
    are_more m (record { heads = c.push.new.self; bodies = c.push-2.new.self }) c.args.head c.args.body c.requires.are.as_many
    c.in_ok-push.ensures.items c.in_ok-push-2.ensures.items c.requires.are c.requires.head (omega (arith, c.if-len.false, c.len.ensures, m.heads.ok.0))

pub returns-clause-put : goal.returns-clause-put
returns-clause-put c =
    put_last c.args.self.now (record { heads = c.push.new.self; bodies = c.push-2.new.self }) c.args.head c.args.body c.requires.are.as_many
    c.in_ok-push.ensures.items c.in_ok-push-2.ensures.items
