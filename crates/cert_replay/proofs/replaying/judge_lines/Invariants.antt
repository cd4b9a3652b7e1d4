use Rattle.cert_replay.proofs.Replayed.{IsReplayed}
use Rattle.cert_replay.proofs.replaying.judge_lines.Given as goal

abbrev pub invariant-loop-index : goal.invariant-loop-index
invariant-loop-index l = IsReplayed l.view.linked.now l.view.target l.lines l.index l.given.items
