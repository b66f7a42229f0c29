use Rattle.std.proofs.Common.{◌≤◌}
use Rattle.std.specs.Vec.{vec_len}
use Rattle.replay.proofs.lines.next_line.Given as goal

-- no more is kept of a line than tells that it is too long
abbrev pub invariant-loop : goal.invariant-loop
invariant-loop g l = vec_len l.line ≤ 140001
