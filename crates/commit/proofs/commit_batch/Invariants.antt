use mathlib.Core.Path.{◌≡◌}
use mathlib.Core.List.{[]}
use Rattle.internal_contrib.specs.Index.{contribs_in}
use Rattle.commit.proofs.BatchLaws.{BatchLeft}
use Rattle.commit.proofs.commit_batch.Given as goal

abbrev pub invariant-loop-c : goal.invariant-loop-c
invariant-loop-c l =
    let a = l.fn in
    (contribs_in a.index ≡ [] → l.key_gen ≡ a.state)
    × BatchLeft a.terms a.tally a.state a.index l.c-index (record { tally = l.done; state = l.key_gen; judged = l.judged }) l.arisen
