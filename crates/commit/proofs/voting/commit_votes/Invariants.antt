use Rattle.bincode.specs.Sizes.{base}
use Rattle.bincode.proofs.RereadLaws.{Handling}
use Rattle.votes.specs.Votes.{read_signed_vote}
use Rattle.steps.specs.Steps.{WorkOf, committed_vote}
use Rattle.commit.specs.Tally.{Begun}
use Rattle.commit.specs.Votes.{HeldAt}
use Rattle.commit.proofs.voting.commit_votes.Given as goal

abbrev pub invariant-loop : goal.invariant-loop
invariant-loop l =
    (w : WorkOf) (start : Begun) → HeldAt l.terms start w l.initial.tally l.initial.faults
    → (u : WorkOf) × HeldAt l.terms start u l.tally l.faults
    × Handling (read_signed_vote base l.terms.bytes.now) (committed_vote base l.c.id) l.c.votes.count l.initial.at w l.counter l.at u
