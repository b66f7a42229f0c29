use mathlib.Core.Path.{ap, ◌∙◌}
use Rattle.change.specs.declared.Change.{Change}
use Rattle.voters.specs.Voters.{ids_of}
use Rattle.change.specs.Change.{ChangeStateOf, complete, change_of}
use Rattle.key_gen_state.specs.KeyGenState as running
use Rattle.decision.specs.Decision.{of_parts, with_schedule}
use Rattle.decision.proofs.DecisionLaws.{era_begun, schedule_won}
use Rattle.decision.proofs.schedule_wins.Goals as goal

pub returns : goal.returns
returns c =
    let a = c.args in
    λ st l. schedule_won a.era (of_parts a.parts.now st l) (ids_of a.voters) a.schedule
    (era_begun a.era a.parts.now.vote_counter c.new_era-parts.result a.parts.now.vote_counter.pub_keys (with_schedule a.parts.now.params a.schedule) (running.state_of a.parts.now.key_gen_state) st l c.new_era-parts.ensures)
    (ap (λ (x : ChangeStateOf). record { change = x; voters = ids_of a.voters }) (c.complete.ensures ∙ ap (λ (x : Change). complete (change_of x)) c.schedule.ensures))
