use mathlib.Core.Path.{refl, sym, ap, ◌∙◌}
use Rattle.bincode.specs.Sizes.{base}
use Rattle.std.specs.declared.option.Option.{Option}
use Rattle.voters.specs.Voters.{ids_of}
use Rattle.change.specs.declared.Change.{Change}
use Rattle.change.specs.Change.{change_of, state_of as progress_of}
use Rattle.batch.specs.Batch.{unvoted, ruling_of}
use Rattle.decision.specs.declared.Carried.{Carried}
use Rattle.decision.specs.Decision.{of_parts, elected_of, won_by, elected_by}
use Rattle.decision.proofs.DecisionLaws.{same_decision}
use Rattle.decision.proofs.elected.Goals as goal

pub returns-in-NodeChange : goal.returns-in-NodeChange
returns-in-NodeChange c =
    let a = c.args in
    let w = c.in-Some.field-0 in
    λ st l. c.map_wins.ensures st l
    ∙ sym (ap (λ (x : Change). won_by base a.era (of_parts a.parts.now st l) (ids_of w.voters) (change_of x)) c.in-NodeChange.is)
    ∙ sym (ap (λ (x : Option Carried). elected_by base a.era (of_parts a.parts.now st l) (elected_of x)) c.in-Some.is)

pub returns-in-EncryptionSchedule : goal.returns-in-EncryptionSchedule
returns-in-EncryptionSchedule c =
    let a = c.args in
    let w = c.in-Some.field-0 in
    λ st l. c.schedule_wins.ensures st l
    ∙ sym (ap (λ (x : Change). won_by base a.era (of_parts a.parts.now st l) (ids_of w.voters) (change_of x)) c.in-EncryptionSchedule.is)
    ∙ sym (ap (λ (x : Option Carried). elected_by base a.era (of_parts a.parts.now st l) (elected_of x)) c.in-Some.is)

pub returns-in_default : goal.returns-in_default
returns-in_default c =
    let a = c.args in
    λ st l. same_decision refl (ap ruling_of c.unvoted.ensures ∙ ap unvoted (ap progress_of c.none.ensures)) refl refl
    ∙ sym (ap (λ (x : Option Carried). elected_by base a.era (of_parts a.parts.now st l) (elected_of x)) c.in_default.is)
