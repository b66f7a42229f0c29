use mathlib.Core.Bool.{true, false}
use mathlib.Core.Path.{◌≡◌, sym, ap, ◌∙◌}
use Rattle.std.specs.declared.option.Option.{Option}
use Rattle.bincode.specs.Sizes.{base}
use Rattle.key_gen_state.specs.declared.KeyGenState.{KeyGenState}
use Rattle.key_gen_state.specs.KeyGenState as running
use Rattle.decision.specs.Decision.{of_parts, elected_of, completed_by}
use Rattle.decision.proofs.DecisionLaws.{by_ready, by_elects}
use Rattle.decision.proofs.decide.Goals as goal
use Rattle.decision.proofs.decide.Goals.{in_default-via-in-Some+else-is_ready, in_default-via-in_default}

pub returns-in-Some : goal.returns-in-Some
returns-in-Some c =
    let a = c.args in
    let p = a.parts.now in
    let ready : running.ready_state (running.state_of p.key_gen_state) ≡ true =
    ap (λ (k : Option KeyGenState). running.ready_state (running.state_of k)) c.in-Some.is ∙ sym c.is_ready.ensures ∙ c.if-is_ready.true in
    λ st l. c.complete.ensures st l
    ∙ sym (ap (λ (k : Option KeyGenState). completed_by a.era (of_parts p st l) (running.state_of k)) c.in-Some.is)
    ∙ sym (by_ready base a.era (of_parts p st l) (elected_of a.e) ready)

pub returns-in_default : goal.returns-in_default
returns-in_default c =
    let a = c.args in
    let unready : running.ready_state (running.state_of a.parts.now.key_gen_state) ≡ false = elim c.in_default.branch [
      | in_default-via-in-Some+else-is_ready w ↦ ap (λ (k : Option KeyGenState). running.ready_state (running.state_of k)) w.in-Some.is ∙ sym w.is_ready.ensures ∙ w.if-is_ready.false
      | in_default-via-in_default w ↦ ap (λ (k : Option KeyGenState). running.ready_state (running.state_of k)) w.in_default.is
    ] in
    λ st l. c.elected.ensures st l ∙ sym (by_elects base a.era (of_parts a.parts.now st l) (elected_of a.e) unready)
