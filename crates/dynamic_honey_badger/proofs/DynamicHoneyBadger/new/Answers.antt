use mathlib.Core.Path.{sym, ap, ◌∙◌}
use Rattle.bincode.specs.Answer.{outcome_as_said}
use Rattle.bincode.specs.Outcome.{Outcome, done}
use Rattle.joining.specs.Starting.{start_of}
use Rattle.joining.proofs.RowLaws.{exit_outcome}
use Rattle.dynamic_honey_badger.specs.declared.DynamicHoneyBadger.{DynamicHoneyBadger}
use Rattle.dynamic_honey_badger.specs.State.{StateOf, state_of, started_from, started}
use Rattle.dynamic_honey_badger.proofs.DynamicHoneyBadger.new.Goals as goal

pub returns-in_err-pub_keys : goal.returns-in_err-pub_keys
unfolding started
returns-in_err-pub_keys c =
    let a = c.args in
    let p = exit_outcome start_of state_of _ _ c.check_starting.ensures _ c.in_err-pub_keys.was _ c.from_residual.ensures.1 in
    p.2 ∙ sym (ap (started_from a.our_id a.secret_key a.era) p.1)

pub returns : goal.returns
unfolding started
returns c =
    let a = c.args in
    ap {B = Outcome StateOf} (λ (d : DynamicHoneyBadger). done (state_of d)) c.open.ensures
    ∙ ap (started_from a.our_id a.secret_key a.era) (sym (ap (outcome_as_said start_of) c.in_ok-pub_keys.was) ∙ c.check_starting.ensures)
