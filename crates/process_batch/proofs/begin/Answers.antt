use native.Mathlib.Omega.{arith}
use Rattle.process_output.specs.Opening.{call_by}
use Rattle.process_output.proofs.OpeningLaws.{opened_fits, opened_ok}
use Rattle.process_batch.proofs.begin.Goals as goal

pub overflow_add-time : goal.overflow_add-time
overflow_add-time c =
    let a = c.args in
    let b = call_by a.agreed a.places in
    let e = opened_fits a.era b c.in_ok-epoch.epoch (opened_ok _ _ _ c.open_batch.ensures.0 _ _ c.in_ok-epoch.was).0 in
    omega (arith, e)
