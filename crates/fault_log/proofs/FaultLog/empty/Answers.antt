use mathlib.Core.Path.{ap, ◌∙◌}
use lib.ListN.{replicate}
use Rattle.fault_log.specs.declared.Fault.{Fault}
use Rattle.fault_log.proofs.FaultLog.empty.Goals as goal

pub returns : goal.returns
returns c =
    let e = c.empty-2.ensures ∙ ap (λ (x : Fault). record { count = 0; items = replicate 1024 x }) c.empty.ensures in
    λ i. record { faults = e i }
