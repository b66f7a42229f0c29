use Prim.Native.Nat.{ℕ, ◌≤◌}
use native.Mathlib.Omega.{arith}
use mathlib.Core.Path.{◌≡◌, sym, ap, ◌∙◌}
use mathlib.Core.List.{List}
use lib.ListN.{length, replicate, length-replicate}
use lib.Seq.{length-take-le}
use Rattle.bincode.specs.Sizes.{base}
use Rattle.filled.specs.Filled.{filled, shorter}
use Rattle.host.specs.declared.FaultRecord.{FaultRecord}
use Rattle.host.proofs.RecordLaws.{dues, min_shorter, shorter_le, first_length, records_done}
use Rattle.host.proofs.process_batch_records.Goals as goal

-- n faults have places in the lists of the call's own
pub slice_bounds-write_faults-end : goal.slice_bounds-write_faults-end
slice_bounds-write_faults-end c =
    let b = c.process_batch-processed in
    let k = c.min-places in
    let own = length-replicate {A = ℕ} base.faults 0 in
    let h = first_length _ (replicate base.faults 0) b.new.fault_ids k.result (omega (arith, k.ensures, own)) b.ensures.2.0.0 in
    sym (length-take-le c.fault_count-n.result _ (omega (arith, h, own, b.ensures.3, c.fault_count-n.ensures)))

pub slice_bounds-write_faults-end-2 : goal.slice_bounds-write_faults-end-2
slice_bounds-write_faults-end-2 c =
    let b = c.process_batch-processed in
    let k = c.min-places in
    let own = length-replicate {A = ℕ} base.faults 0 in
    let h = first_length _ (replicate base.faults 0) b.new.fault_kinds k.result (omega (arith, k.ensures, own)) b.ensures.2.0.1 in
    sym (length-take-le c.fault_count-n.result _ (omega (arith, h, own, b.ensures.3, c.fault_count-n.ensures)))

pub returns : goal.returns
returns c =
    let a = c.args in
    let g = a.agreed in
    let k = c.min-places in
    let r = c.process_batch-processed in
    let n = c.fault_count-n in
    let zeros : List ℕ = replicate base.faults 0 in
    let places : k.result ≡ shorter (length a.faults.now) base.faults = k.ensures ∙ min_shorter (length a.faults.now) base.faults in
    let within : k.result ≤ length zeros = omega (arith, places, shorter_le (length a.faults.now) base.faults, length-replicate {A = ℕ} base.faults 0) in
    let w = records_done a.state g.era g.epoch g.batch.now g.verdicts.now k.result (length a.faults.now) zeros zeros (dues a.due_kinds.now a.due_indices.now a.due_eras.now) r.result _ _ _ _ (dues _ _ _)
    places within within r.ensures n.result n.ensures in
    (w.0, c.write_faults.ensures ∙ ap (λ (rs : List FaultRecord). filled rs a.faults.now) w.1, w.2)
