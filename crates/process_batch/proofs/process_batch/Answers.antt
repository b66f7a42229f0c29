use mathlib.Core.Path.{◌≡◌, sym, subst}
use Rattle.std.proofs.Common.{rules}
use Rattle.std.specs.declared.result.Result.{Result}
use Rattle.bincode.specs.declared.Refusal.{Refusal}
use Rattle.process_batch.specs.declared.Told.{Told}
use Rattle.process_output.specs.Opening.{call_by}
use Rattle.process_output.specs.Process.{BatchCall}
use Rattle.process_batch.specs.Lent.{Lists, lent_call}
use Rattle.process_batch.specs.Steps.{StepsDone}
use Rattle.process_batch.proofs.DoneLaws.{reported, Written, faults_put, due_put, batch_done}
use Rattle.process_batch.proofs.process_batch.Goals as goal
use Rattle.process_batch.proofs.process_batch.Goals.{in-Ok, in_default}

pub returns : goal.returns
returns c =
    let a = c.args in
    let s = a.state in
    let g = a.agreed in
    let k = c.take_steps-told in
    let l : Lists = record { fault_ids = a.fault_ids.now; fault_kinds = a.fault_kinds.now; due_kinds = a.due_kinds.now; due_indices = a.due_indices.now; due_eras = a.due_eras.now } in
    let m = c.match-told in
    let q : c.map.result ≡ reported k.result = search rules in
    let l' : Lists = record { fault_ids = m.fault_ids; fault_kinds = m.fault_kinds; due_kinds = m.due_kinds; due_indices = m.due_indices; due_eras = m.due_eras } in
    let w : Written k.result s.vote_counter.era k.new.arisen l l'
    = elim m.branch [
      | in-Ok y ↦ subst (λ (o : Result Told Refusal). Written o s.vote_counter.era k.new.arisen l l') (sym y.in-Ok.is) (
        faults_put _ _ y.as_slice.ensures _ _ _ _ _ _ y.fault_ids-is y.fault_kinds-is y.put.ensures,
        due_put _ _ y.as_slice-in-Ok.ensures _ _ _ _ _ _ _ _ _ _ _ y.due_kinds-is y.due_indices-is y.due_eras-is y.put-in-Ok.ensures,
      )
      | in_default y ↦ subst (λ (o : Result Told Refusal). Written o s.vote_counter.era k.new.arisen l l') (sym y.in_default.is)
          (λ j. record { fault_ids = y.fault_ids-is j; fault_kinds = y.fault_kinds-is j; due_kinds = y.due_kinds-is j; due_indices = y.due_indices-is j; due_eras = y.due_eras-is j })
    ] in
    let call : call_by g (record { faults = c.places.result; due = c.places-2.result }) ≡ lent_call g.era g.epoch g.batch.now g.verdicts.now l = λ j. call_by g (record { faults = c.places.ensures j; due = c.places-2.ensures j }) in
    batch_done s k.new.state g.era g.epoch g.batch.now g.verdicts.now l l' k.new.arisen k.result (subst (λ (b : BatchCall). StepsDone s b k.result k.new.state k.new.arisen) call k.ensures) w c.map.result q
