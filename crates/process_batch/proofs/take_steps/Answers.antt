use native.Mathlib.Omega.{arith}
use mathlib.Core.Path.{sym, ap, ◌∙◌}
use Rattle.bincode.specs.Rows.{row_number}
use Rattle.bincode.specs.declared.Refusal.{Refusal}
use Rattle.bincode.proofs.AnswerLaws.{passed_on}
use Rattle.dynamic_honey_badger.specs.State.{state_of}
use Rattle.process_output.specs.Opening.{call_by}
use Rattle.process_output.specs.Process.{denied}
use Rattle.process_output.proofs.OpeningLaws.{opened_refused, opened_epoch}
use Rattle.process_batch.proofs.StepLaws.{begun_err, begun_ok, settled_err, settled_ok, steps_refused, void_denied, Moved, moved_quiet, Stored, stored_kept, stored_none, stored_done}
use Rattle.process_batch.proofs.take_steps.Goals as goal
use Rattle.process_batch.proofs.take_steps.Goals.{then-is_quiet, else-is_quiet+in_ok-d, then-held-gt0, else-held-gt0}

pub returns-in_err-time : goal.returns-in_err-time
returns-in_err-time c =
    let a = c.args in
    let s = a.state.now in
    let b = call_by a.agreed a.places in
    let o = begun_err _ s.vote_counter.era b c.begin.ensures.0 _ c.in_err-time.was in
    steps_refused s b _ _ _ (passed_on _ _ c.from_residual.ensures.1) (opened_refused (state_of s) b _ o)

pub returns-in_err-d : goal.returns-in_err-d
returns-in_err-d c =
    let a = c.args in
    let s = a.state.now in
    let b = call_by a.agreed a.places in
    let t = c.in_ok-time in
    let o = begun_ok _ s.vote_counter.era b c.begin.ensures.0 _ _ t.was in
    let x = opened_epoch (state_of s) b t.time.epoch t.index o.0 o.1 c.begin.ensures.1 in
    let k = c.commit-committed in
    let v = settled_err _ _ _ _ _ _ c.settle.ensures _ c.in_err-d.was in
    steps_refused s b _ _ _ (passed_on _ _ c.from_residual-in_err-d.ensures.1)
    (void_denied s b t.time o.2 t.index x k.result k.new.arisen k.ensures v.1 ∙ ap (λ (n : Refusal). denied (state_of s) (row_number n)) (sym v.0))

pub returns : goal.returns
returns c =
    let a = c.args in
    let s = a.state.now in
    let b = call_by a.agreed a.places in
    let t = c.in_ok-time in
    let o = begun_ok _ s.vote_counter.era b c.begin.ensures.0 _ _ t.was in
    let bytes = c.begin.ensures.1 in
    let x = opened_epoch (state_of s) b t.time.epoch t.index o.0 o.1 bytes in
    let k = c.commit-committed in
    let u = c.if-is_quiet.state in
    let e = c.if-is_quiet.told in
    let m : Moved s b t.time o.2 t.index x k.result k.new.arisen k.ensures u e
    = elim c.if-is_quiet.branch [
      | then-is_quiet w ↦ moved_quiet s b t.time o.2 t.index x k.result k.new.arisen k.ensures (c.is_quiet.ensures w.if-is_quiet.true) w.nothing_decided-told.ensures.1 u w.state-is e (w.told-is ∙ w.nothing_decided-told.ensures.0)
      | else-is_quiet+in_ok-d w ↦ record {
        p = w.settle.new.parts;
        d = w.in_ok-d.d;
        decides = settled_ok _ _ _ _ _ _ w.settle.ensures _ w.in_ok-d.was;
        few = w.decided-told.ensures.1;
        told = w.told-is ∙ w.decided-told.ensures.0;
        moved = w.state-is;
      }
    ] in
    let v = c.if-held-gt0.state in
    let q : Stored s b t.time o.2 t.index x k.result k.new.arisen k.ensures u e m v
    = elim c.if-held-gt0.branch [
      | then-held-gt0 w ↦ stored_kept s b t.time o.2 t.index x k.result k.new.arisen k.ensures u e m bytes v w.keep.new.store w.state-is w.keep.ensures
      | else-held-gt0 w ↦ stored_none s b t.time o.2 t.index x k.result k.new.arisen k.ensures u e m bytes (omega (arith, c.len-held.ensures.0, w.if-held-gt0.false)) v w.state-is
    ] in
    stored_done s b t.time o.2 t.index x k.result k.new.arisen k.ensures u e m v q c.stamp.result c.stamp.ensures
