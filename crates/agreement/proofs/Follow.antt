-- A node follows the reference state: after every list of calls, refused ones included, its shared part is the reference state after the shared batches, and
-- those are answered as the reference state answers them.
-- Assumes nothing.
use Prim.Native.Nat.{ℕ, ◌+◌, ◌≤◌}
use mathlib.Core.Path.{◌≡◌, refl, sym, ap, ◌∙◌}
use mathlib.Core.List.{List, [], ◌∷◌}
use mathlib.Core.Bool.{Bool, true, false, cond, ◌||◌}
use native.Mathlib.Omega.{arith}
use lib.Dec.{eqb}
use borrow.Author.Tests.{eqb-true, not-false}
use Rattle.lists.proofs.ListLaws.{false_true}
use Rattle.bincode.specs.Outcome.{refused}
use Rattle.bincode.specs.Sizes.{Sizes}
use Rattle.internal_contrib.specs.InternalContrib.{ContribOf}
use Rattle.dynamic_honey_badger.specs.State.{StateOf, era_of}
use Rattle.dynamic_honey_badger.specs.OwnVotes.{vote_for_bytes, vote_to_add, vote_to_remove}
use Rattle.dynamic_honey_badger.specs.Received.{received, returned}
use Rattle.steps.specs.Steps.{WorkOf, committed}
use Rattle.process_output.specs.Process.{BatchCall, ProcessedOf, finished, processed}
use Rattle.process_output.proofs.CallLaws.{IsRead, IsTaken, Refusal, by_1, by_reading, by_4, by_15, by_5, by_7, number, batch_cases}
use Rattle.reference.specs.Reference.{RefState}
use Rattle.reference.specs.Step.{RefWork, RefAnswer, denied_ref, reported_ref, ref_decide, ref_row5, ref_row7, ref_steps, ref_batch, SharedBatch, passes_over, ref_step, unless_passed, ref_after, ref_run, ref_answers, ref_taken}
use Rattle.reference.proofs.PassedLaws.{own_era, own_after}
use Rattle.reference.proofs.ReportLaws.{reading_hands_on, reading_refuses as ref-reading-refuses}
use Rattle.agreement.specs.Shared.{ref_of, shared_answer, is_own_refusal, is_passed}
use Rattle.agreement.specs.Calls.{Call, batch_call, vote_call, add_call, remove_call, message_call, due_call, run, as_shared, shared_batches, answers}
use Rattle.agreement.specs.Claim.{FollowsFrom}
use Rattle.agreement.proofs.StepLaws.{ref_work, item_count, contribs_shared}
use Rattle.agreement.proofs.CountLaws.{few_items}
use Rattle.agreement.proofs.PassedCalls.{not_passed, batch_passed}
use Rattle.agreement.proofs.OwnCalls.{vote_for_kept, vote_to_add_kept, vote_to_remove_kept, message_kept, due_kept}
use Rattle.agreement.proofs.DecisionLaws.{decide_shared, row5_shared, row7_shared}

-- what a batch call leaves and answers, less what is the node's own
abbrev ref_processed : ProcessedOf → RefAnswer
ref_processed p = record { state = ref_of p.state; answer = shared_answer p.answer }

-- steps 1 to 8
module _ (z : Sizes) (s : StateOf) (b : BatchCall) where
  steps_shared : (cs : List ContribOf) → item_count cs ≤ z.faults
      → ref_processed (finished z s (era_of s + b.inner) (committed z s b.verdicts cs)) ≡ ref_steps z (ref_of s) (era_of s + b.inner) cs
  unfolding ref_steps
  steps_shared cs room =
      let epoch = era_of s + b.inner in
      let w : WorkOf = committed z s b.verdicts cs in
      ap (reported_ref (ref_of s) epoch (ref_work w).faults) (decide_shared z (epoch + 1) w.state)
      ∙ ap (λ (x : RefWork). reported_ref (ref_of s) epoch x.faults (ref_decide (epoch + 1) x.state)) (contribs_shared z s b.verdicts cs room)

  -- the rows that both have
  ref_rows : (cs : List ContribOf) (r5 r7 : Bool) → ref_row5 (era_of s + b.inner) ≡ r5 → ref_row7 z (ref_of s) cs ≡ r7
      → cond r5 (denied_ref (ref_of s) 5) (cond r7 (denied_ref (ref_of s) 7) (ref_steps z (ref_of s) (era_of s + b.inner) cs))
      ≡ ref_batch z (ref_of s) b.inner cs
  unfolding ref_batch
  ref_rows cs r5 r7 e5 e7 = λ i. cond (sym e5 i) (denied_ref (ref_of s) 5) (cond (sym e7 i) (denied_ref (ref_of s) 7) (ref_steps z (ref_of s) (era_of s + b.inner) cs))

  module _ (fits : z.items ≤ z.faults) where
    -- a batch that is read, at the reference state
    read_ref : (cs : List ContribOf) (c : ℕ) → IsRead z s b cs c → ref_batch z (ref_of s) b.inner cs ≡ ref_step z (ref_of s) (as_shared b)
    read_ref cs c r = sym (reading_hands_on z (ref_of s) (as_shared b) cs c r.bytes_read)

    room : (cs : List ContribOf) (c : ℕ) → IsRead z s b cs c → item_count cs ≤ z.faults
    room cs c r = omega (arith, few_items z b.bytes cs c r.bytes_read)

    -- a refusal of a batch of the engine's era, but for 1 and 4, is the reference state's
    refusal_step : b.era ≡ era_of s → (w : Refusal z s b) → is_own_refusal (refused (number z s b w)) ≡ false
        → denied_ref (ref_of s) (number z s b w) ≡ ref_step z (ref_of s) (as_shared b)
    refusal_step own (by_1 e) h = absurd (false_true (sym h))
    refusal_step own (by_reading n e p) h = sym (ref-reading-refuses z (ref_of s) (as_shared b) n p)
    refusal_step own (by_4 cs c r e) h = absurd (false_true (sym h))
    refusal_step own (by_15 cs c r e other) h = absurd (other own)
    refusal_step own (by_5 cs c o e) h =
        ref_rows cs true (ref_row7 z (ref_of s) cs) (sym (row5_shared (era_of s + b.inner)) ∙ e) refl ∙ read_ref cs c o.is_read
    refusal_step own (by_7 cs c o h5 e) h =
        ref_rows cs false true (sym (row5_shared (era_of s + b.inner)) ∙ h5) (sym (row7_shared z s b.verdicts cs (room cs c o.is_read)) ∙ e) ∙ read_ref cs c o.is_read

    -- a batch that no row refuses
    taken_step : (cs : List ContribOf) (c : ℕ) → IsTaken z s b cs c
        → ref_processed (finished z s (era_of s + b.inner) (committed z s b.verdicts cs)) ≡ ref_step z (ref_of s) (as_shared b)
    taken_step cs c t =
        let r : IsRead z s b cs c = t.is_own.is_read in
        steps_shared cs (room cs c r)
        ∙ ref_rows cs false false (sym (row5_shared (era_of s + b.inner)) ∙ t.early) (sym (row7_shared z s b.verdicts cs (room cs c r)) ∙ t.not_empty)
        ∙ read_ref cs c r

    -- a batch call of the engine's era that is not refused by 1 or 4 is the reference state's step
    pub batch_step : b.era ≡ era_of s → is_own_refusal (processed z s b).answer ≡ false → ref_processed (processed z s b) ≡ ref_step z (ref_of s) (as_shared b)
    batch_step own =
        batch_cases z s b (λ p. is_own_refusal p.answer ≡ false → ref_processed p ≡ ref_step z (ref_of s) (as_shared b)) (refusal_step own) (λ cs c t h. taken_step cs c t)

    -- and so is every batch call that is not passed over
    pub batch_follows : is_passed s b (processed z s b).answer ≡ false
        → (ref_of (processed z s b).state ≡ (ref_step z (ref_of s) (as_shared b)).state) × (shared_answer (processed z s b).answer ≡ (ref_step z (ref_of s) (as_shared b)).answer)
    batch_follows e =
        let o = not_passed s b (processed z s b).answer e in
        let q = batch_step o.0 o.1 in
        (ap (λ (x : RefAnswer). x.state) q, ap (λ (x : RefAnswer). x.answer) q)

    -- the reference state passes over it where it is of another era, and so it is after it where the node is
    pub batch_after : is_own_refusal (processed z s b).answer ≡ false → ref_of (processed z s b).state ≡ ref_after z (ref_of s) (as_shared b)
    unfolding passes_over
    batch_after h = go (passes_over (ref_of s) (as_shared b)) refl
      where
        go : (p : Bool) → passes_over (ref_of s) (as_shared b) ≡ p → ref_of (processed z s b).state ≡ cond p (ref_of s) (ref_step z (ref_of s) (as_shared b)).state
        go true e = ap ref_of (batch_passed z s b (ap (λ (p : Bool). p || is_own_refusal (processed z s b).answer) e))
        go false e = ap (λ (x : RefAnswer). x.state) (batch_step (eqb-true b.era (era_of s) (not-false (eqb b.era (era_of s)) e)) h)

-- every list of calls, from every state, follows the reference state that its shared part is
module _ (z : Sizes) (fits : z.items ≤ z.faults) where
  -- a call that leaves the shared part as it is
  same_follows : (cs : List Call) (s t : StateOf) → ref_of t ≡ ref_of s → FollowsFrom z (ref_of t) t cs → FollowsFrom z (ref_of s) t cs
  same_follows cs s t e f =
      (f.0 ∙ ap (λ (r : RefState). ref_run z r (shared_batches z t cs)) e, f.1 ∙ ap (λ (r : RefState). ref_answers z r (shared_batches z t cs)) e)

  same_shared : (cs : List Call) (s t : StateOf) → ref_of t ≡ ref_of s → ref_taken z (ref_of t) (shared_batches z t cs) ≡ shared_batches z t cs
      → ref_taken z (ref_of s) (shared_batches z t cs) ≡ shared_batches z t cs
  same_shared cs s t e h = ap (λ (r : RefState). ref_taken z r (shared_batches z t cs)) (sym e) ∙ h

  pub follows : (cs : List Call) (s : StateOf) → FollowsFrom z (ref_of s) s cs
  unfolding run shared_batches answers ref_run ref_answers
  follows [] s = (refl, refl)
  follows (vote_call bytes ∷ cs) s = same_follows cs s (vote_for_bytes z s bytes).state (vote_for_kept z s bytes).0 (follows cs (vote_for_bytes z s bytes).state)
  follows (add_call id key ∷ cs) s = same_follows cs s (vote_to_add z s id key).state (vote_to_add_kept z s id key).0 (follows cs (vote_to_add z s id key).state)
  follows (remove_call id ∷ cs) s = same_follows cs s (vote_to_remove z s id).state (vote_to_remove_kept z s id).0 (follows cs (vote_to_remove z s id).state)
  follows (message_call sender bytes ∷ cs) s = same_follows cs s (received z s sender bytes).state (message_kept z s sender bytes).0 (follows cs (received z s sender bytes).state)
  follows (due_call bytes ∷ cs) s = same_follows cs s (returned z s bytes).state (due_kept z s bytes).0 (follows cs (returned z s bytes).state)
  follows (batch_call b ∷ cs) s = go (is_passed s b (processed z s b).answer) refl (follows cs (processed z s b).state)
    where
      go : (p : Bool) → is_passed s b (processed z s b).answer ≡ p → FollowsFrom z (ref_of (processed z s b).state) (processed z s b).state cs
          → (ref_of (run z (processed z s b).state cs) ≡ ref_run z (ref_of s) (unless_passed p (as_shared b) (shared_batches z (processed z s b).state cs)))
          × (unless_passed p (shared_answer (processed z s b).answer) (answers z (processed z s b).state cs)
          ≡ ref_answers z (ref_of s) (unless_passed p (as_shared b) (shared_batches z (processed z s b).state cs)))
      go true e f = same_follows cs s (processed z s b).state (ap ref_of (batch_passed z s b e)) f
      go false e f =
          let bs = shared_batches z (processed z s b).state cs in
          let one = batch_follows z s b fits e in
          let own : b.era ≡ era_of s = (not_passed s b (processed z s b).answer e).0 in
          let then : ref_of (processed z s b).state ≡ ref_after z (ref_of s) (as_shared b) = one.0 ∙ sym (own_after z (ref_of s) (as_shared b) own) in (
            f.0 ∙ ap (λ (r : RefState). ref_run z r bs) then,
            (λ t. one.1 t ∷ (f.1 ∙ ap (λ (r : RefState). ref_answers z r bs) then) t)
                ∙ ap (λ (q : Bool). unless_passed q (ref_step z (ref_of s) (as_shared b)).answer (ref_answers z (ref_after z (ref_of s) (as_shared b)) bs)) (sym (own_era (ref_of s) (as_shared b) own)),
          )

  -- 02, CR 1: the reference state passes over none of the shared batches, so it answers each of them
  pub shared_taken : (cs : List Call) (s : StateOf) → ref_taken z (ref_of s) (shared_batches z s cs) ≡ shared_batches z s cs
  unfolding shared_batches ref_taken
  shared_taken [] s = refl
  shared_taken (vote_call bytes ∷ cs) s = same_shared cs s (vote_for_bytes z s bytes).state (vote_for_kept z s bytes).0 (shared_taken cs (vote_for_bytes z s bytes).state)
  shared_taken (add_call id key ∷ cs) s = same_shared cs s (vote_to_add z s id key).state (vote_to_add_kept z s id key).0 (shared_taken cs (vote_to_add z s id key).state)
  shared_taken (remove_call id ∷ cs) s = same_shared cs s (vote_to_remove z s id).state (vote_to_remove_kept z s id).0 (shared_taken cs (vote_to_remove z s id).state)
  shared_taken (message_call sender bytes ∷ cs) s =
      same_shared cs s (received z s sender bytes).state (message_kept z s sender bytes).0 (shared_taken cs (received z s sender bytes).state)
  shared_taken (due_call bytes ∷ cs) s = same_shared cs s (returned z s bytes).state (due_kept z s bytes).0 (shared_taken cs (returned z s bytes).state)
  shared_taken (batch_call b ∷ cs) s = go (is_passed s b (processed z s b).answer) refl (shared_taken cs (processed z s b).state)
    where
      t : StateOf
      t = (processed z s b).state

      go : (p : Bool) → is_passed s b (processed z s b).answer ≡ p → ref_taken z (ref_of t) (shared_batches z t cs) ≡ shared_batches z t cs
          → ref_taken z (ref_of s) (unless_passed p (as_shared b) (shared_batches z t cs)) ≡ unless_passed p (as_shared b) (shared_batches z t cs)
      go true e h = same_shared cs s t (ap ref_of (batch_passed z s b e)) h
      go false e h =
          let own : b.era ≡ era_of s = (not_passed s b (processed z s b).answer e).0 in
          let then : ref_of t ≡ ref_after z (ref_of s) (as_shared b) = (batch_follows z s b fits e).0 ∙ sym (own_after z (ref_of s) (as_shared b) own) in
          ap (λ (q : Bool). unless_passed q (as_shared b) (ref_taken z (ref_after z (ref_of s) (as_shared b)) (shared_batches z t cs))) (own_era (ref_of s) (as_shared b) own)
          ∙ ap (λ (bs : List SharedBatch). as_shared b ∷ bs) (ap (λ (r : RefState). ref_taken z r (shared_batches z t cs)) (sym then) ∙ h)
