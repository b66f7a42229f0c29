-- The plan that a joiner agrees by is the bytes that `join_plan` wrote: of the buffer that the call leaves, as many as it answers.
-- Assumes nothing.
use Prim.Native.Nat.{ℕ, ◌^◌, ◌≤◌, ◌<◌}
use mathlib.Core.Path.{◌≡◌, refl, ap, ◌∙◌, subst}
use mathlib.Core.List.{List, [], ◌∷◌, ◌++◌}
use mathlib.Core.Bool.{Bool, true, false, cond}
use native.Mathlib.Omega.{arith}
use lib.ListN.{length, take}
use lib.Seq.{sets}
use borrow.Author.Tests.{ltb-false}
use Rattle.lists.specs.Lists.{found, nothing}
use Rattle.bincode.specs.Outcome.{done, refused}
use Rattle.bincode.specs.Sizes.{Sizes}
use Rattle.bincode.specs.Numbers.{fixed}
use Rattle.bincode.specs.Stands.{Bytes}
use Rattle.bincode.proofs.WriteLaws.{stored_first}
use Rattle.bincode.proofs.ReadLaws.{done_refused}
use Rattle.join_plan.specs.JoinPlan.{PlanOf, plan_bytes, PlanOk, row1, plan_written, plan_said}
use Rattle.join_plan.proofs.PlanLengths.{plan_size, plan_short}
use Rattle.batch.specs.Batch.{BatchOf, changed, plan_of_batch, no_next, plan_left, found_bytes, plan_answered}
use Rattle.dynamic_honey_badger.specs.State.{StateOf, era_of, candidate_nodes, Joined, joined}
use Rattle.process_output.specs.Process.{BatchCall, ReportOf, processed}
use Rattle.reference.specs.Reference.{RefState}
use Rattle.reference.specs.Step.{ref_run}
use Rattle.agreement.specs.Shared.{ref_of}
use Rattle.agreement.specs.Calls.{Call, batch_call, run, shared_batches, Start, join_start, joined_state, start_state}
use Rattle.agreement.specs.Claim.{ref_start, FollowsFrom, Agree}
use Rattle.agreement.specs.Hypotheses.{began_era, left_older, OfBytes, StartBytes}
use Rattle.agreement.proofs.Agree.{start_opens, opened_stands, opened_follows, follow_one}
use Rattle.agreement.proofs.Joiner.{plan_of_report, plan_starts, giver_follows}

module _ (z : Sizes) (l : List ℕ) (b : BatchOf) (set : ℕ) (short : length (plan_bytes fixed (plan_of_batch b set)) ≤ z.plan) where
  -- where `join_plan` answers a number of bytes, those of the buffer are the plan's
  pub written_plan : (n : ℕ) → plan_answered z l b set ≡ done (found n) → take n (plan_left z l b set) ≡ plan_bytes fixed (plan_of_batch b set)
  unfolding plan_left plan_answered plan_written plan_said
  written_plan n = go (row1 z.plan l) refl (changed b.change) (no_next b)
    where
      p : PlanOf
      p = plan_of_batch b set

      go : (r1 : Bool) → row1 z.plan l ≡ r1 → (c x : Bool)
          → cond r1 (refused 1) (cond c (cond x (refused 5) (found_bytes (cond r1 (refused 1) (done (length (plan_bytes fixed p)))))) (done nothing)) ≡ done (found n)
          → take n (cond r1 l (cond c (cond x l (cond r1 l (sets l 0 (plan_bytes fixed p)))) l)) ≡ plan_bytes fixed p
      go true e c x f = absurd (done_refused f)
      go false e false x f = absurd (let y : ◌≡◌ {A = ℕ} 0 1 = cc in omega arith)
      go false e true true f = absurd (done_refused f)
      go false e true false f =
          let q : length (plan_bytes fixed p) ≡ n = cc in
          subst (λ (k : ℕ). take k (sets l 0 (plan_bytes fixed p)) ≡ plan_bytes fixed p) q (stored_first l (plan_bytes fixed p) (omega (arith, ltb-false (length l) z.plan e)))

-- A node joins by the bytes that `join_plan` wrote for a report. The giver started by `new` or by joining and was called with any list before that batch; the batch
-- began a new era and left no older key generation. r₀ is the reference state that the giver's start opened.
module _ (z : Sizes) (fits : z.items ≤ z.faults) (nodes-fit : z.nodes < 256 ^ 8) (rows_fit : z.rows < 256 ^ 8) (user-fits : z.user < 256 ^ 8)
    (some : 0 < z.nodes) (room : plan_size z ≤ z.plan) (start : Start) (start_bytes : StartBytes start) (a : StateOf) (starts : start_state z start ≡ done a)
    (before : List Call) (before_bytes : OfBytes before) (b : BatchCall) (batch-bytes : Bytes b.bytes) (r : ReportOf)
    (answered : (processed z (run z a before) b).answer ≡ done r) (began : began_era r.batch (era_of (processed z (run z a before) b).state) ≡ true)
    (fresh : left_older (candidate_nodes (run z a before).key_gen) (candidate_nodes (processed z (run z a before) b).state.key_gen) ≡ false) (set : ℕ) (set_fits : set < 256 ^ 8)
    (l : List ℕ) (n : ℕ) (written : plan_answered z l r.batch set ≡ done (found n)) (places id key : ℕ) where
  -- the joiner starts at the reference state of the giver's whole list
  pub written_plan_starts : (r₀ : RefState) → ref_start z start ≡ found r₀
      → ref_start z (join_start places id key (take n (plan_left z l r.batch set))) ≡ found (ref_run z r₀ (shared_batches z a (before ++ (batch_call b ∷ []))))
  written_plan_starts r₀ opens =
      let o : PlanOk z (plan_of_batch r.batch set) =
      plan_of_report z fits nodes-fit rows_fit user-fits start start_bytes a starts before before_bytes b batch-bytes r answered began fresh set set_fits in
      let w = written_plan z l r.batch set (omega (arith, room, plan_short z some (plan_of_batch r.batch set) o)) n written in
      ap (λ (plan : List ℕ). ref_start z (join_start places id key plan)) w
      ∙ plan_starts z fits nodes-fit rows_fit user-fits start start_bytes a starts before before_bytes b batch-bytes r answered began fresh set set_fits r₀ opens places id key

  module _ (j : Joined) (joins : joined z places id key (take n (plan_left z l r.batch set)) ≡ done j) where
    -- is there where it joined
    pub joiner_stands : (r₀ : RefState) → ref_start z start ≡ found r₀ → ref_of j.state ≡ ref_run z r₀ (shared_batches z a (before ++ (batch_call b ∷ [])))
    joiner_stands r₀ opens =
        opened_stands z (join_start places id key (take n (plan_left z l r.batch set))) j.state (ap joined_state joins)
        (ref_run z r₀ (shared_batches z a (before ++ (batch_call b ∷ [])))) (written_plan_starts r₀ opens)

    -- and follows it
    pub joiner_follows : (r₀ : RefState) → ref_start z start ≡ found r₀
        → (ds : List Call) → FollowsFrom z (ref_run z r₀ (shared_batches z a (before ++ (batch_call b ∷ [])))) j.state ds
    joiner_follows r₀ opens =
        opened_follows z fits (join_start places id key (take n (plan_left z l r.batch set))) j.state (ap joined_state joins)
        (ref_run z r₀ (shared_batches z a (before ++ (batch_call b ∷ [])))) (written_plan_starts r₀ opens)

    -- so giver and joiner agree, given the same shared batches after it
    pub agree_by_written_plan : (cs ds : List Call) → shared_batches z (processed z (run z a before) b).state cs ≡ shared_batches z j.state ds
        → Agree z (processed z (run z a before) b).state cs j.state ds
    agree_by_written_plan cs ds =
        let opens : ref_start z start ≡ found (ref_of a) = start_opens z start a starts in
        follow_one z (ref_run z (ref_of a) (shared_batches z a (before ++ (batch_call b ∷ [])))) (processed z (run z a before) b).state cs j.state ds
        (giver_follows z fits nodes-fit rows_fit user-fits start start_bytes a starts before before_bytes b batch-bytes r answered began fresh set set_fits (ref_of a) opens cs)
        (joiner_follows (ref_of a) opens ds)
