-- A joiner starts at the reference state of the giver's whole list: the plan of a batch that began a new era and left no older key generation is the shared part that
-- the batch left, and its bytes are read as that plan.
-- Assumes nothing.
use Prim.Native.Nat.{ℕ, ◌+◌, ◌^◌, ◌≤◌, ◌<◌}
use mathlib.Core.Path.{◌≡◌, refl, sym, ap, ◌∙◌, subst}
use mathlib.Core.List.{List, [], ◌∷◌, ◌++◌}
use mathlib.Core.Bool.{Bool, true, false, cond}
use Rattle.lists.specs.Lists.{Found, found, nothing, map_found}
use Rattle.lists.proofs.ListLaws.{false_true}
use Rattle.bincode.specs.Outcome.{done}
use Rattle.bincode.specs.Sizes.{Sizes}
use Rattle.bincode.specs.Numbers.{fixed}
use Rattle.bincode.specs.Stands.{Bytes, All}
use Rattle.bincode.proofs.CodeLaws.{fixed_codes}
use Rattle.pub_key_map.specs.declared.Node.{Node}
use Rattle.pub_key_map.proofs.MapLaws.{map_refl}
use Rattle.honey_badger.specs.declared.EncryptionSchedule.{EncryptionSchedule}
use Rattle.change.specs.Change.{ChangeOf, node_change, encryption_schedule, complete}
use Rattle.join_plan.specs.JoinPlan.{PlanOf, plan_bytes, PlanOk}
use Rattle.join_plan.proofs.PlanCodes.{plan_round_trip}
use Rattle.batch.specs.Batch.{BatchOf, plan_of_batch}
use Rattle.dynamic_honey_badger.specs.State.{StateOf, era_of, candidate_nodes}
use Rattle.process_output.specs.Process.{BatchCall, ReportOf, processed}
use Rattle.reference.specs.Reference.{CandidateRef, RefState}
use Rattle.reference.specs.Step.{RefDecided, decided_ref, new_era_ref, SharedBatch, ref_ready, ref_completed, scheduled, is_candidate_ref, ref_voters, ref_elected, ref_winner, ref_decide, unless_passed, ref_run}
use Rattle.agreement.specs.Shared.{ref_of, shared_faults, shared_answer, is_passed, plan_ref}
use Rattle.agreement.specs.Calls.{Call, batch_call, vote_call, add_call, remove_call, message_call, due_call, after, run, as_shared, shared_batches, batch_calls, Start, join_start, start_state}
use Rattle.agreement.specs.Claim.{planned_by, ref_start, FollowsFrom}
use Rattle.agreement.specs.Hypotheses.{began_era, left_older, OfBytes, StartBytes}
use Rattle.agreement.proofs.KeptLaws.{map_of}
use Rattle.agreement.proofs.PassedCalls.{reported_shared}
use Rattle.agreement.proofs.Follow.{batch_follows, follows}
use Rattle.agreement.proofs.Reported.{candidate_map, report_on, batch_reported, left_shared, maps_before, maps_after}
use Rattle.agreement.proofs.NewEraLaws.{won_by, era_began}
use Rattle.agreement.proofs.Sound.{RefOk, step_ok, run_ok, start_ok}
use Rattle.agreement.proofs.Agree.{start_opens, opened_follows}

-- t is the state before the decision
module _ (s t : RefState) (inner set : ℕ) where
  -- what is claimed of a decision: where it began a new era and left no older key generation, its plan is its state
  abbrev Plans : RefDecided → Type 0
  Plans d =
      (d.state.era ≡ t.era → ⊥)
      → left_older (candidate_map t) (candidate_map d.state) ≡ false
      → d.state ≡ plan_ref (plan_of_batch (report_on s (s.era + inner) d) set)

  decision_plans : Plans (ref_decide (s.era + inner + 1) t)
  unfolding ref_decide left_older
  decision_plans = go (ref_ready t.candidate) t.candidate (ref_winner t)
    where
      wins : (ns : List Node) (again : Bool) → Plans (won_by (s.era + inner + 1) t ns again)
      wins ns true = λ other l. absurd (other refl)
      wins ns false = λ other l. refl

      kept : (x : EncryptionSchedule) (g : Found CandidateRef) → left_older (map_found map_of g) (map_found map_of g) ≡ false
          → new_era_ref (s.era + inner + 1) t.nodes (scheduled t.params x) g
          ≡ plan_ref (plan_of_batch (report_on s (s.era + inner) (decided_ref (new_era_ref (s.era + inner + 1) t.nodes (scheduled t.params x) g) (complete (encryption_schedule x)) (ref_voters t (encryption_schedule x)))) set)
      kept x (found g) l = absurd (false_true (sym l ∙ map_refl g.nodes))
      kept x nothing l = refl

      go : (b : Bool) (g : Found CandidateRef) (x : Found ChangeOf) → Plans (cond b (ref_completed (s.era + inner + 1) t g) (ref_elected (s.era + inner + 1) t x))
      go true (found g) x = λ other l. refl
      go true nothing x = λ other l. absurd (other refl)
      go false g (found (node_change ns)) = wins ns (is_candidate_ref t.candidate ns)
      go false g (found (encryption_schedule x)) = λ other l. kept x t.candidate l
      go false g nothing = λ other l. absurd (other refl)

-- so the plan of a report is the shared part of the node that reported it
module _ (z : Sizes) (fits : z.items ≤ z.faults) (s : StateOf) (b : BatchCall) (r : ReportOf) (answered : (processed z s b).answer ≡ done r)
    (began : began_era r.batch (era_of (processed z s b).state) ≡ true)
    (fresh : left_older (candidate_nodes s.key_gen) (candidate_nodes (processed z s b).state.key_gen) ≡ false) (set : ℕ) where
  pub giver_plans : ref_of (processed z s b).state ≡ plan_ref (plan_of_batch r.batch set)
  giver_plans =
      let x = batch_reported z fits s b r answered in
      let left = left_shared z fits s b r answered in
      let old = maps_before z fits s b r answered in
      let new = maps_after z fits s b r answered in
      left
      ∙ decision_plans (ref_of s) x.middle b.inner set
      (λ e. (era_began z fits s b r answered).0 began (ap (λ (y : RefState). y.era) left ∙ e ∙ x.same_era))
      ((λ i. left_older (sym old i) (sym new i)) ∙ fresh)
      ∙ ap (λ (y : BatchOf). plan_ref (plan_of_batch y set)) (sym x.batch_is)

-- a list of calls and then another
pub run_then : (z : Sizes) (cs ds : List Call) (s : StateOf) → run z s (cs ++ ds) ≡ run z (run z s cs) ds
unfolding run
run_then z [] ds s = refl
run_then z (c ∷ cs) ds s = run_then z cs ds (after z s c)

-- a plan's own bytes open the plan's reference state
plan_opens : (z : Sizes) → z.nodes < 256 ^ 8 → (places id key : ℕ) (p : PlanOf) → PlanOk z p → ref_start z (join_start places id key (plan_bytes fixed p)) ≡ found (plan_ref p)
unfolding ref_start
plan_opens z nodes-fit places id key p o = ap planned_by (plan_round_trip fixed fixed_codes z nodes-fit p o)

module _ (z : Sizes) where
  shared_bytes : (cs : List Call) (s : StateOf) → OfBytes cs → All (λ (b : SharedBatch). Bytes b.bytes) (shared_batches z s cs)
  unfolding shared_batches batch_calls
  shared_bytes [] s bytes = tt
  shared_bytes (batch_call b ∷ cs) s bytes = go (is_passed s b (processed z s b).answer) (shared_bytes cs (processed z s b).state bytes.1)
    where
      go : (p : Bool) → All (λ (b : SharedBatch). Bytes b.bytes) (shared_batches z (processed z s b).state cs)
          → All (λ (b : SharedBatch). Bytes b.bytes) (unless_passed p (as_shared b) (shared_batches z (processed z s b).state cs))
      go true h = h
      go false h = (bytes.0, h)
  shared_bytes (vote_call x ∷ cs) s bytes = shared_bytes cs (after z s (vote_call x)) bytes
  shared_bytes (add_call id key ∷ cs) s bytes = shared_bytes cs (after z s (add_call id key)) bytes
  shared_bytes (remove_call id ∷ cs) s bytes = shared_bytes cs (after z s (remove_call id)) bytes
  shared_bytes (message_call sender x ∷ cs) s bytes = shared_bytes cs (after z s (message_call sender x)) bytes
  shared_bytes (due_call x ∷ cs) s bytes = shared_bytes cs (after z s (due_call x)) bytes

-- The giver started by `new` or by joining and was called with any list before the batch, which began a new era and left no older key generation.
module _ (z : Sizes) (fits : z.items ≤ z.faults) (nodes-fit : z.nodes < 256 ^ 8) (rows_fit : z.rows < 256 ^ 8) (user-fits : z.user < 256 ^ 8)
    (start : Start) (start_bytes : StartBytes start) (a : StateOf) (starts : start_state z start ≡ done a) (before : List Call) (before_bytes : OfBytes before)
    (b : BatchCall) (batch-bytes : Bytes b.bytes) (r : ReportOf) (answered : (processed z (run z a before) b).answer ≡ done r)
    (began : began_era r.batch (era_of (processed z (run z a before) b).state) ≡ true)
    (fresh : left_older (candidate_nodes (run z a before).key_gen) (candidate_nodes (processed z (run z a before) b).state.key_gen) ≡ false) (set : ℕ) (set_fits : set < 256 ^ 8) where
  -- the plan is such as some bytes are read as
  pub plan_of_report : PlanOk z (plan_of_batch r.batch set)
  plan_of_report =
      let s : StateOf = run z a before in
      let o : RefOk z (ref_of s) =
      subst (RefOk z) (sym (follows z fits before a).0)
      (run_ok z nodes-fit rows_fit user-fits (ref_of a) (shared_batches z a before) (shared_bytes z before a before_bytes) (start_ok z nodes-fit start start_bytes (ref_of a) (start_opens z start a starts))) in
      (step_ok z nodes-fit rows_fit user-fits (ref_of s) (as_shared b) batch-bytes o).1 (record { batch = r.batch; faults = shared_faults r.faults })
      (sym (batch_follows z s b fits (reported_shared z s b r answered)).1 ∙ ap shared_answer answered) set set_fits

  -- the giver is where the reference state of its whole list is
  pub giver_stands : (r₀ : RefState) → ref_start z start ≡ found r₀ → ref_of (processed z (run z a before) b).state ≡ ref_run z r₀ (shared_batches z a (before ++ (batch_call b ∷ [])))
  unfolding run
  giver_stands r₀ opens = ap ref_of (sym (run_then z before (batch_call b ∷ []) a)) ∙ (opened_follows z fits start a starts r₀ opens (before ++ (batch_call b ∷ []))).0

  module _ (r₀ : RefState) (opens : ref_start z start ≡ found r₀) where
    -- and there the joiner starts
    pub plan_starts : (places id key : ℕ)
        → ref_start z (join_start places id key (plan_bytes fixed (plan_of_batch r.batch set))) ≡ found (ref_run z r₀ (shared_batches z a (before ++ (batch_call b ∷ []))))
    plan_starts places id key =
        plan_opens z nodes-fit places id key (plan_of_batch r.batch set) plan_of_report
        ∙ ap found (sym (giver_plans z fits (run z a before) b r answered began fresh set) ∙ giver_stands r₀ opens)

    -- from there on the giver follows that reference state
    pub giver_follows : (cs : List Call) → FollowsFrom z (ref_run z r₀ (shared_batches z a (before ++ (batch_call b ∷ [])))) (processed z (run z a before) b).state cs
    giver_follows cs =
        let t : StateOf = (processed z (run z a before) b).state in
        subst (λ (x : RefState). FollowsFrom z x t cs) (giver_stands r₀ opens) (follows z fits cs t)
