-- Demand 3, at the sizes of 01: what docs/AGREEMENT.md says in words.
-- Assumes nothing.
use Prim.Native.Nat.{ℕ, ◌^◌, ◌<◌}
use mathlib.Core.Path.{◌≡◌, refl, sym, ap, ◌∙◌}
use mathlib.Core.Logic.{◌⊎◌, inl, inr}
use mathlib.Core.List.{List, [], ◌∷◌, ◌++◌}
use mathlib.Core.Bool.{true, false}
use native.Mathlib.Omega.{arith}
use lib.ListN.{length, take}
use Rattle.lists.specs.Lists.{found}
use Rattle.bincode.specs.Outcome.{done}
use Rattle.bincode.specs.Read.{value}
use Rattle.bincode.specs.Sizes.{base}
use Rattle.bincode.specs.Stands.{Bytes, All}
use Rattle.batch.specs.Batch.{plan_left, plan_answered}
use Rattle.dynamic_honey_badger.specs.Asked.{last_report}
use Rattle.dynamic_honey_badger.specs.State.{StateOf, era_of, candidate_nodes, started, Joined, joined}
use Rattle.change.specs.Change.{none}
use Rattle.key_gen_state.specs.KeyGenState.{ready_state}
use Rattle.internal_contrib.specs.InternalContrib.{ContribOf, read_batch}
use Rattle.steps.specs.Steps.{committed}
use Rattle.process_output.specs.Process.{BatchCall, ReportOf, denied, processed}
use Rattle.reference.specs.Reference.{RefState}
use Rattle.reference.specs.Step.{ref_run, ref_answers, ref_taken}
use Rattle.reference.proofs.PassedLaws.{taken_taken}
use Rattle.agreement.specs.Shared.{ref_of}
use Rattle.agreement.specs.Calls.{Call, batch_call, run, shared_batches, answers, given_batches, reports, last_stamp, Start, new_start, join_start, start_state, joined_state}
use Rattle.agreement.specs.Claim.{ref_start, FollowsFrom, FollowsStart, Agree, SameOutcome, UpToEra, OneBoard, VotersListed}
use Rattle.vote_counter.specs.Calls.{InStep}
use Rattle.agreement.specs.Hypotheses.{Full, began_era, left_older, OfBytes, StartBytes}
use Rattle.agreement.specs.Formed.{Formed, CallFits, StartFits}
use Rattle.agreement.proofs.Follow as follow
use Rattle.agreement.proofs.Agree as agreeing
use Rattle.agreement.proofs.Agree.{start_opens, opened_stands, base_fits}
use Rattle.agreement.proofs.PassedCalls as passed
use Rattle.agreement.proofs.LastReports as last
use Rattle.agreement.proofs.BoardLaws as boards
use Rattle.agreement.proofs.CarriedLaws as carrying
use Rattle.agreement.proofs.FullLaws as full
use Rattle.agreement.proofs.FullLaws.{same_taken_given}
use Rattle.agreement.proofs.Joiner as joiner
use Rattle.agreement.proofs.WrittenPlan as written
use Rattle.agreement.specs.NumberFirst.{processed_number_first, call_marks, struck}
use Rattle.agreement.proofs.StruckBatch as number
use Rattle.agreement.proofs.FormedLaws.{reached_formed}

-- The claim. From every accepted start on, and after every list of calls, a replica is where the reference state is that the start's map, era and parameters (a
-- joiner's: its plan) opened and that was fed the shared batches alone, and it has answered each of them as that one does.
pub start_follows : (start : Start) (s : StateOf) → start_state base start ≡ done s → (cs : List Call) → FollowsStart base start s cs
start_follows = agreeing.start_follows base base_fits

-- two replicas whose starts open one reference state, and with the same shared batches, agree, whatever is their own, calls refused by 1 and 4 and calls of another
-- era among them
pub starts_agree : (start start' : Start) (s t : StateOf) → start_state base start ≡ done s → start_state base start' ≡ done t → ref_start base start ≡ ref_start base start'
    → (cs ds : List Call) → shared_batches base s cs ≡ shared_batches base t ds → Agree base s cs t ds
starts_agree = agreeing.agree base base_fits

module _ (id key id' key' era : ℕ) (map params : List ℕ) (s t : StateOf) (starts : started base id key era map params ≡ done s) (starts' : started base id' key' era map params ≡ done t)
    (cs ds : List Call) where
  -- in particular two that `new` started with one era, map and parameters
  pub new_starts_agree : shared_batches base s cs ≡ shared_batches base t ds → Agree base s cs t ds
  unfolding ref_start
  new_starts_agree = starts_agree (new_start id key era map params) (new_start id' key' era map params) s t starts starts' refl cs ds

  -- and the user's own form: full-length buffers, well-formed verdicts, and batches that agree after those are struck out that the reference state passes over, fed the
  -- given ones from the start on (02, CR 1)
  pub one_start_agrees : (r : RefState) → ref_start base (new_start id key era map params) ≡ found r → Full base cs → Full base ds
      → ref_taken base r (given_batches cs) ≡ ref_taken base r (given_batches ds) → Agree base s cs t ds
  unfolding ref_start
  one_start_agrees r opens f g e =
      new_starts_agree
      (same_taken_given base base_fits cs ds s t r (opened_stands base (new_start id key era map params) s starts r opens) (opened_stands base (new_start id' key' era map params) t starts' r opens) f g e)

  -- in particular the same batches
  pub one_start_agrees_given : Full base cs → Full base ds → given_batches cs ≡ given_batches ds → Agree base s cs t ds
  one_start_agrees_given f g e =
      one_start_agrees (ref_of s) (start_opens base (new_start id key era map params) s starts) f g (ap (ref_taken base (ref_of s)) e)

  -- and a list with batches of other eras beside one without; the two nodes may be exchanged
  pub one_start_agrees_late : (r : RefState) → ref_start base (new_start id key era map params) ≡ found r → Full base cs → Full base ds
      → given_batches ds ≡ ref_taken base r (given_batches cs) → Agree base s cs t ds
  one_start_agrees_late r opens f g e = one_start_agrees r opens f g (sym (taken_taken base r (given_batches cs)) ∙ ap (ref_taken base r) (sym e))

-- The joiner, from the bytes that `join_plan` wrote for a batch of the giver that began a new era and left no older key generation.
module _ (start : Start) (start_bytes : StartBytes start) (a : StateOf) (starts : start_state base start ≡ done a) (before : List Call) (before_bytes : OfBytes before)
    (b : BatchCall) (batch-bytes : Bytes b.bytes) (r : ReportOf) (answered : (processed base (run base a before) b).answer ≡ done r)
    (began : began_era r.batch (era_of (processed base (run base a before) b).state) ≡ true)
    (fresh : left_older (candidate_nodes (run base a before).key_gen) (candidate_nodes (processed base (run base a before) b).state.key_gen) ≡ false)
    (set : ℕ) (set_fits : set < 256 ^ 8) where
  -- it starts at the reference state of the giver's whole list, that batch included, whatever its id and key are
  pub joiner_starts : (r₀ : RefState) → ref_start base start ≡ found r₀ → (l : List ℕ) (n : ℕ) → plan_answered base l r.batch set ≡ done (found n) → (places id key : ℕ)
      → ref_start base (join_start places id key (take n (plan_left base l r.batch set))) ≡ found (ref_run base r₀ (shared_batches base a (before ++ (batch_call b ∷ []))))
  joiner_starts r₀ opens l n e places id key =
      written.written_plan_starts base base_fits (omega arith) (omega arith) (omega arith) (omega arith) (omega arith)
      start start_bytes a starts before before_bytes b batch-bytes r answered began fresh set set_fits l n e places id key r₀ opens

  module _ (l : List ℕ) (n : ℕ) (e : plan_answered base l r.batch set ≡ done (found n))
      (places id key : ℕ) (j : Joined) (joins : joined base places id key (take n (plan_left base l r.batch set)) ≡ done j) (cs ds : List Call) where
    -- over the batches after it the giver and the joiner are where that one reference state is
    pub both_follow : (r₀ : RefState) → ref_start base start ≡ found r₀
        → FollowsFrom base (ref_run base r₀ (shared_batches base a (before ++ (batch_call b ∷ [])))) (processed base (run base a before) b).state cs
        × FollowsFrom base (ref_run base r₀ (shared_batches base a (before ++ (batch_call b ∷ [])))) j.state ds
    both_follow r₀ opens = (
      joiner.giver_follows base base_fits (omega arith) (omega arith) (omega arith)
          start start_bytes a starts before before_bytes b batch-bytes r answered began fresh set set_fits r₀ opens cs,
      written.joiner_follows base base_fits (omega arith) (omega arith) (omega arith) (omega arith) (omega arith)
          start start_bytes a starts before before_bytes b batch-bytes r answered began fresh set set_fits l n e places id key j joins r₀ opens ds,
    )

    -- so with the same shared batches they agree
    pub joiner_agrees_shared : shared_batches base (processed base (run base a before) b).state cs ≡ shared_batches base j.state ds
        → Agree base (processed base (run base a before) b).state cs j.state ds
    joiner_agrees_shared =
        written.agree_by_written_plan base base_fits (omega arith) (omega arith) (omega arith) (omega arith) (omega arith)
        start start_bytes a starts before before_bytes b batch-bytes r answered began fresh set set_fits l n e places id key j joins cs ds

    -- and so they do in the user's own form, r₁ being the reference state at which the joiner starts
    pub joiner_agrees : (r₀ : RefState) → ref_start base start ≡ found r₀ → Full base cs → Full base ds
        → let r₁ = ref_run base r₀ (shared_batches base a (before ++ (batch_call b ∷ []))) in ref_taken base r₁ (given_batches cs) ≡ ref_taken base r₁ (given_batches ds)
        → Agree base (processed base (run base a before) b).state cs j.state ds
    joiner_agrees r₀ opens f g q =
        joiner_agrees_shared
        (same_taken_given base base_fits cs ds (processed base (run base a before) b).state j.state (ref_run base r₀ (shared_batches base a (before ++ (batch_call b ∷ []))))
        (joiner.giver_stands base base_fits (omega arith) (omega arith) (omega arith)
        start start_bytes a starts before before_bytes b batch-bytes r answered began fresh set set_fits r₀ opens)
        (written.joiner_stands base base_fits (omega arith) (omega arith) (omega arith) (omega arith) (omega arith)
        start start_bytes a starts before before_bytes b batch-bytes r answered began fresh set set_fits l n e places id key j joins r₀ opens)
        f g q)

    -- in particular with the same batches
    pub joiner_agrees_given : Full base cs → Full base ds → given_batches cs ≡ given_batches ds → Agree base (processed base (run base a before) b).state cs j.state ds
    joiner_agrees_given f g q =
        joiner_agrees (ref_of a) (start_opens base start a starts) f g
        (ap (ref_taken base (ref_run base (ref_of a) (shared_batches base a (before ++ (batch_call b ∷ []))))) q)

    -- and a list with batches of other eras beside one without, whichever of the two has them
    pub joiner_agrees_late : (r₀ : RefState) → ref_start base start ≡ found r₀ → Full base cs → Full base ds
        → let r₁ = ref_run base r₀ (shared_batches base a (before ++ (batch_call b ∷ []))) in
        (given_batches ds ≡ ref_taken base r₁ (given_batches cs)) ⊎ (given_batches cs ≡ ref_taken base r₁ (given_batches ds))
        → Agree base (processed base (run base a before) b).state cs j.state ds
    joiner_agrees_late r₀ opens f g (inl q) =
        let r₁ = ref_run base r₀ (shared_batches base a (before ++ (batch_call b ∷ []))) in
        joiner_agrees r₀ opens f g (sym (taken_taken base r₁ (given_batches cs)) ∙ ap (ref_taken base r₁) (sym q))
    joiner_agrees_late r₀ opens f g (inr q) =
        let r₁ = ref_run base r₀ (shared_batches base a (before ++ (batch_call b ∷ []))) in
        joiner_agrees r₀ opens f g (ap (ref_taken base r₁) q ∙ taken_taken base r₁ (given_batches ds))

    -- 02, CR 3: wherever they agree they have one board
    pub joiner_one_board : Agree base (processed base (run base a before) b).state cs j.state ds
        → OneBoard (run base (processed base (run base a before) b).state cs) (run base j.state ds)
    joiner_one_board agree =
        let giver = boards.batch_boarded base (run base a before) b (boards.run_boarded base before a (boards.start_boarded base start a starts)) in
        let joiner-start = boards.start_boarded base (join_start places id key (take n (plan_left base l r.batch set))) j.state (ap joined_state joins) in
        let after = (processed base (run base a before) b).state in
        boards.one_board (run base after cs) (run base j.state ds) (boards.run_boarded base cs after giver) (boards.run_boarded base ds j.state joiner-start) agree.0

-- from whatever state on, a replica follows the reference state that its shared part is
pub replica_follows : (cs : List Call) (s : StateOf) → FollowsFrom base (ref_of s) s cs
replica_follows = follow.follows base base_fits

-- of whose shared batches the reference state passes over none
pub shared_batches_taken : (cs : List Call) (s : StateOf) → ref_taken base (ref_of s) (shared_batches base s cs) ≡ shared_batches base s cs
shared_batches_taken = follow.shared_taken base base_fits

-- and two in whatever states with one shared part, with the same shared batches, agree
pub replicas_agree : (cs ds : List Call) (s t : StateOf) → ref_of s ≡ ref_of t → shared_batches base s cs ≡ shared_batches base t ds → Agree base s cs t ds
replicas_agree = agreeing.agree_shared base base_fits

-- 02, CR 1: full-length buffers and well-formed verdicts, from whatever state on. The shared batches are the given ones less those that the reference state passes
-- over, and the replica follows the reference state that is fed all given ones.
pub full_batches_shared : (cs : List Call) (s : StateOf) → Full base cs → shared_batches base s cs ≡ ref_taken base (ref_of s) (given_batches cs)
full_batches_shared = full.full_taken base base_fits

pub full_replica_follows : (cs : List Call) (s : StateOf) → Full base cs
    → (ref_of (run base s cs) ≡ ref_run base (ref_of s) (given_batches cs)) × (answers base s cs ≡ ref_answers base (ref_of s) (given_batches cs))
full_replica_follows = full.full_follows base base_fits

-- 02, CR 1: every batch call of another era, in every state, is refused by 1, 2, 3, 4 or 15, and the state is as given
pub other_era_refused : (s : StateOf) (b : BatchCall) → (b.era ≡ era_of s → ⊥) → (n : ℕ) × (processed base s b ≡ denied s n) × UpToEra n
other_era_refused s b = passed.other_era_denied base s b

-- and put anywhere into a list, or left out, it changes neither the state, nor the shared batches, nor the answers, nor the reports
pub other_era_left_out : (cs ds : List Call) (s : StateOf) (b : BatchCall) → (b.era ≡ era_of (run base s cs) → ⊥) → SameOutcome base s (cs ++ (batch_call b ∷ ds)) (cs ++ ds)
other_era_left_out = passed.left_out base

-- 02, CR 1: from every accepted start on, what is told is era and epoch of the last report that the batch calls returned, none if there is none
pub last_report_told : (start : Start) (s : StateOf) → start_state base start ≡ done s → (cs : List Call) → last_report (run base s cs) ≡ last_stamp (reports base s cs)
last_report_told = last.last_reported base

-- 02, CR 3: from every accepted start on, after every list of calls, the board is the one worked out from all committed votes, its counts add up to their number, and
-- its rows are handed out by place
pub board_in_step : (start : Start) (s : StateOf) → start_state base start ≡ done s → (cs : List Call) → InStep (run base s cs).counter
board_in_step = boards.start_in_step base

-- so two replicas that started by an accepted start each, and agree, have one board
pub agreeing_one_board : (start start' : Start) (s t : StateOf) → start_state base start ≡ done s → start_state base start' ≡ done t → (cs ds : List Call) → Agree base s cs t ds
    → OneBoard (run base s cs) (run base t ds)
agreeing_one_board start start' s t starts starts' cs ds agree =
    boards.one_board (run base s cs) (run base t ds) (boards.run_boarded base cs s (boards.start_boarded base start s starts))
    (boards.run_boarded base ds t (boards.start_boarded base start' t starts')) agree.0

-- 02, CR 7: from every accepted start on, after every list of calls, in every report of a batch call that lists somebody: more than f and at most n voters of the map before the batch, by
-- ascending id, just those whose stored vote is for the change that is told, as the votes stand behind the batch's own and before a new era
pub reports_carried : (start : Start) (s : StateOf) → start_state base start ≡ done s → (calls : List Call) (b : BatchCall) (r : ReportOf) → (processed base (run base s calls) b).answer ≡ done r
    → (cs : List ContribOf) (c : ℕ) → read_batch base b.bytes ≡ value cs c → (r.batch.voters ≡ [] → ⊥)
    → VotersListed (run base s calls) (committed base (run base s calls) b.verdicts cs).state r.batch
reports_carried = carrying.reports_carried base

-- the same wherever a winner was taken: where no key generation was ready and the report is not `None`, somebody is listed
pub winners_carried : (start : Start) (s : StateOf) → start_state base start ≡ done s → (calls : List Call) (b : BatchCall) (r : ReportOf) → (processed base (run base s calls) b).answer ≡ done r
    → (cs : List ContribOf) (c : ℕ) → read_batch base b.bytes ≡ value cs c → ready_state (committed base (run base s calls) b.verdicts cs).state.key_gen ≡ false → (r.batch.change ≡ none → ⊥)
    → VotersListed (run base s calls) (committed base (run base s calls) b.verdicts cs).state r.batch
winners_carried = carrying.winners_carried base

-- every state that is reached from an accepted start is well formed
pub reached_states_formed : (start : Start) → StartFits start → (s : StateOf) → start_state base start ≡ done s → (cs : List Call) → All CallFits cs → Formed base (run base s cs)
reached_states_formed = reached_formed base (omega arith) (omega arith) (omega arith)

-- 02, CR 6: a batch call in document 01's order of checks on a vote leaves the same state and has the same answer, but for the faults that are marked by a list of Booleans, one
-- for each fault: those of a vote whose number is old and whose era or signature is wrong (`marked_there`, `marked_nowhere_else`, `marked_no_message`)
pub number_first_struck : (s : StateOf) (b : BatchCall) → processed_number_first base s b ≡ record { state = (processed base s b).state; answer = struck (call_marks base s b) (processed base s b).answer }
number_first_struck = number.call_struck base base_fits

pub number_first_marks : (s : StateOf) (b : BatchCall) (r : ReportOf) → (processed base s b).answer ≡ done r → length (call_marks base s b) ≡ length r.faults
number_first_marks = number.marks_fit base base_fits
