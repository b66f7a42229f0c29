-- The hypotheses of the claims hold of the witnesses, so the claims say something of them.
-- Assumes nothing.
use Prim.Native.Nat.{ℕ, ◌≤◌}
use mathlib.Core.Path.{◌≡◌, refl, sym, ap, ◌∙◌, subst}
use mathlib.Core.List.{List, [], ◌∷◌, ◌++◌}
use mathlib.Core.Bool.{false, true}
use lib.ListN.{length}
use native.Mathlib.Omega.{arith}
use Rattle.bincode.specs.Read.{value}
use Rattle.bincode.specs.Numbers.{fixed}
use Rattle.bincode.specs.Sizes.{base}
use Rattle.bincode.specs.Stands.{All}
use Rattle.bincode.proofs.ReadLaws.{same_value}
use Rattle.pub_key_map.specs.PubKeyMap.{map_bytes}
use Rattle.params.specs.Params.{params_bytes}
use Rattle.due.specs.declared.DueKind.TheVariants.{Part}
use Rattle.internal_contrib.specs.InternalContrib.{ContribOf, read_batch, batch_bytes}
use Rattle.internal_contrib.specs.Places.{message_count}
use Rattle.dynamic_honey_badger.specs.Asked.{last_report}
use Rattle.dynamic_honey_badger.specs.State.{era_of, candidate_nodes}
use Rattle.steps.specs.Steps.{committed}
use Rattle.process_output.specs.Process.{ProcessedOf, processed}
use Rattle.reference.specs.Reference.{RefState}
use Rattle.reference.specs.Step.{ref_run, ref_taken}
use Rattle.reference.proofs.PassedLaws.{other_taken}
use Rattle.agreement.specs.Shared.{ref_of}
use Rattle.agreement.specs.Calls.{batch_call, run, as_shared, batch_calls, given_batches, reports, last_stamp, new_start}
use Rattle.agreement.specs.Hypotheses.{FullBatch, Full, began_era, left_older, OfBytes, StartBytes}
use Rattle.agreement.specs.Claim.{Agree, SameOutcome, OneBoard, VotersListed}
use Rattle.vote_counter.specs.Calls.{InStep}
use Rattle.agreement.specs.Formed.{Formed, CallFits, StartFits}
use Rattle.agreement.specs.Witness.{alone, params, giver_start, adding, completing, batch_of, add_batch, late_batch, complete_stamp, complete_batch, calls_before, calls_after, every_call, opened, added, ended, add_report, joiner_batch, plan_buffer, key_set, plan_length, joiner_opened, observer_opened, observer_calls, slow_calls}
use Rattle.agreement.proofs.Agree.{start_opens}
use Rattle.agreement.proofs.Joiner.{run_then}
use Rattle.agreement.proofs.Claims.{reached_states_formed, one_start_agrees, one_start_agrees_given, joiner_agrees_given, full_replica_follows, other_era_left_out, last_report_told, board_in_step, reports_carried, agreeing_one_board, joiner_one_board}
use Rattle.agreement.proofs.WitnessReading.{bytes_are, map_bytes_lem, params_bytes_lem, asked_bytes, part_due_bytes, part_sent_bytes, vote_sent_bytes, adding_bytes, adding_read, completing_bytes, completing_read}
use Rattle.agreement.proofs.WitnessSteps.{starts, observer_starts}
use Rattle.agreement.proofs.WitnessCalls.{before_leads, every_call_accepted}
use Rattle.agreement.proofs.WitnessJoiner.{reported, plan_answered_lem, plan_joined}

-- a batch that is read, with as many verdicts as it has key messages, none over 3
full_batch : (era inner : ℕ) (c : ContribOf) (verdicts : List ℕ) (n : ℕ) → read_batch base (batch_bytes (c ∷ [])) ≡ value (c ∷ []) n
    → length verdicts ≡ message_count (c ∷ []) → All (λ (v : ℕ). v ≤ 3) verdicts → FullBatch base (batch_of era inner c verdicts)
full_batch era inner c verdicts n r q h =
    record {
      faults_lent = omega arith;
      due_lent = omega arith;
      verdicts_formed = λ cs d e. subst (λ (x : List ContribOf). (length verdicts ≡ message_count x) × All (λ (v : ℕ). v ≤ 3) verdicts) (same_value _ r e) (q, h);
    }

pub add_full : FullBatch base add_batch
unfolding message_count
add_full = full_batch 5 3 adding [] _ adding_read refl tt

pub late_full : FullBatch base late_batch
unfolding message_count
late_full = full_batch 5 4 adding [] _ adding_read refl tt

pub complete_full : FullBatch base complete_batch
unfolding message_count
complete_full = full_batch 9 2 completing (0 ∷ 0 ∷ 0 ∷ 0 ∷ []) _ completing_read refl (omega arith, (omega arith, (omega arith, (omega arith, tt))))

pub joiner_full : FullBatch base joiner_batch
unfolding message_count
joiner_full = full_batch 9 2 completing (0 ∷ 0 ∷ 3 ∷ 0 ∷ []) _ completing_read refl (omega arith, (omega arith, (omega arith, (omega arith, tt))))

-- the hypotheses of the claims hold of start and calls
pub start_fits : StartFits giver_start
start_fits = (omega arith, omega arith, omega arith, map_bytes_lem, params_bytes_lem)

pub start_bytes : StartBytes giver_start
start_bytes = (map_bytes_lem, params_bytes_lem)

pub add_fits : CallFits (batch_call add_batch)
add_fits = (omega arith, omega arith, adding_bytes, bytes_are [] refl)

pub complete_fits : CallFits (batch_call complete_batch)
complete_fits = (omega arith, omega arith, completing_bytes, bytes_are (0 ∷ 0 ∷ 0 ∷ 0 ∷ []) refl)

pub calls_fit : All CallFits every_call
calls_fit = (asked_bytes, ((omega arith, omega arith), (add_fits, (part_due_bytes, ((omega arith, part_sent_bytes), (complete_fits, (omega arith, ((omega arith, vote_sent_bytes), tt))))))))

pub before_bytes : OfBytes calls_before
unfolding batch_calls
before_bytes = tt

pub after_full : Full base calls_after
unfolding batch_calls
after_full = (complete_full, tt)

pub every_call_full : Full base every_call
unfolding batch_calls
every_call_full = (add_full, (complete_full, tt))

-- the batch that the joiner's plan is of began a new era, and left no older key generation
pub began : began_era add_report.batch (era_of (processed base (run base opened calls_before) add_batch).state) ≡ true
unfolding began_era
began = ap (λ (x : ProcessedOf). began_era add_report.batch (era_of x.state)) reported

pub left_none : left_older (candidate_nodes (run base opened calls_before).key_gen) (candidate_nodes (processed base (run base opened calls_before) add_batch).state.key_gen) ≡ false
unfolding left_older
left_none = λ i. left_older (candidate_nodes (before_leads.1 i).key_gen) (candidate_nodes (reported i).state.key_gen)

-- 02, CR 7: the report of the first batch lists voter 1, so what is said of such a report holds of it
pub add_carried : VotersListed (run base opened calls_before) (committed base (run base opened calls_before) add_batch.verdicts (adding ∷ [])).state add_report.batch
add_carried =
    reports_carried giver_start opened starts calls_before add_batch add_report (ap (λ (x : ProcessedOf). x.answer) reported) (adding ∷ []) _ adding_read
    (λ e. let none : ⊥ = omega (arith, ap (λ (ids : List ℕ). length ids) e) in none)

-- the claims hold of it: the state at the end is formed
pub ended_formed : Formed base ended
ended_formed = subst (Formed base) every_call_accepted.1 (reached_states_formed giver_start start_fits opened starts every_call calls_fit)

-- the giver and an observer with the same start, given the same batches, agree
pub giver_and_observer : Agree base opened every_call observer_opened observer_calls
unfolding batch_calls
giver_and_observer =
    one_start_agrees_given 1 11 3 13 5 (map_bytes fixed alone) (params_bytes fixed params) opened observer_opened starts observer_starts every_call observer_calls every_call_full
    (add_full, (joiner_full, tt)) refl

-- 02, CR 1: the reference state is in era 9 after the first batch, so it passes over the late one
first_leads : ref_run base (ref_of opened) (as_shared add_batch ∷ []) ≡ ref_of added
unfolding batch_calls run
first_leads =
    sym (full_replica_follows (calls_before ++ (batch_call add_batch ∷ [])) opened (add_full, tt)).0
    ∙ ap ref_of (run_then base calls_before (batch_call add_batch ∷ []) opened ∙ ap (λ (x : ProcessedOf). x.state) reported)

late_struck : ref_taken base (ref_of opened) (given_batches every_call) ≡ ref_taken base (ref_of opened) (given_batches slow_calls)
unfolding batch_calls
late_struck =
    sym (other_taken base (ref_of opened) (as_shared add_batch ∷ []) (as_shared complete_batch ∷ []) (as_shared late_batch)
    (λ q. let era : (ref_run base (ref_of opened) (as_shared add_batch ∷ [])).era ≡ 9 = ap (λ (r : RefState). r.era) first_leads in let no : ⊥ = omega arith in no))

-- so the giver and one that was handed it agree too
pub giver_and_slow : Agree base opened every_call observer_opened slow_calls
unfolding batch_calls
giver_and_slow =
    one_start_agrees 1 11 3 13 5 (map_bytes fixed alone) (params_bytes fixed params) opened observer_opened starts observer_starts every_call slow_calls
    (ref_of opened) (start_opens base giver_start opened starts) every_call_full (add_full, (late_full, (joiner_full, tt))) late_struck

-- and at the giver itself the late batch, put behind the first one, changes nothing
pub giver_handed_late : SameOutcome base opened (calls_before ++ (batch_call add_batch ∷ (batch_call late_batch ∷ calls_after))) every_call
unfolding run
giver_handed_late =
    other_era_left_out (calls_before ++ (batch_call add_batch ∷ [])) calls_after opened late_batch
    (λ q. let era : era_of (run base opened (calls_before ++ (batch_call add_batch ∷ []))) ≡ 9 =
    ap era_of (run_then base calls_before (batch_call add_batch ∷ []) opened ∙ ap (λ (x : ProcessedOf). x.state) reported) in let no : ⊥ = omega arith in no)

-- the last report at the end is that of the second batch, with the era that it met
pub ended_last : last_stamp (reports base opened every_call) ≡ complete_stamp
ended_last = sym (last_report_told giver_start opened starts every_call) ∙ ap last_report every_call_accepted.1

-- and so do giver and joiner, over the batches behind the plan's
pub giver_and_joiner : Agree base added calls_after joiner_opened (batch_call joiner_batch ∷ [])
unfolding batch_calls
giver_and_joiner =
    subst (λ (x : ProcessedOf). Agree base x.state calls_after joiner_opened (batch_call joiner_batch ∷ [])) reported
    (joiner_agrees_given giver_start start_bytes opened starts calls_before before_bytes add_batch adding_bytes add_report (ap (λ (x : ProcessedOf). x.answer) reported) began left_none key_set (omega arith)
    plan_buffer plan_length plan_answered_lem base.due 2 12 (record { state = joiner_opened; due = record { kind = Part; era = 9 } ∷ [] }) plan_joined
    calls_after (batch_call joiner_batch ∷ []) after_full (joiner_full, tt) refl)

-- 02, CR 3: the giver's board is in step at the end; the giver and the observer have one board, and so have giver and joiner
pub ended_in_step : InStep (run base opened every_call).counter
ended_in_step = board_in_step giver_start opened starts every_call

pub observer_board : OneBoard (run base opened every_call) (run base observer_opened observer_calls)
observer_board =
    agreeing_one_board giver_start (new_start 3 13 5 (map_bytes fixed alone) (params_bytes fixed params)) opened observer_opened starts observer_starts every_call observer_calls giver_and_observer

pub joiner_board : OneBoard (run base (processed base (run base opened calls_before) add_batch).state calls_after) (run base joiner_opened (batch_call joiner_batch ∷ []))
joiner_board =
    joiner_one_board giver_start start_bytes opened starts calls_before before_bytes add_batch adding_bytes add_report (ap (λ (x : ProcessedOf). x.answer) reported) began left_none key_set (omega arith)
    plan_buffer plan_length plan_answered_lem base.due 2 12 (record { state = joiner_opened; due = record { kind = Part; era = 9 } ∷ [] }) plan_joined
    calls_after (batch_call joiner_batch ∷ [])
    (subst (λ (x : ProcessedOf). Agree base x.state calls_after joiner_opened (batch_call joiner_batch ∷ [])) (sym reported) giver_and_joiner)
