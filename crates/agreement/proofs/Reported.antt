-- A batch that was reported, taken apart: steps 2 to 5 keep era and maps, and what they leave is decided on.
-- Assumes nothing.
use Prim.Native.Nat.{ℕ, ◌+◌, ◌≤◌}
use mathlib.Core.Path.{◌≡◌, refl, sym, ap, ◌∙◌}
use mathlib.Core.List.{List}
use Rattle.lists.specs.Lists.{Found, found, nothing, map_found}
use Rattle.bincode.specs.Read.{Read, value, refuse}
use Rattle.bincode.specs.Outcome.{done}
use Rattle.bincode.specs.Sizes.{Sizes}
use Rattle.bincode.proofs.ReadLaws.{done_refused}
use Rattle.pub_key_map.specs.declared.Node.{Node}
use Rattle.key_gen_state.specs.KeyGenState.{KeyGenStateOf}
use Rattle.batch.specs.Batch.{BatchOf, batch_with}
use Rattle.internal_contrib.specs.InternalContrib.{ContribOf, read_batch}
use Rattle.dynamic_honey_badger.specs.State.{StateOf, era_of, candidate_nodes}
use Rattle.process_output.specs.Process.{BatchCall, ReportOf, processed}
use Rattle.reference.specs.Reference.{RefState}
use Rattle.reference.specs.Step.{RefDecided, RefReport, RefAnswer, SharedBatch, ref_contribs, ref_decide, ref_steps, ref_batch, ref_read, ref_step}
use Rattle.reference.proofs.ReportLaws.{tests}
use Rattle.agreement.specs.Shared.{candidate_ref, ref_of, shared_faults, shared_answer}
use Rattle.agreement.specs.Calls.{as_shared}
use Rattle.agreement.proofs.KeptLaws.{all_any, map_of, Kept, contribs_keep}
use Rattle.agreement.proofs.PassedCalls.{reported_shared}
use Rattle.agreement.proofs.Follow.{batch_follows}

-- the candidate map of the reference state
abbrev pub candidate_map : RefState → Found (List Node)
candidate_map s = map_found map_of s.candidate

-- the report on a decision
abbrev pub report_on : RefState → ℕ → RefDecided → BatchOf
report_on s epoch d = batch_with epoch s.era d.ruling d.state.nodes d.state.params

-- what a reported batch was: t is the state that steps 2 to 5 leave, in the era and with the maps from before
pub record Reported (s : RefState) (inner : ℕ) (a : RefAnswer) (batch : BatchOf) : Type 0 where
  pub middle : RefState
  pub same_era : middle.era ≡ s.era
  pub same_map : candidate_map middle ≡ candidate_map s
  pub state_is : a.state ≡ (ref_decide (s.era + inner + 1) middle).state
  pub batch_is : batch ≡ report_on s (s.era + inner) (ref_decide (s.era + inner + 1) middle)

module _ (z : Sizes) (s : RefState) where
  contribs_reported : (inner : ℕ) (cs : List ContribOf) (x : RefReport) → (ref_batch z s inner cs).answer ≡ done x → Reported s inner (ref_batch z s inner cs) x.batch
  unfolding ref_steps
  contribs_reported inner cs x = tests z s inner cs (λ a. a.answer ≡ done x → Reported s inner a x.batch) (λ n i e. absurd (done_refused e)) (λ h. taken)
    where
      t : RefState
      t = (ref_contribs z s cs).state

      d : RefDecided
      d = ref_decide (s.era + inner + 1) t

      kept : Kept (λ v. Unit {0}) s t
      kept = contribs_keep (λ v. Unit {0}) z s cs (all_any _ (λ c. all_any _ (λ v. tt) c.votes) cs)

      taken : (ref_steps z s (s.era + inner) cs).answer ≡ done x → Reported s inner (ref_steps z s (s.era + inner) cs) x.batch
      taken e =
          let q : record { batch = report_on s (s.era + inner) d; faults = (ref_contribs z s cs).faults } ≡ x = cc in
          record { middle = t; same_era = kept.era; same_map = kept.candidate; state_is = refl; batch_is = sym (ap (λ (y : RefReport). y.batch) q) }

  pub step_reported : (b : SharedBatch) (x : RefReport) → (ref_step z s b).answer ≡ done x → Reported s b.inner (ref_step z s b) x.batch
  unfolding ref_step
  step_reported b x = go (read_batch z b.bytes)
    where
      go : (y : Read (List ContribOf)) → (ref_read z s b.inner y).answer ≡ done x → Reported s b.inner (ref_read z s b.inner y) x.batch
      go (value cs c) e = contribs_reported b.inner cs x e
      go (refuse n) e = absurd (done_refused e)

pub nodes_of_lem : (g : Found KeyGenStateOf) → map_found map_of (map_found candidate_ref g) ≡ candidate_nodes g
nodes_of_lem (found g) = refl
nodes_of_lem nothing = refl

-- every reported batch
module _ (z : Sizes) (fits : z.items ≤ z.faults) (s : StateOf) (b : BatchCall) (r : ReportOf) (answered : (processed z s b).answer ≡ done r) where
  pub batch_reported : Reported (ref_of s) b.inner (ref_step z (ref_of s) (as_shared b)) r.batch
  batch_reported =
      step_reported z (ref_of s) (as_shared b) (record { batch = r.batch; faults = shared_faults r.faults })
      (sym (batch_follows z s b fits (reported_shared z s b r answered)).1 ∙ ap shared_answer answered)

  pub left_shared : ref_of (processed z s b).state ≡ (ref_decide (era_of s + b.inner + 1) batch_reported.middle).state
  left_shared = (batch_follows z s b fits (reported_shared z s b r answered)).0 ∙ batch_reported.state_is

  -- the candidate maps before and after it
  pub maps_before : candidate_nodes s.key_gen ≡ candidate_map batch_reported.middle
  maps_before = sym (nodes_of_lem s.key_gen) ∙ sym batch_reported.same_map

  pub maps_after : candidate_nodes (processed z s b).state.key_gen ≡ candidate_map (ref_decide (era_of s + b.inner + 1) batch_reported.middle).state
  maps_after = sym (nodes_of_lem (processed z s b).state.key_gen) ∙ ap candidate_map left_shared
