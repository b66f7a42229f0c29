-- A joiner by the plan of a map in progress that `join_plan` wrote, and the batch behind it.
-- Assumes nothing.
use mathlib.Core.Path.{◌≡◌, refl, ap, ◌∙◌}
use mathlib.Core.List.{[], ◌∷◌}
use lib.ListN.{take}
use Rattle.lists.specs.Lists.{found, filter}
use Rattle.bincode.specs.Read.{whole}
use Rattle.bincode.specs.Outcome.{done}
use Rattle.bincode.specs.Numbers.{le, bytes_of, read_num}
use Rattle.bincode.specs.Items.{items, counted}
use Rattle.bincode.specs.Sizes.{base}
use Rattle.pub_key_map.specs.PubKeyMap.{read_node, read_map, node_bytes, map_bytes}
use Rattle.network_info.specs.NetworkInfo.{is_member}
use Rattle.honey_badger.specs.EncryptionSchedule.{read_schedule, schedule_bytes}
use Rattle.params.specs.Params.{read_strategy, strategy_bytes, read_params, params_bytes}
use Rattle.change.specs.Change.{read_change, change_bytes, read_state, state_bytes}
use Rattle.due.specs.declared.DueKind.TheVariants.{Part}
use Rattle.join_plan.specs.JoinPlan.{read_plan, plan_bytes, plan_written, plan_said}
use Rattle.batch.specs.Batch.{plan_left, plan_answered}
use Rattle.joining.specs.Starting.{join_row8, join_row9, join_row10, join_plan, join_checked}
use Rattle.dynamic_honey_badger.specs.State.{StateOf, key_gen_for, joined_with, joined}
use Rattle.process_output.specs.Process.{processed}
use Rattle.agreement.specs.Calls.{batch_call, run, answers}
use Rattle.agreement.specs.Witness.{calls_before, add_batch, opened, added, add_report, joiner_report, plan_buffer, key_set, plan_length, joiner_batch, joiner_opened}
use Rattle.agreement.proofs.WitnessSteps.{added_reported, joiner_reported}
use Rattle.agreement.proofs.WitnessCalls.{before_leads}

-- the batch that the plan is of is reported
pub reported : processed base (run base opened calls_before) add_batch ≡ record { state = added; answer = done add_report }
reported = ap (λ (s : StateOf). processed base s add_batch) before_leads.1 ∙ added_reported

-- `join_plan` wrote its plan, and joining accepts it: the map is in progress, so a part is due
pub plan_answered_lem : plan_answered base plan_buffer add_report.batch key_set ≡ done (found plan_length)
unfolding plan_answered plan_said plan_bytes state_bytes change_bytes map_bytes node_bytes params_bytes strategy_bytes schedule_bytes bytes_of
plan_answered_lem = refl

pub plan_joined : joined base base.due 2 12 (take plan_length (plan_left base plan_buffer add_report.batch key_set)) ≡ done (record { state = joiner_opened; due = record { kind = Part; era = 9 } ∷ [] })
unfolding joined join_checked join_plan join_row8 join_row9 join_row10 joined_with key_gen_for is_member whole read_plan read_state read_change read_map counted items read_node read_params read_strategy read_schedule read_num le plan_left plan_written plan_bytes state_bytes change_bytes map_bytes node_bytes params_bytes strategy_bytes schedule_bytes bytes_of
plan_joined = refl

-- the batch behind it is reported to the joiner: key generation completes
pub batch_behind : answers base joiner_opened (batch_call joiner_batch ∷ []) ≡ done (record { batch = joiner_report.batch; faults = [] }) ∷ []
unfolding answers filter
batch_behind = rw joiner_reported
