-- Every row of the table holds of the definitions.
-- Assumes nothing.
use mathlib.Core.Path.{refl}
use Rattle.lists.specs.Lists.{eq_list, filter, lookup, insert, has_key, insert_within}
use Rattle.pub_key_map.specs.PubKeyMap.{same_node, read_node, read_map, node_bytes, map_bytes}
use Rattle.bincode.specs.Read.{whole}
use Rattle.bincode.specs.Numbers.{le, bytes_of, read_num, read_variable, variable_bytes}
use Rattle.bincode.specs.Items.{items, counted}
use Rattle.bincode.specs.Stands.{All}
use Rattle.util.specs.MaxFaulty.{max_faulty}
use Rattle.honey_badger.specs.EncryptionSchedule.{same_fields, row14, encrypts, use_on_epoch, read_schedule, schedule_bytes}
use Rattle.params.specs.Params.{read_strategy, strategy_bytes, read_params, params_bytes}
use Rattle.change.specs.Change.{same_change, read_change, change_bytes, read_state, state_bytes}
use Rattle.votes.specs.Votes.{vote_bytes}
use Rattle.join_plan.specs.JoinPlan.{read_plan, plan_bytes, plan_written, plan_said, plan_converted, conversion_said}
use Rattle.network_info.specs.NetworkInfo.{index_from, key_of}
use Rattle.winner.specs.Support.{support, supporters, lowest}
use Rattle.winner.specs.Board.{first_choices, placed, in_order, board}
use Rattle.reference.specs.Winner.{voters_for, ids_for, beats, unbeaten, first_unbeaten, most_support}
use Rattle.reference.specs.Step.{ref_vote, is_signed, ref_message, ref_contrib, ref_contribs, is_ready, ref_decide, ref_row7, ref_steps, ref_batch}
use Rattle.examples.specs.Rows.{Holds, rows}

pub examples : All Holds rows
unfolding rows support supporters lowest first_choices placed in_order board max_faulty filter voters_for ids_for beats unbeaten first_unbeaten most_support same_change eq_list same_node same_fields bytes_of schedule_bytes change_bytes vote_bytes row14 encrypts use_on_epoch lookup insert has_key insert_within index_from key_of ref_vote is_signed ref_message ref_contrib ref_contribs is_ready ref_decide ref_row7 ref_steps ref_batch le read_num read_variable variable_bytes counted items read_node read_map node_bytes map_bytes read_schedule read_strategy read_params strategy_bytes params_bytes read_change read_state state_bytes read_plan plan_bytes whole plan_written plan_said plan_converted conversion_said
examples =
    (refl, (refl, (refl, (refl, (refl, (refl, (refl, (refl, (refl, (refl, (refl, (refl, (refl, ((refl, refl), (refl, (refl, (refl, (refl, (refl, (refl, (refl, (refl, (refl, (refl, ((refl, refl, (refl, refl), (refl, refl)), ((refl, refl), (refl, (refl, (refl, (refl, (refl, (refl, (refl, (refl, (refl, (refl, (refl, (refl, (refl, (refl, (refl, (refl, (refl, (refl, (refl, (refl, (refl, tt)))))))))))))))))))))))))))))))))))))))))))))))
