-- What each call of the witnesses comes to: its answer, and the state that it leaves.
-- Assumes nothing.
use mathlib.Core.Path.{◌≡◌, refl, ap}
use Rattle.lists.specs.Lists.{found, eq_list, filter, lookup, insert, has_key, insert_within}
use Rattle.bincode.specs.Read.{whole}
use Rattle.bincode.specs.Outcome.{done}
use Rattle.bincode.specs.Numbers.{le, bytes_of, read_num, fixed}
use Rattle.bincode.specs.Items.{items, counted}
use Rattle.bincode.specs.Sizes.{base}
use Rattle.pub_key_map.specs.PubKeyMap.{same_node, map_bytes}
use Rattle.params.specs.Params.{params_bytes}
use Rattle.network_info.specs.NetworkInfo.{index_from, key_of, is_member}
use Rattle.util.specs.MaxFaulty.{max_faulty}
use Rattle.honey_badger.specs.EncryptionSchedule.{read_schedule, schedule_bytes}
use Rattle.change.specs.Change.{same_change, read_change, change_bytes}
use Rattle.votes.specs.Votes.{read_vote, vote_bytes, read_signed_vote, signed_bytes}
use Rattle.winner.specs.Support.{support, supporters}
use Rattle.winner.specs.Winner.{passing, foremost, winner}
use Rattle.vote_counter.specs.VoteCounter.{obsolete, valid_vote, vote_effect, add_committed, pending_effect, add_pending, sign_vote_for, compute_winner, supporters_of, carried}
use Rattle.sync_key_gen.specs.SyncKeyGen.{read_handles, handles_bytes, read_part}
use Rattle.key_gen.specs.KeyGen.{row_effect, value_effect, record_part, part_of_index, handle_part, acked, record_ack, ack_of_index, handle_ack, complete, count_complete, enough, ready}
use Rattle.key_gen_state.specs.KeyGenState.{sender_place, count_messages}
use Rattle.recipe.specs.Recipe.{some_short, recipe}
use Rattle.key_gen_message.specs.KeyGenMessage.{same_headed, same_message, same_signed, read_key_gen_message, tagged_bytes, message_bytes}
use Rattle.message.specs.Message as message
use Rattle.message.specs.Message.{read_key_gen, read_message, content_bytes}
use Rattle.message_store.specs.MessageStore.{row12, pushed, without, from_era}
use Rattle.node_change.specs.NodeChange.{row13, with_node, without_node}
use Rattle.joining.specs.Starting.{start_map, start_checked}
use Rattle.internal_contrib.specs.Places.{message_count}
use Rattle.dynamic_honey_badger.specs.Asked.{row5}
use Rattle.dynamic_honey_badger.specs.State.{valid_under, new_era, key_gen_for, started}
use Rattle.dynamic_honey_badger.specs.OwnVotes.{vote_for, vote_for_bytes, vote_to_add, vote_to_remove}
use Rattle.dynamic_honey_badger.specs.Received.{quiet, received_key_gen, received_content, received, read_due_item, returned_key_gen, returned}
use Rattle.steps.specs.Steps.{committed_vote, message_done, committed_message, committed_contrib, committed}
use Rattle.decision.specs.Decision.{map_wins, decide, empty_wins}
use Rattle.process_output.specs.Refusals.{some, batch_row1, batch_row4, batch_row15, batch_row7}
use Rattle.process_output.specs.Process.{denied, processed_contribs, processed_read, processed}
use Rattle.agreement.specs.Calls.{start_state}
use Rattle.agreement.specs.Witness.{alone, params, giver_start, schedule_vote, add_vote, remove_vote, schedule_asked, part_due, part_sent, vote_sent, add_batch, late_batch, complete_batch, opened, asked, voted, added, returned_one, stored_both, completed, removing, ended, add_report, giver_report, joiner_report, joiner_batch, joiner_opened, joiner_completed, observer_opened}
use Rattle.agreement.proofs.WitnessReading.{map_read, params_read, adding_read, completing_read}

-- the giver's start is accepted, and so is that of an observer with the same map
pub starts : start_state base giver_start ≡ done opened
unfolding started start_checked start_map
starts = rw (map_read, params_read)

pub observer_starts : started base 3 13 5 (map_bytes fixed alone) (params_bytes fixed params) ≡ done observer_opened
unfolding started start_checked start_map
observer_starts = rw (map_read, params_read)

-- own votes: for a schedule; then, in its place, for a node more
pub schedule_cast : vote_for_bytes base opened schedule_asked ≡ record { state = asked; answer = done (found schedule_vote) }
unfolding vote_for_bytes whole read_change read_schedule read_num le change_bytes schedule_bytes bytes_of vote_for is_member sign_vote_for lookup insert_within has_key insert
schedule_cast = refl

pub add_cast : vote_to_add base asked 2 12 ≡ record { state = voted; answer = done (found add_vote) }
unfolding vote_to_add is_member row13 with_node vote_for sign_vote_for lookup insert_within has_key insert
add_cast = refl

-- the first batch: the vote wins, a new era begins, key generation starts
pub added_reported : processed base voted add_batch ≡ record { state = added; answer = done add_report }
unfolding processed batch_row1 processed_contribs batch_row4 message_count some batch_row15 row5 batch_row7 empty_wins committed committed_contrib committed_vote add_committed vote_effect obsolete lookup valid_vote key_of insert_within has_key insert is_member carried supporters_of supporters compute_winner winner passing foremost support same_change eq_list same_node max_faulty decide map_wins key_gen_for new_era from_era filter
added_reported = ap (processed_read base voted add_batch) adding_read

-- 02, CR 1: behind it a batch of the closed era is refused by 15
pub late_refused : processed base added late_batch ≡ denied added 15
unfolding processed batch_row1 processed_contribs batch_row4 message_count some batch_row15
late_refused = ap (processed_read base added late_batch) adding_read

-- the own part handed back, and the joiner's received: both are stored, and the joiner is counted
pub part_returned : returned base added part_due ≡ record { state = returned_one; effect = quiet }
unfolding returned whole read_due_item read_key_gen read_key_gen_message read_part read_handles counted items read_num le content_bytes message_bytes tagged_bytes handles_bytes bytes_of returned_key_gen is_member pushed row12
part_returned = refl

pub part_received : received base returned_one 2 part_sent ≡ record { state = stored_both; effect = quiet }
unfolding received whole read_message read_key_gen read_key_gen_message read_part read_handles counted items read_num le content_bytes message_bytes tagged_bytes handles_bytes bytes_of received_content received_key_gen valid_under key_of count_messages sender_place index_from pushed row12
part_received = refl

-- the second batch: key generation is ready, so the vote in it does not decide
pub completed_reported : processed base stored_both complete_batch ≡ record { state = completed; answer = done giver_report }
unfolding processed batch_row1 processed_contribs batch_row4 message_count some batch_row15 row5 valid_under key_of is_member batch_row7 empty_wins committed committed_contrib committed_vote add_committed vote_effect obsolete lookup valid_vote insert_within has_key insert committed_message message_done handle_part index_from part_of_index record_part row_effect handle_ack ack_of_index record_ack acked value_effect without filter same_signed same_message same_headed eq_list ready enough count_complete complete max_faulty decide recipe some_short new_era from_era
completed_reported = ap (processed_read base stored_both complete_batch) completing_read

-- an own vote for a node less, and the joiner's vote received
pub remove_cast : vote_to_remove base completed 2 ≡ record { state = removing; answer = done (found remove_vote) }
unfolding vote_to_remove without_node filter vote_for is_member sign_vote_for lookup insert_within has_key insert
remove_cast = refl

pub vote_received : received base removing 2 vote_sent ≡ record { state = ended; effect = quiet }
unfolding received whole read_message message.read_vote read_signed_vote read_vote read_change read_schedule read_num le content_bytes signed_bytes vote_bytes change_bytes schedule_bytes bytes_of received_content add_pending pending_effect obsolete lookup valid_vote key_of insert_within has_key insert
vote_received = refl

-- the second batch at the joiner, with its own verdicts
pub joiner_reported : processed base joiner_opened joiner_batch ≡ record { state = joiner_completed; answer = done joiner_report }
unfolding processed batch_row1 processed_contribs batch_row4 message_count some batch_row15 row5 valid_under key_of is_member batch_row7 empty_wins committed committed_contrib committed_vote add_committed vote_effect obsolete lookup valid_vote insert_within has_key insert committed_message message_done handle_part index_from part_of_index record_part row_effect handle_ack ack_of_index record_ack acked value_effect without filter ready enough count_complete complete max_faulty decide recipe some_short new_era from_era
joiner_reported = ap (processed_read base joiner_opened joiner_batch) completing_read
