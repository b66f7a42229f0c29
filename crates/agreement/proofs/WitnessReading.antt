-- What the witnesses' bytes are read as, and that they are bytes.
-- Assumes nothing.
use Prim.Native.Nat.{ℕ, zero, suc}
use mathlib.Core.Path.{◌≡◌, refl}
use mathlib.Core.List.{List, [], ◌∷◌}
use mathlib.Core.Bool.{Bool, true, ◌&&◌}
use lib.Dec.{ltb, lit<}
use lib.ListN.{length}
use borrow.Author.Tests.{ltb-true}
use Rattle.lists.proofs.ListLaws.{and_both}
use Rattle.bincode.specs.Read.{value, whole}
use Rattle.bincode.specs.Numbers.{le, bytes_of, read_num, fixed}
use Rattle.bincode.specs.Items.{items, counted}
use Rattle.bincode.specs.Sizes.{base}
use Rattle.bincode.specs.Stands.{Bytes}
use Rattle.pub_key_map.specs.PubKeyMap.{read_node, read_map, node_bytes, map_bytes}
use Rattle.honey_badger.specs.EncryptionSchedule.{read_schedule, schedule_bytes}
use Rattle.params.specs.Params.{read_strategy, strategy_bytes, read_params, params_bytes}
use Rattle.change.specs.Change.{read_change, change_bytes}
use Rattle.votes.specs.Votes.{read_vote, vote_bytes, read_signed_vote, signed_bytes}
use Rattle.sync_key_gen.specs.SyncKeyGen.{read_handles, handles_bytes, read_part, read_ack}
use Rattle.key_gen_message.specs.KeyGenMessage as message
use Rattle.key_gen_message.specs.KeyGenMessage.{read_key_gen_message, tagged_bytes, message_bytes, read_signed_key_gen_msg}
use Rattle.message.specs.Message.{content_bytes}
use Rattle.internal_contrib.specs.InternalContrib.{read_user, read_messages, read_votes, read_contrib, spending, read_contribs, read_batch, user_bytes, messages_bytes, votes_bytes, contrib_bytes, batch_bytes}
use Rattle.agreement.specs.Witness.{alone, params, adding, completing, schedule_asked, part_due, part_sent, vote_sent}

-- a list of numbers below 256 is one of bytes
abbrev pub below256 : List ℕ → Bool
below256 [] = true
below256 (b ∷ bs) = ltb b 256 && below256 bs

pub bytes_are : (s : List ℕ) → below256 s ≡ true → Bytes s
bytes_are [] e i = lit< tt
bytes_are (b ∷ bs) e zero = ltb-true b 256 (and_both (ltb b 256) (below256 bs) e).0
bytes_are (b ∷ bs) e (suc i) = bytes_are bs (and_both (ltb b 256) (below256 bs) e).1 i

-- the giver's map and parameters
pub map_bytes_lem : Bytes (map_bytes fixed alone)
unfolding map_bytes node_bytes bytes_of
map_bytes_lem = bytes_are (map_bytes fixed alone) refl

pub params_bytes_lem : Bytes (params_bytes fixed params)
unfolding params_bytes strategy_bytes schedule_bytes bytes_of
params_bytes_lem = bytes_are (params_bytes fixed params) refl

pub map_read : whole (read_map fixed base (map_bytes fixed alone)) (map_bytes fixed alone) ≡ value alone 20
unfolding whole read_map counted items read_node read_num le map_bytes node_bytes bytes_of
map_read = refl

pub params_read : whole (read_params fixed (params_bytes fixed params)) (params_bytes fixed params) ≡ value params 16
unfolding whole read_params read_strategy read_schedule read_num le params_bytes strategy_bytes schedule_bytes bytes_of
params_read = refl

-- a change, and messages
pub asked_bytes : Bytes schedule_asked
unfolding change_bytes schedule_bytes bytes_of
asked_bytes = bytes_are schedule_asked refl

pub part_due_bytes : Bytes part_due
unfolding content_bytes message_bytes tagged_bytes handles_bytes bytes_of
part_due_bytes = bytes_are part_due refl

pub part_sent_bytes : Bytes part_sent
unfolding content_bytes message_bytes tagged_bytes handles_bytes bytes_of
part_sent_bytes = bytes_are part_sent refl

pub vote_sent_bytes : Bytes vote_sent
unfolding content_bytes signed_bytes vote_bytes change_bytes schedule_bytes bytes_of
vote_sent_bytes = bytes_are vote_sent refl

-- the batches
pub adding_bytes : Bytes (batch_bytes (adding ∷ []))
unfolding batch_bytes contrib_bytes user_bytes messages_bytes votes_bytes signed_bytes vote_bytes change_bytes map_bytes node_bytes bytes_of
adding_bytes = bytes_are (batch_bytes (adding ∷ [])) refl

pub adding_read : read_batch base (batch_bytes (adding ∷ [])) ≡ value (adding ∷ []) (length (batch_bytes (adding ∷ [])))
unfolding read_batch whole read_contribs counted items read_contrib read_user read_messages read_votes read_signed_vote read_vote read_change read_map read_node read_num le spending batch_bytes contrib_bytes user_bytes messages_bytes votes_bytes signed_bytes vote_bytes change_bytes map_bytes node_bytes bytes_of
adding_read = refl

pub completing_bytes : Bytes (batch_bytes (completing ∷ []))
unfolding batch_bytes contrib_bytes user_bytes messages_bytes votes_bytes signed_bytes vote_bytes change_bytes schedule_bytes message.signed_bytes message_bytes tagged_bytes handles_bytes bytes_of
completing_bytes = bytes_are (batch_bytes (completing ∷ [])) refl

pub completing_read : read_batch base (batch_bytes (completing ∷ [])) ≡ value (completing ∷ []) (length (batch_bytes (completing ∷ [])))
unfolding read_batch whole read_contribs counted items read_contrib read_user read_messages read_signed_key_gen_msg read_key_gen_message read_part read_ack read_handles read_votes read_signed_vote read_vote read_change read_schedule read_num le spending batch_bytes contrib_bytes user_bytes messages_bytes votes_bytes signed_bytes vote_bytes change_bytes schedule_bytes message.signed_bytes message_bytes tagged_bytes handles_bytes bytes_of
completing_read = refl
