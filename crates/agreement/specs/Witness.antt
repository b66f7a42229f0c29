-- Values that meet every hypothesis of the claims, so that none is one that nobody meets: a node that is alone votes to add another one, that one joins by the
-- plan, key generation runs to its end. Each kind of call occurs.
use Rattle.std.specs.Prelude.{ℕ, ◌+◌, ◌-◌, List, [], ◌∷◌, ◌++◌, replicate}
use Rattle.lists.specs.Lists.{Found, found, nothing}
use Rattle.bincode.specs.Numbers.{fixed}
use Rattle.bincode.specs.Sizes.{base}
use Rattle.pub_key_map.specs.declared.Node.{Node}
use Rattle.pub_key_map.specs.PubKeyMap.{map_bytes}
use Rattle.fault_log.specs.declared.FaultKind.TheVariants.{SyncKeyGenAck}
use Rattle.fault_log.specs.declared.Fault.{Fault}
use Rattle.fault_log.specs.declared.AckFault.TheVariants.{ValueCommitment}
use Rattle.due.specs.declared.DueKind.TheVariants.{Part, Ack}
use Rattle.honey_badger.specs.declared.EncryptionSchedule.TheVariants.{Always, Never}
use Rattle.params.specs.declared.SubsetHandlingStrategy.TheVariants.{Incremental}
use Rattle.params.specs.declared.Params.{Params}
use Rattle.params.specs.Params.{params_bytes}
use Rattle.change.specs.Change.{ChangeOf, node_change, encryption_schedule, in_progress, complete, change_bytes}
use Rattle.votes.specs.Votes.{SignedVoteOf}
use Rattle.key_gen_state.specs.KeyGenState.{KeyGenStateOf}
use Rattle.key_gen_message.specs.KeyGenMessage.{KeyGenMessageOf, part, ack, SignedKeyGenMsgOf}
use Rattle.message.specs.Message.{key_gen, signed_vote, content_bytes}
use Rattle.recipe.specs.Recipe.{RecipeOf, share, missing}
use Rattle.internal_contrib.specs.InternalContrib.{ContribOf, batch_bytes}
use Rattle.dynamic_honey_badger.specs.State.{StateOf, Stamp, fresh_key_gen}
use Rattle.process_output.specs.Process.{BatchCall, ReportOf}
use Rattle.agreement.specs.Calls.{Call, batch_call, vote_call, add_call, remove_call, message_call, due_call, Start, new_start}

-- the giver is alone in its map, so f is 0 and its vote decides; the joiner is the node that it adds
abbrev pub giver : Node
giver = record { id = 1; key = 11 }

abbrev pub joiner : Node
joiner = record { id = 2; key = 12 }

abbrev pub alone : List Node
alone = giver ∷ []

abbrev pub both : List Node
both = giver ∷ joiner ∷ []

abbrev pub params : Params
params = record { max_future_epochs = 3; subset_handling_strategy = Incremental; encryption_schedule = Always }

abbrev pub giver_start : Start
giver_start = new_start 1 11 5 (map_bytes fixed alone) (params_bytes fixed params)

-- a node's vote, and its key message of era 9: a part with two rows, or an ack of the part of the proposer with an index
abbrev pub vote_of : Node → ℕ → ℕ → ChangeOf → SignedVoteOf
vote_of n era num c = record { vote = record { change = c; era = era; num = num }; voter = n.id; sig = n.key }

abbrev pub part_with : ℕ → KeyGenMessageOf
part_with commit = part (record { commit = commit; rows = 31 ∷ 32 ∷ [] })

abbrev pub ack_for : ℕ → KeyGenMessageOf
ack_for i = ack (record { proposer = i; values = 41 ∷ 42 ∷ [] })

abbrev pub signed : Node → KeyGenMessageOf → SignedKeyGenMsgOf
signed n m = record { era = 9; id = n.id; message = m; sig = n.key }

-- the votes: the giver's for a schedule, for a node more and, in era 12, for a node less; the joiner's
abbrev pub schedule : ChangeOf
schedule = encryption_schedule Never

abbrev pub schedule_vote : SignedVoteOf
schedule_vote = vote_of giver 5 0 schedule

abbrev pub add_vote : SignedVoteOf
add_vote = vote_of giver 5 1 (node_change both)

abbrev pub remove_vote : SignedVoteOf
remove_vote = vote_of giver 12 0 (node_change alone)

abbrev pub joiner_vote : SignedVoteOf
joiner_vote = vote_of joiner 12 0 schedule

-- the giver's contributions: the vote for a node more; then a vote, the parts of both, and the giver's acks of them
abbrev pub adding : ContribOf
adding = record { id = 1; user = 7 ∷ 8 ∷ []; messages = []; votes = add_vote ∷ [] }

abbrev pub key_messages : List SignedKeyGenMsgOf
key_messages = signed giver (part_with 21) ∷ signed joiner (part_with 22) ∷ signed giver (ack_for 0) ∷ signed giver (ack_for 1) ∷ []

abbrev pub completing : ContribOf
completing = record { id = 1; user = []; messages = key_messages; votes = vote_of giver 9 0 schedule ∷ [] }

-- the bytes of the calls
abbrev pub schedule_asked : List ℕ
schedule_asked = change_bytes fixed schedule

abbrev pub part_due : List ℕ
part_due = content_bytes (key_gen 9 (part_with 21) 11)

abbrev pub part_sent : List ℕ
part_sent = content_bytes (key_gen 9 (part_with 22) 12)

abbrev pub vote_sent : List ℕ
vote_sent = content_bytes (signed_vote joiner_vote)

-- a batch of one contribution, with its era and inner epoch, a node's own verdicts and lists of full length
abbrev pub batch_of : ℕ → ℕ → ContribOf → List ℕ → BatchCall
batch_of era inner c verdicts = record { era = era; inner = inner; bytes = batch_bytes (c ∷ []); verdicts = verdicts; fault_places = base.faults; due_places = base.due }

abbrev pub add_batch : BatchCall
add_batch = batch_of 5 3 adding []

abbrev pub complete_batch : BatchCall
complete_batch = batch_of 9 2 completing (0 ∷ 0 ∷ 0 ∷ 0 ∷ [])

-- every kind of call: own votes for a schedule and for a node more, and the batch that the joiner's plan is of; then the own part handed back and the joiner's
-- received, the batch with vote and key messages, an own vote for a node less, and the joiner's vote received
abbrev pub calls_before : List Call
calls_before = vote_call schedule_asked ∷ add_call 2 12 ∷ []

abbrev pub calls_after : List Call
calls_after = due_call part_due ∷ message_call 2 part_sent ∷ batch_call complete_batch ∷ remove_call 2 ∷ message_call 2 vote_sent ∷ []

abbrev pub every_call : List Call
every_call = calls_before ++ (batch_call add_batch ∷ calls_after)

-- 02, CR 1: a batch that was agreed in era 5 and comes only after the one that closed it
abbrev pub late_batch : BatchCall
late_batch = batch_of 5 4 adding []

-- the last report: none; of the first batch, and of the second, each with the era that it met
abbrev pub add_stamp : Found Stamp
add_stamp = found (record { epoch = 8; era = 5 })

abbrev pub complete_stamp : Found Stamp
complete_stamp = found (record { epoch = 11; era = 9 })

-- a node's state in this story: no committed vote is left behind a batch
abbrev pub state_of : Node → ℕ → List Node → List SignedVoteOf → Found KeyGenStateOf → List SignedKeyGenMsgOf → Found Stamp → StateOf
state_of n era ns pending g ms l =
    record {
      counter = record { our_id = n.id; our_key = n.key; nodes = ns; era = era; pending = pending; committed = []; board = [] };
      params = params;
      key_gen = g;
      store = ms;
      last = l;
    }

-- the giver's key generation: fresh, and with the joiner counted at its place
abbrev pub fresh : KeyGenStateOf
fresh = fresh_key_gen base 1 both

abbrev pub counted : KeyGenStateOf
counted = record { key_gen = fresh.key_gen; counts = 0 ∷ 1 ∷ replicate (base.nodes + base.nodes - 2) 0 }

-- the giver's state: opened; after each own vote; after the first batch; after each part; after the second batch; after each vote
abbrev pub opened : StateOf
opened = state_of giver 5 alone [] nothing [] nothing

abbrev pub asked : StateOf
asked = state_of giver 5 alone (schedule_vote ∷ []) nothing [] nothing

abbrev pub voted : StateOf
voted = state_of giver 5 alone (add_vote ∷ []) nothing [] nothing

abbrev pub added : StateOf
added = state_of giver 9 alone [] (found fresh) [] add_stamp

abbrev pub returned_one : StateOf
returned_one = state_of giver 9 alone [] (found fresh) (signed giver (part_with 21) ∷ []) add_stamp

abbrev pub stored_both : StateOf
stored_both = state_of giver 9 alone [] (found counted) (signed giver (part_with 21) ∷ signed joiner (part_with 22) ∷ []) add_stamp

abbrev pub completed : StateOf
completed = state_of giver 12 both [] nothing [] complete_stamp

abbrev pub removing : StateOf
removing = state_of giver 12 both (remove_vote ∷ []) nothing [] complete_stamp

abbrev pub ended : StateOf
ended = state_of giver 12 both (remove_vote ∷ joiner_vote ∷ []) nothing [] complete_stamp

-- what the batches report, to the giver and to the joiner: a map in progress; the map complete. The joiner's own verdict says that a value of the giver does not
-- fit its commitment.
abbrev pub add_report : ReportOf
add_report =
    record {
      batch = record { epoch = 8; era = 5; change = in_progress (node_change both); keys = alone; params = params; voters = 1 ∷ [] };
      faults = [];
      due = record { kind = Part; era = 9 } ∷ [];
      recipe = nothing;
    }

abbrev pub complete_report : List Fault → RecipeOf → ReportOf
complete_report faults recipe =
    record {
      batch = record { epoch = 11; era = 9; change = complete (node_change both); keys = both; params = params; voters = [] };
      faults = faults;
      due = record { kind = Ack 0; era = 9 } ∷ record { kind = Ack 1; era = 9 } ∷ [];
      recipe = found recipe;
    }

abbrev pub giver_report : ReportOf
giver_report = complete_report [] (share (record { proposer = 0; used = 0 ∷ [] } ∷ record { proposer = 1; used = 0 ∷ [] } ∷ []))

abbrev pub joiner_report : ReportOf
joiner_report = complete_report (record { node_id = 1; kind = SyncKeyGenAck ValueCommitment } ∷ []) (missing (0 ∷ 1 ∷ []))

-- the joiner: the buffer lent for its plan, the key set, the plan's length, the second batch with its own verdicts, and its states
abbrev pub plan_buffer : List ℕ
plan_buffer = replicate base.plan 0

abbrev pub key_set : ℕ
key_set = 51

abbrev pub plan_length : ℕ
plan_length = 92

abbrev pub joiner_batch : BatchCall
joiner_batch = batch_of 9 2 completing (0 ∷ 0 ∷ 3 ∷ 0 ∷ [])

abbrev pub joiner_opened : StateOf
joiner_opened = state_of joiner 9 alone [] (found (fresh_key_gen base 2 both)) [] nothing

abbrev pub joiner_completed : StateOf
joiner_completed = state_of joiner 12 both [] nothing [] complete_stamp

-- an observer: it starts with the giver's map, is not in it, and is given both batches
abbrev pub observer_opened : StateOf
observer_opened = state_of (record { id = 3; key = 13 }) 5 alone [] nothing [] nothing

abbrev pub observer_calls : List Call
observer_calls = batch_call add_batch ∷ batch_call joiner_batch ∷ []

-- one that is slow: between the two it is handed a batch of the era that the first one closed
abbrev pub slow_calls : List Call
slow_calls = batch_call add_batch ∷ batch_call late_batch ∷ batch_call joiner_batch ∷ []
