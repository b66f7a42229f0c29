-- What is decided on small parts of the state, for every state that has these parts: of own votes, and of received messages.
use Rattle.std.specs.Prelude.{ℕ, ◌≡◌, List, false, leb, Some, None, Ok, Err}
use Rattle.std.specs.declared.option.Option.{Option}
use Rattle.std.specs.declared.result.Result.{Result}
use Rattle.lists.specs.Lists.{Found, found, nothing, option_as_found}
use Rattle.bincode.specs.Answer.{outcome_as_said}
use Rattle.bincode.specs.Outcome.{Outcome, done, refused}
use Rattle.bincode.specs.Sizes.{Sizes}
use Rattle.bincode.specs.declared.Refusal.{Refusal}
use Rattle.pub_key_map.specs.declared.Node.{Node}
use Rattle.fault_log.specs.declared.FaultKind.{FaultKind}
use Rattle.fault_log.specs.declared.FaultKind.TheVariants.{TooManyKeyGenMessages}
use Rattle.change.specs.declared.Change.{Change}
use Rattle.change.specs.Change.{ChangeOf, change_of}
use Rattle.votes.specs.declared.SignedVote.{SignedVote}
use Rattle.votes.specs.Votes.{signed_of}
use Rattle.vote_counter.specs.declared.VoteCounter.{VoteCounter}
use Rattle.vote_counter.specs.declared.VoteOutcome.{VoteOutcome}
use Rattle.vote_counter.specs.declared.VoteOutcome.TheVariants as added
use Rattle.vote_counter.specs.VoteCounter.{sign_vote_for, add_pending, counter_of}
use Rattle.key_gen_state.specs.KeyGenState as running
use Rattle.key_gen_message.specs.KeyGenMessage.{SignedKeyGenMsgOf, signed_of as key_signed}
use Rattle.message.specs.Message.{MessageContent}
use Rattle.message_store.specs.MessageStore.{row12, pushed}
use Rattle.dynamic_honey_badger.specs.declared.Task.{Task}
use Rattle.dynamic_honey_badger.specs.declared.Task.TheVariants as task
use Rattle.dynamic_honey_badger.specs.State.{StateOf, era_of, nodes_in, with_counter, with_key_gen}
use Rattle.dynamic_honey_badger.specs.OwnVotes.{VotedOf, voted_as, signed_in, said_vote, was_cast}
use Rattle.dynamic_honey_badger.specs.Received.{HandledOf, fault, received_key_gen, received_content, received, handled_as, voted_in, stored_in, said_handling}

-- what an own vote is to be for: a change or nothing; or a refusal
abbrev pub wanted_view : Option Change → Found ChangeOf
wanted_view c = option_as_found change_of c

abbrev pub wanted_of : Result (Option Change) Refusal → Outcome (Found ChangeOf)
wanted_of w = outcome_as_said wanted_view w

-- the vote that this makes
abbrev pub voted_for : Sizes → StateOf → Outcome (Found ChangeOf) → VotedOf
voted_for z s (done (found c)) = signed_in s (sign_vote_for z s.counter c)
voted_for z s (done nothing) = voted_as s (done nothing)
voted_for z s (refused n) = voted_as s (refused n)

-- it is the vote that is asked for, by a state with this map and own id
abbrev pub WantedFor : Sizes → List Node → ℕ → (StateOf → VotedOf) → Result (Option Change) Refusal → Type 0
WantedFor z ns id asked w = (s : StateOf) → nodes_in s ≡ ns → s.counter.our_id ≡ id → voted_for z s (wanted_of w) ≡ asked s

-- what signing a vote says of casting it
abbrev pub signed_as : Result SignedVote Refusal → Result (Option SignedVote) Refusal
signed_as (Ok v) = Ok (Some v)
signed_as (Err r) = Err r

-- a vote cast on the counter alone, for a state with this counter: the counter before and after, and the answer
abbrev pub CastFor : Sizes → VoteCounter → Result (Option Change) Refusal → VoteCounter → Result (Option SignedVote) Refusal → Type 0
CastFor z c w k o = (s : StateOf) → s.counter ≡ counter_of c → voted_as (with_counter s (counter_of k)) (said_vote o) ≡ voted_for z s (wanted_of w)

-- where none was cast stands the very counter that was given
abbrev pub UncastKeeps : Result (Option SignedVote) Refusal → VoteCounter → VoteCounter → Type 0
UncastKeeps o k c = was_cast o ≡ false → k ≡ c

-- what adding a received vote says of its message
abbrev pub added_as : VoteOutcome → Result (Option FaultKind) Refusal
added_as added.Stored = Ok None
added_as added.Nothing = Ok None
added_as (added.Faulty k) = Ok (Some k)

-- a state with this map and key generation, and a store that is full where this many are held
abbrev pub PartsOf : Sizes → StateOf → List Node → Found running.KeyGenStateOf → ℕ → Type 0
PartsOf z s ns g held = (nodes_in s ≡ ns) × (s.key_gen ≡ g) × (row12 z s.store ≡ leb z.store held)

-- what each task says of what a message does; only where nothing changes may it be refused
abbrev pub JudgedAs : Sizes → StateOf → HandledOf → Task → Type 0
JudgedAs z s h (task.Answer o) = h ≡ handled_as s (said_handling o)
JudgedAs z s h (task.Vote v) = h ≡ voted_in s (add_pending z s.counter (signed_of v))
JudgedAs z s h (task.Count g) = h ≡ handled_as (with_key_gen s (found (running.running_of g))) (fault TooManyKeyGenMessages)
JudgedAs z s h (task.Store g m) =
    (row12 z s.store ≡ false) × (h ≡ stored_in s (with_key_gen s (found (running.running_of g))) (pushed z s.store (key_signed m)))

-- what is judged of a key message, for a state with these parts
abbrev pub JudgedKey : Sizes → List Node → Found running.KeyGenStateOf → ℕ → SignedKeyGenMsgOf → Task → Type 0
JudgedKey z ns g held m t = (s : StateOf) → PartsOf z s ns g held → JudgedAs z s (received_key_gen z s m) t

-- what is judged of a message, for a state with these parts and era
abbrev pub JudgedContent : Sizes → ℕ → List Node → Found running.KeyGenStateOf → ℕ → ℕ → MessageContent → Task → Type 0
JudgedContent z era ns g held sender m t = (s : StateOf) → era_of s ≡ era → PartsOf z s ns g held → JudgedAs z s (received_content z s sender m) t

-- the same of a message as bytes
abbrev pub JudgedRead : Sizes → ℕ → List Node → Found running.KeyGenStateOf → ℕ → ℕ → List ℕ → Task → Type 0
JudgedRead z era ns g held sender bytes t = (s : StateOf) → era_of s ≡ era → PartsOf z s ns g held → JudgedAs z s (received z s sender bytes) t
