-- 01: received messages. 2 and 3; then era, signature, running key generation, count, store.
use Rattle.std.specs.Prelude.{ℕ, ◌+◌, ◌≡◌, List, cond, ltb, eqb, Some, None, Ok, Err}
use Rattle.std.specs.declared.option.Option.{Option}
use Rattle.std.specs.declared.result.Result.{Result}
use Rattle.lists.specs.Lists.{Found, found, nothing}
use Rattle.bincode.specs.Read.{Read, value, refuse, bind, whole}
use Rattle.bincode.specs.Outcome.{Outcome, done, refused}
use Rattle.bincode.specs.Numbers.{read_num}
use Rattle.bincode.specs.Rows.{row_number}
use Rattle.bincode.specs.Sizes.{Sizes}
use Rattle.bincode.specs.declared.Refusal.{Refusal}
use Rattle.fault_log.specs.declared.FaultKind.{FaultKind}
use Rattle.fault_log.specs.declared.FaultKind.TheVariants.{UnexpectedDhbMessageEra, InvalidKeyGenMessageSignature, UnexpectedKeyGenMessage, TooManyKeyGenMessages}
use Rattle.vote_counter.specs.VoteCounter as counter
use Rattle.key_gen.specs.KeyGen.{node_count}
use Rattle.key_gen_state.specs.KeyGenState.{KeyGenStateOf, CountedOf, count_messages}
use Rattle.key_gen_message.specs.KeyGenMessage.{KeyGenMessageOf, SignedKeyGenMsgOf}
use Rattle.message.specs.Message.{MessageContent, key_gen, signed_vote, read_message, read_key_gen}
use Rattle.message_store.specs.MessageStore.{pushed}
use Rattle.dynamic_honey_badger.specs.State.{StateOf, era_of, nodes_in, with_counter, with_key_gen, with_store, is_validator, valid_signature, state_of}
use Rattle.dynamic_honey_badger.specs.declared.DynamicHoneyBadger.{DynamicHoneyBadger}
use Rattle.dynamic_honey_badger.specs.declared.Handled.{Handled}

-- what a message does: nothing to tell, a fault of the sender, or a refusal
pub data MessageEffect : Type 0 where
  quiet : MessageEffect
  fault : FaultKind → MessageEffect
  refusal : ℕ → MessageEffect

pub record HandledOf : Type 0 where
  pub state : StateOf
  pub effect : MessageEffect

abbrev pub handled_as : StateOf → MessageEffect → HandledOf
handled_as s e = record { state = s; effect = e }

-- a received vote is the counter's
abbrev pub vote_effect : counter.VoteEffect → MessageEffect
vote_effect counter.stored = quiet
vote_effect counter.nothing_new = quiet
vote_effect (counter.fault k) = fault k

abbrev pub voted_in : StateOf → counter.Added → HandledOf
voted_in s a = handled_as (with_counter s a.counter) (vote_effect a.effect)

-- a key message of a sender, behind those held; row 12 leaves everything as given, the sender's count too
abbrev pub stored_in : StateOf → StateOf → Outcome (List SignedKeyGenMsgOf) → HandledOf
stored_in s t (done ms) = handled_as (with_store t ms) quiet
stored_in s t (refused n) = handled_as s (refusal n)

-- more than n+1 messages of one sender are too many, also where the store is full
abbrev pub counted_in : Sizes → StateOf → SignedKeyGenMsgOf → ℕ → CountedOf → HandledOf
counted_in z s m n c =
    cond (ltb (n + 1) c.count)
    (handled_as (with_key_gen s (found c.state)) (fault TooManyKeyGenMessages))
    (stored_in s (with_key_gen s (found c.state)) (pushed z s.store m))

abbrev pub key_gen_in : Sizes → StateOf → SignedKeyGenMsgOf → Found KeyGenStateOf → HandledOf
key_gen_in z s m nothing = handled_as s (fault UnexpectedKeyGenMessage)
key_gen_in z s m (found g) = counted_in z s m (node_count g.key_gen) (count_messages z (nodes_in s) g m.id)

unfoldable pub received_key_gen : Sizes → StateOf → SignedKeyGenMsgOf → HandledOf
received_key_gen z s m =
    cond (valid_signature s m.id m.sig) (key_gen_in z s m s.key_gen) (handled_as s (fault InvalidKeyGenMessageSignature))

-- era first: a later one is a fault, an earlier one is nothing
abbrev pub message_era : MessageContent → ℕ
message_era (key_gen era m sig) = era
message_era (signed_vote v) = v.vote.era

abbrev pub signed_by : ℕ → ℕ → KeyGenMessageOf → ℕ → SignedKeyGenMsgOf
signed_by era id m sig = record { era = era; id = id; message = m; sig = sig }

abbrev pub received_now : Sizes → StateOf → ℕ → MessageContent → HandledOf
received_now z s sender (key_gen era m sig) = received_key_gen z s (signed_by era sender m sig)
received_now z s sender (signed_vote v) = voted_in s (counter.add_pending z s.counter v)

unfoldable pub received_content : Sizes → StateOf → ℕ → MessageContent → HandledOf
received_content z s sender m =
    cond (ltb (era_of s) (message_era m)) (handled_as s (fault UnexpectedDhbMessageEra))
    (cond (ltb (message_era m) (era_of s)) (handled_as s quiet)
    (received_now z s sender m))

abbrev pub received_read : Sizes → StateOf → ℕ → Read MessageContent → HandledOf
received_read z s sender (value m c) = received_content z s sender m
received_read z s sender (refuse n) = handled_as s (refusal n)

unfoldable pub received : Sizes → StateOf → ℕ → List ℕ → HandledOf
received z s sender bytes = received_read z s sender (whole (read_message z bytes) bytes)

-- a due item handed back: `Message::KeyGen` bytes (another tag is 2), stored under the own id, its signature unchecked; one of another era, or made by a
-- non-validator, is dropped
unfoldable pub read_due_item : Sizes → List ℕ → ℕ → Read MessageContent
read_due_item z s at = bind (read_num 4 s at) λ tag c. cond (eqb tag 1) (read_key_gen z s c) (refuse 2)

unfoldable pub returned_key_gen : Sizes → StateOf → SignedKeyGenMsgOf → HandledOf
returned_key_gen z s m =
    cond (eqb m.era (era_of s))
    (cond (is_validator s) (stored_in s s (pushed z s.store m)) (handled_as s quiet))
    (handled_as s quiet)

abbrev pub returned_read : Sizes → StateOf → Read MessageContent → HandledOf
returned_read z s (value (key_gen era m sig) c) = returned_key_gen z s (signed_by era s.counter.our_id m sig)
returned_read z s (value (signed_vote v) c) = handled_as s (refusal 2)
returned_read z s (refuse n) = handled_as s (refusal n)

unfoldable pub returned : Sizes → StateOf → List ℕ → HandledOf
returned z s bytes = returned_read z s (whole (read_due_item z bytes) bytes)

-- the answer as code gives it
abbrev pub said_handling : Result (Option FaultKind) Refusal → MessageEffect
said_handling (Ok None) = quiet
said_handling (Ok (Some k)) = fault k
said_handling (Err r) = refusal (row_number r)

abbrev pub handled_of : Handled → HandledOf
handled_of r = handled_as (state_of r.state) (said_handling r.outcome)

-- a refusal hands back the very state that was given, places that do not count included
abbrev pub MessageRefusedKeeps : Handled → DynamicHoneyBadger → Type 0
MessageRefusedKeeps r s = (n : Refusal) → r.outcome ≡ Err n → r.state ≡ s
