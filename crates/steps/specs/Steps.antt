-- 01, "A batch, step by step": steps 2 to 5, with what is the node's own. (The shared part alone is the reference state's, in its own crate.)
use Rattle.std.specs.Prelude.{ℕ, List, [], ◌∷◌, ◌++◌, cond, take, eqb}
use Rattle.lists.specs.Lists.{Found, found, nothing}
use Rattle.bincode.specs.Sizes.{Sizes}
use Rattle.bincode.specs.Items.{foldl}
use Rattle.fault_log.specs.declared.FaultKind.{FaultKind}
use Rattle.fault_log.specs.declared.FaultKind.TheVariants.{InvalidKeyGenMessageSignature, InvalidKeyGenMessageEra, UnexpectedKeyGenPart, UnexpectedKeyGenAck}
use Rattle.fault_log.specs.declared.Fault.{Fault}
use Rattle.pub_key_map.specs.declared.Node.{Node}
use Rattle.due.specs.declared.DueKind.TheVariants.{Ack}
use Rattle.due.specs.declared.DueItem.{DueItem}
use Rattle.votes.specs.Votes.{SignedVoteOf}
use Rattle.vote_counter.specs.VoteCounter as counter
use Rattle.key_gen.specs.KeyGen as key_gen
use Rattle.key_gen_state.specs.KeyGenState.{KeyGenStateOf}
use Rattle.key_gen_message.specs.KeyGenMessage.{KeyGenMessageOf, part, ack, SignedKeyGenMsgOf}
use Rattle.message_store.specs.MessageStore.{without}
use Rattle.internal_contrib.specs.InternalContrib.{ContribOf}
use Rattle.dynamic_honey_badger.specs.State.{StateOf, era_of, nodes_in, with_counter, with_key_gen, with_store, valid_under, candidate_nodes}

-- a batch that is being handled: the state so far, faults and due items in order of arising, and the verdicts on the key messages to come
pub record WorkOf : Type 0 where
  pub state : StateOf
  pub faults : List Fault
  pub due : List DueItem
  pub verdicts : List ℕ

abbrev pub with_state : WorkOf → StateOf → WorkOf
with_state w s = record { state = s; faults = w.faults; due = w.due; verdicts = w.verdicts }

-- one fault more, as far as the lent list reaches (no batch has more: see the laws)
abbrev pub blame : Sizes → ℕ → FaultKind → WorkOf → WorkOf
blame z id k w =
    record { state = w.state; faults = take z.faults (w.faults ++ (record { node_id = id; kind = k } ∷ [])); due = w.due; verdicts = w.verdicts }

-- one due item more, likewise
abbrev pub owe_to : Sizes → List DueItem → DueItem → List DueItem
owe_to z due d = take z.due (due ++ (d ∷ []))

abbrev pub owe : Sizes → DueItem → WorkOf → WorkOf
owe z d w = record { state = w.state; faults = w.faults; due = owe_to z w.due d; verdicts = w.verdicts }

-- step 3: a committed vote; its fault is on the proposer
abbrev pub voted_by : Sizes → ℕ → counter.VoteEffect → WorkOf → WorkOf
voted_by z proposer counter.stored w = w
voted_by z proposer counter.nothing_new w = w
voted_by z proposer (counter.fault k) w = blame z proposer k w

abbrev pub voted_as : Sizes → ℕ → WorkOf → counter.Added → WorkOf
voted_as z proposer w a = voted_by z proposer a.effect (with_state w (with_counter w.state a.counter))

unfoldable pub committed_vote : Sizes → ℕ → WorkOf → SignedVoteOf → WorkOf
committed_vote z proposer w v = voted_as z proposer w (counter.add_committed z w.state.counter v)

-- what a committed key message comes to: nothing to tell, an ack that is due for a proposer's part, or a fault of the contribution's proposer or of the signer
pub data Told : Type 0 where
  quiet : Told
  owed : ℕ → Told
  blamed_proposer : FaultKind → Told
  blamed_signer : FaultKind → Told

pub record MessageDoneOf : Type 0 where
  pub key_gen : Found KeyGenStateOf
  pub told : Told

abbrev pub done_as : Found KeyGenStateOf → Told → MessageDoneOf
done_as g t = record { key_gen = g; told = t }

-- step 5: key generation's word on a message; an ack is due for a newly recorded part with verdict 0
abbrev pub told_by : key_gen.Effect → Told
told_by key_gen.quiet = quiet
told_by (key_gen.ack_due i) = owed i
told_by (key_gen.fault k) = blamed_signer k

abbrev pub handled_by : key_gen.KeyGenOf → ℕ → KeyGenMessageOf → ℕ → key_gen.Handled
handled_by g signer (part p) verdict = key_gen.handle_part g signer p verdict
handled_by g signer (ack a) verdict = key_gen.handle_ack g signer a verdict

abbrev pub tracked : KeyGenStateOf → key_gen.Handled → MessageDoneOf
tracked g h = done_as (found (record { key_gen = h.key_gen; counts = g.counts })) (told_by h.effect)

-- without key generation the signer is at fault
abbrev pub unexpected : KeyGenMessageOf → FaultKind
unexpected (part p) = UnexpectedKeyGenPart
unexpected (ack a) = UnexpectedKeyGenAck

abbrev pub by_key_gen : SignedKeyGenMsgOf → ℕ → Found KeyGenStateOf → MessageDoneOf
by_key_gen m verdict nothing = done_as nothing (blamed_signer (unexpected m.message))
by_key_gen m verdict (found g) = tracked g (handled_by g.key_gen m.id m.message verdict)

-- step 4: wrong era, then bad signature, fault the proposer
unfoldable pub message_done : ℕ → List Node → Found KeyGenStateOf → SignedKeyGenMsgOf → ℕ → MessageDoneOf
message_done era ns g m verdict =
    cond (eqb m.era era)
    (cond (valid_under ns (candidate_nodes g) m.id m.sig)
    (by_key_gen m verdict g)
    (done_as g (blamed_proposer InvalidKeyGenMessageSignature)))
    (done_as g (blamed_proposer InvalidKeyGenMessageEra))

abbrev pub applied : Sizes → ℕ → ℕ → Told → WorkOf → WorkOf
applied z proposer signer quiet w = w
applied z proposer signer (owed i) w = owe z (record { kind = Ack i; era = era_of w.state }) w
applied z proposer signer (blamed_proposer k) w = blame z proposer k w
applied z proposer signer (blamed_signer k) w = blame z signer k w

-- stored messages equal to a committed one go, whatever becomes of it
abbrev pub settled : Sizes → ℕ → WorkOf → SignedKeyGenMsgOf → MessageDoneOf → WorkOf
settled z proposer w m d =
    applied z proposer m.id d.told (with_state w (with_store (with_key_gen w.state d.key_gen) (without m w.state.store)))

-- the next verdict, and those behind it
abbrev pub first_verdict : List ℕ → ℕ
first_verdict [] = 0
first_verdict (v ∷ vs) = v

abbrev pub other_verdicts : List ℕ → List ℕ
other_verdicts [] = []
other_verdicts (v ∷ vs) = vs

abbrev pub judged : WorkOf → WorkOf
judged w = record { state = w.state; faults = w.faults; due = w.due; verdicts = other_verdicts w.verdicts }

unfoldable pub committed_message : Sizes → ℕ → WorkOf → SignedKeyGenMsgOf → WorkOf
committed_message z proposer w m =
    settled z proposer (judged w) m (message_done (era_of w.state) (nodes_in w.state) w.state.key_gen m (first_verdict w.verdicts))

-- step 2: per contribution, ids ascending: the votes, then the key messages
unfoldable pub committed_contrib : Sizes → WorkOf → ContribOf → WorkOf
committed_contrib z w c = foldl (committed_message z c.id) (foldl (committed_vote z c.id) w c.votes) c.messages

abbrev pub begun : StateOf → List ℕ → WorkOf
begun s verdicts = record { state = s; faults = []; due = []; verdicts = verdicts }

unfoldable pub committed : Sizes → StateOf → List ℕ → List ContribOf → WorkOf
committed z s verdicts cs = foldl (committed_contrib z) (begun s verdicts) cs
