-- What it is for a call to be accepted and to do something, and for a list of calls to lead from one state to another: the witnesses are claimed in these words.
use Rattle.std.specs.Prelude.{◌≡◌, List, [], ◌∷◌}
use Rattle.lists.specs.Lists.{found}
use Rattle.bincode.specs.Outcome.{done}
use Rattle.bincode.specs.Sizes.{Sizes}
use Rattle.votes.specs.Votes.{SignedVoteOf}
use Rattle.dynamic_honey_badger.specs.State.{StateOf}
use Rattle.dynamic_honey_badger.specs.OwnVotes.{vote_for_bytes, vote_to_add, vote_to_remove}
use Rattle.dynamic_honey_badger.specs.Received.{HandledOf, quiet, received, returned}
use Rattle.process_output.specs.Process.{ReportOf, processed}
use Rattle.agreement.specs.Calls.{Call, batch_call, vote_call, add_call, remove_call, message_call, due_call, after, run}

-- a call is accepted and does something: a batch is reported, an own vote is cast, a message or a due item is no fault and leaves another state
abbrev pub Taken : StateOf → HandledOf → Type 0
Taken s h = (h.effect ≡ quiet) × (h.state ≡ s → ⊥)

abbrev pub Accepted : Sizes → StateOf → Call → Type 0
Accepted z s (batch_call b) = (r : ReportOf) × ((processed z s b).answer ≡ done r)
Accepted z s (vote_call bytes) = (v : SignedVoteOf) × ((vote_for_bytes z s bytes).answer ≡ done (found v))
Accepted z s (add_call id key) = (v : SignedVoteOf) × ((vote_to_add z s id key).answer ≡ done (found v))
Accepted z s (remove_call id) = (v : SignedVoteOf) × ((vote_to_remove z s id).answer ≡ done (found v))
Accepted z s (message_call sender bytes) = Taken s (received z s sender bytes)
Accepted z s (due_call bytes) = Taken s (returned z s bytes)

-- each call of a list, in the state that those before it leave
abbrev pub AllAccepted : Sizes → StateOf → List Call → Type 0
AllAccepted z s [] = Unit {0}
AllAccepted z s (c ∷ cs) = Accepted z s c × AllAccepted z (after z s c) cs

-- each call is accepted, and the list ends in a state
abbrev pub Leads : Sizes → StateOf → List Call → StateOf → Type 0
Leads z s cs t = AllAccepted z s cs × (run z s cs ≡ t)
