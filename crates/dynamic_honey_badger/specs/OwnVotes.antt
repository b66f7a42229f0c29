-- 01, "Own votes": 2 and 3; a non-validator's then does nothing; 13; 11.
use Rattle.std.specs.Prelude.{ℕ, ◌≡◌, List, Bool, true, false, cond, eqb, Some, None, Ok, Err}
use Rattle.std.specs.declared.option.Option.{Option}
use Rattle.std.specs.declared.result.Result.{Result}
use Rattle.lists.specs.Lists.{Found, found, nothing, option_as_found}
use Rattle.bincode.specs.Answer.{outcome_as_said}
use Rattle.bincode.specs.declared.Refusal.{Refusal}
use Rattle.bincode.specs.Read.{Read, value, refuse, whole}
use Rattle.bincode.specs.Outcome.{Outcome, done, refused}
use Rattle.bincode.specs.Numbers.{fixed}
use Rattle.bincode.specs.Sizes.{Sizes}
use Rattle.change.specs.Change.{ChangeOf, node_change, read_change}
use Rattle.votes.specs.declared.SignedVote.{SignedVote}
use Rattle.votes.specs.Votes.{SignedVoteOf, signed_of}
use Rattle.vote_counter.specs.VoteCounter.{Signed, sign_vote_for}
use Rattle.node_change.specs.NodeChange.{row13, with_node, without_node}
use Rattle.dynamic_honey_badger.specs.State.{StateOf, nodes_in, with_counter, is_validator, state_of}
use Rattle.dynamic_honey_badger.specs.declared.DynamicHoneyBadger.{DynamicHoneyBadger}
use Rattle.dynamic_honey_badger.specs.declared.Voted.{Voted}

-- the state, and the vote to broadcast, that there is none, or a refusal
pub record VotedOf : Type 0 where
  pub state : StateOf
  pub answer : Outcome (Found SignedVoteOf)

abbrev pub voted_as : StateOf → Outcome (Found SignedVoteOf) → VotedOf
voted_as s a = record { state = s; answer = a }

abbrev pub voted_by : StateOf → Signed → Outcome SignedVoteOf → VotedOf
voted_by s r (done v) = voted_as (with_counter s r.counter) (done (found v))
voted_by s r (refused n) = voted_as s (refused n)

-- a validator's vote for a change is signed; row 11 is the counter's
abbrev pub signed_in : StateOf → Signed → VotedOf
signed_in s r = voted_by s r r.answer

unfoldable pub vote_for : Sizes → StateOf → ChangeOf → VotedOf
vote_for z s c = cond (is_validator s) (signed_in s (sign_vote_for z s.counter c)) (voted_as s (done nothing))

-- the change comes as bytes: rows 2 and 3 first
abbrev pub vote_for_read : Sizes → StateOf → Read ChangeOf → VotedOf
vote_for_read z s (value c at) = vote_for z s c
vote_for_read z s (refuse n) = voted_as s (refused n)

unfoldable pub vote_for_bytes : Sizes → StateOf → List ℕ → VotedOf
vote_for_bytes z s bytes = vote_for_read z s (whole (read_change fixed z bytes) bytes)

-- `vote_to_add`: key 0 is 2, whoever calls; a non-validator's does nothing; 13; 11
unfoldable pub vote_to_add : Sizes → StateOf → ℕ → ℕ → VotedOf
vote_to_add z s id key =
    cond (eqb key 0) (voted_as s (refused 2))
    (cond (is_validator s)
    (cond (row13 z (nodes_in s) id) (voted_as s (refused 13)) (vote_for z s (node_change (with_node z (nodes_in s) (record { id = id; key = key })))))
    (voted_as s (done nothing)))

unfoldable pub vote_to_remove : Sizes → StateOf → ℕ → VotedOf
vote_to_remove z s id = vote_for z s (node_change (without_node (nodes_in s) id))

-- the answer as code gives it
abbrev pub said_vote : Result (Option SignedVote) Refusal → Outcome (Found SignedVoteOf)
said_vote r = outcome_as_said (option_as_found signed_of) r

abbrev pub voted_of : Voted → VotedOf
voted_of r = voted_as (state_of r.state) (said_vote r.outcome)

-- where no vote was cast stands the very state that was given, places that do not count included
abbrev pub was_cast : Result (Option SignedVote) Refusal → Bool
was_cast (Ok (Some v)) = true
was_cast (Ok None) = false
was_cast (Err r) = false

abbrev pub NotCastKeeps : Voted → DynamicHoneyBadger → Type 0
NotCastKeeps r s = was_cast r.outcome ≡ false → r.state ≡ s
