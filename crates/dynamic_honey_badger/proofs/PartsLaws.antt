-- Laws of what is decided on small parts of the state: own votes, and received messages.
-- Assumes nothing.
use mathlib.Core.Bool.{Bool, true}
use mathlib.Core.Path.{◌≡◌, refl, sym, ap, ◌∙◌}
use mathlib.Core.List.{List}
use Prim.Native.Nat.{ℕ}
use Rattle.std.specs.declared.option.Option.{Option}
use Rattle.std.specs.declared.result.Result.{Result}
use Rattle.lists.specs.Lists.{found}
use Rattle.bincode.specs.Outcome.{done}
use Rattle.bincode.specs.Sizes.{Sizes}
use Rattle.bincode.specs.declared.Refusal.{Refusal}
use Rattle.pub_key_map.specs.declared.Node.{Node}
use Rattle.network_info.specs.NetworkInfo.{is_member}
use Rattle.change.specs.Change.{ChangeOf}
use Rattle.votes.specs.declared.SignedVote.{SignedVote}
use Rattle.vote_counter.specs.declared.VoteCounter.{VoteCounter}
use Rattle.vote_counter.specs.VoteCounter.{sign_vote_for}
use Rattle.dynamic_honey_badger.specs.declared.DynamicHoneyBadger.{DynamicHoneyBadger}
use Rattle.dynamic_honey_badger.specs.OwnVotes.{NotCastKeeps, vote_for}
use Rattle.dynamic_honey_badger.specs.Parts.{voted_for, UncastKeeps}
use Rattle.dynamic_honey_badger.specs.State.{StateOf, nodes_in, is_validator}
use Rattle.dynamic_honey_badger.proofs.OwnVotesLaws.{vote_signed}

-- a state with another counter
abbrev held_counter : DynamicHoneyBadger → VoteCounter → DynamicHoneyBadger
held_counter d c = record { params = d.params; vote_counter = c; key_gen_state = d.key_gen_state; store = d.store; last = d.last }

-- whether a state's own id is in its map, by its parts
pub validator : (s : StateOf) (ns : List Node) (id : ℕ) (b : Bool) → nodes_in s ≡ ns → s.counter.our_id ≡ id → is_member ns id ≡ b → is_validator s ≡ b
validator s ns id b m i e = ap (λ (x : List Node). is_member x s.counter.our_id) m ∙ ap (is_member ns) i ∙ e

module _ (z : Sizes) (s : StateOf) where
  -- a change that a validator wants is voted for
  pub wanted_cast : (c : ChangeOf) → is_validator s ≡ true → voted_for z s (done (found c)) ≡ vote_for z s c
  wanted_cast c v = sym (vote_signed z s c (sign_vote_for z s.counter c) v refl)

-- a counter that was put back as it was leaves the very state
pub vote_kept : (d : DynamicHoneyBadger) (c : VoteCounter) (o : Result (Option SignedVote) Refusal) → UncastKeeps o c d.vote_counter
    → NotCastKeeps (record { state = held_counter d c; outcome = o }) d
vote_kept d c o h e = ap (held_counter d) (h e)
