-- What steps 6 to 8 come to, by the parts of the state that code holds: row 7, a decision, or nothing decided.
-- Assumes nothing.
use Prim.Native.Nat.{ℕ}
use mathlib.Core.Path.{◌≡◌, sym, ap, ◌∙◌}
use mathlib.Core.List.{List}
use mathlib.Core.Bool.{true, false, cond}
use native.Mathlib.Omega.{arith}
use Rattle.lists.specs.Lists.{Found, nothing}
use Rattle.lists.proofs.ListLaws.{cond_no}
use Rattle.std.specs.declared.option.Option.{Option}
use Rattle.std.specs.declared.option.Option.TheVariants.{None}
use Rattle.bincode.specs.Items.{foldl}
use Rattle.bincode.specs.Sizes.{base}
use Rattle.pub_key_map.specs.PubKeyMap.{nodes_of}
use Rattle.change.specs.Change.{ChangeOf, none, state_held}
use Rattle.params.specs.declared.Params.{Params}
use Rattle.key_gen_message.specs.KeyGenMessage.{SignedKeyGenMsgOf}
use Rattle.key_gen_state.specs.KeyGenState as running
use Rattle.vote_counter.specs.declared.VoteCounter.{VoteCounter}
use Rattle.vote_counter.specs.VoteCounter.{CarriedOf, carried, counter_of}
use Rattle.vote_counter.proofs.FewLaws.{few_carried}
use Rattle.dynamic_honey_badger.specs.State.{StateOf, Stamp}
use Rattle.steps.specs.Steps.{WorkOf}
use Rattle.commit.specs.declared.Committed.{Committed}
use Rattle.commit.specs.declared.tally.Tally.{Tally}
use Rattle.commit.specs.Tally.{entries_of}
use Rattle.commit.specs.Put.{put_in}
use Rattle.commit.proofs.TallyLaws.{tallied_length}
use Rattle.commit.proofs.StayedLaws.{put_nothing, put_stayed}
use Rattle.decision.specs.declared.Decision.{Decision}
use Rattle.decision.specs.declared.Parts.{Parts}
use Rattle.batch.specs.Batch.{unvoted_held}
use Rattle.vote_counter.proofs.CounterLaws.{carried_change}
use Rattle.decision.specs.declared.Carried.{Carried}
use Rattle.decision.specs.Decision.{of_parts, decide, decide_by, decided_of, elected_of, change_in, without_recipe, empty_wins, is_empty_map}
use Rattle.decision.proofs.DecisionLaws.{by_elects}
use Rattle.process_batch.specs.Steps.{Quiet, WorkBy, Voids, Decides}

-- the winner is looked for in any case, and counts where key generation is not ready
module _ (era : ℕ) (s : StateOf) (e : Found CarriedOf) (h : e ≡ carried s.counter) where
  empty_by : empty_wins s ≡ cond (running.ready_state s.key_gen) false (is_empty_map (change_in e))
  unfolding empty_wins
  empty_by = ap (λ (x : Found ChangeOf). cond (running.ready_state s.key_gen) false (is_empty_map x)) (sym (ap change_in h ∙ carried_change s.counter))

  decide_by_lem : decide_by base era s e ≡ decide base era s
  unfolding decide
  decide_by_lem = ap (decide_by base era s) h

-- by the counter with the votes that stayed, and its winner
module _ (s : List ℕ) (p : Parts) (t : Tally) (after : VoteCounter) (e : Option Carried)
    (put : counter_of after ≡ foldl (put_in base s) (counter_of p.vote_counter) (entries_of t)) (elected : elected_of e ≡ carried (counter_of after)) where
  abbrev counted : Parts
  counted = record { params = p.params; vote_counter = after; key_gen_state = p.key_gen_state }

  -- the state of the work is what these parts make
  whole : (w : WorkOf) → WorkBy s p t w → of_parts counted w.state.store w.state.last ≡ w.state
  whole w h =
      let stayed : counter_of after ≡ w.state.counter = put ∙ put_stayed s (counter_of p.vote_counter) w t h.votes ∙ sym h.by_counter in
      λ i. record { counter = stayed i; params = sym h.by_params i; key_gen = sym h.by_key_gen i; store = w.state.store; last = w.state.last }

  -- row 7 by them
  voids : (w : WorkOf) → WorkBy s p t w → empty_wins w.state ≡ cond (running.ready_state (running.state_of p.key_gen_state)) false (is_empty_map (change_in (elected_of e)))
  voids w h = sym (ap empty_wins (whole w h)) ∙ empty_by 0 (of_parts counted w.state.store w.state.last) (elected_of e) elected

  pub settled_void : cond (running.ready_state (running.state_of p.key_gen_state)) false (is_empty_map (change_in (elected_of e))) ≡ true → Voids s p t
  settled_void v w h = voids w h ∙ v

  pub settled_decided : cond (running.ready_state (running.state_of p.key_gen_state)) false (is_empty_map (change_in (elected_of e))) ≡ false → (era : ℕ) (p' : Parts) (d : Decision)
      → ((st : List SignedKeyGenMsgOf) (l : Found Stamp) → decided_of era st l p' d ≡ decide_by base era (of_parts counted st l) (elected_of e)) → Decides s p t era p' d
  settled_decided v era p' d by w h = (
    voids w h ∙ v,
    by w.state.store w.state.last ∙ decide_by_lem era (of_parts counted w.state.store w.state.last) (elected_of e) elected ∙ ap (decide base era) (whole w h),
  )

-- a batch of which no vote stayed, with so few votes that nobody wins and key generation not ready, decides nothing: the parts are those that were given, with key
-- generation as the messages left it
pub quiet_decides : (s : List ℕ) (p : Params) (c : VoteCounter) (d : Committed) → Quiet d (nodes_of c.pub_keys) → (era : ℕ)
    → Decides s (record { params = p; vote_counter = c; key_gen_state = d.state }) d.tally era
    (record { params = p; vote_counter = c; key_gen_state = d.state }) (without_recipe false (unvoted_held (state_held none)) false)
quiet_decides s p c d q era w h =
    let parts : Parts = record { params = p; vote_counter = c; key_gen_state = d.state } in
    let votes = tallied_length s c.era (nodes_of c.pub_keys) h.votes.by_entry in
    let nobody : nothing ≡ carried (counter_of c) = sym (few_carried (counter_of c) (omega (arith, votes, q.few))) in
    settled_decided s parts d.tally c None (sym (put_nothing base s (counter_of c) (entries_of d.tally) q.none_stayed)) nobody (cond_no _ _ q.not_ready) era
    parts (without_recipe false (unvoted_held (state_held none)) false) (λ store last. sym (by_elects base era (of_parts parts store last) nothing q.not_ready)) w h
