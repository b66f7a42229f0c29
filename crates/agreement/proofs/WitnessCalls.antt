-- Each kind of call occurs in one list and is accepted; before the first batch, behind it, and the whole list.
-- Assumes nothing.
use Prim.Native.Nat.{ℕ, ◌+◌}
use mathlib.Core.Path.{◌≡◌, refl, sym, ap, ◌∙◌, subst}
use mathlib.Core.List.{List, [], ◌∷◌, ◌++◌}
use native.Mathlib.Omega.{arith}
use lib.ListN.{length}
use Rattle.bincode.specs.Sizes.{Sizes, base}
use Rattle.dynamic_honey_badger.specs.State.{StateOf}
use Rattle.dynamic_honey_badger.specs.OwnVotes.{VotedOf}
use Rattle.dynamic_honey_badger.specs.Received.{HandledOf, quiet}
use Rattle.process_output.specs.Process.{ProcessedOf}
use Rattle.agreement.specs.Calls.{Call, batch_call, vote_call, add_call, remove_call, message_call, due_call, after, run}
use Rattle.agreement.specs.Accepted.{Taken, Accepted, AllAccepted, Leads}
use Rattle.agreement.specs.Witness.{schedule_vote, add_vote, remove_vote, schedule_asked, part_due, part_sent, vote_sent, add_batch, complete_batch, calls_before, calls_after, every_call, opened, asked, voted, added, returned_one, stored_both, completed, removing, ended, add_report, giver_report}
use Rattle.agreement.proofs.WitnessSteps.{schedule_cast, add_cast, added_reported, part_returned, part_received, completed_reported, remove_cast, vote_received}

-- a message or a due item that is no fault and leaves another state
taken : (s t : StateOf) (h : HandledOf) → h ≡ record { state = t; effect = quiet } → (t ≡ s → ⊥) → Taken s h
taken s t h e other = (ap (λ (x : HandledOf). x.effect) e, λ q. other (sym (ap (λ (x : HandledOf). x.state) e) ∙ q))

-- a state with one thing more is another
one_more : (count : StateOf → ℕ) (s t : StateOf) → count t ≡ count s + 1 → t ≡ s → ⊥
one_more count s t e q = let y : count t ≡ count s = ap count q in omega arith

-- a list of calls, from its end on
module _ (z : Sizes) where
  none_left : (s : StateOf) → Leads z s [] s
  unfolding run
  none_left s = (tt, refl)

  next : (s t u : StateOf) (c : Call) (cs : List Call) → after z s c ≡ t → Accepted z s c → Leads z t cs u → Leads z s (c ∷ cs) u
  unfolding run
  next s t u c cs e a h = subst (λ (x : StateOf). (Accepted z s c × AllAccepted z x cs) × (run z x cs ≡ u)) (sym e) ((a, h.0), h.1)

  -- one list behind another
  leads_on : (cs ds : List Call) (s t u : StateOf) → Leads z s cs t → Leads z t ds u → Leads z s (cs ++ ds) u
  unfolding run
  leads_on [] ds s t u a b = subst (λ (x : StateOf). Leads z x ds u) (sym a.1) b
  leads_on (c ∷ cs) ds s t u a b = let r = leads_on cs ds (after z s c) t u (a.0.1, a.1) b in ((a.0.0, r.0), r.1)

-- behind the first batch
pub after_leads : Leads base added calls_after ended
after_leads =
    next base added returned_one ended (due_call part_due) (message_call 2 part_sent ∷ batch_call complete_batch ∷ remove_call 2 ∷ message_call 2 vote_sent ∷ [])
    (ap (λ (x : HandledOf). x.state) part_returned) (taken added returned_one _ part_returned (one_more (λ s. length s.store) added returned_one refl))
    (next base returned_one stored_both ended (message_call 2 part_sent) (batch_call complete_batch ∷ remove_call 2 ∷ message_call 2 vote_sent ∷ [])
    (ap (λ (x : HandledOf). x.state) part_received) (taken returned_one stored_both _ part_received (one_more (λ s. length s.store) returned_one stored_both refl))
    (next base stored_both completed ended (batch_call complete_batch) (remove_call 2 ∷ message_call 2 vote_sent ∷ [])
    (ap (λ (x : ProcessedOf). x.state) completed_reported) (giver_report, ap (λ (x : ProcessedOf). x.answer) completed_reported)
    (next base completed removing ended (remove_call 2) (message_call 2 vote_sent ∷ [])
    (ap (λ (x : VotedOf). x.state) remove_cast) (remove_vote, ap (λ (x : VotedOf). x.answer) remove_cast)
    (next base removing ended ended (message_call 2 vote_sent) []
    (ap (λ (x : HandledOf). x.state) vote_received) (taken removing ended _ vote_received (one_more (λ s. length s.counter.pending) removing ended refl))
    (none_left base ended)))))

-- before it
pub before_leads : Leads base opened calls_before voted
before_leads =
    next base opened asked voted (vote_call schedule_asked) (add_call 2 12 ∷ [])
    (ap (λ (x : VotedOf). x.state) schedule_cast) (schedule_vote, ap (λ (x : VotedOf). x.answer) schedule_cast)
    (next base asked voted voted (add_call 2 12) []
    (ap (λ (x : VotedOf). x.state) add_cast) (add_vote, ap (λ (x : VotedOf). x.answer) add_cast)
    (none_left base voted))

-- every call of the whole list is accepted
pub every_call_accepted : Leads base opened every_call ended
every_call_accepted =
    leads_on base calls_before (batch_call add_batch ∷ calls_after) opened voted ended before_leads
    (next base voted added ended (batch_call add_batch) calls_after
    (ap (λ (x : ProcessedOf). x.state) added_reported) (add_report, ap (λ (x : ProcessedOf). x.answer) added_reported)
    after_leads)
