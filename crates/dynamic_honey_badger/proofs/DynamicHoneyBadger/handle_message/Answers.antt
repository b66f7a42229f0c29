use mathlib.Core.Path.{refl, sym, ap, ◌∙◌, subst}
use Rattle.bincode.specs.Sizes.{base}
use Rattle.bincode.proofs.ReadLaws.{cross}
use Rattle.key_gen_message.specs.KeyGenMessage.{signed_of}
use Rattle.key_gen_state.specs.KeyGenState.{running_of}
use Rattle.lists.specs.Lists.{found}
use Rattle.vote_counter.specs.VoteCounter.{counter_of}
use Rattle.dynamic_honey_badger.specs.Received.{handled_as, voted_in, stored_in, received, said_handling}
use Rattle.dynamic_honey_badger.specs.Parts.{JudgedAs}
use Rattle.dynamic_honey_badger.specs.State.{with_counter, with_key_gen, state_of}
use Rattle.dynamic_honey_badger.proofs.JudgedLaws.{full_by_count, push_stored, added_tells, added_not_refused}
use Rattle.dynamic_honey_badger.proofs.DynamicHoneyBadger.handle_message.Goals as goal

pub returns-in-Answer : goal.returns-in-Answer
returns-in-Answer c =
    let a = c.args in
    let s = state_of a.self in
    let h = subst (JudgedAs base s (received base s a.sender a.message.now)) c.in-Answer.is (c.judge.ensures s refl (refl, refl, full_by_count a.self.store _ c.len.ensures.0)) in
    (sym h, λ n e. refl)

pub returns-in-Vote : goal.returns-in-Vote
returns-in-Vote c =
    let a = c.args in
    let s = state_of a.self in
    let h = subst (JudgedAs base s (received base s a.sender a.message.now)) c.in-Vote.is (c.judge.ensures s refl (refl, refl, full_by_count a.self.store _ c.len.ensures.0)) in
    let v = c.add_pending_vote-a in
    let told = ap said_handling c.added_as-outcome.ensures ∙ added_tells v.result.outcome in
    (ap (handled_as (with_counter s (counter_of v.result.counter))) told ∙ ap (voted_in s) v.ensures ∙ sym h, λ n e. absurd (added_not_refused v.result.outcome n (sym c.added_as-outcome.ensures ∙ e)))

pub returns-in-Count : goal.returns-in-Count
returns-in-Count c =
    let a = c.args in
    let s = state_of a.self in
    let h = subst (JudgedAs base s (received base s a.sender a.message.now)) c.in-Count.is (c.judge.ensures s refl (refl, refl, full_by_count a.self.store _ c.len.ensures.0)) in
    (sym h, λ n e. absurd (cross e))

pub returns-in-Store : goal.returns-in-Store
returns-in-Store c =
    let a = c.args in
    let s = state_of a.self in
    let h = subst (JudgedAs base s (received base s a.sender a.message.now)) c.in-Store.is (c.judge.ensures s refl (refl, refl, full_by_count a.self.store _ c.len.ensures.0)) in
    let x = c.push-p in
    let p = push_stored base s.store (signed_of c.in-Store.m) h.0 x.result.outcome x.result.store x.ensures.0 in
    (sym (h.1 ∙ ap (stored_in s (with_key_gen s (found (running_of c.in-Store.counted)))) p), λ n e. absurd (cross e))
