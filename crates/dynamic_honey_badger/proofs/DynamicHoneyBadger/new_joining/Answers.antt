use mathlib.Core.Path.{ap, ◌∙◌}
use Prim.Native.Nat.{ℕ}
use Rattle.bincode.specs.Sizes.{base}
use Rattle.filled.proofs.DueLaws.{due_same}
use Rattle.join_plan.specs.JoinPlan.{plan_of}
use Rattle.dynamic_honey_badger.specs.declared.DynamicHoneyBadger.{DynamicHoneyBadger}
use Rattle.dynamic_honey_badger.specs.State.{state_of, Joined, joined_by, joined_with, JoinAnswer, numbered}
use Rattle.dynamic_honey_badger.proofs.StateLaws.{part_counted}
use Rattle.dynamic_honey_badger.proofs.JoinLaws.{joined_lent, refused_lent}
use Rattle.dynamic_honey_badger.proofs.DynamicHoneyBadger.new_joining.Goals as goal

pub returns-in_err-read : goal.returns-in_err-read
returns-in_err-read c =
    let a = c.args in
    refused_lent base a.our_id a.secret_key _ a.plan.now a.due_kinds.now a.due_indices.now a.due_eras.now
    c.places.ensures _ c.check_joining.ensures _ c.in_err-read.was _ c.from_residual.ensures.1

pub returns : goal.returns
unfolding joined_with
returns c =
    let a = c.args in
    let p = plan_of c.in_ok-read.read in
    let part = c.join-part.result in
    let e = c.join-part.ensures ∙ ap (λ (s : DynamicHoneyBadger). joined_by base s.vote_counter.our_id s.vote_counter.era p.change (state_of s)) c.open-state.ensures in
    joined_lent base a.our_id a.secret_key _ a.plan.now a.due_kinds.now a.due_indices.now a.due_eras.now
    c.places.ensures _ c.check_joining.ensures c.in_ok-read.read c.in_ok-read.was _ _ _ _
    (ap {B = JoinAnswer} (λ (n : ℕ). record { state = state_of c.join-part.new.self; due = n }) (part_counted part _ _ c.is_some.ensures c.from-due.ensures) ∙ ap numbered e)
    (due_same a.due_kinds.now _ a.due_indices.now _ a.due_eras.now _ _ _ (ap (λ (x : Joined). x.due) e) c.put.ensures)
