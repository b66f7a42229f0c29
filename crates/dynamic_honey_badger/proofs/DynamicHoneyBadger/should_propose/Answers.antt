use borrow.Author.Tests.{lt-ltb}
use mathlib.Core.Bool.{not}
use mathlib.Core.Path.{sym, ap, ◌∙◌}
use native.Mathlib.Omega.{arith}
use lib.Dec.{ltb}
use Rattle.dynamic_honey_badger.specs.State.{state_of}
use Rattle.dynamic_honey_badger.proofs.AskedLaws.{some_length, propose_given, propose_many, propose_own, propose_stored}
use Rattle.dynamic_honey_badger.proofs.DynamicHoneyBadger.should_propose.Goals as goal

pub returns-then-enough-proposals : goal.returns-then-enough-proposals
returns-then-enough-proposals c =
    let a = c.args in
    lt-ltb c.num_faulty-enough.result a.proposals c.if-enough-proposals.true
    ∙ sym (propose_many (state_of a.self) a.has_input a.proposals c.if-not-has_input.true (omega (arith, c.num_faulty-enough.ensures, c.if-enough-proposals.true)))

pub returns-then-has_own_vote : goal.returns-then-has_own_vote
returns-then-has_own_vote c =
    let a = c.args in
    c.if-has_own_vote.true
    ∙ sym (propose_own (state_of a.self) a.has_input a.proposals c.if-not-has_input.true (omega (arith, c.num_faulty-enough.ensures, c.if-enough-proposals.false)) (sym c.has_own_vote.ensures ∙ c.if-has_own_vote.true))

pub returns-else-has_own_vote : goal.returns-else-has_own_vote
returns-else-has_own_vote c =
    let a = c.args in
    let s = state_of a.self in
    ap (ltb 0) c.len.ensures.0
    ∙ some_length s.store
    ∙ sym (propose_stored s a.has_input a.proposals c.if-not-has_input.true (omega (arith, c.num_faulty-enough.ensures, c.if-enough-proposals.false)) (sym c.has_own_vote.ensures ∙ c.if-has_own_vote.false))

pub returns-else-not-has_input : goal.returns-else-not-has_input
returns-else-not-has_input c =
    let a = c.args in
    ap not c.if-not-has_input.false ∙ sym (propose_given (state_of a.self) a.has_input a.proposals c.if-not-has_input.false)
