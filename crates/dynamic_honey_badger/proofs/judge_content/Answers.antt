use mathlib.Core.Path.{sym, ap, ◌∙◌, subst}
use native.Mathlib.Omega.{arith}
use Rattle.bincode.specs.Sizes.{base}
use Rattle.message.specs.declared.Message.{Message}
use Rattle.message.specs.Message.{content_of}
use Rattle.dynamic_honey_badger.specs.Received.{HandledOf, received_now}
use Rattle.dynamic_honey_badger.specs.Parts.{JudgedAs}
use Rattle.dynamic_honey_badger.proofs.ReceivedLaws.{content_later, content_earlier, content_now}
use Rattle.dynamic_honey_badger.proofs.judge_content.Goals as goal

pub returns-then-known-sent : goal.returns-then-known-sent
returns-then-known-sent c =
    let a = c.args in
    λ s e p. content_later base s a.sender (content_of a.m) _ c.message_era-sent.ensures (omega (arith, e, c.if-known-sent.true))

pub returns-then-sent-known : goal.returns-then-sent-known
returns-then-sent-known c =
    let a = c.args in
    λ s e p. content_earlier base s a.sender (content_of a.m) _ c.message_era-sent.ensures (omega (arith, e, c.if-known-sent.false)) (omega (arith, e, c.if-sent-known.true))

pub returns-in-KeyGen : goal.returns-in-KeyGen
returns-in-KeyGen c =
    let a = c.args in
    λ s e p.
    let k = ap (λ (m : Message). received_now base s a.sender (content_of m)) c.in-KeyGen.is in
    let h = content_now base s a.sender (content_of a.m) _ c.message_era-sent.ensures (omega (arith, e, c.if-known-sent.false)) (omega (arith, e, c.if-sent-known.false)) ∙ k in
    subst (λ (h : HandledOf). JudgedAs base s h c.judge_key.result) (sym h) (c.judge_key.ensures s p)

pub returns-in-SignedVote : goal.returns-in-SignedVote
returns-in-SignedVote c =
    let a = c.args in
    λ s e p.
    content_now base s a.sender (content_of a.m) _ c.message_era-sent.ensures (omega (arith, e, c.if-known-sent.false)) (omega (arith, e, c.if-sent-known.false))
    ∙ ap (λ (m : Message). received_now base s a.sender (content_of m)) c.in-SignedVote.is
