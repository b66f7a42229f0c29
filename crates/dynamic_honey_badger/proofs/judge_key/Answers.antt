use mathlib.Core.Path.{refl, sym, ap, ◌∙◌}
use native.Mathlib.Omega.{arith}
use Rattle.bincode.specs.Sizes.{base}
use Rattle.key_gen_message.specs.KeyGenMessage.{signed_of}
use Rattle.key_gen_state.specs.KeyGenState.{running_of, counted_of}
use Rattle.key_gen_state.specs.KeyGenState as running
use Rattle.dynamic_honey_badger.proofs.JudgedLaws.{judged_invalid, judged_unexpected, judged_many, judged_stored, judged_full, judged_room}
use Rattle.dynamic_honey_badger.proofs.judge_key.Goals as goal

pub returns-then-not-verify_signature : goal.returns-then-not-verify_signature
returns-then-not-verify_signature c =
    let a = c.args in
    λ s p. judged_invalid base s _ _ a.known.held p (signed_of a.m) (sym c.verify_signature.ensures ∙ c.if-not-verify_signature.true)

pub returns-in_default : goal.returns-in_default
returns-in_default c =
    let a = c.args in
    λ s p. judged_unexpected base s _ _ a.known.held p (signed_of a.m) (sym c.verify_signature.ensures ∙ c.if-not-verify_signature.false) (ap running.state_of c.in_default.is)

pub returns-then-len-c : goal.returns-then-len-c
returns-then-len-c c =
    let a = c.args in
    λ s p. judged_many base s _ _ a.known.held p (signed_of a.m) (sym c.verify_signature.ensures ∙ c.if-not-verify_signature.false) (running_of c.in-Some.state) (ap running.state_of c.in-Some.is) (counted_of c.count_messages-c.result) c.count_messages-c.ensures _ refl (omega (arith, c.if-len-c.true, c.len.ensures.0))

pub returns-then-known-lt-LIMIT : goal.returns-then-known-lt-LIMIT
returns-then-known-lt-LIMIT c =
    let a = c.args in
    λ s p. (judged_room base s _ _ a.known.held p (signed_of a.m) c.if-known-lt-LIMIT.true, judged_stored base s _ _ a.known.held p (signed_of a.m) (sym c.verify_signature.ensures ∙ c.if-not-verify_signature.false) (running_of c.in-Some.state) (ap running.state_of c.in-Some.is) (counted_of c.count_messages-c.result) c.count_messages-c.ensures (omega (arith, c.if-len-c.false, c.len.ensures.0)) _ refl)

pub returns : goal.returns
returns c =
    let a = c.args in
    λ s p. judged_full base s _ _ a.known.held p (signed_of a.m) (sym c.verify_signature.ensures ∙ c.if-not-verify_signature.false) (running_of c.in-Some.state) (ap running.state_of c.in-Some.is) (counted_of c.count_messages-c.result) c.count_messages-c.ensures (omega (arith, c.if-len-c.false, c.len.ensures.0)) c.if-known-lt-LIMIT.false
