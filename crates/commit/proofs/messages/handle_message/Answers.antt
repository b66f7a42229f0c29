use Rattle.std.specs.declared.option.Option.{Option}
use Rattle.key_gen_state.specs.declared.KeyGenState.{KeyGenState}
use mathlib.Core.Path.{sym, ap, ◌∙◌}
use mathlib.Core.List.{List}
use Rattle.lists.specs.Lists.{Found, nothing}
use Rattle.fault_log.specs.declared.FaultKind.{FaultKind}
use Rattle.pub_key_map.specs.declared.Node.{Node}
use Rattle.pub_key_map.specs.PubKeyMap.{nodes_of}
use Rattle.key_gen_state.specs.KeyGenState.{state_of}
use Rattle.dynamic_honey_badger.specs.State.{valid_under}
use Rattle.steps.specs.Steps.{done_as, by_key_gen, blamed_signer}
use Rattle.commit.proofs.MessageLaws.{other_era, bad_signature, good_signature, by_nothing}
use Rattle.commit.proofs.messages.handle_message.Goals as goal

pub returns-then-h-terms : goal.returns-then-h-terms
returns-then-h-terms c =
    let t = c.args.terms.now in
    λ m e. other_era t.era (nodes_of t.map) (state_of c.args.state.now) m c.args.h e c.args.verdict c.if-h-terms.true

pub returns-then-not-verify_under : goal.returns-then-not-verify_under
returns-then-not-verify_under c =
    let t = c.args.terms.now in
    let h = c.args.h in
    let bad = ap (λ (o : Found (List Node)). valid_under (nodes_of t.map) o h.id h.sig) (sym c.candidate.ensures) ∙ sym c.verify_under.ensures ∙ c.if-not-verify_under.true in
    λ m e. bad_signature t.era (nodes_of t.map) (state_of c.args.state.now) m h e c.args.verdict c.if-h-terms.false bad

pub returns-in_default : goal.returns-in_default
returns-in_default c =
    let t = c.args.terms.now in
    let h = c.args.h in
    let good = ap (λ (o : Found (List Node)). valid_under (nodes_of t.map) o h.id h.sig) (sym c.candidate.ensures) ∙ sym c.verify_under.ensures ∙ c.if-not-verify_under.false in
    λ m e. rw c.in_default.is (ap (λ (k : FaultKind). done_as nothing (blamed_signer k)) c.unexpected.ensures ∙ by_nothing m h e c.args.verdict)
    ∙ good_signature t.era (nodes_of t.map) (state_of c.args.state.now) m h e c.args.verdict c.if-h-terms.false good

pub returns : goal.returns
returns c =
    let t = c.args.terms.now in
    let h = c.args.h in
    let good = ap (λ (o : Found (List Node)). valid_under (nodes_of t.map) o h.id h.sig) (sym c.candidate.ensures) ∙ sym c.verify_under.ensures ∙ c.if-not-verify_under.false in
    λ m e. ap (done_as _) c.told_by.ensures ∙ c.handle_head.ensures m e ∙ ap (λ (x : Option KeyGenState). by_key_gen m c.args.verdict (state_of x)) (sym c.in-Some.is)
    ∙ good_signature t.era (nodes_of t.map) (state_of c.args.state.now) m h e c.args.verdict c.if-h-terms.false good
