use mathlib.Core.Path.{refl, sym, ap, ◌∙◌}
use Rattle.bincode.specs.Items.{plain, stay, many}
use Rattle.bincode.specs.Sizes.{base}
use Rattle.bincode.proofs.RereadLaws.{handle_refused, reread_more, reread_start, reread_end}
use Rattle.bincode.proofs.ReadLaws.{answer_ok}
use Rattle.key_gen_state.specs.KeyGenState.{state_of}
use Rattle.key_gen_message.specs.KeyGenMessage.{read_signed_key_gen_msg}
use Rattle.key_gen_message.specs.declared.MessageHead.{MessageHead}
use Rattle.key_gen_message.specs.Head.{head_of}
use Rattle.steps.specs.Steps.{committed_message, message_done}
use Rattle.commit.specs.Terms.{nodes_by}
use Rattle.commit.specs.Told.{said_told}
use Rattle.commit.proofs.HandledLaws.{held_on}
use Rattle.commit.proofs.messages.commit_messages.Goals as goal

pub loop-init : goal.loop-init
loop-init c = λ w h. (w, h, reread_start (plain (read_signed_key_gen_msg base _)) stay (committed_message base _) _ tt _ _ tt refl)

pub returns-in_default : goal.returns-in_default
returns-in_default c =
    λ b ms d e w h.
    let u = c.loop.invariant w h in
    absurd (handle_refused (read_signed_key_gen_msg base _) (committed_message base _) _ _ _ _ _ _ u.2 c.loop-test.true head_of _ c.read_head.ensures _ c.in_default.is ms d
    (ap (many (read_signed_key_gen_msg base _) _) (c.first_item-at.ensures.0 b) ∙ e))

pub loop-preserved : goal.loop-preserved
loop-preserved c =
    let t = c.args.terms.now in
    let id = c.args.c.now.id in
    let l = c.loop in
    let read = answer_ok head_of (read_signed_key_gen_msg base t.bytes.now l.at) c.in-Ok.h c.in-Ok.next (sym c.read_head.ensures ∙ c.in-Ok.is) in
    let told = c.handle_message-told in
    λ w h.
    let u = l.invariant w h in (
      committed_message base id u.0 read.0,
      held_on t u.0 l.state told.new.state l.used c.verdict_used-used.result l.arisen c.tell.new.self u.1 read.0 c.in-Ok.h.id id
          (ap (λ (y : MessageHead). y.id) read.2) (said_told told.result) c.tell.ensures.faults c.tell.ensures.acks
          (told.ensures read.0 read.2 ∙ ap (message_done t.era (nodes_by t) (state_of l.state) read.0) c.verdict_at.ensures) c.verdict_used-used.ensures,
      reread_more (plain (read_signed_key_gen_msg base _)) stay (committed_message base _) _ tt _ _ _ tt _ _ u.2 c.loop-test.true read.0 _ read.1 tt refl _ refl,
    )

pub returns : goal.returns
returns c =
    λ b ms d e w h.
    let u = c.loop.invariant w h in
    rw (sym (reread_end (plain (read_signed_key_gen_msg base _)) stay (committed_message base _) _ tt _ _ _ tt _ _ u.2 c.loop-test.false ms d
    (ap (many (read_signed_key_gen_msg base _) _) (c.first_item-at.ensures.0 b) ∙ e))) u.1
