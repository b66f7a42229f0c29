use mathlib.Core.Path.{sym, ◌∙◌, subst}
use lib.Dec.{lit<}
use Rattle.bincode.specs.Read.{whole}
use Rattle.bincode.specs.Sizes.{base}
use Rattle.bincode.proofs.CauseLaws.{whole_causes}
use Rattle.bincode.proofs.ReadLaws.{answer_ok}
use Rattle.message.specs.Message.{content_held, read_message}
use Rattle.message.proofs.ContentCauses.{content_causes}
use Rattle.message.proofs.ContentCodes.{content_codes}
use Rattle.joining.proofs.RowLaws.{refused_by}
use Rattle.dynamic_honey_badger.specs.Received.{HandledOf}
use Rattle.dynamic_honey_badger.specs.Parts.{JudgedAs}
use Rattle.dynamic_honey_badger.proofs.ReceivedLaws.{message_refused, message_read}
use Rattle.dynamic_honey_badger.proofs.judge.Goals as goal

pub returns-in-Ok : goal.returns-in-Ok
returns-in-Ok c =
    let a = c.args in
    let b = a.bytes.now in
    let x = answer_ok content_held (whole (read_message base b) b) _ _ (sym c.read_whole.ensures ∙ c.in-Ok.is) in
    λ s e p. subst (λ (h : HandledOf). JudgedAs base s h c.judge_content.result) (sym (message_read base s a.sender b x.0 _ c.in-Ok.m x.1 x.2)) (c.judge_content.ensures s e p)

pub returns-in-Err : goal.returns-in-Err
returns-in-Err c =
    let a = c.args in
    let b = a.bytes.now in
    let causes = whole_causes (content_codes b base (lit< tt) (lit< tt)) (content_causes b base (lit< tt) (lit< tt)) in
    let r = refused_by b (whole (read_message base b) b) causes (λ i. (c.type_inv.bytes i).fits) content_held _ c.read_whole.ensures _ c.in-Err.is in
    λ s e p. message_refused base s a.sender b _ r
