use borrow.Author.Tests.{le-leb, lt-leb}
use mathlib.Core.Path.{sym, ◌∙◌, subst}
use lib.Dec.{lit<}
use Rattle.bincode.specs.Read.{whole}
use Rattle.bincode.specs.Sizes.{base}
use Rattle.bincode.proofs.CauseLaws.{whole_causes}
use Rattle.bincode.proofs.AnswerLaws.{passed_on as err_is}
use Rattle.message.specs.Message.{content_held, read_message}
use Rattle.message.proofs.ContentCauses.{content_causes}
use Rattle.message.proofs.ContentCodes.{content_codes}
use Rattle.joining.proofs.RowLaws.{refused_by}
use Rattle.dynamic_honey_badger.specs.Received.{returned}
use Rattle.due_item.specs.Fate.{FatedAs}
use Rattle.due_item.proofs.DueItemLaws.{kept_era, kept_outsider, kept_stored, kept_full, due_cut, due_other, due_unread, due_key_gen, due_vote}
use Rattle.due_item.proofs.fate.Goals as goal

pub returns-in_default : goal.returns-in_default
returns-in_default c = λ s era nodes ours room. due_cut base s c.args.message.now _ c.read_u32.ensures _ c.in_default.is

pub returns-then-tag-ne1 : goal.returns-then-tag-ne1
returns-then-tag-ne1 c = λ s era nodes ours room. due_other base s c.args.message.now _ c.read_u32.ensures _ _ c.in-Ok.is c.if-tag-ne1.true

pub returns-in_err-read : goal.returns-in_err-read
returns-in_err-read c =
    let b = c.args.message.now in
    let causes = whole_causes (content_codes b base (lit< tt) (lit< tt)) (content_causes b base (lit< tt) (lit< tt)) in
    let r = refused_by b (whole (read_message base b) b) causes (λ i. (c.type_inv.message i).fits) content_held _ c.read_whole.ensures _ c.in_err-read.was in
    λ s era nodes ours room. subst (FatedAs base s (returned base s b)) (sym (err_is _ _ c.from_residual.ensures.1)) (due_unread base s b _ c.read_u32.ensures _ _ c.in-Ok.is c.if-tag-ne1.false _ r)

pub returns-in_default-read : goal.returns-in_default-read
returns-in_default-read c =
    λ s era nodes ours room.
    due_vote base s c.args.message.now _ c.read_u32.ensures _ _ c.in-Ok.is c.if-tag-ne1.false _ _ (sym c.read_whole.ensures ∙ c.in_ok-read.was) _ c.in_default-read.is

pub returns-then-made_in-era : goal.returns-then-made_in-era
returns-then-made_in-era c =
    let a = c.args in
    λ s era nodes ours room.
    due_key_gen base s a.message.now _ c.read_u32.ensures _ _ c.in-Ok.is c.if-tag-ne1.false _ _ (sym c.read_whole.ensures ∙ c.in_ok-read.was) _ _ _ c.in-KeyGen.is a.our_id ours
    ∙ kept_era base s _ a.era era c.if-made_in-era.true

pub returns-then-not-is_member : goal.returns-then-not-is_member
returns-then-not-is_member c =
    let a = c.args in
    λ s era nodes ours room.
    due_key_gen base s a.message.now _ c.read_u32.ensures _ _ c.in-Ok.is c.if-tag-ne1.false _ _ (sym c.read_whole.ensures ∙ c.in_ok-read.was) _ _ _ c.in-KeyGen.is a.our_id ours
    ∙ kept_outsider base s _ a.era era c.if-made_in-era.false _ _ nodes ours (sym c.is_member.ensures ∙ c.if-not-is_member.true)

pub returns-then-held-lt-LIMIT : goal.returns-then-held-lt-LIMIT
returns-then-held-lt-LIMIT c =
    let a = c.args in
    λ s era nodes ours room. (
      room ∙ lt-leb base.store a.held c.if-held-lt-LIMIT.true,
      due_key_gen base s a.message.now _ c.read_u32.ensures _ _ c.in-Ok.is c.if-tag-ne1.false _ _ (sym c.read_whole.ensures ∙ c.in_ok-read.was) _ _ _ c.in-KeyGen.is a.our_id ours
          ∙ kept_stored base s _ a.era era c.if-made_in-era.false _ _ nodes ours (sym c.is_member.ensures ∙ c.if-not-is_member.false),
    )

pub returns : goal.returns
returns c =
    let a = c.args in
    λ s era nodes ours room.
    due_key_gen base s a.message.now _ c.read_u32.ensures _ _ c.in-Ok.is c.if-tag-ne1.false _ _ (sym c.read_whole.ensures ∙ c.in_ok-read.was) _ _ _ c.in-KeyGen.is a.our_id ours
    ∙ kept_full base s _ a.era era c.if-made_in-era.false _ _ nodes ours (sym c.is_member.ensures ∙ c.if-not-is_member.false) (room ∙ le-leb base.store a.held c.if-held-lt-LIMIT.false)
