use mathlib.Core.Path.{sym, ap, ◌∙◌}
use Rattle.bincode.specs.Sizes.{base}
use Rattle.bincode.proofs.ReadLaws.{answer_ok}
use Rattle.key_gen_message.specs.KeyGenMessage.{read_signed_key_gen_msg, same_signed, signed_of, signed_held}
use Rattle.key_gen_message.proofs.MessageLaws.{held_signed, signed_eq}
use Rattle.store_filter.specs.Filter.{is_read}
use Rattle.store_filter.proofs.is_read_at.Goals as goal

pub returns-in-Ok : goal.returns-in-Ok
returns-in-Ok c =
    let x = signed_of c.args.x.now in
    let u = answer_ok signed_held (read_signed_key_gen_msg base c.args.s.now c.args.at) c.in-Ok.m _ (sym c.read.ensures ∙ c.in-Ok.is) in
    c.eq.ensures ∙ signed_eq c.args.x.now c.in-Ok.m ∙ ap (same_signed x) (ap signed_of u.2 ∙ held_signed u.0) ∙ sym (ap (is_read x) u.1)
