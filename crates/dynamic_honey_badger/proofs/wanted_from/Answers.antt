use mathlib.Core.Path.{sym, ap, ◌∙◌}
use lib.Dec.{lit<}
use Rattle.bincode.specs.Causes.{Short}
use Rattle.bincode.specs.Numbers.{fixed}
use Rattle.bincode.specs.Read.{whole}
use Rattle.bincode.specs.Sizes.{base}
use Rattle.bincode.proofs.CauseLaws.{fixed_causes, whole_causes}
use Rattle.bincode.proofs.CodeLaws.{fixed_codes}
use Rattle.bincode.proofs.ReadLaws.{answer_ok}
use Rattle.change.specs.Change.{change_of, change_held, read_change}
use Rattle.change.proofs.ChangeCauses.{change_causes}
use Rattle.change.proofs.ChangeCodes.{change_codes}
use Rattle.change.proofs.ChangeLaws.{held_change}
use Rattle.joining.proofs.RowLaws.{exit_said}
use Rattle.dynamic_honey_badger.specs.OwnVotes.{vote_for}
use Rattle.dynamic_honey_badger.specs.Parts.{wanted_view, voted_for}
use Rattle.dynamic_honey_badger.proofs.OwnVotesLaws.{vote_nothing, bytes_refused, bytes_read}
use Rattle.dynamic_honey_badger.proofs.PartsLaws.{validator, wanted_cast}
use Rattle.dynamic_honey_badger.proofs.wanted_from.Goals as goal

pub returns-in_err-change : goal.returns-in_err-change
returns-in_err-change c =
    let b = c.args.bytes.now in
    let causes = whole_causes (change_codes fixed b (fixed_codes b) base (lit< tt)) (change_causes fixed Short b (fixed_codes b) (fixed_causes b) base) in
    let p = exit_said b (whole (read_change fixed base b) b) causes (λ i. (c.type_inv.bytes i).fits) change_held _ c.read_whole.ensures wanted_view _ c.in_err-change.was _ c.from_residual.ensures.1 in
    λ s m i. ap (voted_for base s) p.2 ∙ sym (bytes_refused base s b _ p.1)

pub returns-then-not-is_member : goal.returns-then-not-is_member
returns-then-not-is_member c =
    let b = c.args.bytes.now in
    let x = answer_ok change_held (whole (read_change fixed base b) b) _ _ (sym c.read_whole.ensures ∙ c.in_ok-change.was) in
    λ s m i. sym (bytes_read base s b x.0 _ x.1 ∙ vote_nothing base s _ (validator s _ _ _ m i (sym c.is_member.ensures ∙ c.if-not-is_member.true)))

pub returns : goal.returns
returns c =
    let b = c.args.bytes.now in
    let x = answer_ok change_held (whole (read_change fixed base b) b) _ _ (sym c.read_whole.ensures ∙ c.in_ok-change.was) in
    λ s m i. wanted_cast base s _ (validator s _ _ _ m i (sym c.is_member.ensures ∙ c.if-not-is_member.false)) ∙ ap (vote_for base s) (ap change_of x.2 ∙ held_change x.0) ∙ sym (bytes_read base s b x.0 _ x.1)
