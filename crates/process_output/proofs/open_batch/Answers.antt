use mathlib.Core.Path.{sym, ap, ◌∙◌}
use Prim.Native.Nat.{ℕ}
use Rattle.lists.proofs.ListLaws.{take_padded}
use Rattle.bincode.specs.Read.{value}
use Rattle.bincode.specs.Answer.{outcome_as_said}
use Rattle.bincode.specs.Sizes.{base}
use Rattle.bincode.proofs.AnswerLaws.{passed_on}
use Rattle.internal_contrib.specs.InternalContrib.{read_batch}
use Rattle.internal_contrib.specs.Index.{contribs_in, placed_in, no_contrib}
use Rattle.internal_contrib.proofs.BatchLaws.{check_value}
use Rattle.process_output.specs.Opening.{call_by}
use Rattle.process_output.proofs.OpeningLaws.{lent_refused, lent_long, lent_done, refused_as}
use Rattle.process_output.proofs.open_batch.Goals as goal

pub returns-in_err-index : goal.returns-in_err-index
returns-in_err-index c =
    let a = c.args in
    let i = c.read_lent in
    let b = call_by a.agreed a.places in
    (refused_as _ _ _ _ (passed_on _ _ c.from_residual.ensures.1) (lent_refused a.era b i.result i.ensures.0 _ c.in_err-index.was), i.ensures.1)

pub returns-in_err-epoch : goal.returns-in_err-epoch
returns-in_err-epoch c =
    let a = c.args in
    let s = a.agreed.batch.now in
    let i = c.read_lent in
    let b = call_by a.agreed a.places in
    let n = c.in_ok-index in
    let v = check_value (read_batch base s) i.result (i.ensures.0.1 (lent_long a.era b i.result i.ensures.0 _ n.was)) n.index n.messages n.was in
    let o = lent_done a.era b i.result i.ensures.0 _ n.was (value v.0 v.1) v.2 in
    let e = c.epoch_of.ensures s v.0 a.places.faults a.places.due v.3 in
    (refused_as _ _ _ _ (passed_on _ _ c.from_residual-in_err-epoch.ensures.1) (o ∙ sym e ∙ ap (outcome_as_said (λ (k : ℕ). k)) c.in_err-epoch.was), i.ensures.1)

pub returns : goal.returns
returns c =
    let a = c.args in
    let s = a.agreed.batch.now in
    let i = c.read_lent in
    let b = call_by a.agreed a.places in
    let x = read_batch base s in
    let n = c.in_ok-index in
    let v = check_value x i.result (i.ensures.0.1 (lent_long a.era b i.result i.ensures.0 _ n.was)) n.index n.messages n.was in
    let o = lent_done a.era b i.result i.ensures.0 _ n.was (value v.0 v.1) v.2 in
    let e = c.epoch_of.ensures s v.0 a.places.faults a.places.due v.3 in
    ((o ∙ sym e ∙ ap (outcome_as_said (λ (k : ℕ). k)) c.in_ok-epoch.was, ap contribs_in v.4 ∙ take_padded base.nodes no_contrib (placed_in x)), i.ensures.1)
