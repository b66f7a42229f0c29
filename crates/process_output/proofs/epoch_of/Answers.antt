use mathlib.Core.Path.{refl, sym, ap, ◌∙◌}
use mathlib.Core.Bool.{not}
use borrow.Author.Tests.{eq-eqb, ne_eqb}
use Rattle.std.specs.declared.result.Result.TheVariants.{Err}
use Rattle.lists.proofs.ListLaws.{cond_yes, cond_no}
use Rattle.bincode.specs.declared.Refusal.TheVariants.{IllFormedVerdicts, OtherEra}
use Rattle.process_output.proofs.OpeningLaws.{by_rows}
use Rattle.process_output.proofs.epoch_of.Goals as goal

pub returns-then-is_ill_formed : goal.returns-then-is_ill_formed
returns-then-is_ill_formed c =
    let a = c.args in
    by_rows a.era a.agreed.era a.agreed.epoch a.agreed.verdicts.now a.messages _ _ c.is_ill_formed.ensures refl (Err IllFormedVerdicts) (sym (cond_yes _ _ c.if-is_ill_formed.true))

pub returns-then-agreed-era : goal.returns-then-agreed-era
returns-then-agreed-era c =
    let a = c.args in
    by_rows a.era a.agreed.era a.agreed.epoch a.agreed.verdicts.now a.messages _ _ c.is_ill_formed.ensures refl (Err OtherEra)
    (sym (cond_no _ _ c.if-is_ill_formed.false ∙ cond_yes _ _ (ap not (ne_eqb _ _ c.if-agreed-era.true))))

pub returns : goal.returns
returns c =
    let a = c.args in
    by_rows a.era a.agreed.era a.agreed.epoch a.agreed.verdicts.now a.messages _ _ c.is_ill_formed.ensures refl c.epoch_in.result
    (c.epoch_in.ensures ∙ sym (cond_no _ _ c.if-is_ill_formed.false ∙ cond_no _ _ (ap not (eq-eqb _ _ c.if-agreed-era.false))))
