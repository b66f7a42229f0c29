use Prim.Native.Nat.{◌<◌}
use mathlib.Core.Path.{sym, ap, ◌∙◌, subst}
use mathlib.Core.Logic.{⊎_elim}
use Rattle.honey_badger.specs.EncryptionSchedule.{is_below}
use Rattle.honey_badger.proofs.ScheduleLaws.{use_zero, use_long}
use Rattle.honey_badger.proofs.CycleLaws.{use_told}
use Rattle.honey_badger.proofs.EncryptionSchedule.use_on_epoch.Goals as goal

pub returns : goal.returns
unfolding is_below
returns c = sym (use_told _ _ _ c.cycle-c.ensures c.if-period-eq0.false c.if-period-gt-LONGEST.false)

-- row 14
pub returns-then-period-eq0 : goal.returns-then-period-eq0
returns-then-period-eq0 c =
    let a = c.args in
    let e = ap (λ v. v.period) c.cycle-c.ensures in
    ⊎_elim
    (λ k. sym (use_zero a.self a.epoch (sym e ∙ k)))
    (λ k. sym (use_long a.self a.epoch (λ q. k.0 (e ∙ q)) (subst (λ p. 4294967295 < p) e k.1)))
    c.then-period-eq0.either
