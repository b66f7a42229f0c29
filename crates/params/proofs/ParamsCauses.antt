-- What refuses parameters, in every edition: the causes that `params_wrong` names, each with its number, and nothing else.
-- Assumes nothing.
use Prim.Native.Nat.{ℕ}
use mathlib.Core.Path.{refl}
use mathlib.Core.List.{List}
use Rattle.bincode.specs.Numbers.{Edition}
use Rattle.bincode.specs.Codes.{NumberCodes}
use Rattle.bincode.specs.Causes.{NumberWrong, Causes, NumberCauses}
use Rattle.bincode.proofs.CodeLaws.{four, eight}
use Rattle.bincode.proofs.CauseLaws.{field, last, cases, unknown, accepted}
use Rattle.honey_badger.proofs.ScheduleCauses.{schedule_causes}
use Rattle.params.specs.declared.SubsetHandlingStrategy.TheVariants.{Incremental, AllAtEnd}
use Rattle.params.specs.Params.{read_strategy, read_params}
use Rattle.params.specs.ParamsCauses.{strategy_wrong, params_wrong}
use Rattle.params.proofs.ParamsCodes.{strategy_codes}

module _ (e : Edition) (v : NumberWrong) (s : List ℕ) (codes : NumberCodes e s) (num : NumberCauses e v s) where
  pub strategy_causes : Causes s (read_strategy e s) (strategy_wrong e v s)
  unfolding read_strategy
  strategy_causes =
      field (codes 4 four) (num 4 four) λ tag.
      cases tag 0 (accepted Incremental)
      (cases tag 1 (accepted AllAtEnd)
      (unknown 2 refl))

  pub params_causes : Causes s (read_params e s) (params_wrong e v s)
  unfolding read_params
  params_causes =
      field (codes 8 eight) (num 8 eight) λ epochs.
      field (strategy_codes e s codes) strategy_causes λ strategy.
      last (λ schedule. record { max_future_epochs = epochs; subset_handling_strategy = strategy; encryption_schedule = schedule })
      (schedule_causes e v s codes num)
