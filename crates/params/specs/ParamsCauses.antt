-- 01, row 2 of parameters, by its cause.
use Rattle.std.specs.Prelude.{ℕ, List}
use Rattle.bincode.specs.Numbers.{Edition}
use Rattle.bincode.specs.Causes.{Wrong, Nothing, Unknown, NumberWrong, Case, Field, Number}
use Rattle.honey_badger.specs.ScheduleCauses.{schedule_wrong}
use Rattle.params.specs.Params.{strategy_bytes}

module _ (e : Edition) (v : NumberWrong) (s : List ℕ) where
  -- a tag, 0 or 1
  abbrev pub strategy_wrong : Wrong
  strategy_wrong =
      Number e v s 4 λ tag.
      Case tag 0 Nothing
      (Case tag 1 Nothing
      Unknown)

  -- the number of future epochs, the strategy, the schedule
  abbrev pub params_wrong : Wrong
  params_wrong =
      Number e v s 8 λ epochs.
      Field s (strategy_bytes e) (λ x. Unit {0}) strategy_wrong λ strategy.
      schedule_wrong e v s
