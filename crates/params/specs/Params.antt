-- Parameters: the number of future epochs, the strategy, the schedule.
use Rattle.std.specs.Prelude.{ℕ, ◌^◌, ◌<◌, List, [], ◌∷◌, cond, eqb}
use Rattle.bincode.specs.Read.{Read, value, refuse, bind}
use Rattle.bincode.specs.Numbers.{Edition}
use Rattle.bincode.specs.Stands.{concat}
use Rattle.honey_badger.specs.EncryptionSchedule.{read_schedule, schedule_bytes, ScheduleOk}
use Rattle.params.specs.declared.SubsetHandlingStrategy.{SubsetHandlingStrategy}
use Rattle.params.specs.declared.SubsetHandlingStrategy.TheVariants.{Incremental, AllAtEnd}
use Rattle.params.specs.declared.Params.{Params}

-- the tag in order of declaration
abbrev pub strategy_tag : SubsetHandlingStrategy → ℕ
strategy_tag Incremental = 0
strategy_tag AllAtEnd = 1

unfoldable pub read_strategy : Edition → List ℕ → ℕ → Read SubsetHandlingStrategy
read_strategy e s at =
    bind (e.read 4 s at) λ tag c.
    cond (eqb tag 0) (value Incremental c)
    (cond (eqb tag 1) (value AllAtEnd c)
    (refuse 2))

unfoldable pub strategy_bytes : Edition → SubsetHandlingStrategy → List ℕ
strategy_bytes e x = e.bytes 4 (strategy_tag x)

unfoldable pub read_params : Edition → List ℕ → ℕ → Read Params
read_params e s at =
    bind (e.read 8 s at) λ epochs c.
    bind (read_strategy e s c) λ strategy d.
    bind (read_schedule e s d) λ schedule f.
    value (record { max_future_epochs = epochs; subset_handling_strategy = strategy; encryption_schedule = schedule }) f

unfoldable pub params_bytes : Edition → Params → List ℕ
params_bytes e p = concat (e.bytes 8 p.max_future_epochs ∷ strategy_bytes e p.subset_handling_strategy ∷ schedule_bytes e p.encryption_schedule ∷ [])

-- the parameters that some bytes are read as
pub record ParamsOk (p : Params) : Type 0 where
  pub epochs_fit : p.max_future_epochs < 256 ^ 8
  pub schedule_ok : ScheduleOk p.encryption_schedule
