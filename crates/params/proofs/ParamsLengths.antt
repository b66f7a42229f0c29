-- How long parameters are at most, in every edition.
-- Assumes nothing.
use Prim.Native.Nat.{ℕ, ◌+◌, ◌≤◌}
use mathlib.Core.List.{append-nil}
use native.Mathlib.Omega.{arith}
use lib.Dec.{lit<}
use lib.ListN.{length, length-append}
use Rattle.bincode.specs.Numbers.{Edition}
use Rattle.bincode.proofs.LengthLaws.{Lengths}
use Rattle.honey_badger.proofs.ScheduleLengths.{schedule_length}
use Rattle.params.specs.declared.SubsetHandlingStrategy.{SubsetHandlingStrategy}
use Rattle.params.specs.declared.SubsetHandlingStrategy.TheVariants.{Incremental, AllAtEnd}
use Rattle.params.specs.declared.Params.{Params}
use Rattle.params.specs.Params.{strategy_bytes, params_bytes, ParamsOk}

module _ (e : Edition) (limit tag count four eight : ℕ) (k : Lengths e limit tag count four eight) where
  strategy_length : (x : SubsetHandlingStrategy) → length (strategy_bytes e x) ≤ tag
  unfolding strategy_bytes
  strategy_length Incremental = k.tag_by 0 (lit< tt)
  strategy_length AllAtEnd = k.tag_by 1 (lit< tt)

  -- a number of eight bytes, a tag, a schedule
  pub params_length : (p : Params) → ParamsOk p → length (params_bytes e p) ≤ eight + (tag + (tag + (four + four)))
  unfolding params_bytes
  params_length p o =
      simp (append-nil, length-append)
      (omega (arith, k.eight_by p.max_future_epochs o.epochs_fit, strategy_length p.subset_handling_strategy, schedule_length e limit tag count four eight k p.encryption_schedule o.schedule_ok))
