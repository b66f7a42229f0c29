-- Reading and writing parameters are inverse, in every edition.
-- Assumes nothing.
use Prim.Native.Nat.{ℕ, ◌<◌}
use mathlib.Core.Path.{◌≡◌, refl, sym, ◌∙◌}
use mathlib.Core.List.{List, append-nil}
use native.Mathlib.Omega.{arith}
use lib.Dec.{lit<}
use Rattle.bincode.specs.Numbers.{Edition}
use Rattle.bincode.specs.Codes.{Codes, NumberCodes}
use Rattle.bincode.proofs.CodeLaws.{four, eight, field, ended, choose, none, restate, recode}
use Rattle.honey_badger.proofs.ScheduleCodes.{schedule_codes}
use Rattle.params.specs.declared.SubsetHandlingStrategy.{SubsetHandlingStrategy}
use Rattle.params.specs.declared.SubsetHandlingStrategy.TheVariants.{Incremental, AllAtEnd}
use Rattle.params.specs.Params.{strategy_tag, read_strategy, strategy_bytes, read_params, params_bytes, ParamsOk}

tag_below : (x : SubsetHandlingStrategy) → strategy_tag x < 2
tag_below Incremental = lit< tt
tag_below AllAtEnd = lit< tt

-- a tag leaves one strategy
is_incremental : (x : SubsetHandlingStrategy) → strategy_tag x ≡ 0 → x ≡ Incremental
is_incremental Incremental t = refl
is_incremental AllAtEnd t = absurd (let z : ⊥ = omega arith in z)

is_all_at_end : (x : SubsetHandlingStrategy) → strategy_tag x ≡ 1 → x ≡ AllAtEnd
is_all_at_end Incremental t = absurd (let z : ⊥ = omega arith in z)
is_all_at_end AllAtEnd t = refl

module _ (e : Edition) (s : List ℕ) (num : NumberCodes e s) where
  pub strategy_codes : Codes s (read_strategy e s) (strategy_bytes e) (λ x. Unit {0})
  unfolding read_strategy strategy_bytes
  strategy_codes =
      recode (λ x o. append-nil (e.bytes 4 (strategy_tag x)))
      (restate (λ x o. tt) (λ x o. let t = tag_below x in (tt, (omega arith, tt)))
      (field {H = λ x. Unit {0}} {Q = λ x. Unit {0}} strategy_tag (num 4 four) λ t.
      choose t 0 (λ q. ended Incremental (tt, sym q) (λ x h. is_incremental x (h.1 ∙ q))) λ n0.
      choose t 1 (λ q. ended AllAtEnd (tt, sym q) (λ x h. is_all_at_end x (h.1 ∙ q))) λ n1.
      none 2 (λ x o. let b = tag_below x in let i = o.0.1 in omega arith)))

  pub params_codes : Codes s (read_params e s) (params_bytes e) ParamsOk
  unfolding read_params params_bytes
  params_codes =
      restate
      (λ p o. record { epochs_fit = o.1.0; schedule_ok = o.1.1.1.0 })
      (λ p o. (tt, (o.epochs_fit, (tt, (o.schedule_ok, tt)))))
      (field {H = λ p. Unit {0}} (λ p. p.max_future_epochs) (num 8 eight) λ epochs.
      field (λ p. p.subset_handling_strategy) strategy_codes λ strategy.
      field (λ p. p.encryption_schedule) (schedule_codes e s num) λ schedule.
      ended (record { max_future_epochs = epochs; subset_handling_strategy = strategy; encryption_schedule = schedule })
      (((tt, refl), refl), refl)
      (λ p h. λ i. record { max_future_epochs = h.0.0.1 i; subset_handling_strategy = h.0.1 i; encryption_schedule = h.1 i }))
