-- Which numbers a join plan refuses with, in every edition and for every list of numbers: those of its numbers, 2 and 3.
-- Assumes nothing.
use Prim.Native.Nat.{ℕ}
use mathlib.Core.List.{List}
use Rattle.bincode.specs.Read.{whole}
use Rattle.bincode.specs.Numbers.{Edition}
use Rattle.bincode.specs.Sizes.{Sizes}
use Rattle.bincode.proofs.RefusalLaws.{Plain, Refusing, plain_bind, plain_whole}
use Rattle.pub_key_map.specs.PubKeyMap.{read_map}
use Rattle.pub_key_map.proofs.MapRefusals.{map_plain}
use Rattle.params.specs.Params.{read_params}
use Rattle.params.proofs.ParamsRefusals.{params_plain}
use Rattle.change.specs.Change.{read_state}
use Rattle.change.proofs.ChangeRefusals.{state_plain}
use Rattle.join_plan.specs.JoinPlan.{read_plan}

module _ {N : ℕ → Type 0} {e : Edition} {s : List ℕ} (k : Refusing N e s) (z : Sizes) where
  pub plan_plain : (at : ℕ) → Plain N (read_plan e z s at)
  unfolding read_plan
  plan_plain at =
      plain_bind N (e.read 8 s at) _ (k.numbers 8 at) λ era a.
      plain_bind N (read_state e z s a) _ (state_plain k z a) λ change b.
      plain_bind N (read_map e z s b) _ (map_plain k z b) λ keys c.
      plain_bind N (e.read 8 s c) _ (k.numbers 8 c) λ key_set d.
      plain_bind N (read_params e s d) _ (params_plain k d) λ params f.
      tt

  -- and one from the first byte on, with nothing left over
  pub whole_plan_plain : Plain N (whole (read_plan e z s) s)
  whole_plan_plain = plain_whole N k.two (read_plan e z s) s (plan_plain 0)
