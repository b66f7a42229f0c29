-- 01, rows 2 and 3 of a join plan, by their cause.
use Rattle.std.specs.Prelude.{ℕ, List}
use Rattle.bincode.specs.Numbers.{Edition}
use Rattle.bincode.specs.Sizes.{Sizes}
use Rattle.bincode.specs.Causes.{Wrong, NumberWrong, Field, Number}
use Rattle.pub_key_map.specs.PubKeyMap.{map_bytes, MapOk}
use Rattle.pub_key_map.specs.MapCauses.{map_wrong}
use Rattle.params.specs.ParamsCauses.{params_wrong}
use Rattle.change.specs.Change.{state_bytes, StateOk}
use Rattle.change.specs.ChangeCauses.{state_wrong}

module _ (e : Edition) (v : NumberWrong) (s : List ℕ) (z : Sizes) where
  -- era, change, map, key set, parameters
  abbrev pub plan_wrong : Wrong
  plan_wrong =
      Number e v s 8 λ era.
      Field s (state_bytes e) (StateOk z) (state_wrong e v s z) λ change.
      Field s (map_bytes e) (MapOk z) (map_wrong e v s z) λ keys.
      Number e v s 8 λ key_set.
      params_wrong e v s
