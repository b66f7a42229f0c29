-- 01, rows 2 and 3 of a change and of its state, by their cause.
use Rattle.std.specs.Prelude.{ℕ, List}
use Rattle.bincode.specs.Numbers.{Edition}
use Rattle.bincode.specs.Sizes.{Sizes}
use Rattle.bincode.specs.Causes.{Wrong, Nothing, Unknown, NumberWrong, Case, Number}
use Rattle.pub_key_map.specs.MapCauses.{map_wrong}
use Rattle.honey_badger.specs.ScheduleCauses.{schedule_wrong}

module _ (e : Edition) (v : NumberWrong) (s : List ℕ) (z : Sizes) where
  -- tag 0 and a map, tag 1 and a schedule
  abbrev pub change_wrong : Wrong
  change_wrong =
      Number e v s 4 λ tag.
      Case tag 0 (map_wrong e v s z)
      (Case tag 1 (schedule_wrong e v s)
      Unknown)

  -- tag 0 alone; tag 1 (in progress) and tag 2 (complete), each with its change
  abbrev pub state_wrong : Wrong
  state_wrong =
      Number e v s 4 λ tag.
      Case tag 0 Nothing
      (Case tag 1 change_wrong
      (Case tag 2 change_wrong
      Unknown))
