-- 01, row 2 of a schedule, by its cause.
use Rattle.std.specs.Prelude.{ℕ, List}
use Rattle.bincode.specs.Numbers.{Edition}
use Rattle.bincode.specs.Causes.{Wrong, Nothing, Unknown, NumberWrong, Case, Number}

module _ (e : Edition) (v : NumberWrong) (s : List ℕ) where
  -- a tag from 0 to 3; no number behind `Always` and `Never`, one behind `EveryNthEpoch`, two behind `TickTock`
  abbrev pub schedule_wrong : Wrong
  schedule_wrong =
      Number e v s 4 λ tag.
      Case tag 0 Nothing
      (Case tag 1 Nothing
      (Case tag 2 (v s 4)
      (Case tag 3 (Number e v s 4 λ on. v s 4)
      Unknown)))
