-- 01, "When the engine says no", and 02: the rows of a batch call, each on the call's inputs and the state before it.
use Rattle.std.specs.Prelude.{ℕ, List, [], ◌∷◌, Bool, false, not, ◌||◌, length, ltb, eqb}
use Rattle.bincode.specs.Sizes.{Sizes}
use Rattle.internal_contrib.specs.InternalContrib.{ContribOf}
use Rattle.internal_contrib.specs.Places.{message_count}
use Rattle.dynamic_honey_badger.specs.State.{StateOf}
use Rattle.steps.specs.Steps.{committed}
use Rattle.decision.specs.Decision.{empty_wins}

-- whether a test holds of some element
module _ {A : Type 0} (p : A → Bool) where
  unfoldable pub some : List A → Bool
  some [] = false
  some (x ∷ xs) = p x || some xs

-- 1: a list lent to be written is shorter than its size
unfoldable pub batch_row1 : Sizes → ℕ → ℕ → Bool
batch_row1 z fault_places due_places = ltb fault_places z.faults || ltb due_places z.due

-- 4: verdict count differs, or a byte over 3
abbrev pub no_verdict : ℕ → Bool
no_verdict v = ltb 3 v

unfoldable pub batch_row4 : List ContribOf → List ℕ → Bool
batch_row4 cs verdicts = not (eqb (length verdicts) (message_count cs)) || some no_verdict verdicts

-- 15 (02, CR 1): the batch is of another era than the engine's, an earlier or a later one
unfoldable pub batch_row15 : ℕ → ℕ → Bool
batch_row15 now era = not (eqb era now)

-- 6 has no condition (02, CR 2): its old one, a key message of a node that is not in the candidate map, is a fault of step 5

-- 7: the winning map is empty, and key generation is not ready
unfoldable pub batch_row7 : Sizes → StateOf → List ℕ → List ContribOf → Bool
batch_row7 z s verdicts cs = empty_wins (committed z s verdicts cs).state
