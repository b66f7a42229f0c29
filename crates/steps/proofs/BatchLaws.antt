-- Every contribution of a batch is handled, in order, each from where the ones before it left off; of a contribution its votes before its key messages.
-- Assumes nothing.
use Prim.Native.Nat.{ℕ}
use mathlib.Core.Path.{◌≡◌, refl}
use mathlib.Core.List.{List, ◌∷◌}
use Rattle.bincode.specs.Items.{foldl}
use Rattle.bincode.specs.Sizes.{Sizes}
use Rattle.internal_contrib.specs.InternalContrib.{ContribOf}
use Rattle.dynamic_honey_badger.specs.State.{StateOf}
use Rattle.steps.specs.Steps.{WorkOf, begun, committed_vote, committed_message, committed_contrib, committed}

pub committed_more : (z : Sizes) (s : StateOf) (verdicts : List ℕ) (c : ContribOf) (cs : List ContribOf)
    → committed z s verdicts (c ∷ cs) ≡ foldl (committed_contrib z) (committed_contrib z (begun s verdicts) c) cs
unfolding committed
committed_more z s verdicts c cs = refl

-- "per contribution .. its votes, then its key messages"
pub contrib_in_order : (z : Sizes) (w : WorkOf) (c : ContribOf) → committed_contrib z w c ≡ foldl (committed_message z c.id) (foldl (committed_vote z c.id) w c.votes) c.messages
unfolding committed_contrib
contrib_in_order z w c = refl
