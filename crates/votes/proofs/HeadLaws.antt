-- What a signed vote is read as, by the fields that were read of it, where the change is not kept.
-- Assumes nothing.
use Prim.Native.Nat.{ℕ}
use mathlib.Core.Path.{◌≡◌}
use mathlib.Core.List.{List}
use Rattle.std.specs.declared.result.Result.{Result}
use Rattle.std.specs.declared.result.Result.TheVariants.{Ok}
use Rattle.bincode.specs.Answer.{answer}
use Rattle.bincode.specs.Read.{value}
use Rattle.bincode.specs.Numbers.{read_num, fixed}
use Rattle.bincode.specs.Sizes.{Sizes}
use Rattle.bincode.specs.declared.Refusal.{Refusal}
use Rattle.change.specs.Change.{ChangeOf, read_change}
use Rattle.votes.specs.declared.VoteHead.{VoteHead}
use Rattle.votes.specs.Votes.{read_vote, read_signed_vote}
use Rattle.votes.specs.VoteHead.{head_of}

-- change, era, number, voter and signature, each behind the one before it
module _ (z : Sizes) (s : List ℕ) (at : ℕ) (x : ChangeOf) (a : ℕ) (e : read_change fixed z s at ≡ value x a) (era b : ℕ) (f : read_num 8 s a ≡ value era b)
    (num c : ℕ) (g : read_num 8 s b ≡ value num c) (voter d : ℕ) (h : read_num 4 s c ≡ value voter d) where
  pub head_read : (sig end : ℕ) → read_num 8 s d ≡ value sig end
      → ◌≡◌ {A = Result (VoteHead × ℕ) Refusal} (Ok (record { era = era; num = num; voter = voter; sig = sig }, end)) (answer head_of (read_signed_vote z s at))
  unfolding read_signed_vote read_vote
  head_read sig end i = rw (e, f, g, h, i)
