-- 01, rows 2 and 3 of a contribution and of a batch, by their cause.
use Rattle.std.specs.Prelude.{ℕ, ◌+◌, ◌^◌, ◌≤◌, ◌<◌, List, [], ◌∷◌, length}
use Rattle.bincode.specs.Numbers.{fixed}
use Rattle.bincode.specs.Sizes.{Sizes}
use Rattle.bincode.specs.Stands.{Each, All}
use Rattle.bincode.specs.Causes.{Cause, not_ascending, count_over, total_over, too_long, Wrong, Short, Unless, Field, Whole, NotAbove, Number, Counted}
use Rattle.votes.specs.Votes as votes
use Rattle.votes.specs.VoteCauses as vote
use Rattle.key_gen_message.specs.KeyGenMessage as key_gen
use Rattle.key_gen_message.specs.MessageCauses as message
use Rattle.internal_contrib.specs.InternalContrib.{ContribOf, spending, opening, user_bytes, messages_bytes, contrib_bytes, batch_bytes, UserOk, ContribOk}

-- votes and messages of contributions, together
abbrev pub total : List ContribOf → ℕ
total [] = 0
total (x ∷ xs) = length x.messages + length x.votes + total xs

module _ (z : Sizes) (s : List ℕ) where
  -- a count, which is not over its size, and as many bytes
  abbrev pub user_wrong : Wrong
  user_wrong = Number fixed Short s 8 λ n. Unless (z.user < n) count_over (Short s n)

  -- a count of messages, or of votes: with the votes and messages before it, it does not exceed the batch's size
  module _ (before : ℕ) where
    abbrev pub messages_wrong : Wrong
    messages_wrong =
        Counted fixed Short s key_gen.signed_bytes (λ n. z.items < before + n) total_over (All (key_gen.SignedOk z)) (λ xs. message.signed_wrong z s)

    abbrev pub votes_wrong : Wrong
    votes_wrong = Counted fixed Short s votes.signed_bytes (λ n. z.items < before + n) total_over (All (votes.SignedVoteOk z)) (λ xs. vote.signed_wrong z s)

    -- messages that nothing is wrong with
    abbrev pub MessagesFine : List key_gen.SignedKeyGenMsgOf → Type 0
    MessagesFine ms = (length ms < 256 ^ 8) × (before + length ms ≤ z.items) × All (key_gen.SignedOk z) ms

  -- the id, above those of the contributions before; user bytes, messages, votes
  abbrev pub contrib_wrong : List ContribOf → Wrong
  contrib_wrong before =
      Number fixed Short s 4 λ id.
      Unless (NotAbove (λ x. x.id) before id) not_ascending
      (Field s user_bytes (UserOk z) user_wrong λ user.
      Field s messages_bytes (MessagesFine (total before)) (messages_wrong (total before)) λ messages.
      votes_wrong (total before + length messages))

  -- a count, which is not over its size, and as many contributions
  abbrev pub contribs_wrong : Wrong
  contribs_wrong = Counted fixed Short s contrib_bytes (λ n. z.nodes < n) count_over (Each spending (ContribOk z) (opening z)) contrib_wrong

  abbrev pub ContribsFine : List ContribOf → Type 0
  ContribsFine cs = (length cs ≤ z.nodes) × Each spending (ContribOk z) (opening z) cs

  -- the whole length first; then the contributions; left-over bytes last
  abbrev pub batch_wrong : Cause → Type 0
  batch_wrong = Unless (z.batch < length s) too_long (λ start. Whole s batch_bytes ContribsFine contribs_wrong) 0
