-- What refuses a contribution and a batch, for every size: the causes that `contrib_wrong` and `batch_wrong` name, each with its number, and nothing else.
-- Assumes nothing.
use Prim.Native.Nat.{ℕ, ◌+◌, ◌-◌, ◌^◌, ◌<◌}
use mathlib.Core.Path.{◌≡◌, refl}
use mathlib.Core.List.{List, [], ◌∷◌}
use mathlib.Core.Logic.{◌↔◌}
use native.Mathlib.Omega.{arith}
use lib.Dec.{ltb}
use lib.ListN.{length, take, drop}
use borrow.Author.Tests.{ltb-true, ltb-false}
use Rattle.bincode.specs.Read.{whole}
use Rattle.bincode.specs.Numbers.{fixed}
use Rattle.bincode.specs.Sizes.{Sizes}
use Rattle.bincode.specs.Items.{foldl}
use Rattle.bincode.specs.Stands.{Each}
use Rattle.bincode.specs.Codes.{Codes}
use Rattle.bincode.specs.Causes.{cut, not_ascending, count_over, total_over, too_long, Short, Caused, Causes}
use Rattle.bincode.proofs.CodeLaws.{four, eight, fixed_codes, restate}
use Rattle.bincode.proofs.CauseLaws.{field, field_ok, last, tested, tested_last, fixed_causes, whole_causes}
use Rattle.bincode.proofs.RunCauses.{counted_causes, plain_causes, not_above}
use Rattle.votes.specs.Votes as votes
use Rattle.votes.specs.VoteCauses as vote
use Rattle.votes.proofs.VoteCodes as vote_codes
use Rattle.votes.proofs.VoteCauses as vote_causes
use Rattle.key_gen_message.specs.KeyGenMessage as key_gen
use Rattle.key_gen_message.specs.MessageCauses as message
use Rattle.key_gen_message.proofs.MessageCodes as message_codes
use Rattle.key_gen_message.proofs.MessageCauses as message_causes
use Rattle.internal_contrib.specs.declared.Budget.{Budget}
use Rattle.internal_contrib.specs.InternalContrib.{ContribOf, read_user, read_messages, read_votes, read_contrib, read_contribs, read_batch, spending, opening, messages_bytes, contrib_bytes, ContribOk}
use Rattle.internal_contrib.specs.ContribCauses.{total, user_wrong, messages_wrong, votes_wrong, MessagesFine, contrib_wrong, contribs_wrong, batch_wrong}
use Rattle.internal_contrib.proofs.ContribCodes.{user_codes, messages_codes, contrib_codes, contribs_codes}

-- What is left of the total, and the votes and messages of the contributions before, are the whole of it.
left_total : (z : Sizes) (xs : List ContribOf) (b : Budget) → Each spending (ContribOk z) b xs → (foldl spending b xs).left + total xs ≡ b.left
unfolding spending
left_total z [] b h = omega arith
left_total z (x ∷ xs) b h = omega (arith, left_total z xs (spending b x) h.1, h.0.few_messages, h.0.few_votes)

module _ (s : List ℕ) (z : Sizes) where
  pub user_causes : Causes s (read_user z s) (user_wrong z s)
  unfolding read_user
  user_causes =
      field (fixed_codes s 8 eight) (fixed_causes s 8 eight) λ n.
      tested (ltb z.user n) count_over 3 refl (ltb-true z.user n) (λ t l. let m = ltb-false z.user n t in omega arith) λ t at.
      tested_last (ltb (length s - at) n) cut 2 refl (ltb-true (length s - at) n) (λ u l. let m = ltb-false (length s - at) n u in omega arith)
      (take n (drop at s)) (at + n)

  -- a run of messages, or of votes, that may be as long as what is left
  module _ (left before : ℕ) (spent : left + before ≡ z.items) where
    over_left : (n : ℕ) → (left < n) ↔ (z.items < before + n)
    over_left n = (λ l. omega arith, λ l. omega arith)

    pub messages_causes : z.rows < 256 ^ 8 → Causes s (read_messages z s left) (messages_wrong z s before)
    unfolding read_messages
    messages_causes fits =
        plain_causes s (key_gen.read_signed_key_gen_msg z s) key_gen.signed_bytes (key_gen.SignedOk z) (message_codes.signed_codes s z fits)
        (message.signed_wrong z s) (message_causes.signed_causes s z fits) fixed Short (fixed_codes s) (fixed_causes s) left (λ n. z.items < before + n) over_left total_over refl

    pub votes_causes : z.nodes < 256 ^ 8 → Causes s (read_votes z s left) (votes_wrong z s before)
    unfolding read_votes
    votes_causes fits =
        plain_causes s (votes.read_signed_vote z s) votes.signed_bytes (votes.SignedVoteOk z) (vote_codes.signed_codes s z fits)
        (vote.signed_wrong z s) (vote_causes.signed_causes s z fits) fixed Short (fixed_codes s) (fixed_causes s) left (λ n. z.items < before + n) over_left total_over refl

    messages_fine : z.rows < 256 ^ 8 → Codes s (read_messages z s left) messages_bytes (MessagesFine z s before)
    messages_fine fits = restate (λ ms o. (o.0, omega (arith, o.1), o.2)) (λ ms o. (o.0, omega (arith, o.1), o.2)) (messages_codes s z fits left)

module _ (z : Sizes) (nodes-fit : z.nodes < 256 ^ 8) (rows_fit : z.rows < 256 ^ 8) (user-fits : z.user < 256 ^ 8) (s : List ℕ) where
  -- a contribution behind others
  pub contrib_causes : (before : List ContribOf) → Each spending (ContribOk z) (opening z) before
      → Causes s (read_contrib z s (foldl spending (opening z) before)) (contrib_wrong z s before)
  unfolding read_contrib spending
  contrib_causes before h =
      let b = foldl spending (opening z) before in
      let spent : b.left + total before ≡ z.items = left_total z before (opening z) h in
      field (fixed_codes s 4 four) (fixed_causes s 4 four) λ id.
      let below = not_above spending (ContribOk z) (λ x. x.id) (λ c. c.low) (λ c x. refl) (λ c x o. o.ascends) (opening z) refl before h id in
      tested (ltb id b.low) not_ascending 2 refl
      (λ t. below.0 (ltb-true id b.low t)) (λ t p. let l = ltb-false id b.low t in let m = below.1 p in omega arith) λ t.
      field (user_codes s z user-fits) (user_causes s z) λ user.
      field_ok (messages_fine s z b.left (total before) spent rows_fit) (messages_causes s z b.left (total before) spent rows_fit) λ messages o.
      last (λ votes. record { id = id; user = user; messages = messages; votes = votes })
      (votes_causes s z (b.left - length messages) (total before + length messages) (omega (arith, o.1, spent)) nodes-fit)

  pub contribs_causes : Causes s (read_contribs z s) (contribs_wrong z s)
  unfolding read_contribs
  contribs_causes =
      counted_causes s (read_contrib z s) spending contrib_bytes (ContribOk z) (contrib_codes z nodes-fit rows_fit user-fits s)
      (opening z) (contrib_wrong z s) contrib_causes
      fixed Short (fixed_codes s) (fixed_causes s) z.nodes (λ n. z.nodes < n) (λ n. (λ l. l, λ l. l)) count_over refl

  pub batch_causes : Caused s (read_batch z s) (batch_wrong z s)
  unfolding read_batch
  batch_causes =
      tested {rd = λ at. whole (read_contribs z s) s} (ltb z.batch (length s)) too_long 3 refl
      (ltb-true z.batch (length s)) (λ t l. let m = ltb-false z.batch (length s) t in omega arith)
      (λ t at. whole_causes (contribs_codes z nodes-fit rows_fit user-fits s) contribs_causes) 0
