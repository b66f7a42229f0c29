-- A contribution, and a batch: what is read, what is written, and the look-up of user bytes.
use Rattle.std.specs.Prelude.{ℕ, ◌+◌, ◌-◌, ◌^◌, ◌≤◌, ◌<◌, List, [], ◌∷◌, ◌++◌, cond, length, take, drop, ltb}
use Rattle.bincode.specs.Read.{Read, value, refuse, bind, whole}
use Rattle.bincode.specs.Numbers.{read_num, bytes_of, fixed}
use Rattle.bincode.specs.Sizes.{Sizes}
use Rattle.bincode.specs.Items.{counted, plain, stay}
use Rattle.bincode.specs.Stands.{Bytes, concat, concat_map, Each, All}
use Rattle.votes.specs.Votes as votes
use Rattle.key_gen_message.specs.KeyGenMessage as key_gen
use Rattle.internal_contrib.specs.declared.Budget.{Budget}

-- `InternalContrib` with its proposer's id
pub record ContribOf : Type 0 where
  pub id : ℕ
  pub user : List ℕ
  pub messages : List key_gen.SignedKeyGenMsgOf
  pub votes : List votes.SignedVoteOf

-- a u64 count, 3 where it is over its size, and as many bytes, 2 where fewer are left
unfoldable pub read_user : Sizes → List ℕ → ℕ → Read (List ℕ)
read_user z s at =
    bind (read_num 8 s at) λ n c.
    cond (ltb z.user n) (refuse 3)
    (cond (ltb (length s - c) n) (refuse 2)
    (value (take n (drop c s)) (c + n)))

-- a count that takes the total over its size is 3 as it is read
unfoldable pub read_messages : Sizes → List ℕ → ℕ → ℕ → Read (List key_gen.SignedKeyGenMsgOf)
read_messages z s left at = counted (plain (key_gen.read_signed_key_gen_msg z s)) stay fixed s left tt at

unfoldable pub read_votes : Sizes → List ℕ → ℕ → ℕ → Read (List votes.SignedVoteOf)
read_votes z s left at = counted (plain (votes.read_signed_vote z s)) stay fixed s left tt at

-- the id, 2 at once where it does not ascend; user bytes, messages, votes: messages are encoded first and counted first
unfoldable pub read_contrib : Sizes → List ℕ → Budget → ℕ → Read ContribOf
read_contrib z s b at =
    bind (read_num 4 s at) λ id c.
    cond (ltb id b.low) (refuse 2)
    (bind (read_user z s c) λ user d.
    bind (read_messages z s b.left d) λ messages f.
    bind (read_votes z s (b.left - length messages) f) λ votes g.
    value (record { id = id; user = user; messages = messages; votes = votes }) g)

-- what may follow: the least id, and how many votes and messages are left of the batch's total
unfoldable pub spending : Budget → ContribOf → Budget
spending b c = record { low = c.id + 1; left = b.left - length c.messages - length c.votes }

abbrev pub opening : Sizes → Budget
opening z = record { low = 0; left = z.items }

-- whole length first; then a map from id to contribution; left-over bytes last
unfoldable pub read_contribs : Sizes → List ℕ → ℕ → Read (List ContribOf)
read_contribs z s at = counted (read_contrib z s) spending fixed s z.nodes (opening z) at

unfoldable pub read_batch : Sizes → List ℕ → Read (List ContribOf)
read_batch z s = cond (ltb z.batch (length s)) (refuse 3) (whole (read_contribs z s) s)

-- the bytes of a contribution and of a batch
unfoldable pub user_bytes : List ℕ → List ℕ
user_bytes user = bytes_of 8 (length user) ++ user

unfoldable pub messages_bytes : List key_gen.SignedKeyGenMsgOf → List ℕ
messages_bytes ms = bytes_of 8 (length ms) ++ concat_map key_gen.signed_bytes ms

unfoldable pub votes_bytes : List votes.SignedVoteOf → List ℕ
votes_bytes vs = bytes_of 8 (length vs) ++ concat_map votes.signed_bytes vs

unfoldable pub contrib_bytes : ContribOf → List ℕ
contrib_bytes c = concat (bytes_of 4 c.id ∷ user_bytes c.user ∷ messages_bytes c.messages ∷ votes_bytes c.votes ∷ [])

unfoldable pub batch_bytes : List ContribOf → List ℕ
batch_bytes cs = bytes_of 8 (length cs) ++ concat_map contrib_bytes cs

-- the values that some bytes are read as
pub record UserOk (z : Sizes) (user : List ℕ) : Type 0 where
  pub short : length user ≤ z.user
  pub bytes : Bytes user

pub record ContribOk (z : Sizes) (b : Budget) (c : ContribOf) : Type 0 where
  pub ascends : b.low ≤ c.id
  pub id_fits : c.id < 256 ^ 4
  pub user_ok : UserOk z c.user
  pub messages_count_fits : length c.messages < 256 ^ 8
  pub few_messages : length c.messages ≤ b.left
  pub messages_ok : All (key_gen.SignedOk z) c.messages
  pub votes_count_fits : length c.votes < 256 ^ 8
  pub few_votes : length c.votes ≤ b.left - length c.messages
  pub votes_ok : All (votes.SignedVoteOk z) c.votes

pub record BatchOk (z : Sizes) (cs : List ContribOf) : Type 0 where
  pub short : length (batch_bytes cs) ≤ z.batch
  pub few : length cs ≤ z.nodes
  pub each : Each spending (ContribOk z) (opening z) cs
