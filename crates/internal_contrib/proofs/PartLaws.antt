-- An accepted contribution, and an accepted batch: where their items stand behind a count, and that they are read there.
-- Assumes nothing.
use Prim.Native.Nat.{ℕ, ◌+◌, ◌-◌, ◌^◌, ◌≤◌, ◌<◌}
use mathlib.Core.Path.{◌≡◌, sym, ◌∙◌, subst}
use mathlib.Core.List.{List}
use native.Mathlib.Omega.{arith}
use lib.Dec.{ltb}
use lib.ListN.{length}
use Rattle.bincode.specs.Read.{value, whole}
use Rattle.bincode.specs.Numbers.{read_num}
use Rattle.bincode.specs.Items.{items, many}
use Rattle.bincode.specs.Sizes.{Sizes}
use Rattle.bincode.specs.Stands.{Bytes}
use Rattle.bincode.proofs.NumberLaws.{read_value}
use Rattle.bincode.proofs.ReadLaws.{bind_value, cond_value}
use Rattle.bincode.proofs.RereadLaws.{counted_count, counted_items}
use Rattle.votes.specs.Votes.{SignedVoteOf, read_signed_vote}
use Rattle.key_gen_message.specs.KeyGenMessage.{SignedKeyGenMsgOf, read_signed_key_gen_msg}
use Rattle.internal_contrib.specs.declared.Budget.{Budget}
use Rattle.internal_contrib.specs.declared.Contrib.{Contrib}
use Rattle.internal_contrib.specs.InternalContrib.{ContribOf, read_user, read_messages, read_votes, read_contrib, read_contribs, read_batch, spending, opening, user_bytes, messages_bytes}
use Rattle.internal_contrib.specs.Places.{placed}
use Rattle.internal_contrib.proofs.ContribCodes.{user_codes, messages_codes}

-- the fields of a contribution that was read, one behind the other
module _ (z : Sizes) (s : List ℕ) (b : Budget) (at : ℕ) (x : ContribOf) (c : ℕ) (e : read_contrib z s b at ≡ value x c) where
  contrib_fields : (d : ℕ) × (f : ℕ) × (read_user z s (at + 4) ≡ value x.user d) × (read_messages z s b.left d ≡ value x.messages f)
      × (read_votes z s (b.left - length x.messages) f ≡ value x.votes c)
  unfolding read_contrib
  contrib_fields =
      let i = bind_value (read_num 4 s at) _ e in
      let k = (read_value 4 s at i.0 i.1 i.2).2 in
      let t = (cond_value _ (ltb i.0 b.low) 2 i.3).1 in
      let u = bind_value (read_user z s i.1) _ t in
      let m = bind_value (read_messages z s b.left u.1) _ u.3 in
      let v = bind_value (read_votes z s (b.left - length m.0) m.1) _ m.3 in
      let same = whole_contrib i.0 u.0 m.0 v.0 v.1 v.3 in (
        u.1,
        m.1,
        (λ j. read_user z s (sym k j)) ∙ u.2 ∙ (λ j. value (same.0 j).user u.1),
        m.2 ∙ (λ j. value (same.0 j).messages m.1),
        (λ j. read_votes z s (b.left - length (sym same.0 j).messages) m.1) ∙ v.2 ∙ (λ j. value (same.0 j).votes (same.1 j)),
      )
    where
      whole_contrib : (id : ℕ) (user : List ℕ) (messages : List SignedKeyGenMsgOf) (votes : List SignedVoteOf) (g : ℕ)
          → value (record { id = id; user = user; messages = messages; votes = votes }) g ≡ value x c
          → (◌≡◌ {A = ContribOf} (record { id = id; user = user; messages = messages; votes = votes }) x) × (g ≡ c)
      whole_contrib id user messages votes g p = (cc, cc)

  -- votes and messages are read again eight bytes behind where code keeps their counts, and those places lie within the bytes
  module _ (rows_fit : z.rows < 256 ^ 8) (user-fits : z.user < 256 ^ 8) (bytes : Bytes s) where
    messages_stand : (d : ℕ) × (many (read_signed_key_gen_msg z s) (placed at x).messages.count ((placed at x).messages.at + 8) ≡ value x.messages d)
        × ((placed at x).messages.at ≤ length s)
    unfolding read_messages
    messages_stand =
        let p = contrib_fields in
        let k : p.0 ≡ at + 4 + length (user_bytes x.user) = ((user_codes s z user-fits).stands bytes (at + 4) x.user p.0 p.2).1 in
        let q = counted_items _ _ s b.left tt p.0 x.messages p.1 p.3 in
        (p.1, (λ j. many (read_signed_key_gen_msg z s) (length x.messages) (sym k j + 8)) ∙ q.0, omega (arith, q.1, k))

    votes_stand : (many (read_signed_vote z s) (placed at x).votes.count ((placed at x).votes.at + 8) ≡ value x.votes c) × ((placed at x).votes.at ≤ length s)
    unfolding read_votes
    votes_stand =
        let p = contrib_fields in
        let k : p.0 ≡ at + 4 + length (user_bytes x.user) = ((user_codes s z user-fits).stands bytes (at + 4) x.user p.0 p.2).1 in
        let l : p.1 ≡ p.0 + length (messages_bytes x.messages) = ((messages_codes s z rows_fit b.left).stands bytes p.0 x.messages p.1 p.3).1 in
        let m : p.1 ≡ at + 4 + length (user_bytes x.user) + length (messages_bytes x.messages) = omega arith in
        let q = counted_items _ _ s (b.left - length x.messages) tt p.1 x.votes c p.4 in
        ((λ j. many (read_signed_vote z s) (length x.votes) (sym m j + 8)) ∙ q.0, omega (arith, q.1, m))

    -- the same by what code keeps
    module _ (k : Contrib) (q : k ≡ placed at x) where
      pub messages_again : (d : ℕ) × (many (read_signed_key_gen_msg z s) k.messages.count (k.messages.at + 8) ≡ value x.messages d)
      messages_again = (messages_stand.0, (λ j. many (read_signed_key_gen_msg z s) (q j).messages.count ((q j).messages.at + 8)) ∙ messages_stand.1)

      pub votes_again : many (read_signed_vote z s) k.votes.count (k.votes.at + 8) ≡ value x.votes c
      votes_again = (λ j. many (read_signed_vote z s) (q j).votes.count ((q j).votes.at + 8)) ∙ votes_stand.0

      pub messages_within : k.messages.at ≤ length s
      messages_within = subst (λ (y : Contrib). y.messages.at ≤ length s) (sym q) messages_stand.2

      pub votes_within : k.votes.at ≤ length s
      votes_within = subst (λ (y : Contrib). y.votes.at ≤ length s) (sym q) votes_stand.1

-- a batch that was read is a count, and as many contributions behind it
module _ (z : Sizes) (s : List ℕ) (cs : List ContribOf) (c : ℕ) (e : read_batch z s ≡ value cs c) where
  pub batch_count : (n : ℕ) × (d : ℕ) × (read_num 8 s 0 ≡ value n d) × (items (read_contrib z s) spending n (opening z) d ≡ value cs c)
  unfolding read_batch whole read_contribs
  batch_count =
      let a = (cond_value (whole (read_contribs z s) s) (ltb z.batch (length s)) 3 e).1 in
      let b = bind_value (read_contribs z s 0) _ a in
      let d = (cond_value (value b.0 b.1) (ltb b.1 (length s)) 2 b.3).1 in
      counted_count (read_contrib z s) spending s z.nodes (opening z) 0 cs c (b.2 ∙ d)
