-- Reading and writing a contribution, and a batch, are inverse, for every size.
-- Assumes nothing.
use Prim.Native.Nat.{ℕ, ◌+◌, ◌-◌, ◌^◌, ◌≤◌, ◌<◌}
use mathlib.Core.Path.{◌≡◌, refl, sym, ap, ◌∙◌, subst}
use mathlib.Core.List.{List}
use mathlib.Core.Bool.{cond}
use native.Mathlib.Omega.{arith}
use lib.Dec.{ltb}
use lib.ListN.{length, take, drop, length-take, length-drop}
use lib.Seq.{length-take-le}
use borrow.Author.Tests.{le-ltb, ltb-false}
use Rattle.bincode.specs.Read.{value, refuse, whole}
use Rattle.bincode.specs.Numbers.{fixed}
use Rattle.bincode.specs.Sizes.{Sizes}
use Rattle.bincode.specs.Items.{plain, stay}
use Rattle.bincode.specs.Stands.{Bytes, Stands, Each, All}
use Rattle.bincode.specs.Codes.{Codes}
use Rattle.bincode.proofs.NumberLaws.{bytes_part}
use Rattle.bincode.proofs.ReadLaws.{cond_value}
use Rattle.bincode.proofs.CodeLaws.{four, eight, fixed_codes, field, guard, ended, restate, counted_any, counted_codes, one_encoding, round_trip}
use Rattle.votes.specs.Votes as votes
use Rattle.votes.proofs.VoteCodes as vote_codes
use Rattle.key_gen_message.specs.KeyGenMessage as key_gen
use Rattle.key_gen_message.proofs.MessageCodes as message_codes
use Rattle.internal_contrib.specs.declared.Budget.{Budget}
use Rattle.internal_contrib.specs.InternalContrib.{ContribOf, read_user, read_messages, read_votes, read_contrib, read_contribs, read_batch, spending, opening, user_bytes, messages_bytes, votes_bytes, contrib_bytes, batch_bytes, UserOk, ContribOk, BatchOk}

-- n bytes as they stand
raw_codes : (s : List ℕ) (n : ℕ)
    → Codes s (λ c. cond (ltb (length s - c) n) (refuse 2) (value (take n (drop c s)) (c + n))) (λ u. u) (λ u. (length u ≡ n) × Bytes u)
raw_codes s n = record { stands = stand; reads = read; clean = λ u o. o.1 }
  where
    stand : Bytes s → (at : ℕ) (u : List ℕ) (c : ℕ) → cond (ltb (length s - at) n) (refuse 2) (value (take n (drop at s)) (at + n)) ≡ value u c
        → Stands s at u × (c ≡ at + length u) × ((length u ≡ n) × Bytes u)
    stand b at u c p =
        let v = cond_value (value (take n (drop at s)) (at + n)) (ltb (length s - at) n) 2 p in
        let e : take n (drop at s) ≡ u = cc in
        let d : at + n ≡ c = cc in
        let h = ltb-false (length s - at) n v.0 in
        let l : length (take n (drop at s)) ≡ n = length-take-le n (drop at s) (simp length-drop (omega arith)) in
        let k : length u ≡ n = ap length (sym e) ∙ l in
        (rw k e, rw k (sym d), (k, subst Bytes e (bytes_part s n at b)))

    read : (at : ℕ) (u : List ℕ) → Stands s at u → (length u ≡ n) × Bytes u
        → cond (ltb (length s - at) n) (refuse 2) (value (take n (drop at s)) (at + n)) ≡ value u (at + length u)
    read at u p o =
        let q : take n (drop at s) ≡ u = subst (λ (k : ℕ). take k (drop at s) ≡ u) o.0 p in
        let l : length (take n (drop at s)) ≡ n = ap length q ∙ o.0 in
        let r : n ≤ length s - at = omega (arith, simp (length-take, length-drop) at l) in
        rw (le-ltb (length s - at) n r, q, o.0)

module _ (s : List ℕ) (z : Sizes) where
  pub user_codes : z.user < 256 ^ 8 → Codes s (read_user z s) user_bytes (UserOk z)
  unfolding read_user user_bytes
  user_codes fits =
      restate
      (λ u o. record { short = o.1.1.0; bytes = o.1.1.1 })
      (λ u o. let l = o.short in (tt, (omega arith, (o.short, o.bytes))))
      (field {H = λ u. Unit {0}} {Q = λ u. (length u ≤ z.user) × Bytes u} length (fixed_codes s 8 eight) λ n.
      guard (ltb z.user n) 3
      (λ t. let l = ltb-false z.user n t in restate (λ u o. ((tt, o.0), (omega (arith, o.0), o.1))) (λ u o. (o.0.1, o.1.1)) (raw_codes s n))
      (λ u o. le-ltb z.user n (omega (arith, o.0.1, o.1.0))))

  pub messages_codes : z.rows < 256 ^ 8 → (left : ℕ)
      → Codes s (read_messages z s left) messages_bytes (λ ms. (length ms < 256 ^ 8) × (length ms ≤ left) × All (key_gen.SignedOk z) ms)
  unfolding read_messages messages_bytes
  messages_codes fits left =
      counted_any s (plain (key_gen.read_signed_key_gen_msg z s)) stay key_gen.signed_bytes (λ u. key_gen.SignedOk z) (λ u. message_codes.signed_codes s z fits)
      fixed (fixed_codes s) left tt

  pub votes_codes : z.nodes < 256 ^ 8 → (left : ℕ)
      → Codes s (read_votes z s left) votes_bytes (λ vs. (length vs < 256 ^ 8) × (length vs ≤ left) × All (votes.SignedVoteOk z) vs)
  unfolding read_votes votes_bytes
  votes_codes fits left =
      counted_any s (plain (votes.read_signed_vote z s)) stay votes.signed_bytes (λ u. votes.SignedVoteOk z) (λ u. vote_codes.signed_codes s z fits)
      fixed (fixed_codes s) left tt

-- what is asked of the votes of a contribution, and of its messages and votes
abbrev Voted : Sizes → Budget → ContribOf → Type 0
Voted z b x = (length x.votes < 256 ^ 8) × (length x.votes ≤ b.left - length x.messages) × All (votes.SignedVoteOk z) x.votes

abbrev Within : Sizes → Budget → ContribOf → Type 0
Within z b x = ((length x.messages < 256 ^ 8) × (length x.messages ≤ b.left) × All (key_gen.SignedOk z) x.messages) × Voted z b x

module _ (z : Sizes) (nodes-fit : z.nodes < 256 ^ 8) (rows_fit : z.rows < 256 ^ 8) (user-fits : z.user < 256 ^ 8) where
  pub contrib_codes : (s : List ℕ) (b : Budget) → Codes s (read_contrib z s b) contrib_bytes (ContribOk z b)
  unfolding read_contrib contrib_bytes
  contrib_codes s b =
      restate
      (λ x o.
      record {
        ascends = o.1.1.0;
        id_fits = o.1.0;
        user_ok = o.1.1.1.0;
        messages_count_fits = o.1.1.1.1.0.0;
        few_messages = o.1.1.1.1.0.1;
        messages_ok = o.1.1.1.1.0.2;
        votes_count_fits = o.1.1.1.1.1.0;
        few_votes = o.1.1.1.1.1.1;
        votes_ok = o.1.1.1.1.1.2;
      })
      (λ x o. (
        tt,
        (
          o.id_fits,
          (
            o.ascends,
            (
              o.user_ok,
              ((o.messages_count_fits, o.few_messages, o.messages_ok), (o.votes_count_fits, o.few_votes, o.votes_ok)),
            ),
          ),
        ),
      ))
      (field {H = λ x. Unit {0}} {Q = λ x. (b.low ≤ x.id) × (UserOk z x.user × Within z b x)} (λ x. x.id) (fixed_codes s 4 four) λ id.
      guard {P = λ x. (Unit {0} × (x.id ≡ id)) × ((b.low ≤ x.id) × (UserOk z x.user × Within z b x))} (ltb id b.low) 2
      (λ t.
      restate (λ x o. (o.0, (rw o.0.1 (ltb-false id b.low t), o.1))) (λ x o. (o.0, o.1.1))
      (field {H = λ x. Unit {0} × (x.id ≡ id)} {Q = Within z b} (λ x. x.user) (user_codes s z user-fits) λ user.
      field {Q = Voted z b} (λ x. x.messages) (messages_codes s z rows_fit b.left) λ messages.
      restate
      (λ x o. (o.0, (o.1.0.0, rw o.0.1 o.1.0.1, o.1.0.2)))
      (λ x o. (o.0, ((o.1.0, rw o.0.1 at o.1.1, o.1.2), tt)))
      (field {H = λ x. ((Unit {0} × (x.id ≡ id)) × (x.user ≡ user)) × (x.messages ≡ messages)} (λ x. x.votes)
      (votes_codes s z nodes-fit (b.left - length messages)) λ votes.
      ended (record { id = id; user = user; messages = messages; votes = votes }) ((((tt, refl), refl), refl), refl)
      (λ x h. λ i. record { id = h.0.0.0.1 i; user = h.0.0.1 i; messages = h.0.1 i; votes = h.1 i }))))
      (λ x o. rw (← o.0.1) (le-ltb x.id b.low o.1.0)))

  pub contribs_codes : (s : List ℕ) → Codes s (read_contribs z s) batch_bytes (λ cs. (length cs ≤ z.nodes) × Each spending (ContribOk z) (opening z) cs)
  unfolding read_contribs batch_bytes
  contribs_codes s =
      counted_codes s (read_contrib z s) spending contrib_bytes (ContribOk z) (contrib_codes s) fixed (fixed_codes s) z.nodes nodes-fit (opening z)

  -- a batch has just one accepted encoding, and is accepted as itself
  pub batch_one_encoding : (s : List ℕ) (cs : List ContribOf) (c : ℕ) → Bytes s → read_batch z s ≡ value cs c → (s ≡ batch_bytes cs) × BatchOk z cs
  unfolding read_batch
  batch_one_encoding s cs c b p =
      let v = cond_value (whole (read_contribs z s) s) (ltb z.batch (length s)) 3 p in
      let r = one_encoding (read_contribs z) batch_bytes _ contribs_codes s cs c b v.1 in
      let h = ltb-false z.batch (length s) v.0 in
      (r.0, record { short = subst (λ (l : List ℕ). length l ≤ z.batch) r.0 h; few = r.1.0; each = r.1.1 })

  pub batch_round_trip : (cs : List ContribOf) → BatchOk z cs → read_batch z (batch_bytes cs) ≡ value cs (length (batch_bytes cs))
  unfolding read_batch
  batch_round_trip cs o = rw (le-ltb z.batch (length (batch_bytes cs)) o.short) (round_trip (read_contribs z) batch_bytes _ contribs_codes cs (o.few, o.each))
