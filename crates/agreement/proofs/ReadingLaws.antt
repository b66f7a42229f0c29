-- What every reading of a batch answers, for every list of numbers: a value that keeps to its limits, or refusal 2 or 3.
-- Assumes nothing.
use Prim.Native.Nat.{ℕ, zero, suc, ◌-◌, ◌≤◌}
use mathlib.Core.Path.{◌≡◌, refl}
use mathlib.Core.Logic.{inl, inr}
use mathlib.Core.List.{List, [], ◌∷◌}
use mathlib.Core.Bool.{Bool, true, false, cond}
use native.Mathlib.Omega.{arith}
use lib.Dec.{ltb, eqb}
use lib.ListN.{length}
use Rattle.bincode.specs.Read.{Read, value, refuse, bind, whole}
use Rattle.bincode.specs.Numbers.{read_num, fixed}
use Rattle.bincode.specs.Sizes.{Sizes}
use Rattle.bincode.specs.Items.{items, counted, after, plain, stay}
use Rattle.bincode.proofs.RefusalLaws as refusals
use Rattle.bincode.proofs.RefusalLaws.{OldRow, old_refusing}
use Rattle.change.specs.Change.{read_change}
use Rattle.change.proofs.ChangeRefusals.{change_plain}
use Rattle.votes.specs.Votes.{read_vote, read_signed_vote}
use Rattle.sync_key_gen.specs.SyncKeyGen.{read_handles, read_part, read_ack}
use Rattle.key_gen_message.specs.KeyGenMessage.{read_key_gen_message, read_signed_key_gen_msg}
use Rattle.internal_contrib.specs.declared.Budget.{Budget}
use Rattle.internal_contrib.specs.InternalContrib.{ContribOf, read_user, read_messages, read_votes, read_contrib, read_contribs, read_batch, spending, opening}
use Rattle.agreement.proofs.StepLaws.{items_in, item_count}

-- a value of which P holds, or 2 or 3
module _ {A : Type 0} where
  abbrev pub Answers : (A → Type 0) → Read A → Type 0
  Answers = refusals.Answers OldRow

  -- whatever is read
  abbrev pub Plain : Read A → Type 0
  Plain = refusals.Plain OldRow

-- the laws of bincode at these numbers
module _ {A : Type 0} where
  pub plain_of : (P : A → Type 0) (x : Read A) → Answers P x → Plain x
  plain_of = refusals.plain_of OldRow

  pub answers_choice : (P : A → Type 0) (b : Bool) (x y : Read A) → (b ≡ true → Answers P x) → (b ≡ false → Answers P y) → Answers P (cond b x y)
  answers_choice = refusals.answers_choice OldRow

  pub plain_choice : (b : Bool) (x y : Read A) → Plain x → Plain y → Plain (cond b x y)
  plain_choice = refusals.plain_choice OldRow

module _ {A B : Type 0} where
  pub answers_bind : (P : A → Type 0) (Q : B → Type 0) (x : Read A) (f : A → ℕ → Read B) → Answers P x → ((a : A) (c : ℕ) → P a → Answers Q (f a c)) → Answers Q (bind x f)
  answers_bind = refusals.answers_bind OldRow

  pub plain_bind : (x : Read A) (f : A → ℕ → Read B) → Plain x → ((a : A) (c : ℕ) → Plain (f a c)) → Plain (bind x f)
  plain_bind = refusals.plain_bind OldRow

module _ {S A : Type 0} (rd : S → ℕ → Read A) (next : S → A → S) (one : (st : S) (at : ℕ) → Plain (rd st at)) where
  pub counted_answers : (s : List ℕ) (limit : ℕ) (st : S) (at : ℕ) → Answers (λ xs. length xs ≤ limit) (counted rd next fixed s limit st at)
  counted_answers s = refusals.counted_answers OldRow rd next one (old_refusing s)

-- a number
pub plain_num : (w : ℕ) (s : List ℕ) (at : ℕ) → Plain (read_num w s at)
plain_num w s = (old_refusing s).numbers w

module _ (s : List ℕ) (z : Sizes) where
  pub plain_change : (at : ℕ) → Plain (read_change fixed z s at)
  plain_change = change_plain (old_refusing s) z

  pub plain_vote : (at : ℕ) → Plain (read_vote z s at)
  unfolding read_vote
  plain_vote at =
      plain_bind (read_change fixed z s at) _ (plain_change at) λ change a.
      plain_bind (read_num 8 s a) _ (plain_num 8 s a) λ era b.
      plain_bind (read_num 8 s b) _ (plain_num 8 s b) λ num c.
      tt

  pub plain_signed_vote : (at : ℕ) → Plain (read_signed_vote z s at)
  unfolding read_signed_vote
  plain_signed_vote at =
      plain_bind (read_vote z s at) _ (plain_vote at) λ vote a.
      plain_bind (read_num 4 s a) _ (plain_num 4 s a) λ voter b.
      plain_bind (read_num 8 s b) _ (plain_num 8 s b) λ sig c.
      tt

  pub plain_handles : (at : ℕ) → Plain (read_handles z s at)
  unfolding read_handles
  plain_handles at = plain_of (λ (xs : List ℕ). length xs ≤ z.rows) (read_handles z s at) (counted_answers (plain (read_num 8 s)) stay (λ u. plain_num 8 s) s z.rows tt at)

  pub plain_part : (at : ℕ) → Plain (read_part z s at)
  unfolding read_part
  plain_part at = plain_bind (read_num 8 s at) _ (plain_num 8 s at) λ commit c. plain_bind (read_handles z s c) _ (plain_handles c) λ rows d. tt

  pub plain_ack : (at : ℕ) → Plain (read_ack z s at)
  unfolding read_ack
  plain_ack at = plain_bind (read_num 8 s at) _ (plain_num 8 s at) λ proposer c. plain_bind (read_handles z s c) _ (plain_handles c) λ values d. tt

  pub plain_message : (at : ℕ) → Plain (read_key_gen_message z s at)
  unfolding read_key_gen_message
  plain_message at =
      plain_bind (read_num 4 s at) _ (plain_num 4 s at) λ tag c.
      plain_choice (eqb tag 0) _ _ (plain_bind (read_part z s c) _ (plain_part c) λ p d. tt)
      (plain_choice (eqb tag 1) _ _ (plain_bind (read_ack z s c) _ (plain_ack c) λ a d. tt)
      (inl refl))

  pub plain_signed_message : (at : ℕ) → Plain (read_signed_key_gen_msg z s at)
  unfolding read_signed_key_gen_msg
  plain_signed_message at =
      plain_bind (read_num 8 s at) _ (plain_num 8 s at) λ era a.
      plain_bind (read_num 4 s a) _ (plain_num 4 s a) λ id b.
      plain_bind (read_key_gen_message z s b) _ (plain_message b) λ message c.
      plain_bind (read_num 8 s c) _ (plain_num 8 s c) λ sig d.
      tt

  plain_user : (at : ℕ) → Plain (read_user z s at)
  unfolding read_user
  plain_user at =
      plain_bind (read_num 8 s at) _ (plain_num 8 s at) λ n c.
      plain_choice (ltb z.user n) _ _ (inr refl)
      (plain_choice (ltb (length s - c) n) _ _ (inl refl) tt)

  messages_answers : (left at : ℕ) → Answers (λ ms. length ms ≤ left) (read_messages z s left at)
  unfolding read_messages
  messages_answers left at = counted_answers (plain (read_signed_key_gen_msg z s)) stay (λ u. plain_signed_message) s left tt at

  votes_answers : (left at : ℕ) → Answers (λ vs. length vs ≤ left) (read_votes z s left at)
  unfolding read_votes
  votes_answers left at = counted_answers (plain (read_signed_vote z s)) stay (λ u. plain_signed_vote) s left tt at

  -- a contribution keeps to what is left of the batch's total
  pub contrib_answers : (b : Budget) (at : ℕ) → Answers (λ x. items_in x ≤ b.left) (read_contrib z s b at)
  unfolding read_contrib
  contrib_answers b at =
      answers_bind (λ n. Unit {0}) (λ x. items_in x ≤ b.left) (read_num 4 s at) _ (plain_num 4 s at) λ id c u.
      answers_choice (λ x. items_in x ≤ b.left) (ltb id b.low) _ _ (λ e. inl refl) λ e.
      answers_bind (λ x. Unit {0}) (λ x. items_in x ≤ b.left) (read_user z s c) _ (plain_user c) λ user d u.
      answers_bind (λ ms. length ms ≤ b.left) (λ x. items_in x ≤ b.left) (read_messages z s b.left d) _ (messages_answers b.left d) λ messages f h.
      answers_bind (λ vs. length vs ≤ b.left - length messages) (λ x. items_in x ≤ b.left) (read_votes z s (b.left - length messages) f) _
      (votes_answers (b.left - length messages) f) λ votes g k.
      omega arith

  -- and so do contributions together
  contribs_answers : (n : ℕ) (b : Budget) (at : ℕ) → Answers (λ cs. item_count cs ≤ b.left) (items (read_contrib z s) spending n b at)
  unfolding items spending
  contribs_answers zero b at = omega arith
  contribs_answers (suc n) b at =
      answers_bind (λ x. items_in x ≤ b.left) (λ cs. item_count cs ≤ b.left) (read_contrib z s b at) _ (contrib_answers b at)
      (λ x c h. go x h (items (read_contrib z s) spending n (spending b x) c) (contribs_answers n (spending b x) c))
    where
      go : (x : ContribOf) → items_in x ≤ b.left → (r : Read (List ContribOf)) → Answers (λ cs. item_count cs ≤ (spending b x).left) r
          → Answers (λ cs. item_count cs ≤ b.left) (after (x ∷ []) r)
      go x h (value cs c) p = omega arith
      go x h (refuse k) p = p

  -- a batch: votes and key messages together keep to their size, and reading refuses by 2 or 3 only
  pub batch_answers : Answers (λ cs. item_count cs ≤ z.items) (read_batch z s)
  unfolding read_batch whole read_contribs counted
  batch_answers =
      answers_choice (λ cs. item_count cs ≤ z.items) (ltb z.batch (length s)) _ _ (λ e. inr refl) λ e.
      answers_bind (λ cs. item_count cs ≤ z.items) (λ cs. item_count cs ≤ z.items) (read_contribs z s 0) _
      (answers_bind (λ n. Unit {0}) (λ cs. item_count cs ≤ z.items) (read_num 8 s 0) _ (plain_num 8 s 0) λ n c u.
      answers_choice (λ cs. item_count cs ≤ z.items) (ltb z.nodes n) _ _ (λ e. inr refl) (λ e. contribs_answers n (opening z) c)) λ cs c h.
      answers_choice (λ cs. item_count cs ≤ z.items) (ltb c (length s)) _ _ (λ e. inl refl) (λ e. h)
