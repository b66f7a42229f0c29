-- What reading a call's whole input answers, for every list of numbers: a value, or refusal 2 or 3, and of a plan of the new edition 16 too. A batch's is `batch_answers`.
-- Assumes nothing.
use Prim.Native.Nat.{ℕ, ◌≤◌}
use mathlib.Core.Path.{◌≡◌, refl}
use mathlib.Core.Logic.{◌⊎◌, inl}
use mathlib.Core.List.{List}
use lib.Dec.{eqb}
use Rattle.bincode.specs.Read.{Read, refuse, whole}
use Rattle.bincode.specs.Numbers.{read_num, fixed}
use Rattle.bincode.specs.Sizes.{Sizes}
use Rattle.bincode.proofs.RefusalLaws.{OldRow, old_refusing, refuses_by, answers_whole, plain_whole}
use Rattle.pub_key_map.specs.PubKeyMap.{read_map}
use Rattle.pub_key_map.proofs.MapRefusals.{map_plain}
use Rattle.params.specs.Params.{read_params}
use Rattle.params.proofs.ParamsRefusals.{params_plain}
use Rattle.change.specs.Change.{read_change}
use Rattle.join_plan.specs.JoinPlan.{read_plan}
use Rattle.join_plan.proofs.PlanRefusals.{whole_plan_plain}
use Rattle.votes.specs.Votes.{read_signed_vote}
use Rattle.key_gen_message.specs.KeyGenMessage.{read_key_gen_message}
use Rattle.message.specs.Message as message
use Rattle.message.specs.Message.{MessageContent, key_gen, signed_vote, read_key_gen, read_message}
use Rattle.internal_contrib.specs.InternalContrib.{ContribOf, read_batch}
use Rattle.dynamic_honey_badger.specs.Received.{read_due_item}
use Rattle.agreement.proofs.StepLaws.{item_count}
use Rattle.agreement.proofs.ReadingLaws.{Answers, Plain, plain_of, answers_choice, plain_choice, answers_bind, plain_bind, batch_answers, plain_num, plain_change, plain_signed_vote, plain_message as plain-key-message}

-- a refusal of reading is 2 or 3
pub refuses_2_or_3 : {A : Type 0} (P : A → Type 0) (x : Read A) → Answers P x → (n : ℕ) → x ≡ refuse n → (n ≡ 2) ⊎ (n ≡ 3)
refuses_2_or_3 = refuses_by OldRow

-- a message about key generation
abbrev pub IsKeyGen : MessageContent → Type 0
IsKeyGen (key_gen era m sig) = Unit {0}
IsKeyGen (signed_vote v) = ⊥

-- the readers that those of the calls are made of
module _ (s : List ℕ) (z : Sizes) where
  key_gen_answers : (at : ℕ) → Answers IsKeyGen (read_key_gen z s at)
  unfolding read_key_gen
  key_gen_answers at =
      answers_bind (λ n. Unit {0}) IsKeyGen (read_num 8 s at) _ (plain_num 8 s at) λ era c u.
      answers_bind (λ m. Unit {0}) IsKeyGen (read_key_gen_message z s c) _ (plain-key-message s z c) λ m d u.
      answers_bind (λ n. Unit {0}) IsKeyGen (read_num 8 s d) _ (plain_num 8 s d) λ sig f u.
      tt

  pub plain_message : (at : ℕ) → Plain (read_message z s at)
  unfolding read_message message.read_vote
  plain_message at =
      plain_bind (read_num 4 s at) _ (plain_num 4 s at) λ tag c.
      plain_choice (eqb tag 1) _ _ (plain_of IsKeyGen (read_key_gen z s c) (key_gen_answers c))
      (plain_choice (eqb tag 2) _ _ (plain_bind (read_signed_vote z s c) _ (plain_signed_vote s z c) λ v d. tt)
      (inl refl))

  due_item_answers : (at : ℕ) → Answers IsKeyGen (read_due_item z s at)
  unfolding read_due_item
  due_item_answers at =
      answers_bind (λ n. Unit {0}) IsKeyGen (read_num 4 s at) _ (plain_num 4 s at) λ tag c u.
      answers_choice IsKeyGen (eqb tag 1) _ _ (λ e. key_gen_answers c) (λ e. inl refl)

-- the readers that are a call's whole input
module _ (s : List ℕ) where
  pub whole_params : Plain (whole (read_params fixed s) s)
  whole_params = plain_whole OldRow (inl refl) (read_params fixed s) s (params_plain (old_refusing s) 0)

  module _ (z : Sizes) where
    pub whole_map : Plain (whole (read_map fixed z s) s)
    whole_map = plain_whole OldRow (inl refl) (read_map fixed z s) s (map_plain (old_refusing s) z 0)

    pub whole_plan : Plain (whole (read_plan fixed z s) s)
    whole_plan = whole_plan_plain (old_refusing s) z

    pub whole_change : Plain (whole (read_change fixed z s) s)
    whole_change = plain_whole OldRow (inl refl) (read_change fixed z s) s (plain_change s z 0)

    pub whole_message : Plain (whole (read_message z s) s)
    whole_message = plain_whole OldRow (inl refl) (read_message z s) s (plain_message s z 0)

    -- of a due item only a key message is read
    pub whole_due_item : Answers IsKeyGen (whole (read_due_item z s) s)
    whole_due_item = answers_whole OldRow (inl refl) IsKeyGen (read_due_item z s) s (due_item_answers s z 0)

    pub whole_batch : Plain (read_batch z s)
    whole_batch = plain_of (λ (cs : List ContribOf). item_count cs ≤ z.items) (read_batch z s) (batch_answers s z)
