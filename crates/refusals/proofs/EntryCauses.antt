-- Each entry refuses with 2 or 3 exactly where its inputs, in the order in which they are looked at, have a cause with that number. Row 1 comes before them. A batch
-- is refused with 15 exactly where no row before it holds and its era is not the engine's (02, CR 1). A conversion has its causes with every number, 16 too (02, CR 5).
-- Assumes nothing.
use Prim.Native.Nat.{ℕ, ◌^◌, ◌≤◌, ◌<◌}
use mathlib.Core.Path.{◌≡◌, refl, sym, ap, ◌∙◌}
use mathlib.Core.Logic.{◌↔◌, ⊎_elim}
use mathlib.Core.List.{List}
use mathlib.Core.Bool.{false, ◌||◌}
use lib.Dec.{lit<, eqb}
use lib.ListN.{length}
use borrow.Author.Tests.{eqb-false}
use Rattle.lists.proofs.ListLaws.{false_true}
use Rattle.lists.specs.Lists.{found}
use Rattle.bincode.specs.Read.{Read, value, refuse, whole}
use Rattle.bincode.specs.Outcome.{Outcome, done, refused}
use Rattle.bincode.specs.Numbers.{fixed, variable}
use Rattle.bincode.specs.Sizes.{Sizes}
use Rattle.bincode.specs.Stands.{Bytes}
use Rattle.bincode.specs.Causes.{Cause, Short, Garbled, Caused}
use Rattle.bincode.proofs.ReadLaws.{clash}
use Rattle.bincode.proofs.CodeLaws.{fixed_codes}
use Rattle.bincode.proofs.CauseLaws.{fixed_causes, whole_causes}
use Rattle.bincode.proofs.VariableLaws.{variable_codes}
use Rattle.bincode.proofs.VariableCauses.{variable_causes}
use Rattle.pub_key_map.specs.PubKeyMap.{read_map}
use Rattle.pub_key_map.proofs.MapCodes.{map_codes}
use Rattle.pub_key_map.proofs.MapCauses.{map_causes}
use Rattle.params.specs.Params.{read_params}
use Rattle.params.proofs.ParamsCodes.{params_codes}
use Rattle.params.proofs.ParamsCauses.{params_causes}
use Rattle.change.specs.Change.{read_change}
use Rattle.change.proofs.ChangeCodes.{change_codes}
use Rattle.change.proofs.ChangeCauses.{change_causes}
use Rattle.join_plan.specs.JoinPlan.{read_plan, to_variable_said, to_fixed_said}
use Rattle.join_plan.proofs.PlanCodes.{plan_codes}
use Rattle.join_plan.proofs.PlanCauses.{plan_causes}
use Rattle.join_plan.proofs.PageConversionLaws.{conversion_caused}
use Rattle.joining.specs.Starting.{join_row1}
use Rattle.message.specs.Message.{read_message}
use Rattle.message.proofs.ContentCodes.{content_codes}
use Rattle.message.proofs.ContentCauses.{content_causes}
use Rattle.internal_contrib.specs.InternalContrib.{ContribOf, read_batch}
use Rattle.internal_contrib.specs.Places.{contributed}
use Rattle.internal_contrib.specs.ContribCauses.{batch_wrong}
use Rattle.internal_contrib.proofs.ContribCauses.{batch_causes}
use Rattle.dynamic_honey_badger.specs.State.{StateOf, era_of, started, joined}
use Rattle.dynamic_honey_badger.specs.OwnVotes.{vote_for_bytes, vote_to_add}
use Rattle.dynamic_honey_badger.specs.Received.{read_due_item, received, returned}
use Rattle.process_output.specs.Refusals.{batch_row1}
use Rattle.process_output.specs.Process.{BatchCall, ReportOf, processed}
use Rattle.process_output.proofs.CallLaws.{Refusal, by_1, by_reading, by_4, by_15, by_5, by_7, number, batch_cases}
use Rattle.agreement.specs.Shared.{is_own_refusal}
use Rattle.agreement.specs.Hypotheses.{FullBatch}
use Rattle.agreement.proofs.CountLaws.{reading_refuses}
use Rattle.agreement.proofs.FullLaws.{full_shared, shared_full}
use Rattle.refusals.specs.Table.{refusal_of, refusal_in, start_rows, join_rows, vote_rows, add_rows, message_rows, due_rows, batch_rows}
use Rattle.refusals.specs.Causes.{By, KeyWrong, ParamsWrong, MapWrong, ChangeWrong, PlanWrong, NewPlanWrong, MessageWrong, DueItemWrong, StartWrong, JoinWrong}
use Rattle.refusals.proofs.FirstRow.{never}
use Rattle.refusals.proofs.Reading.{refuses_2_or_3, whole_params, whole_map, whole_plan, whole_change, whole_message, whole_due_item}
use Rattle.refusals.proofs.Refused.{started_rows, joined_rows, vote_rows_lem, add_rows_lem, message_rows_lem, due_rows_lem, batch_rows_lem}
use Rattle.refusals.proofs.DueItemCauses.{due_item_codes, due_item_causes}
use Rattle.refusals.proofs.CauseRows.{read_rows, key_rows, higher_rows, last_rows, passed_row, by_rows}

-- what refuses a whole input
module _ (s : List ℕ) where
  pub params_caused : Caused s (whole (read_params fixed s) s) (ParamsWrong s)
  params_caused = whole_causes (params_codes fixed s (fixed_codes s)) (params_causes fixed Short s (fixed_codes s) (fixed_causes s))

  module _ (z : Sizes) (nodes-fit : z.nodes < 256 ^ 8) where
    pub map_caused : Caused s (whole (read_map fixed z s) s) (MapWrong s z)
    map_caused = whole_causes (map_codes fixed s (fixed_codes s) z nodes-fit) (map_causes fixed Short s (fixed_codes s) (fixed_causes s) z)

    pub change_caused : Caused s (whole (read_change fixed z s) s) (ChangeWrong s z)
    change_caused = whole_causes (change_codes fixed s (fixed_codes s) z nodes-fit) (change_causes fixed Short s (fixed_codes s) (fixed_causes s) z)

    pub plan_caused : Caused s (whole (read_plan fixed z s) s) (PlanWrong s z)
    plan_caused = whole_causes (plan_codes fixed z nodes-fit s (fixed_codes s)) (plan_causes fixed Short s (fixed_codes s) (fixed_causes s) z nodes-fit)

    module _ (rows_fit : z.rows < 256 ^ 8) where
      pub message_caused : Caused s (whole (read_message z s) s) (MessageWrong s z)
      message_caused = whole_causes (content_codes s z nodes-fit rows_fit) (content_causes s z rows_fit nodes-fit)

      pub due_item_caused : Caused s (whole (read_due_item z s) s) (DueItemWrong s z)
      due_item_caused = whole_causes (due_item_codes s z nodes-fit rows_fit) (due_item_causes s z rows_fit)

-- the entries; n is a number up to 3
module _ (z : Sizes) (nodes-fit : z.nodes < 256 ^ 8) (n : ℕ) (low : n ≤ 3) where
  -- `new`
  pub new_caused : (id key era : ℕ) (map params : List ℕ) → Bytes map → Bytes params
      → (refusal_of (started z id key era map params) ≡ found n) ↔ By n (StartWrong z key map params)
  unfolding start_rows
  new_caused id key era map params m p =
      by_rows n (started_rows z key map params id era)
      (read_rows n _ (map_caused map z nodes-fit) (refuses_2_or_3 _ _ (whole_map map z)) m _
      (read_rows n _ (params_caused params) (refuses_2_or_3 _ _ (whole_params params)) p _
      (last_rows n (key_rows n key _ (higher_rows n low _ (lit< tt, tt))))))

  -- joining
  pub join_caused : (places id key : ℕ) (plan : List ℕ) → Bytes plan → join_row1 z places ≡ false
      → (refusal_of (joined z places id key plan) ≡ found n) ↔ By n (JoinWrong z key plan)
  unfolding join_rows
  join_caused places id key plan p h =
      by_rows n (joined_rows z places id key plan)
      (passed_row n 1 (join_row1 z places) h _
      (read_rows n _ (plan_caused plan z nodes-fit) (refuses_2_or_3 _ _ (whole_plan plan z)) p _
      (last_rows n (key_rows n key _ (higher_rows n low _ (lit< tt, (lit< tt, (lit< tt, tt))))))))

  module _ (s : StateOf) where
    -- `vote_for`
    pub vote_caused : (change : List ℕ) → Bytes change → (refusal_of (vote_for_bytes z s change).answer ≡ found n) ↔ By n (ChangeWrong change z)
    unfolding vote_rows
    vote_caused change b =
        by_rows n (vote_rows_lem z s change) (last_rows n (read_rows n _ (change_caused change z nodes-fit) (refuses_2_or_3 _ _ (whole_change change z)) b _ (higher_rows n low _ (lit< tt, tt))))

    -- `vote_to_add`
    pub add_caused : (id key : ℕ) → (refusal_of (vote_to_add z s id key).answer ≡ found n) ↔ By n (KeyWrong key)
    unfolding add_rows
    add_caused id key = by_rows n (add_rows_lem z s id key) (last_rows n (key_rows n key _ (higher_rows n low _ (lit< tt, (lit< tt, tt)))))

    module _ (rows_fit : z.rows < 256 ^ 8) where
      -- a received message
      pub received_caused : (sender : ℕ) (bytes : List ℕ) → Bytes bytes → (refusal_in (received z s sender bytes).effect ≡ found n) ↔ By n (MessageWrong bytes z)
      unfolding message_rows
      received_caused sender bytes b =
          by_rows n (message_rows_lem z s sender bytes)
          (last_rows n (read_rows n _ (message_caused bytes z nodes-fit rows_fit) (refuses_2_or_3 _ _ (whole_message bytes z)) b _ (higher_rows n low _ (lit< tt, tt))))

      -- a due item handed back
      pub returned_caused : (bytes : List ℕ) → Bytes bytes → (refusal_in (returned z s bytes).effect ≡ found n) ↔ By n (DueItemWrong bytes z)
      unfolding due_rows
      returned_caused bytes b =
          by_rows n (due_rows_lem z s bytes) (last_rows n (read_rows n _ (due_item_caused bytes z nodes-fit rows_fit) (refuses_2_or_3 _ _ (whole_due_item bytes z)) b _ (higher_rows n low _ (lit< tt, tt))))

      -- a batch
      pub batch_caused : z.user < 256 ^ 8 → (b : BatchCall) → Bytes b.bytes → batch_row1 z b.fault_places b.due_places ≡ false
          → (refusal_of (processed z s b).answer ≡ found n) ↔ By n (batch_wrong z b.bytes)
      unfolding batch_rows
      batch_caused user-fits b bytes h =
          by_rows n (batch_rows_lem z s b)
          (passed_row n 1 (batch_row1 z b.fault_places b.due_places) h _
          (last_rows n
          (read_rows n _ (batch_causes z nodes-fit rows_fit user-fits b.bytes) (reading_refuses z b.bytes) bytes _
          (higher_rows n low _ (lit< tt, (lit< tt, (lit< tt, (lit< tt, (lit< tt, tt)))))))))

-- the companion of the look-up refuses as a batch is refused, with every number
module _ (z : Sizes) (nodes-fit : z.nodes < 256 ^ 8) (rows_fit : z.rows < 256 ^ 8) (user-fits : z.user < 256 ^ 8) where
  pub has_contrib_caused : (s : List ℕ) (id n : ℕ) → Bytes s → (refusal_of (contributed (read_batch z s) id) ≡ found n) ↔ By n (batch_wrong z s)
  has_contrib_caused s id n b = (to (read_batch z s) refl, λ w. ap (λ (x : Read (List ContribOf)). refusal_of (contributed x id)) (k.refuses w.0 w.1) ∙ ap found w.2)
    where
      k : Caused s (read_batch z s) (batch_wrong z s)
      k = batch_causes z nodes-fit rows_fit user-fits s

      to : (x : Read (List ContribOf)) → read_batch z s ≡ x → refusal_of (contributed x id) ≡ found n → By n (batch_wrong z s)
      to (value cs c) e p = absurd (never p)
      to (refuse m) e p = let q : m ≡ n = cc in k.cause b n (e ∙ ap refuse q)

-- Row 15 of a batch by its cause. No row before it: the lent lists are of full length and the verdicts well formed (`FullBatch`: rows 1 and 4), and nothing is wrong
-- with the bytes (rows 2 and 3).
module _ (z : Sizes) (nodes-fit : z.nodes < 256 ^ 8) (rows_fit : z.rows < 256 ^ 8) (user-fits : z.user < 256 ^ 8) (s : StateOf) (b : BatchCall) (bytes : Bytes b.bytes) where
  abbrev Nothing-wrong : Type 0
  Nothing-wrong = (c : Cause) → batch_wrong z b.bytes c → ⊥

  k : Caused b.bytes (read_batch z b.bytes) (batch_wrong z b.bytes)
  k = batch_causes z nodes-fit rows_fit user-fits b.bytes

  -- 15 is neither 1 nor 4
  not_own : (a : Outcome ReportOf) → refusal_of a ≡ found 15 → is_own_refusal a ≡ false
  not_own (done r) e = absurd (never e)
  not_own (refused n) e = let q : n ≡ 15 = cc in ap (λ (i : ℕ). eqb i 1 || eqb i 4) q

  other_number : (n : ℕ) → eqb n 15 ≡ false → found n ≡ found 15 → ⊥
  other_number n e q = let p : n ≡ 15 = cc in eqb-false n 15 e p

  era_cause : refusal_of (processed z s b).answer ≡ found 15 → Nothing-wrong × (b.era ≡ era_of s → ⊥)
  era_cause = batch_cases z s b (λ p. refusal_of p.answer ≡ found 15 → Nothing-wrong × (b.era ≡ era_of s → ⊥)) refusal (λ cs c t e. absurd (never e))
    where
      refusal : (w : Refusal z s b) → found (number z s b w) ≡ found 15 → Nothing-wrong × (b.era ≡ era_of s → ⊥)
      refusal (by_1 h) e = absurd (other_number 1 refl e)
      refusal (by_reading n h p) e = absurd (other_number n (⊎_elim (λ q. ap (λ (i : ℕ). eqb i 15) q) (λ q. ap (λ (i : ℕ). eqb i 15) q) (reading_refuses z b.bytes n p)) e)
      refusal (by_4 cs c r h) e = absurd (other_number 4 refl e)
      refusal (by_15 cs c r h o) e = ((λ d w. clash (read_batch z b.bytes) r.bytes_read (k.refuses d w)), o)
      refusal (by_5 cs c o h) e = absurd (other_number 5 refl e)
      refusal (by_7 cs c o h5 h) e = absurd (other_number 7 refl e)

  era_answer : Nothing-wrong → (b.era ≡ era_of s → ⊥) → is_own_refusal (processed z s b).answer ≡ false → refusal_of (processed z s b).answer ≡ found 15
  era_answer none other =
      batch_cases z s b (λ p. is_own_refusal p.answer ≡ false → refusal_of p.answer ≡ found 15) refusal (λ cs c t h. absurd (other t.is_own.own_era))
    where
      refusal : (w : Refusal z s b) → is_own_refusal (refused (number z s b w)) ≡ false → found (number z s b w) ≡ found 15
      refusal (by_1 e) h = absurd (false_true (sym h))
      refusal (by_reading n e p) h = let w = k.cause bytes n p in absurd (none w.0 w.1)
      refusal (by_4 cs c r e) h = absurd (false_true (sym h))
      refusal (by_15 cs c r e o) h = refl
      refusal (by_5 cs c o e) h = absurd (other o.own_era)
      refusal (by_7 cs c o h5 e) h = absurd (other o.own_era)

  pub era_caused : (refusal_of (processed z s b).answer ≡ found 15) ↔ (FullBatch z b × ((c : Cause) → batch_wrong z b.bytes c → ⊥) × (b.era ≡ era_of s → ⊥))
  era_caused = (
    (λ e. (shared_full z s b (not_own (processed z s b).answer e), (era_cause e).0, (era_cause e).1)),
    (λ h. era_answer h.1 h.2 (full_shared z s b h.0)),
  )

-- A conversion of a join plan (02, CR 5), with room for it: with every number, of the new edition 16 too. Where there is no room it is 1 (`row_one` of join_plan).
module _ (n : ℕ) where
  told : (x : Outcome ℕ) → refusal_of x ≡ found n → x ≡ refused n
  told (done k) e = absurd (never e)
  told (refused k) e = let q : k ≡ n = cc in ap refused q

  as_told : {P : Type 0} (x : Outcome ℕ) → (x ≡ refused n) ↔ P → (refusal_of x ≡ found n) ↔ P
  as_told x r = (λ e. r.0 (told x e), λ p. ap refusal_of (r.1 p))

  module _ (z : Sizes) (nodes-fit : z.nodes < 256 ^ 8) (plan buffer : List ℕ) (bytes : Bytes plan) where
    pub to_variable_caused : z.variable_plan ≤ length buffer
        → (refusal_of (to_variable_said z plan buffer) ≡ found n) ↔ By n (PlanWrong plan z)
    to_variable_caused long = as_told _ (conversion_caused fixed Short plan (fixed_codes plan) (fixed_causes plan) z nodes-fit bytes variable z.variable_plan buffer n long)

    pub to_fixed_caused : z.plan ≤ length buffer → (refusal_of (to_fixed_said z plan buffer) ≡ found n) ↔ By n (NewPlanWrong plan z)
    to_fixed_caused long = as_told _ (conversion_caused variable Garbled plan (variable_codes plan) (variable_causes plan) z nodes-fit bytes fixed z.plan buffer n long)
