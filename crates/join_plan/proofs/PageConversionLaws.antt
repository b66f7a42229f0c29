-- 02, CR 5, of a conversion: what it writes, what a refusal leaves, and which row refuses it, by the order of the rows.
-- Assumes nothing.
use Prim.Native.Nat.{ℕ, suc, ◌+◌, ◌^◌, ◌≤◌, ◌<◌}
use mathlib.Core.Path.{◌≡◌, refl, sym, ap, ◌∙◌}
use mathlib.Core.List.{List, [], ◌∷◌}
use mathlib.Core.Logic.{◌↔◌, ◌⊎◌, inl, inr, ⊎_elim}
use native.Mathlib.Omega.{arith}
use lib.Dec.{lit<, ltb}
use lib.ListN.{length, get_or, drop, set}
use lib.Seq.{sets, length-sets, drop-set-lt}
use borrow.Author.Tests.{lt-ltb, le-ltb}
use Rattle.std.proofs.lemmas.Bool.{cases_lt, cond_both}
use Rattle.bincode.specs.Read.{Read, value, refuse, whole}
use Rattle.bincode.specs.Outcome.{done, refused}
use Rattle.bincode.specs.Numbers.{Edition, fixed, variable}
use Rattle.bincode.specs.Sizes.{Sizes, base}
use Rattle.bincode.specs.Stands.{Bytes}
use Rattle.bincode.specs.Codes.{NumberCodes}
use Rattle.bincode.specs.Causes.{Cause, no_marker, cause_number, NumberWrong, beyond, Whole, Caused, NumberCauses}
use Rattle.bincode.proofs.CodeLaws.{fixed_codes}
use Rattle.bincode.proofs.CauseLaws.{whole_causes}
use Rattle.bincode.proofs.ReadLaws.{done_refused, whole_refused}
use Rattle.bincode.proofs.VariableLaws.{variable_codes}
use Rattle.bincode.proofs.VariableCauses.{garbled}
use Rattle.bincode.proofs.RefusalLaws.{OldRow, NewRow, Refusing, fixed_refusing, old_refusing, new_refusing, refuses_by}
use Rattle.change.specs.Change.{none}
use Rattle.join_plan.specs.JoinPlan.{PlanOf, read_plan, plan_bytes, PlanOk, plan_written, plan_said, plan_converted, conversion_said, to_variable_said, to_fixed_said}
use Rattle.join_plan.specs.PlanCauses.{plan_wrong}
use Rattle.join_plan.proofs.PlanCodes.{plan_codes, plan_round_trip, one_accepted}
use Rattle.join_plan.proofs.PlanCauses.{plan_causes}
use Rattle.join_plan.proofs.PlanRefusals.{whole_plan_plain}

-- stores leave what is behind them
drop_sets : (vs l : List ℕ) (i n : ℕ) → n ≡ i + length vs → drop n (sets l i vs) ≡ drop n l
drop_sets [] l i n e = refl
drop_sets (v ∷ vs) l i n e = drop_sets vs (set l i v) (suc i) n (omega arith) ∙ drop-set-lt n l i v (omega arith)

module _ (a b : Edition) (room : ℕ) (z : Sizes) (s l : List ℕ) where
  -- row 1 before a byte of the plan is read: a buffer shorter than the room is refused by 1, whatever the bytes are
  pub short_refused : length l < room → conversion_said a b room z s l ≡ refused 1
  unfolding conversion_said
  short_refused h = rw (lt-ltb (length l) room h)

  module _ (long : room ≤ length l) where
    -- with room, a plan that was read is accepted with as many bytes as it has in the other edition, and they are written from the first place on
    pub accepted_said : (p : PlanOf) (c : ℕ) → whole (read_plan a z s) s ≡ value p c → conversion_said a b room z s l ≡ done (length (plan_bytes b p))
    unfolding conversion_said plan_said
    accepted_said p c e = rw (le-ltb (length l) room long, e) (rw (le-ltb (length l) room long))

    pub accepted_left : (p : PlanOf) (c : ℕ) → whole (read_plan a z s) s ≡ value p c → plan_converted a b room z s l ≡ sets l 0 (plan_bytes b p)
    unfolding plan_converted plan_written
    accepted_left p c e = rw (le-ltb (length l) room long, e) (rw (le-ltb (length l) room long))

    -- and what refuses the reading of the plan refuses its conversion, by the same number
    pub refused_said : (n : ℕ) → whole (read_plan a z s) s ≡ refuse n → conversion_said a b room z s l ≡ refused n
    unfolding conversion_said
    refused_said n e = rw (le-ltb (length l) room long, e)

    -- nothing else refuses it
    pub only_read : (n : ℕ) → conversion_said a b room z s l ≡ refused n → whole (read_plan a z s) s ≡ refuse n
    only_read n e = go (whole (read_plan a z s) s) refl
      where
        go : (x : Read PlanOf) → whole (read_plan a z s) s ≡ x → x ≡ refuse n
        go (value p c) r = absurd (done_refused (sym e ∙ accepted_said p c r))
        go (refuse m) r = let q : refused m ≡ refused n = sym (refused_said m r) ∙ e in let k : m ≡ n = cc in ap refuse k

  -- a buffer that is too short stays as it was
  short_left : length l < room → plan_converted a b room z s l ≡ l
  unfolding plan_converted
  short_left h = rw (lt-ltb (length l) room h)

  -- a plan that is refused leaves the buffer as it was
  pub refused_left : (n : ℕ) → whole (read_plan a z s) s ≡ refuse n → plan_converted a b room z s l ≡ l
  unfolding plan_converted
  refused_left n e = rw e (cond_both (ltb (length l) room) l l (λ (x : List ℕ). x ≡ l) (λ t. refl) (λ t. refl))

  -- what an accepted conversion says: the buffer has the room, and the bytes are read as a plan, which has as many in the other edition
  pub accepted_by : (n : ℕ) → conversion_said a b room z s l ≡ done n
      → (room ≤ length l) × ((p : PlanOf) × (c : ℕ) × (whole (read_plan a z s) s ≡ value p c) × (n ≡ length (plan_bytes b p)))
  accepted_by n e = ⊎_elim (λ h. absurd (done_refused (sym (short_refused h) ∙ e))) (λ long. (long, go long (whole (read_plan a z s) s) refl)) (cases_lt (length l) room)
    where
      go : room ≤ length l → (x : Read PlanOf) → whole (read_plan a z s) s ≡ x
          → (p : PlanOf) × (c : ℕ) × (whole (read_plan a z s) s ≡ value p c) × (n ≡ length (plan_bytes b p))
      go long (value p c) r = (p, c, r, let q : done n ≡ done (length (plan_bytes b p)) = sym e ∙ accepted_said long p c r in cc)
      go long (refuse k) r = absurd (done_refused (sym (refused_said long k r) ∙ e))

  -- a refused conversion leaves the buffer as it was
  pub refusal_leaves : (k : ℕ) → conversion_said a b room z s l ≡ refused k → plan_converted a b room z s l ≡ l
  refusal_leaves k e = ⊎_elim short_left (λ long. refused_left k (only_read long k e)) (cases_lt (length l) room)

  -- an accepted one leaves the bytes behind the plan as they were
  pub behind_stays : (n : ℕ) → conversion_said a b room z s l ≡ done n → drop n (plan_converted a b room z s l) ≡ drop n l
  behind_stays n e =
      let r = accepted_by n e in
      let p = r.1.0 in
      rw (accepted_left r.0 p r.1.1 r.1.2) (drop_sets (plan_bytes b p) l 0 n (omega (arith, r.1.3)))

  -- and no conversion alters the buffer's length
  pub length_stays : length (plan_converted a b room z s l) ≡ length l
  length_stays = ⊎_elim (λ h. ap length (short_left h)) (λ long. go long (whole (read_plan a z s) s) refl) (cases_lt (length l) room)
    where
      go : room ≤ length l → (x : Read PlanOf) → whole (read_plan a z s) s ≡ x → length (plan_converted a b room z s l) ≡ length l
      go long (value p c) r = ap length (accepted_left long p c r) ∙ length-sets l 0 (plan_bytes b p)
      go long (refuse k) r = ap length (refused_left k r)

-- Which rows refuse a conversion, by what is wrong with the plan's bytes.
module _ (a : Edition) (v : NumberWrong) (s : List ℕ) (codes : NumberCodes a s) (num : NumberCauses a v s) (z : Sizes) (fits : z.nodes < 256 ^ 8) (bytes : Bytes s) where
  caused : Caused s (whole (read_plan a z s) s) (Whole s (plan_bytes a) (PlanOk z) (plan_wrong a v s z))
  caused = whole_causes (plan_codes a z fits s codes) (plan_causes a v s codes num z fits)

  module _ (b : Edition) (room : ℕ) (l : List ℕ) (n : ℕ) where
    -- with room it is refused by the number of a cause, of the first field that has one, and by no other
    pub conversion_caused : room ≤ length l
        → (conversion_said a b room z s l ≡ refused n) ↔ ((c : Cause) × Whole s (plan_bytes a) (PlanOk z) (plan_wrong a v s z) c × (cause_number c ≡ n))
    conversion_caused long = (
      λ e. caused.cause bytes n (only_read a b room z s l long n e),
      λ r. refused_said a b room z s l long n (caused.refuses r.0 r.1 ∙ ap refuse r.2),
    )

-- Which rows refuse it, for every list: with room 2, 3 or 16 ..
module _ (a : Edition) (s : List ℕ) (numbers : Refusing NewRow a s) (z : Sizes) (b : Edition) (room : ℕ) (l : List ℕ) where
  pub rows_with_room : (n : ℕ) → room ≤ length l → conversion_said a b room z s l ≡ refused n → NewRow n
  rows_with_room n long e = refuses_by NewRow (λ p. Unit {0}) (whole (read_plan a z s) s) (whole_plan_plain numbers z) n (only_read a b room z s l long n e)

  -- .. so 1 says that the buffer is too short
  pub row_one : (conversion_said a b room z s l ≡ refused 1) ↔ (length l < room)
  row_one = (λ e. ⊎_elim (λ h. h) (λ long. absurd (none 1 (rows_with_room 1 long e) refl)) (cases_lt (length l) room), short_refused a b room z s l)
    where
      none : (n : ℕ) → NewRow n → n ≡ 1 → ⊥
      none n (inl e) q = omega arith
      none n (inr (inl e)) q = omega arith
      none n (inr (inr e)) q = omega arith

-- By edition: the old one has no 16, with room a plan of the fixed widths is refused by 2 or 3; one of the variable widths by 2, 3 or 16
module _ (s : List ℕ) (z : Sizes) (b : Edition) (room : ℕ) (l : List ℕ) (n : ℕ) where
  pub old_rows : room ≤ length l → conversion_said fixed b room z s l ≡ refused n → OldRow n
  old_rows long e = refuses_by OldRow (λ p. Unit {0}) (whole (read_plan fixed z s) s) (whole_plan_plain (old_refusing s) z) n (only_read fixed b room z s l long n e)

  pub new_rows : room ≤ length l → conversion_said variable b room z s l ≡ refused n → NewRow n
  new_rows = rows_with_room variable s (new_refusing s) z b room l n

-- The two calls of 02: 1 says that fewer than 491 bytes are lent for the new edition, fewer than 448 for the old one.
pub to_variable_room : (s l : List ℕ) → (to_variable_said base s l ≡ refused 1) ↔ (length l < 491)
to_variable_room s = row_one fixed s (fixed_refusing NewRow (inl refl) (inr (inl refl)) s) base variable 491

pub to_fixed_room : (s l : List ℕ) → (to_fixed_said base s l ≡ refused 1) ↔ (length l < 448)
to_fixed_room s = row_one variable s (new_refusing s) base fixed 448

-- 16 does come: by a first byte of 254 or 255, even as the last byte of all
pub marker_refused : (b : Edition) (room : ℕ) (z : Sizes) (s l : List ℕ) → 0 < length s → (get_or s 0 0 ≡ 254) ⊎ (get_or s 0 0 ≡ 255) → room ≤ length l
    → conversion_said variable b room z s l ≡ refused 16
unfolding read_plan
marker_refused b room z s l some marker long =
    let r = (garbled 8 s 0).refuses no_marker (beyond some marker refl) in
    refused_said variable b room z s l long 16 (whole_refused (read_plan variable z s) s 16 (rw r))

-- each plan has just one accepted encoding in the old edition, and in the new one
pub one_old_encoding : (s t : List ℕ) (p : PlanOf) (c d : ℕ) → Bytes s → Bytes t → whole (read_plan fixed base s) s ≡ value p c → whole (read_plan fixed base t) t ≡ value p d → s ≡ t
one_old_encoding = one_accepted fixed fixed_codes base (lit< tt)

pub one_new_encoding : (s t : List ℕ) (p : PlanOf) (c d : ℕ) → Bytes s → Bytes t
    → whole (read_plan variable base s) s ≡ value p c → whole (read_plan variable base t) t ≡ value p d → s ≡ t
one_new_encoding = one_accepted variable variable_codes base (lit< tt)

-- A conversion reads and does not judge: every plan that some bytes are read as is converted ..
module _ (a b : Edition) (num : (s : List ℕ) → NumberCodes a s) (z : Sizes) (fits : z.nodes < 256 ^ 8) where
  pub all_converted : (p : PlanOf) → PlanOk z p → (room : ℕ) (l : List ℕ) → room ≤ length l
      → conversion_said a b room z (plan_bytes a p) l ≡ done (length (plan_bytes b p))
  all_converted p o room l long = accepted_said a b room z (plan_bytes a p) l long p (length (plan_bytes a p)) (plan_round_trip a num z fits p o)

-- .. with no change, with an empty map and with key set 0 too
pub not_judged : (z : Sizes) (p : PlanOf) → PlanOk z p → PlanOk z (record p { change = none }) × PlanOk z (record p { keys = [] }) × PlanOk z (record p { key_set = 0 })
not_judged z p o = (
  record { era_fits = o.era_fits; change_ok = tt; keys_ok = o.keys_ok; key_set_fits = o.key_set_fits; params_ok = o.params_ok },
  record {
    era_fits = o.era_fits;
    change_ok = o.change_ok;
    keys_ok = record { few = omega arith; each = tt };
    key_set_fits = o.key_set_fits;
    params_ok = o.params_ok;
  },
  record { era_fits = o.era_fits; change_ok = o.change_ok; keys_ok = o.keys_ok; key_set_fits = lit< tt; params_ok = o.params_ok },
)
