-- Laws of flags by index: what a chain over them counts, and how a store into them is seen in the recorded parts.
-- Assumes nothing.
use Prim.Native.Nat.{ℕ, zero, suc, ◌+◌, ◌-◌, ◌*◌, ◌^◌, ◌≤◌, ◌<◌}
use mathlib.Core.Path.{◌≡◌, refl, sym, ap, ◌∙◌}
use mathlib.Core.List.{List, [], ◌∷◌}
use mathlib.Core.Bool.{Bool, true, false, not, cond, ◌&&◌}
use native.Mathlib.Omega.{arith}
use native.Mathlib.Nat.{zero-add}
use lib.Dec.{ltb, eqb}
use lib.ListN.{length, get_or, set, replicate, get_or-eq_default}
use Rattle.std.specs.Prelude.{fold, min, Some, None}
use borrow.Author.Tests.{ltb-true, ltb-false, lt-ltb, le-ltb}
use Rattle.std.specs.declared.option.Option.{Option}
use Rattle.lists.specs.Lists.{found, nothing, lookup, insert, marked, option_as_found}
use Rattle.lists.proofs.MarkedLaws.{marked_lookup, marked_past, marked_set}
use Rattle.lists.proofs.PresentLaws.{none_present, present_lookup, present_set}
use Rattle.bincode.specs.Sizes.{base}
use Rattle.pub_key_map.specs.declared.PubKeyMap.{PubKeyMap}
use Rattle.pub_key_map.specs.PubKeyMap.{nodes_of}
use Rattle.network_info.specs.NetworkInfo.{node_index}
use Rattle.key_gen.specs.declared.KeyGen.{KeyGen}
use Rattle.key_gen.specs.declared.Proposal.{Proposal}
use Rattle.key_gen.specs.KeyGen.{ProposalOf, KeyGenOf, Effect, quiet, indices, is_here, acked, proposal_at, by_proposer, parts_of, new_proposal, key_gen_of, fresh_held, with_parts, observes, complete, complete_in, complete_found, threshold, node_ready, handled, row_effect, value_effect, record_part, record_ack}

-- what a chain counts from a on: the marked elements
module _ {A B : Type 0} (mark : A → Bool) (view : ℕ → A → B) where
  pub marked_counted : (xs : List A) (i a : ℕ) → fold (λ n x. n + cond (mark x) 1 0) a xs ≡ a + length (marked mark view i xs)
  unfolding marked
  marked_counted [] i a = omega arith
  marked_counted (x ∷ xs) i a = go (mark x) (marked_counted xs (suc i) (a + cond (mark x) 1 0))
    where
      go : (b : Bool) {n : ℕ} → n ≡ a + cond b 1 0 + length (marked mark view (suc i) xs) → n ≡ a + length (cond b (view i x ∷ marked mark view (suc i) xs) (marked mark view (suc i) xs))
      go true e = omega (arith, e)
      go false e = omega (arith, e)

  pub marked_within : (xs : List A) (i : ℕ) → length (marked mark view i xs) ≤ length xs
  unfolding marked
  marked_within [] i = omega arith
  marked_within (x ∷ xs) i = go (mark x) (marked_within xs (suc i))
    where
      go : (b : Bool) → length (marked mark view (suc i) xs) ≤ length xs → length (cond b (view i x ∷ marked mark view (suc i) xs) (marked mark view (suc i) xs)) ≤ suc (length xs)
      go true e = omega arith
      go false e = omega arith

-- a part is complete as it is held
module _ (t : ℕ) (p : Proposal) where
  pub complete_held : (i m n : ℕ) → m ≡ min (t * 2) (2 ^ 64 - 1) → n ≡ length (indices p.acks) → n ≤ base.nodes → ltb m n ≡ complete t (proposal_at i p)
  unfolding complete
  complete_held i m n s e h = go (ltb (2 * t) (length (indices p.acks))) refl
    where
      go : (b : Bool) → ltb (2 * t) (length (indices p.acks)) ≡ b → ltb m n ≡ b
      go true f = lt-ltb m n (omega (arith, ltb-true (2 * t) (length (indices p.acks)) f))
      go false f = le-ltb m n (omega (arith, ltb-false (2 * t) (length (indices p.acks)) f))

-- a place where a complete part stands holds one of the complete parts
pub complete_found_at : (t i : ℕ) (o : Option Proposal) → complete_in t o ≡ complete_found t (option_as_found (proposal_at i) o)
unfolding complete
complete_found_at t i (Some p) = refl
complete_found_at t i None = refl

-- a fresh key generation has no parts
pub fresh : (id : ℕ) (m : PubKeyMap) → key_gen_of (fresh_held id m) ≡ record { our_id = id; nodes = nodes_of m; parts = [] }
fresh id m = rw (none_present proposal_at base.nodes 0) refl

-- no flag is marked in a fresh array
none_marked : (n i : ℕ) → marked (λ b. b) (λ k b. k) i (replicate n false) ≡ []
unfolding marked
none_marked zero i = refl
none_marked (suc n) i = none_marked n (suc i)

-- a new part has no acknowledgement
pub new_part : (i commit : ℕ) → proposal_at i (new_proposal commit) ≡ record { proposer = i; commit = commit; acks = []; good = [] }
new_part i commit = rw (none_marked base.nodes 0) refl

-- one flag more
pub flag_set : (bs : List Bool) (j : ℕ) → j < length bs → indices (set bs j true) ≡ insert (λ x. x) j (indices bs)
flag_set bs j h = rw (zero-add j) at (marked_set (λ b. b) (λ k b. k) (λ x. x) (λ k b. refl) bs 0 j true h refl)

-- whether a flag stands; none does past the array
pub flag_here : (bs : List Bool) (j : ℕ) → is_here (lookup (λ x. x) (indices bs) j) ≡ get_or bs j false
flag_here bs j = go (ltb j (length bs)) refl
  where
    which : (b : Bool) → is_here (cond b (found j) nothing) ≡ b
    which true = refl
    which false = refl

    go : (b : Bool) → ltb j (length bs) ≡ b → is_here (lookup (λ x. x) (indices bs) j) ≡ get_or bs j false
    go true e = ap is_here (rw (zero-add j) at (marked_lookup (λ b. b) (λ k b. k) (λ x. x) (λ k b. refl) bs 0 j false (ltb-true _ _ e))) ∙ which (get_or bs j false)
    go false e = ap is_here (rw (zero-add j) at (marked_past (λ b. b) (λ k b. k) (λ x. x) (λ k b. refl) bs 0 j (ltb-false _ _ e))) ∙ sym (get_or-eq_default bs false (ltb-false _ _ e))

-- an acknowledgement, with a good value or without
module _ (p : Proposal) (i j : ℕ) (h : j < length p.acks) where
  pub acked_good : j < length p.good → proposal_at i (record { commit = p.commit; acks = set p.acks j true; good = set p.good j true }) ≡ acked (proposal_at i p) j true
  unfolding acked
  acked_good k = rw (flag_set p.acks j h, flag_set p.good j k)

  pub acked_other : proposal_at i (record { commit = p.commit; acks = set p.acks j true; good = p.good }) ≡ acked (proposal_at i p) j false
  unfolding acked
  acked_other = rw (flag_set p.acks j h)

-- the recorded parts as the array holds them
module _ (ps : List (Option Proposal)) (i : ℕ) where
  -- past the array there is none
  pub part_lookup : lookup by_proposer (parts_of ps) i ≡ option_as_found (proposal_at i) (get_or ps i None)
  part_lookup = present_lookup proposal_at by_proposer (λ k p. refl) ps 0 i i (omega arith)

  pub part_past : length ps ≤ i → lookup by_proposer (parts_of ps) i ≡ nothing
  part_past h = part_lookup ∙ ap (option_as_found (proposal_at i)) (get_or-eq_default ps None h)

  pub part_set : (p : Proposal) → i < length ps → parts_of (set ps i (Some p)) ≡ insert by_proposer (proposal_at i p) (parts_of ps)
  part_set p h = present_set proposal_at by_proposer (λ k q. refl) ps 0 i i p (omega arith) h

  -- a new part has no acknowledgement
  pub part_new : (commit : ℕ) (p : Proposal) → i < length ps → p ≡ new_proposal commit
      → parts_of (set ps i (Some p)) ≡ insert by_proposer (record { proposer = i; commit = commit; acks = []; good = [] }) (parts_of ps)
  part_new commit p h e = part_set p h ∙ ap (λ (q : ProposalOf). insert by_proposer q (parts_of ps)) (ap (proposal_at i) e ∙ new_part i commit)

  -- an acknowledgement of a recorded part
  pub part_acked : (r : Proposal) (q : ProposalOf) (j : ℕ) (good : Bool) → i < length ps → proposal_at i r ≡ acked q j good
      → parts_of (set ps i (Some r)) ≡ insert by_proposer (acked q j good) (parts_of ps)
  part_acked r q j good h a = part_set r h ∙ ap (λ (x : ProposalOf). insert by_proposer x (parts_of ps)) a

-- whether a complete part stands at the node's place, where it has one
pub ready_held : (g : KeyGen) (id t : ℕ) (place : Option ℕ) (b : Bool) → option_as_found (λ (k : ℕ). k) place ≡ node_index (nodes_of g.pub_keys) id → t ≡ threshold (key_gen_of g)
    → (place ≡ None → b ≡ false) → ((i : ℕ) → place ≡ Some i → b ≡ complete_in t (get_or g.proposals i None)) → b ≡ node_ready (key_gen_of g) id
unfolding node_ready
ready_held g id t None b n e absent there = rw (← n) (absent refl)
ready_held g id t (Some i) b n e absent there =
    rw (← n, part_lookup g.proposals i, ← e) (there i refl ∙ complete_found_at t i (get_or g.proposals i None))

-- what is recorded, with what is told; an observer is told nothing
module _ (g : KeyGenOf) (v : ℕ) (ps : List ProposalOf) (e : Effect) (b : Bool) (o : observes g ≡ b) where
  pub told_part : (i commit : ℕ) → ps ≡ insert by_proposer (record { proposer = i; commit = commit; acks = []; good = [] }) g.parts → cond b quiet (row_effect i v) ≡ e
      → handled (with_parts g ps) e ≡ record_part g i commit v
  unfolding record_part
  told_part i commit p t = rw (p, ← t, o)

  pub told_ack : (q : ProposalOf) (j : ℕ) → ps ≡ insert by_proposer (acked q j (not b && eqb v 0)) g.parts → cond b quiet (value_effect v) ≡ e
      → handled (with_parts g ps) e ≡ record_ack g q j v
  unfolding record_ack
  told_ack q j p t = rw (p, ← t, o)
