-- 02, CR 7: whose ids a decision tells: the voters of the winner, as they stand before the decision. "Where the report comes of a ready key generation or is `None`, the list is empty."
-- Assumes nothing.
use Prim.Native.Nat.{ℕ}
use mathlib.Core.Path.{◌≡◌, refl, sym, ap, ◌∙◌}
use mathlib.Core.List.{List, []}
use mathlib.Core.Bool.{Bool, true, false, cond}
use mathlib.Core.Logic.{◌↔◌, ◌⊎◌, inl, inr, ⊎_elim}
use native.Mathlib.Omega.{arith}
use lib.ListN.{length}
use Rattle.lists.specs.Lists.{Found, found, nothing, map_found}
use Rattle.lists.proofs.ListLaws.{false_true}
use Rattle.bincode.specs.Sizes.{Sizes}
use Rattle.change.specs.Change.{ChangeOf, node_change, encryption_schedule, ChangeStateOf, none, in_progress, complete}
use Rattle.batch.specs.Batch.{RulingOf}
use Rattle.key_gen_state.specs.KeyGenState.{KeyGenStateOf, ready_state}
use Rattle.vote_counter.specs.VoteCounter.{compute_winner, supporters_of, carried_by, carried}
use Rattle.vote_counter.proofs.CarriedLaws.{carried_more}
use Rattle.dynamic_honey_badger.specs.State.{StateOf, nodes_in, candidate_nodes, key_gen_for, new_era, part_due}
use Rattle.decision.proofs.PageLaws.{ready_completes}
use Rattle.decision.specs.Decision.{Decided, decided_as, is_candidate, map_wins, schedule_wins, won_by, decide}

-- a change that has won is in progress, or complete
abbrev pub Decides : ChangeStateOf → ChangeOf → Type 0
Decides c x = (c ≡ in_progress x) ⊎ (c ≡ complete x)

module _ (z : Sizes) (era : ℕ) (s : StateOf) where
  won_lists : (voters : List ℕ) (x : ChangeOf) → ((won_by z era s voters x).ruling.voters ≡ voters) × Decides (won_by z era s voters x).ruling.change x
  unfolding map_wins schedule_wins
  won_lists voters (node_change ns) = go (is_candidate (candidate_nodes s.key_gen) ns)
    where
      Told : Decided → Type 0
      Told d = (d.ruling.voters ≡ voters) × Decides d.ruling.change (node_change ns)

      go : (b : Bool)
          → Told
          (cond b (decided_as s (record { change = in_progress (node_change ns); voters = voters }))
          (record {
            state = key_gen_for z ns (new_era era (nodes_in s) s);
            ruling = record { change = in_progress (node_change ns); voters = voters };
            due = part_due ns s.counter.our_id era;
            recipe = nothing;
          }))
      go true = (refl, inl refl)
      go false = (refl, inl refl)
  won_lists voters (encryption_schedule x) = (refl, inr refl)

  -- a ready key generation: nobody, whatever has won
  pub ready_lists_nobody : ready_state s.key_gen ≡ true → (decide z era s).ruling.voters ≡ []
  ready_lists_nobody e = go s.key_gen refl e
    where
      go : (k : Found KeyGenStateOf) → s.key_gen ≡ k → ready_state k ≡ true → (decide z era s).ruling.voters ≡ []
      go (found g) q r = ap (λ (d : Decided). d.ruling.voters) (ready_completes z era s g q r)
      go nothing q r = absurd (false_true r)

  module _ (unready : ready_state s.key_gen ≡ false) where
    -- nobody has won: `None`, and nobody, even if there are votes
    pub none_lists_nobody : compute_winner s.counter ≡ nothing → (decide z era s).ruling ≡ record { change = none; voters = [] }
    unfolding decide carried
    none_lists_nobody e = rw (unready, e)

    -- a change has won: all voters whose stored vote is for it, a repeated win of the candidate map included
    pub winner_lists : (x : ChangeOf) → compute_winner s.counter ≡ found x
        → ((decide z era s).ruling.voters ≡ supporters_of s.counter.committed x) × Decides (decide z era s).ruling.change x
    unfolding decide carried
    winner_lists x e = rw (unready, e) (won_lists (supporters_of s.counter.committed x) x)

    -- they are more than f, so not none
    winner_some : (x : ChangeOf) → compute_winner s.counter ≡ found x → supporters_of s.counter.committed x ≡ [] → ⊥
    unfolding carried
    winner_some x e n =
        let m = carried_more s.counter (carried_by s.counter x) (ap (map_found (carried_by s.counter)) e) in
        omega (arith, m, ap (λ (ids : List ℕ). length ids) n)

  -- the list is empty exactly where the change came of a ready key generation or is `None`
  pub empty_exactly : ((decide z era s).ruling.voters ≡ []) ↔ ((ready_state s.key_gen ≡ true) ⊎ ((decide z era s).ruling.change ≡ none))
  empty_exactly = go (ready_state s.key_gen) refl (compute_winner s.counter) refl
    where
      d : Decided
      d = decide z era s

      not_none : (x : ChangeOf) (c : ChangeStateOf) → Decides c x → c ≡ none → ⊥
      not_none x c (inl e) n = let q : in_progress x ≡ none = sym e ∙ n in let w : ◌≡◌ {A = ℕ} 0 1 = cc in let y : ⊥ = omega arith in y
      not_none x c (inr e) n = let q : complete x ≡ none = sym e ∙ n in let w : ◌≡◌ {A = ℕ} 0 1 = cc in let y : ⊥ = omega arith in y

      go : (b : Bool) → ready_state s.key_gen ≡ b → (w : Found ChangeOf) → compute_winner s.counter ≡ w → (d.ruling.voters ≡ []) ↔ ((ready_state s.key_gen ≡ true) ⊎ (d.ruling.change ≡ none))
      go true r w e = (λ n. inl r, λ k. ready_lists_nobody r)
      go false r nothing e = let n = none_lists_nobody r e in (λ k. inr (ap (λ (x : RulingOf). x.change) n), λ k. ap (λ (x : RulingOf). x.voters) n)
      go false r (found x) e =
          let t = winner_lists r x e in (
            λ n. absurd (winner_some r x e (sym t.0 ∙ n)),
            λ k. absurd (⊎_elim (λ (q : ready_state s.key_gen ≡ true). false_true (sym r ∙ q)) (λ (q : d.ruling.change ≡ none). not_none x d.ruling.change t.1 q) k),
          )
