-- A winner has more than f committed voters, and none wins exactly if no change has; the place that is told is that of the first vote for the winner.
-- Assumes nothing.
use Prim.Native.Nat.{ℕ, ◌≤◌, ◌<◌}
use native.Mathlib.Omega.{arith}
use mathlib.Core.Path.{◌≡◌, refl, sym, ap, ◌∙◌}
use mathlib.Core.List.{List, [], ◌∷◌, map}
use mathlib.Core.Logic.{◌↔◌}
use lib.ListN.{length, get_or, length-map, get_or-map}
use Rattle.lists.specs.Lists.{Found, found, nothing, map_found}
use Rattle.util.specs.MaxFaulty.{max_faulty}
use Rattle.change.specs.Change.{ChangeOf, same_change}
use Rattle.change.proofs.ChangeLaws.{change_true, change_refl}
use Rattle.winner.specs.Support.{choices, support}
use Rattle.winner.proofs.WinnerLaws.{winner_supported, winner_none}
use Rattle.winner.proofs.WinnerPlaces.{place_exactly, place_chooses}
use Rattle.votes.specs.Votes.{SignedVoteOf, no_signed}
use Rattle.board.specs.Board.{cast_of}
use Rattle.vote_counter.specs.VoteCounter.{CounterOf, compute_winner, winner_at, CarriedOf, carried_by, carried}
use Rattle.vote_counter.specs.Answers.{choice_at}

-- the choices of votes as casts
pub choices_are : (vs : List SignedVoteOf) → choices (map cast_of vs) ≡ map (λ v. v.vote.change) vs
choices_are [] = refl
choices_are (v ∷ vs) = ap (λ (xs : List ChangeOf). v.vote.change ∷ xs) (choices_are vs)

pub winner_more : (c : CounterOf) (ch : ChangeOf) → compute_winner c ≡ found ch → max_faulty (length c.nodes) < support same_change ch (map (λ v. v.vote.change) c.committed)
unfolding compute_winner
winner_more c ch e = rw (choices_are c.committed) at (winner_supported same_change (max_faulty (length c.nodes)) (map cast_of c.committed) ch e)

pub winner_nobody : (c : CounterOf)
    → (compute_winner c ≡ nothing) ↔ ((ch : ChangeOf) → support same_change ch (map (λ v. v.vote.change) c.committed) ≤ max_faulty (length c.nodes))
unfolding compute_winner
winner_nobody c = rw (choices_are c.committed) at (winner_none same_change (max_faulty (length c.nodes)) (map cast_of c.committed) change_true)

pub choice_is : (c : CounterOf) (i : ℕ) → get_or (choices (map cast_of c.committed)) i no_signed.vote.change ≡ choice_at c.committed i
choice_is c i = ap (λ (xs : List ChangeOf). get_or xs i no_signed.vote.change) (choices_are c.committed) ∙ get_or-map (λ (v : SignedVoteOf). v.vote.change) c.committed i no_signed

-- the place is that of a vote, its change wins, and no vote before it is for that change
pub winner_first : (c : CounterOf) (i : ℕ)
    → (winner_at c ≡ found i)
    ↔ ((i < length c.committed) × (compute_winner c ≡ found (choice_at c.committed i)) × ((j : ℕ) → j < i → choice_at c.committed j ≡ choice_at c.committed i → ⊥))
unfolding winner_at compute_winner
winner_first c i =
    let s = place_exactly same_change change_true change_refl (max_faulty (length c.nodes)) (map cast_of c.committed) no_signed.vote.change i in
    let n = length-map c.committed (λ v. v.vote.change) in
    let m = ap length (choices_are c.committed) in (
      λ e. let w = s.0 e in (omega (arith, m, n, w.0), w.1 ∙ ap found (choice_is c i), λ j k q. w.2 j k (choice_is c j ∙ q ∙ sym (choice_is c i))),
      λ w. s.1 (omega (arith, m, n, w.0), w.1 ∙ ap found (sym (choice_is c i)), λ j k q. w.2 j k (sym (choice_is c j) ∙ q ∙ choice_is c i)),
    )

-- the change of the vote at that place is the winner
pub winner_chosen : (c : CounterOf) → map_found (choice_at c.committed) (winner_at c) ≡ compute_winner c
unfolding winner_at compute_winner
winner_chosen c = go (winner_at c) ∙ place_chooses same_change change_true change_refl (max_faulty (length c.nodes)) (map cast_of c.committed) no_signed.vote.change
  where
    go : (r : Found ℕ) → map_found (choice_at c.committed) r ≡ map_found (λ i. get_or (choices (map cast_of c.committed)) i no_signed.vote.change) r
    go (found i) = ap found (sym (choice_is c i))
    go nothing = refl

-- 02, CR 7: the change of the winner's answer is the winner
pub carried_change : (c : CounterOf) → map_found (λ (w : CarriedOf). w.change) (carried c) ≡ compute_winner c
unfolding carried
carried_change c = go (compute_winner c)
  where
    go : (r : Found ChangeOf) → map_found (λ (w : CarriedOf). w.change) (map_found (carried_by c) r) ≡ r
    go (found x) = refl
    go nothing = refl

-- the winner's answer is the change at that place, with all its voters; there is none where there is no place
pub carried_at : (c : CounterOf) (i : ℕ) → winner_at c ≡ found i → carried c ≡ found (carried_by c (choice_at c.committed i))
unfolding carried
carried_at c i e = ap (map_found (carried_by c)) (sym (winner_chosen c) ∙ ap (map_found (choice_at c.committed)) e)

pub carried_nowhere : (c : CounterOf) → winner_at c ≡ nothing → carried c ≡ nothing
unfolding carried
carried_nowhere c e = ap (map_found (carried_by c)) (sym (winner_chosen c) ∙ ap (map_found (choice_at c.committed)) e)
