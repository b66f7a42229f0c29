-- 02, CR 8: in a counter begun empty and changed by its own calls only, the change with most support wins, and among equals the one with the lowest voter.
-- Assumes nothing.
use Prim.Native.Nat.{ℕ, ◌+◌, ◌≤◌, ◌<◌}
use mathlib.Core.Path.{◌≡◌, sym, ap, subst, ◌∙◌}
use mathlib.Core.List.{List, [], ◌∷◌, map}
use mathlib.Core.Bool.{Bool, true, false, cond}
use mathlib.Core.Logic.{◌↔◌}
use native.Mathlib.Omega.{arith}
use lib.Dec.{ltb}
use lib.ListN.{length, get_or}
use Rattle.lists.specs.Lists.{Found, found, nothing, map_found, at_place}
use Rattle.lists.proofs.ListLaws.{found_same, not_found}
use Rattle.util.specs.MaxFaulty.{max_faulty}
use Rattle.bincode.specs.Sizes.{Sizes}
use Rattle.bincode.specs.Stands.{All}
use Rattle.pub_key_map.specs.declared.Node.{Node}
use Rattle.change.specs.Change.{ChangeOf, same_change}
use Rattle.change.proofs.ChangeLaws.{change_true, change_refl}
use Rattle.votes.specs.Votes.{SignedVoteOf, no_signed}
use Rattle.signed_votes.specs.SignedVotes.{voter_of}
use Rattle.signed_votes.proofs.VotesLaws.{AscendsFrom}
use Rattle.winner.specs.Support.{Cast, choices, voters, support, supporters}
use Rattle.winner.specs.Board.{Row}
use Rattle.winner.specs.BoardTerms.{Unrepeated, Lowest, RowOf}
use Rattle.winner.specs.FirstPast.{first_past}
use Rattle.winner.specs.WinnerTerms.{Wins, first_over, Ascending, ListOf}
use Rattle.winner.proofs.AmongLaws.{all_follows}
use Rattle.winner.proofs.BoardLaws.{board_rows}
use Rattle.winner.proofs.WinsLaws.{winner_exactly}
use Rattle.winner.proofs.FirstRow.{winner_first_row}
use Rattle.winner.proofs.FirstPastLaws.{same_nobody, same_alone}
use Rattle.winner.proofs.WinnerPlaces.{place_lowest}
use Rattle.board.specs.Board.{cast_of, board_of, shown_row, StandingOf}
use Rattle.board.proofs.BoardTurns.{cast_at}
use Rattle.board.proofs.HandedLaws.{ascending_unrepeated}
use Rattle.vote_counter.specs.VoteCounter.{CounterOf, new_counter, CarriedOf, compute_winner, winner_at, supporters_of, carried, board_row}
use Rattle.vote_counter.specs.Answers.{choice_at}
use Rattle.vote_counter.specs.Calls.{CounterCall, after_calls}
use Rattle.vote_counter.specs.MostSupport.{MostSupport}
use Rattle.vote_counter.proofs.CounterLaws.{choices_are, choice_is}
use Rattle.vote_counter.proofs.CarriedLaws.{carried_winner, carried_voters, voters_counted, supporters_ascend}
use Rattle.vote_counter.proofs.BoardKept.{Kept, new_kept, calls_kept, kept_in_step}

-- ids that ascend, as propositions
ascending_ids : (low : ℕ) (ns : List ℕ) → AscendsFrom (λ (i : ℕ). i) low ns → All (λ (n : ℕ). low ≤ n) ns × Ascending ns
ascending_ids low [] a = (tt, tt)
ascending_ids low (n ∷ ns) a =
    let r = ascending_ids (n + 1) ns a.1 in
    let l : low ≤ n = a.0 in (
      (l, all_follows (λ (m : ℕ). n + 1 ≤ m) (λ (m : ℕ). low ≤ m) (λ m h. omega arith) ns r.0),
      (all_follows (λ (m : ℕ). n + 1 ≤ m) (λ (m : ℕ). n < m) (λ m h. omega arith) ns r.0, r.1),
    )

voters_ascend : (low : ℕ) (vs : List SignedVoteOf) → AscendsFrom voter_of low vs → AscendsFrom (λ (i : ℕ). i) low (voters (map cast_of vs))
voters_ascend low [] a = tt
voters_ascend low (v ∷ vs) a = (a.0, voters_ascend (voter_of v + 1) vs a.1)

module _ (c : CounterOf) where
  -- by 01's rule nobody wins exactly where nobody does by the present one, and both name the same where at most one change passes f: of every counter
  pub nobody_as_before : (compute_winner c ≡ nothing) ↔ (first_past same_change (max_faulty (length c.nodes)) (map (λ v. v.vote.change) c.committed) ≡ nothing)
  unfolding compute_winner
  nobody_as_before = rw (choices_are c.committed) at (same_nobody same_change (max_faulty (length c.nodes)) change_true (map cast_of c.committed))

  pub alone_as_before : ((x y : ChangeOf) → max_faulty (length c.nodes) < support same_change x (map (λ v. v.vote.change) c.committed) → max_faulty (length c.nodes) < support same_change y (map (λ v. v.vote.change) c.committed) → x ≡ y)
      → compute_winner c ≡ first_past same_change (max_faulty (length c.nodes)) (map (λ v. v.vote.change) c.committed)
  unfolding compute_winner
  alone_as_before = rw (choices_are c.committed) at (same_alone same_change (max_faulty (length c.nodes)) change_true (map cast_of c.committed))

  -- of a counter with ascending voters
  module _ (k : Kept c) where
    apart : Unrepeated (voters (map cast_of c.committed))
    apart = ascending_unrepeated 0 c.committed k.ascend

    on_board : compute_winner c ≡ first_over (max_faulty (length c.nodes)) (board_of c.committed)
    unfolding compute_winner
    on_board = winner_first_row same_change change_true change_refl (max_faulty (length c.nodes)) (map cast_of c.committed) apart

    -- a change that is over f heads the board
    first_shown : (x : ChangeOf) (n : ℕ) (rs : List (Row ChangeOf)) → ((r : Row ChangeOf) → r.choice ≡ x → RowOf same_change (map cast_of c.committed) r → r.count ≡ n)
        → All (RowOf same_change (map cast_of c.committed)) rs → first_over (max_faulty (length c.nodes)) rs ≡ found x → map_found shown_row (at_place 0 rs) ≡ found (record { change = x; count = n })
    unfolding at_place
    first_shown x n [] h a e = absurd (not_found e)
    first_shown x n (r ∷ rs) h a e = go (ltb (max_faulty (length c.nodes)) r.count) e
      where
        go : (b : Bool) → cond b (found r.choice) nothing ≡ found x → ◌≡◌ {A = Found StandingOf} (found (record { change = r.choice; count = r.count })) (found (record { change = x; count = n }))
        go true q = let s : r.choice ≡ x = found_same q in λ i. found (record { change = s i; count = h r s a.0 i })
        go false q = absurd (not_found q)

    shown_first : (w : CarriedOf) → carried c ≡ found w → board_row c 0 ≡ found (record { change = w.change; count = length w.voters })
    shown_first w e =
        (kept_in_step c k).handed_out 0
        ∙ first_shown w.change (length w.voters) (board_of c.committed) counted (board_rows same_change change_true change_refl (map cast_of c.committed)).only (sym on_board ∙ carried_winner c w e)
      where
        counted : (r : Row ChangeOf) → r.choice ≡ w.change → RowOf same_change (map cast_of c.committed) r → r.count ≡ length w.voters
        counted r q o =
            o.counts ∙ ap (λ (x : ChangeOf). support same_change x (choices (map cast_of c.committed))) q ∙ ap (support same_change w.change) (choices_are c.committed)
            ∙ sym (voters_counted c.committed w.change) ∙ ap length (sym (carried_voters c w e))

    list_is : (w : CarriedOf) → carried c ≡ found w → ListOf same_change (map cast_of c.committed) w.change w.voters
    unfolding supporters_of
    list_is w e =
        let q : w.voters ≡ supporters same_change w.change (map cast_of c.committed) = carried_voters c w e in
        subst (ListOf same_change (map cast_of c.committed) w.change) (sym q)
        (record { ascend = (ascending_ids 0 (supporters same_change w.change (map cast_of c.committed)) (supporters_ascend w.change 0 c.committed k.ascend)).1; each = λ n m. m; all = λ n m. m })

    -- the place that is told
    told_lowest : (i : ℕ) → winner_at c ≡ found i → Lowest (voter_of (get_or c.committed i no_signed)) (supporters_of c.committed (choice_at c.committed i))
    unfolding winner_at supporters_of
    told_lowest i e =
        subst (λ (x : ChangeOf). Lowest (voter_of (get_or c.committed i no_signed)) (supporters same_change x (map cast_of c.committed))) (choice_is c i)
        (subst (λ (v : Cast ChangeOf). Lowest v.voter (supporters same_change (get_or (choices (map cast_of c.committed)) i no_signed.vote.change) (map cast_of c.committed))) (cast_at c.committed i)
        (place_lowest same_change change_true change_refl (max_faulty (length c.nodes)) (map cast_of c.committed) no_signed.vote.change i (cast_of no_signed)
        (ascending_ids 0 (voters (map cast_of c.committed)) (voters_ascend 0 c.committed k.ascend)).1 e))

    wins_exactly : (x : ChangeOf) → (compute_winner c ≡ found x) ↔ Wins same_change (map cast_of c.committed) (max_faulty (length c.nodes)) x
    unfolding compute_winner
    wins_exactly x = winner_exactly same_change change_true change_refl (map cast_of c.committed) (max_faulty (length c.nodes)) apart x

    pub kept_most : MostSupport c
    kept_most =
        record {
          by_most = wins_exactly;
          nobody = nobody_as_before;
          alone = alone_as_before;
          first_row = on_board;
          shown = shown_first;
          listed = list_is;
          told = told_lowest;
        }

-- for every id, key, map and era, and every list of calls
pub most_after : (z : Sizes) (id key : ℕ) (ns : List Node) (era : ℕ) (xs : List CounterCall) → MostSupport (after_calls z (new_counter id key ns era) xs)
most_after z id key ns era xs = kept_most _ (calls_kept z (new_counter id key ns era) xs (new_kept id key ns era))
