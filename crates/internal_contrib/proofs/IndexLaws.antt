-- A loop that notes where the contributions of a batch stand: what it keeps, its turns, and what the batch is read as.
-- Assumes nothing.
use Prim.Native.Nat.{ℕ, ◌+◌, ◌-◌, ◌^◌, ◌≤◌, ◌<◌}
use mathlib.Core.Path.{◌≡◌, refl, sym, ap, ◌∙◌}
use mathlib.Core.List.{List, [], ◌∷◌, ◌++◌}
use native.Mathlib.Omega.{arith}
use lib.ListN.{length, take, drop, set, length-append}
use Rattle.lists.specs.Lists.{padded}
use Rattle.lists.proofs.ListLaws.{padded_set}
use Rattle.std.specs.declared.result.Result.{Result}
use Rattle.std.specs.declared.result.Result.TheVariants.{Ok, Err}
use Rattle.bincode.specs.Read.{value, refuse}
use Rattle.bincode.specs.Outcome.{refused}
use Rattle.bincode.specs.Rows.{row_number}
use Rattle.bincode.specs.Answer.{answer}
use Rattle.bincode.specs.declared.Refusal.{Refusal}
use Rattle.bincode.specs.Numbers.{fixed, read_num}
use Rattle.bincode.specs.Sizes.{Sizes, base}
use Rattle.bincode.specs.Items.{read_count, items, after}
use Rattle.bincode.specs.Stands.{Bytes, concat_map}
use Rattle.bincode.proofs.NumberLaws.{read_value}
use Rattle.bincode.proofs.ReadLaws.{answer_ok, answer_err, whole_refused, whole_left, whole_read}
use Rattle.bincode.proofs.ItemLaws.{counted_refused, counted_start, items_turn, items_refused, items_end}
use Rattle.bincode.proofs.PartLaws.{part_empty, part_places, part_filled}
use Rattle.bincode.proofs.RowLaws.{caused_row}
use Rattle.internal_contrib.specs.declared.Budget.{Budget}
use Rattle.internal_contrib.specs.declared.Contrib.{Contrib}
use Rattle.internal_contrib.specs.declared.BatchIndex.{BatchIndex}
use Rattle.internal_contrib.specs.InternalContrib.{ContribOf, read_contrib, read_contribs, read_batch, spending, opening, contrib_bytes}
use Rattle.internal_contrib.specs.Places.{placed, spent, message_count}
use Rattle.internal_contrib.specs.Index.{no_contrib, index_held, placed_from, indexed, Indexed}
use Rattle.internal_contrib.specs.ContribCauses.{batch_wrong}
use Rattle.internal_contrib.proofs.ContribCauses.{batch_causes}
use Rattle.internal_contrib.proofs.ContribCodes.{contrib_codes}
use Rattle.internal_contrib.proofs.BatchLaws.{batch_short, count_more, length_more, placed_more, length_placed}

-- the places of an empty index below a count
module _ (n : ℕ) (few : n ≤ base.nodes) (x : BatchIndex) (e : x ≡ index_held []) where
  pub places_empty : take n x.contribs.items ≡ padded n no_contrib []
  unfolding padded
  places_empty = ap (λ (y : BatchIndex). take n y.contribs.items) e ∙ part_empty no_contrib n base.nodes few

  pub places_fit : n ≤ length x.contribs.items
  unfolding padded
  places_fit = rw e few

  pub places_count : length (take n x.contribs.items) ≡ n
  unfolding padded
  places_count = ap (λ (y : BatchIndex). length (take n y.contribs.items)) e ∙ part_places no_contrib n base.nodes few

  pub place_below : (i : ℕ) → i < length (take n x.contribs.items) → i < n
  place_below i h = rw places_count at h

  pub places_passed : (i : ℕ) → length (take n x.contribs.items) ≤ i → n ≤ i
  places_passed i h = rw places_count at h

  -- with the contributions in them they are the index that holds these
  pub places_filled : (ks : List Contrib) → length ks ≡ n
      → ◌≡◌ {A = BatchIndex} (record { contribs = record { count = n; items = padded n no_contrib ks ++ drop n x.contribs.items } }) (index_held ks)
  unfolding padded
  places_filled ks l =
      let p : padded n no_contrib ks ++ drop n x.contribs.items ≡ padded base.nodes no_contrib ks
      = ap (λ (y : BatchIndex). padded n no_contrib ks ++ drop n y.contribs.items) e ∙ part_filled no_contrib n base.nodes few ks l in
      λ t. record { contribs = record { count = sym l t; items = p t } }

-- a batch that is refused before its first contribution
module _ (z : Sizes) (s : List ℕ) where
  module _ (short : length s ≤ z.batch) where
    refused_batch : (k : ℕ) → read_contribs z s 0 ≡ refuse k → read_batch z s ≡ refuse k
    refused_batch k r = batch_short z s short ∙ whole_refused (read_contribs z s) s k r

    pub index_uncounted : {t : Result (ℕ × ℕ) Refusal} → t ≡ answer (λ (x : ℕ). x) (read_count fixed s z.nodes 0) → {k : Refusal} → t ≡ Err k
        → Indexed (Err k) (read_batch z s)
    unfolding read_contribs
    index_uncounted q {k} p =
        ap indexed (sym (refused_batch (row_number k) (counted_refused (read_contrib z s) spending s z.nodes (opening z) 0 q p)))

  -- what the loop keeps, after i of n contributions
  module _ (n : ℕ) where
    pub record Indexing (b : Budget) (messages : ℕ) (contribs : List Contrib) (c i : ℕ) : Type 0 where
      pub passed : List ContribOf
      pub size : i ≡ length passed
      pub few : (i ≤ n) × (n ≤ z.nodes)
      pub tally : messages ≡ message_count passed
      pub noted : contribs ≡ padded n no_contrib (placed_from 8 passed)
      pub stop : c ≡ 8 + length (concat_map contrib_bytes passed)
      pub within : messages + b.left ≤ z.items
      pub rest : read_contribs z s 0 ≡ after passed (items (read_contrib z s) spending (n - i) b c)

    pub index_start : (first : ℕ) → read_num 8 s 0 ≡ value n first → n ≤ z.nodes → (b : Budget) → b ≡ opening z
        → (contribs : List Contrib) → contribs ≡ padded n no_contrib [] → Indexing b 0 contribs first 0
    unfolding read_contribs message_count placed_from
    index_start first r h b e contribs q =
        rw e record {
          passed = [];
          size = refl;
          few = (omega arith, h);
          tally = refl;
          noted = q;
          stop = (read_value 8 s 0 n first r).2;
          within = omega arith;
          rest = counted_start (read_contrib z s) spending fixed s z.nodes (opening z) 0 n first r h;
        }

    module _ (b : Budget) (messages : ℕ) (contribs : List Contrib) (c i : ℕ) (w : Indexing b messages contribs c i) where
      pub index_left : length s ≤ z.batch → n ≤ i → c < length s → read_batch z s ≡ refuse 2
      index_left short h l =
          batch_short z s short ∙ whole_left (read_contribs z s) s w.passed c (w.rest ∙ items_end (read_contrib z s) spending w.passed n i b c h) l

      pub index_done : length s ≤ z.batch → n ≤ i → length s ≤ c → read_batch z s ≡ value w.passed c
      index_done short h l =
          batch_short z s short ∙ whole_read (read_contribs z s) s w.passed c (w.rest ∙ items_end (read_contrib z s) spending w.passed n i b c h) l

      -- as many as were counted
      pub index_count : n ≤ i → length (placed_from 8 w.passed) ≡ n
      index_count h = omega (arith, w.few.0, w.size, length_placed 8 w.passed)

      module _ (h : i < n) where
        pub index_refused : length s ≤ z.batch → (k : ℕ) → read_contrib z s b c ≡ refuse k → read_batch z s ≡ refuse k
        index_refused short k r = refused_batch short k (w.rest ∙ items_refused (read_contrib z s) spending w.passed n i b c k h r)

        -- the refusal is answered by the number that the definition gives
        pub index_passed : z.nodes < 256 ^ 8 → z.rows < 256 ^ 8 → z.user < 256 ^ 8 → Bytes s → length s ≤ z.batch
            → (k : Refusal) → answer (placed c) (read_contrib z s b c) ≡ Err k → Indexed (Err k) (read_batch z s)
        index_passed nodes-fit rows_fit user-fits bytes short k r =
            let a = answer_err (placed c) (read_contrib z s b c) k r in
            let x = index_refused short a.0 a.1 in
            let o = caused_row s (read_batch z s) (batch_wrong z s) (batch_causes z nodes-fit rows_fit user-fits s) bytes a.0 x in
            ap refused (ap row_number a.2 ∙ o) ∙ ap indexed (sym x)

        -- a turn, by what code keeps of the contribution
        module _ (nodes-fit : z.nodes < 256 ^ 8) (rows_fit : z.rows < 256 ^ 8) (user-fits : z.user < 256 ^ 8) (bytes : Bytes s)
            (e : Contrib) (next : ℕ) (r : answer (placed c) (read_contrib z s b c) ≡ Ok (e, next)) where
          -- the contribution that code keeps the places of
          kept : (x : ContribOf)
              × (read_contrib z s b c ≡ value x next) × (placed c x ≡ e) × (next ≡ c + length (contrib_bytes x)) × (length x.messages ≤ b.left)
          kept =
              let a = answer_ok (placed c) (read_contrib z s b c) e next r in
              let k = (contrib_codes z nodes-fit rows_fit user-fits s b).stands bytes c a.0 next a.1 in
              (a.0, a.1, sym a.2, k.1, k.2.few_messages)

          pub index_fits : messages + e.messages.count ≤ z.items
          index_fits =
              let m : length kept.0.messages ≡ e.messages.count = ap (λ (y : Contrib). y.messages.count) kept.2 in
              omega (arith, w.within, kept.4)

          -- one contribution more is noted at the next place
          noted_more : set contribs i e ≡ padded n no_contrib (placed_from 8 (w.passed ++ (kept.0 ∷ [])))
          noted_more =
              let ks = placed_from 8 w.passed in
              let l : i ≡ length ks = w.size ∙ sym (length_placed 8 w.passed) in
              let p : placed (8 + length (concat_map contrib_bytes w.passed)) kept.0 ≡ e = ap (λ (y : ℕ). placed y kept.0) (sym w.stop) ∙ kept.2 in
              ap (λ (xs : List Contrib). set xs i e) w.noted
              ∙ padded_set n no_contrib ks i e l h
              ∙ ap (padded n no_contrib) (ap (λ (y : Contrib). ks ++ (y ∷ [])) (sym p) ∙ sym (placed_more 8 w.passed kept.0))

          pub index_more : (b' : Budget) → b' ≡ spent b e → Indexing b' (messages + e.messages.count) (set contribs i e) next (i + 1)
          unfolding spending
          index_more b' q =
              let x = kept.0 in
              let m : length x.messages ≡ e.messages.count = ap (λ (y : Contrib). y.messages.count) kept.2 in
              let v = w.within in
              let f = kept.4 in
              let g : b' ≡ spending b x = q ∙ ap (spent b) (sym kept.2) in
              let left : b'.left ≡ b.left - length x.messages - length x.votes = ap (λ (y : Budget). y.left) g in
              record {
                passed = w.passed ++ (x ∷ []);
                size = simp length-append (omega (arith, w.size));
                few = (omega arith, w.few.1);
                tally = omega (arith, w.tally, count_more w.passed x);
                noted = noted_more;
                stop = rw (length_more w.passed x) (omega (arith, kept.3, w.stop));
                within = omega arith;
                rest = w.rest ∙ items_turn (read_contrib z s) spending w.passed n i b c x next h kept.1
                    ∙ ap (λ (y : Budget). after (w.passed ++ (x ∷ [])) (items (read_contrib z s) spending (n - (i + 1)) y next)) (sym g);
              }
