-- What is judged first of a node and a map (02, CR 5): an id before its key is read; for the fixed widths nobody can tell, for every edition an id that does not ascend is 2 whatever
-- follows; and a number itself before its field's rule.
-- Assumes nothing.
use Prim.Native.Nat.{ℕ, ◌≤◌, ◌<◌}
use mathlib.Core.Path.{◌≡◌, refl, sym, ◌∙◌}
use mathlib.Core.List.{List}
use lib.Dec.{ltb, eqb}
use borrow.Author.Tests.{lt-ltb, le-ltb}
use Rattle.std.proofs.lemmas.Bool.{cond_both}
use Rattle.bincode.specs.Read.{Read, value, refuse, bind}
use Rattle.bincode.specs.Numbers.{read_num, Edition, fixed}
use Rattle.bincode.specs.Sizes.{Sizes}
use Rattle.bincode.specs.Items.{counted}
use Rattle.bincode.proofs.NumberLaws.{read_refused}
use Rattle.pub_key_map.specs.declared.Node.{Node}
use Rattle.pub_key_map.specs.PubKeyMap.{read_node, read_map}
use mathlib.Core.Bool.{cond}

module _ (s : List ℕ) (low : ℕ) where
  -- a key that was read is judged
  abbrev key_judged : ℕ → ℕ → ℕ → Read Node
  key_judged id key d = cond (eqb key 0) (refuse 2) (value (record { id = id; key = key }) d)

  -- id and key are read, and both are judged afterwards
  abbrev both_read : Edition → ℕ → Read Node
  both_read e at = bind (e.read 4 s at) λ id c. bind (e.read 8 s c) λ key d. cond (ltb id low) (refuse 2) (key_judged id key d)

  -- with the fixed widths that is the same reading
  pub order_untold : (at : ℕ) → read_node fixed s low at ≡ both_read fixed at
  unfolding read_node
  order_untold at = by_id (read_num 4 s at)
    where
      by_key : (id c : ℕ) (y : Read ℕ) → read_num 8 s c ≡ y
          → cond (ltb id low) (refuse 2) (bind y λ key d. key_judged id key d) ≡ bind y (λ key d. cond (ltb id low) (refuse 2) (key_judged id key d))
      by_key id c (value key d) r = refl
      by_key id c (refuse n) r =
          let two : refuse n ≡ refuse 2 = sym r ∙ read_refused 8 s c n r in
          let k : n ≡ 2 = cc in
          rw k (cond_both (ltb id low) (refuse 2) (refuse 2) (λ (x : Read Node). x ≡ refuse 2) (λ t. refl) (λ t. refl))

      by_id : (x : Read ℕ)
          → bind x (λ id c. cond (ltb id low) (refuse 2) (bind (read_num 8 s c) λ key d. key_judged id key d))
          ≡ bind x (λ id c. bind (read_num 8 s c) λ key d. cond (ltb id low) (refuse 2) (key_judged id key d))
      by_id (value id c) = by_key id c (read_num 8 s c) refl
      by_id (refuse n) = refl

  -- in every edition an id that does not ascend is refused by 2, whatever stands behind it
  pub id_before_key : (e : Edition) (at id c : ℕ) → e.read 4 s at ≡ value id c → id < low → read_node e s low at ≡ refuse 2
  unfolding read_node
  id_before_key e at id c r h = rw (r, lt-ltb id low h)

-- What refuses the number of a field refuses the field, before the field's own rule is asked (02, CR 5: 16 before 2 and 3): an id, a key, a count.
module _ (s : List ℕ) (e : Edition) where
  pub id_refused : (low at n : ℕ) → e.read 4 s at ≡ refuse n → read_node e s low at ≡ refuse n
  unfolding read_node
  id_refused low at n r = rw r

  pub key_refused : (low at id c n : ℕ) → e.read 4 s at ≡ value id c → low ≤ id → e.read 8 s c ≡ refuse n → read_node e s low at ≡ refuse n
  unfolding read_node
  key_refused low at id c n r h k = rw (r, le-ltb id low h, k)

  pub count_refused : (z : Sizes) (at n : ℕ) → e.read 8 s at ≡ refuse n → read_map e z s at ≡ refuse n
  unfolding read_map counted
  count_refused z at n r = rw r
