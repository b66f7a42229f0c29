-- Laws of writing: with room, without, and several fields one after the other.
-- Assumes nothing.
use Prim.Native.Nat.{ℕ, suc, ◌+◌, ◌-◌, ◌^◌, ◌≤◌, ◌<◌}
use mathlib.Core.Path.{◌≡◌, refl, sym, ap, ◌∙◌}
use mathlib.Core.List.{List, [], ◌∷◌, ◌++◌, append_assoc}
use native.Mathlib.Omega.{arith}
use native.Mathlib.Nat.{add-zero}
use lib.Dec.{leb}
use mathlib.Core.Bool.{true}
use lib.ListN.{length, take, drop, set, length-append}
use lib.Seq.{sets, length-sets, drop-drop, take_at}
use borrow.Author.Tests.{le-leb, lt-leb, leb-true}
use borrow.Rule.Slice.PartMut.{put_mid}
use Rattle.std.proofs.lemmas.List.Edits.{sets-eq}
use Rattle.bincode.specs.Numbers.{Edition}
use Rattle.bincode.specs.Stands.{concat, concat_map}
use Rattle.bincode.specs.Writing.{written, written_to, told_size}

-- a run of stores, in two parts
pub sets_append : (xs ys l : List ℕ) (i : ℕ) → sets l i (xs ++ ys) ≡ sets (sets l i xs) (i + length xs) ys
sets_append [] ys l i = rw add-zero
sets_append (x ∷ xs) ys l i =
    let e : suc i + length xs ≡ i + suc (length xs) = omega arith in
    sets_append xs ys (set l i x) (suc i) ∙ rw e

module _ (l : List ℕ) (at : ℕ) (bs : List ℕ) where
  -- what a writer leaves and answers
  pub no_room : length l < at + length bs → (l ≡ written l at bs) × (at ≡ written_to l at bs)
  unfolding written written_to
  no_room h = (rw (lt-leb (at + length bs) (length l) h), rw (lt-leb (at + length bs) (length l) h))

  pub has_room : at + length bs ≤ length l → (sets l at bs ≡ written l at bs) × (at + length bs ≡ written_to l at bs)
  unfolding written written_to
  has_room h = (rw (le-leb (at + length bs) (length l) h), rw (le-leb (at + length bs) (length l) h))

-- bytes with room put into their part of the buffer
pub bytes_put : (l : List ℕ) (at n : ℕ) (bs : List ℕ) → length bs ≡ n → leb (at + n) (length l) ≡ true
    → (put_mid at (at + n - at) l bs ≡ written l at bs) × (at + n ≡ written_to l at bs)
unfolding written written_to
bytes_put l at n bs e h =
    let r = leb-true (at + n) (length l) h in
    let k : at + n - at ≡ n = omega arith in
    let s = sets-eq bs l at (omega arith) in
    (rw (e, h, k, s, e, drop-drop, append_assoc), rw (e, h))

-- bytes stored from the first place on stand there
pub stored_first : (l bs : List ℕ) → length bs ≤ length l → take (length bs) (sets l 0 bs) ≡ bs
stored_first l bs h =
    let e : 0 + length bs ≤ length l = omega arith in
    ap (take (length bs)) (sets-eq bs l 0 e) ∙ take_at bs (drop (0 + length bs) l) (length bs) refl

-- how many bytes there are, where a number of 64 bits tells it
pub size_told : (n : ℕ) (bs : List ℕ) → n ≡ length bs → n < 2 ^ 64 → n ≡ told_size bs
size_told n bs e h = omega arith

-- fields written one after the other
abbrev pub written_all : List ℕ → ℕ → List (List ℕ) → List ℕ
written_all l at [] = l
written_all l at (f ∷ fs) = written_all (written l at f) (written_to l at f) fs

abbrev pub written_all_to : List ℕ → ℕ → List (List ℕ) → ℕ
written_all_to l at [] = at
written_all_to l at (f ∷ fs) = written_all_to (written l at f) (written_to l at f) fs

-- where all have room they are written as one
pub all_written : (l : List ℕ) (at : ℕ) (fs : List (List ℕ)) → at + length (concat fs) ≤ length l
    → (written_all l at fs ≡ written l at (concat fs)) × (written_all_to l at fs ≡ written_to l at (concat fs))
all_written l at fs h =
    let r = has_room l at (concat fs) h in
    let g = go l at fs h in
    (g.0 ∙ r.0, g.1 ∙ r.1)
  where
    go : (l : List ℕ) (at : ℕ) (fs : List (List ℕ)) → at + length (concat fs) ≤ length l
        → (written_all l at fs ≡ sets l at (concat fs)) × (written_all_to l at fs ≡ at + length (concat fs))
    go l at [] h = (refl, sym (add-zero at))
    go l at (f ∷ fs) h =
        let a : length (f ++ concat fs) ≡ length f + length (concat fs) = length-append f (concat fs) in
        let r = has_room l at f (omega arith) in
        let n = length-sets l at f in
        let g = go (sets l at f) (at + length f) fs (omega arith) in
        (rw (← r.0, ← r.1) (g.0 ∙ sym (sets_append f (concat fs) l at)), rw (← r.0, ← r.1) (g.1 ∙ omega arith))

-- The count of items is written, by any edition; the items are still to be. The loop that writes them keeps `Putting`, below.
module _ (e : Edition) {A : Type 0} (enc : A → List ℕ) (xs : List A) where
  pub put_counted : (l : List ℕ) (at n : ℕ) → n ≡ length xs → at + length (e.bytes 8 (length xs) ++ concat_map enc xs) ≤ length l
      → (written_to l at (e.bytes 8 n) + length (concat_map enc xs) ≤ length (written l at (e.bytes 8 n)))
      × (sets (written l at (e.bytes 8 n)) (written_to l at (e.bytes 8 n)) (concat_map enc xs) ≡ written l at (e.bytes 8 (length xs) ++ concat_map enc xs))
      × (written_to l at (e.bytes 8 n) + length (concat_map enc xs) ≡ written_to l at (e.bytes 8 (length xs) ++ concat_map enc xs))
  put_counted l at n q h =
      let a : length (e.bytes 8 n ++ concat_map enc xs) ≡ length (e.bytes 8 n) + length (concat_map enc xs) = length-append (e.bytes 8 n) (concat_map enc xs) in
      let k : at + length (e.bytes 8 n ++ concat_map enc xs) ≤ length l = rw q h in
      let w = has_room l at (e.bytes 8 n ++ concat_map enc xs) k in
      let f = has_room l at (e.bytes 8 n) (omega arith) in
      let m = length-sets l at (e.bytes 8 n) in
      rw (← q, ← w.0, ← w.1, ← f.0, ← f.1) (omega arith, sym (sets_append (e.bytes 8 n) (concat_map enc xs) l at), omega arith)

-- A loop that writes items behind their count.
module _ {A : Type 0} (enc : A → List ℕ) (xs : List A) where
  -- what it keeps: the items left have room, and with them the buffer and the position are those wanted in the end
  pub record Putting (target : List ℕ) (end i : ℕ) (buf : List ℕ) (c : ℕ) : Type 0 where
    pub fits : c + length (concat_map enc (drop i xs)) ≤ length buf
    pub content : sets buf c (concat_map enc (drop i xs)) ≡ target
    pub stop : c + length (concat_map enc (drop i xs)) ≡ end

  -- a turn
  pub put_more : (target : List ℕ) (end i : ℕ) (buf : List ℕ) (c : ℕ) (x : A) → drop i xs ≡ x ∷ drop (i + 1) xs → Putting target end i buf c
      → Putting target end (i + 1) (written buf c (enc x)) (written_to buf c (enc x))
  put_more target end i buf c x h p =
      let r : concat_map enc (drop i xs) ≡ enc x ++ concat_map enc (drop (i + 1) xs) = ap (concat_map enc) h in
      let ys = concat_map enc (drop (i + 1) xs) in
      let a : length (concat_map enc (drop i xs)) ≡ length (enc x) + length ys = ap length r ∙ length-append (enc x) ys in
      let q = p.fits in
      let e = p.stop in
      let f = has_room buf c (enc x) (omega arith) in
      let l = length-sets buf c (enc x) in
      rw (← f.0, ← f.1) record {
        fits = omega arith;
        content = sym (sets_append (enc x) ys buf c) ∙ ap (sets buf c) (sym r) ∙ p.content;
        stop = omega arith;
      }
