-- Reading and writing are inverse, for a number of any width, for fields one after the other, for a choice by tag, and for a run
-- of items of any kind. Each law of an encoded value above is put together from these.
-- Assumes nothing.
use Prim.Native.Nat.{ℕ, zero, suc, ◌+◌, ◌^◌, ◌≤◌, ◌<◌}
use mathlib.Core.Path.{◌≡◌, refl, sym, ap, ◌∙◌, subst}
use mathlib.Core.List.{List, [], ◌∷◌, ◌++◌}
use mathlib.Core.Bool.{Bool, true, false, cond}
use mathlib.Core.Logic.{◌↔◌}
use native.Mathlib.Omega.{arith}
use native.Mathlib.Nat.{add-zero, add_assoc}
use lib.Dec.{lit<, ltb, eqb}
use lib.ListN.{length, take, drop, length-append, length-take, length-drop}
use lib.Seq.{length-take-le}
use borrow.Author.Tests.{eqb-true, eqb-false, ltb-false, le-ltb}
use Rattle.bincode.specs.Read.{Read, value, refuse, bind, whole}
use Rattle.bincode.specs.Numbers.{le, bytes_of, read_num, Edition, fixed}
use Rattle.bincode.specs.Items.{items, counted, plain, stay}
use Rattle.bincode.specs.Stands.{Bytes, Stands, concat_map, Each, All}
use Rattle.bincode.specs.Codes.{Codes, Width, NumberCodes}
use Rattle.bincode.proofs.NumberLaws.{length_bytes_of, le_bytes_of, bytes_of_le, bytes_bytes_of, bytes_part, part_below, read_whole, read_value}
use Rattle.bincode.proofs.ReadLaws.{clash, bind_value, cond_value}
use Rattle.bincode.proofs.ItemLaws.{uncons}
use Rattle.bincode.proofs.StandLaws.{stands_left, stands_right, stands_both, stands_self, stands_all, bytes_append}

-- the widths of 01's and 02's fields
pub four : Width 4
four = (lit< tt, omega arith)

pub eight : Width 8
eight = (lit< tt, omega arith)

-- a number of the fixed widths
pub fixed_codes : (s : List ℕ) → NumberCodes fixed s
fixed_codes s w h = record { stands = stand; reads = read; clean = λ x o. bytes_bytes_of w x }
  where
    stand : Bytes s → (at x c : ℕ) → read_num w s at ≡ value x c → Stands s at (bytes_of w x) × (c ≡ at + length (bytes_of w x)) × (x < 256 ^ w)
    stand b at x c p =
        let v = read_value w s at x c p in
        let l : length (take w (drop at s)) ≡ w = length-take-le w (drop at s) (simp length-drop (omega arith)) in
        let e : bytes_of w x ≡ take w (drop at s) = rw v.1 (rw l at (bytes_of_le (take w (drop at s)) (bytes_part s w at b))) in
        (rw (length_bytes_of) (sym e), rw length_bytes_of v.2, rw v.1 (part_below s w at w b (omega arith)))

    read : (at x : ℕ) → Stands s at (bytes_of w x) → x < 256 ^ w → read_num w s at ≡ value x (at + length (bytes_of w x))
    read at x p o =
        let q : take w (drop at s) ≡ bytes_of w x = rw (length_bytes_of w x) at p in
        let l : length (take w (drop at s)) ≡ w = ap length q ∙ length_bytes_of w x in
        let r : at + w ≤ length s = omega (arith, simp (length-take, length-drop) at l) in
        rw length_bytes_of (read_whole w s at r ∙ ap (λ (y : ℕ). value y (at + w)) (ap le q ∙ le_bytes_of w x o))

module _ {s : List ℕ} where
  -- other words for the same values, and for their bytes
  module _ {A : Type 0} {rd : ℕ → Read A} {enc : A → List ℕ} {P : A → Type 0} where
    pub restate : {Q : A → Type 0} → ((a : A) → P a → Q a) → ((a : A) → Q a → P a) → Codes s rd enc P → Codes s rd enc Q
    restate to from k =
        record {
          stands = λ b at a c p. let r = k.stands b at a c p in (r.0, r.1, to a r.2);
          reads = λ at a p o. k.reads at a p (from a o);
          clean = λ a o. k.clean a (from a o);
        }

    pub recode : {dec : A → List ℕ} → ((a : A) → P a → enc a ≡ dec a) → Codes s rd enc P → Codes s rd dec P
    recode e k =
        record {
          stands = λ b at a c p. let r = k.stands b at a c p in rw (← e a r.2) r;
          reads = λ at a p o. rw (← e a o) (k.reads at a (rw (e a o) p) o);
          clean = λ a o. rw (← e a o) (k.clean a o);
        }

  -- no field is left: the value is the one whose fields were read
  pub ended : {A : Type 0} {H : A → Type 0} (a : A) → H a → ((x : A) → H x → x ≡ a) → Codes s (λ c. value a c) (λ x. []) (λ x. H x × Unit {0})
  ended {A} {H} a h only =
      record {
        stands = λ b at x c p. let e : a ≡ x = cc in (refl, rw add-zero (cc), (subst H e h, tt));
        reads = λ at x p o. rw (only x o.0, add-zero);
        clean = λ x o i. lit< tt;
      }

  -- A field and what follows it. H says which fields of the value were read before, Q what is asked of those behind.
  pub field : {A B : Type 0} {ra : ℕ → Read A} {ea : A → List ℕ} {P : A → Type 0} {k : A → ℕ → Read B} {rest : B → List ℕ} {H Q : B → Type 0}
      (f : B → A) → Codes s ra ea P → ((a : A) → Codes s (k a) rest (λ b. (H b × (f b ≡ a)) × Q b))
      → Codes s (λ at. bind (ra at) k) (λ b. ea (f b) ++ rest b) (λ b. H b × (P (f b) × Q b))
  field {A} {B} {ra} {ea} {P} {k} {rest} {H} {Q} f first then =
      record {
        stands = λ b at x c p. let u = bind_value (ra at) k p in stand at x c u.0 u.1 (first.stands b at u.0 u.1 u.2) ((then u.0).stands b u.1 x c u.3);
        reads = λ at x p o. read at x p o;
        clean = λ x o. bytes_append (ea (f x)) (rest x) (first.clean (f x) o.1.0) ((then (f x)).clean x ((o.0, refl), o.1.1));
      }
    where
      stand : (at : ℕ) (x : B) (c : ℕ) (a : A) (d : ℕ) → Stands s at (ea a) × (d ≡ at + length (ea a)) × P a
          → Stands s d (rest x) × (c ≡ d + length (rest x)) × ((H x × (f x ≡ a)) × Q x)
          → Stands s at (ea (f x) ++ rest x) × (c ≡ at + length (ea (f x) ++ rest x)) × (H x × (P (f x) × Q x))
      stand at x c a d l r =
          let e = r.2.0.1 in
          rw e (
            stands_both s at (ea a) (rest x) l.0 (rw l.1 at r.0),
            simp length-append (omega arith),
            (r.2.0.0, (l.2, r.2.1)),
          )

      read : (at : ℕ) (x : B) → Stands s at (ea (f x) ++ rest x) → H x × (P (f x) × Q x) → bind (ra at) k ≡ value x (at + length (ea (f x) ++ rest x))
      read at x p o =
          rw (
            first.reads at (f x) (stands_left s at (ea (f x)) (rest x) p) o.1.0,
            (then (f x)).reads (at + length (ea (f x))) x (stands_right s at (ea (f x)) (rest x) p) ((o.0, refl), o.1.1),
            length-append,
            add_assoc,
          )

  -- a test that refuses
  pub guard : {A : Type 0} {rd : ℕ → Read A} {enc : A → List ℕ} {P : A → Type 0} (t : Bool) (n : ℕ)
      → (t ≡ false → Codes s rd enc P) → ((a : A) → P a → t ≡ false) → Codes s (λ c. cond t (refuse n) (rd c)) enc P
  guard {A} {rd} {enc} {P} true n k only =
      record {
        stands = λ b at a c p. absurd (clash (refuse n) p refl);
        reads = λ at a p o. absurd (never (only a o));
        clean = λ a o. absurd (never (only a o));
      }
    where
      never : ◌≡◌ {A = Bool} true false → ⊥
      never e = let z : ◌≡◌ {A = ℕ} 0 1 = ap (λ (t : Bool). cond t 0 1) e in omega arith
  guard false n k only = k refl

  -- a choice by a number that was read
  pub choose : {A : Type 0} {rd or : ℕ → Read A} {enc : A → List ℕ} {P : A → Type 0} (t n : ℕ)
      → (t ≡ n → Codes s rd enc P) → ((t ≡ n → ⊥) → Codes s or enc P) → Codes s (λ c. cond (eqb t n) (rd c) (or c)) enc P
  choose {A} {rd} {or} {enc} {P} t n left right = go (eqb t n) refl
    where
      go : (b : Bool) → eqb t n ≡ b → Codes s (λ c. cond b (rd c) (or c)) enc P
      go true e = left (eqb-true t n e)
      go false e = right (eqb-false t n e)

  -- no value is read
  pub none : {A : Type 0} {enc : A → List ℕ} {P : A → Type 0} (n : ℕ) → ((a : A) → P a → ⊥) → Codes s (λ c. refuse n) enc P
  none n never =
      record {
        stands = λ b at a c p. absurd (clash (refuse n) p refl);
        reads = λ at a p o. absurd (never a o);
        clean = λ a o. absurd (never a o);
      }

-- a case with one field behind its tag is read, written and asked for as the field is
module _ {s : List ℕ} {X A : Type 0} (tag : X → ℕ) (behind : X → List ℕ) (Ok : X → Type 0) where
  pub one_field : {rd : ℕ → Read A} {enc : A → List ℕ} (n : ℕ) (into : A → X) (out : X → A)
      → ((x : X) → tag x ≡ n → x ≡ into (out x)) → ((a : A) → (tag (into a) ≡ n) × (out (into a) ≡ a) × (behind (into a) ≡ enc a ++ []))
      → Codes s rd enc (λ a. Ok (into a)) → (t : ℕ) → t ≡ n
      → Codes s (λ c. bind (rd c) λ a d. value (into a) d) behind (λ x. (Unit {0} × (tag x ≡ t)) × Ok x)
  one_field n into out is back k t q =
      recode (λ x o. sym (ap behind (is x (o.0.1 ∙ q)) ∙ (back (out x)).2))
      (restate
      (λ x o. (o.0, subst Ok (sym (is x (o.0.1 ∙ q))) o.1.0))
      (λ x o. (o.0, (subst Ok (is x (o.0.1 ∙ q)) o.1, tt)))
      (field {H = λ x. Unit {0} × (tag x ≡ t)} out k λ a.
      ended (into a) ((tt, (back a).0 ∙ sym q), (back a).1) (λ x h. is x (h.0.1 ∙ q) ∙ ap into h.1)))

-- a run of items, each after those before it
module _ {S A : Type 0} (s : List ℕ) (rd : S → ℕ → Read A) (next : S → A → S) (enc : A → List ℕ) (Ok : S → A → Type 0)
    (one : (st : S) → Codes s (rd st) enc (Ok st)) where
  items_stand : Bytes s → (n : ℕ) (st : S) (at : ℕ) (xs : List A) (c : ℕ) → items rd next n st at ≡ value xs c
      → Stands s at (concat_map enc xs) × (c ≡ at + length (concat_map enc xs)) × (length xs ≡ n) × Each next Ok st xs
  unfolding items
  items_stand b zero st at xs c p = nothing xs (cc) (cc)
    where
      nothing : (xs : List A) → [] ≡ xs → at ≡ c → Stands s at (concat_map enc xs) × (c ≡ at + length (concat_map enc xs)) × (length xs ≡ zero) × Each next Ok st xs
      nothing [] q e = (refl, omega arith, refl, tt)
      nothing (x ∷ xs) q e = let z : ◌≡◌ {A = ℕ} 0 1 = cc in absurd (let y : ⊥ = omega arith in y)
  items_stand b (suc n) st at xs c p =
      let u = uncons rd next n st at xs c p in
      some u.0 u.1 u.2 xs u.5 ((one st).stands b at u.0 u.1 u.3) (items_stand b n (next st u.0) u.1 u.2 c u.4)
    where
      some : (a : A) (d : ℕ) (ys xs : List A) → xs ≡ a ∷ ys → Stands s at (enc a) × (d ≡ at + length (enc a)) × Ok st a
          → Stands s d (concat_map enc ys) × (c ≡ d + length (concat_map enc ys)) × (length ys ≡ n) × Each next Ok (next st a) ys
          → Stands s at (concat_map enc xs) × (c ≡ at + length (concat_map enc xs)) × (length xs ≡ suc n) × Each next Ok st xs
      some a d ys xs e h t =
          rw e (
            stands_both s at (enc a) (concat_map enc ys) h.0 (rw h.1 at t.0),
            simp length-append (omega arith),
            ap suc t.2,
            (h.2, t.3),
          )

  stand_items : (xs : List A) (st : S) (at : ℕ) → Stands s at (concat_map enc xs) → Each next Ok st xs
      → items rd next (length xs) st at ≡ value xs (at + length (concat_map enc xs))
  unfolding items
  stand_items [] st at p h = rw add-zero
  stand_items (x ∷ xs) st at p h =
      rw (
        (one st).reads at x (stands_left s at (enc x) (concat_map enc xs) p) h.0,
        stand_items xs (next st x) (at + length (enc x)) (stands_right s at (enc x) (concat_map enc xs) p) h.1,
        length-append,
        add_assoc,
      )

  clean_items : (xs : List A) (st : S) → Each next Ok st xs → Bytes (concat_map enc xs)
  clean_items [] st h = λ i. lit< tt
  clean_items (x ∷ xs) st h = bytes_append (enc x) (concat_map enc xs) ((one st).clean x h.0) (clean_items xs (next st x) h.1)

  -- n items
  pub items_codes : (n : ℕ) (st : S) → Codes s (items rd next n st) (concat_map enc) (λ xs. (length xs ≡ n) × Each next Ok st xs)
  items_codes n st =
      record {
        stands = λ b at xs c p. let r = items_stand b n st at xs c p in (r.0, r.1, (r.2, r.3));
        reads = λ at xs p o. rw o.0 at (stand_items xs st at p o.1);
        clean = λ xs o. clean_items xs st o.1;
      }

  -- a count and as many items
  pub counted_any : (e : Edition) → NumberCodes e s → (limit : ℕ) (st : S)
      → Codes s (counted rd next e s limit st) (λ xs. e.bytes 8 (length xs) ++ concat_map enc xs) (λ xs. (length xs < 256 ^ 8) × (length xs ≤ limit) × Each next Ok st xs)
  unfolding counted
  counted_any e num limit st =
      restate (λ xs o. (o.1.0, o.1.1.0, o.1.1.1)) (λ xs o. (tt, (o.0, (o.1, o.2))))
      (field {H = λ xs. Unit {0}} {Q = λ xs. (length xs ≤ limit) × Each next Ok st xs} length (num 8 eight) λ n.
      guard (ltb limit n) 3
      (λ t. restate (λ xs o. let l = ltb-false limit n t in ((tt, o.0), (omega arith, o.1))) (λ xs o. (o.0.1, o.1.1)) (items_codes n st))
      (λ xs o. let l = o.0.1 in le-ltb limit n (omega (arith, o.1.0))))

  -- the same where the limit itself is a u64
  pub counted_codes : (e : Edition) → NumberCodes e s → (limit : ℕ) → limit < 256 ^ 8 → (st : S)
      → Codes s (counted rd next e s limit st) (λ xs. e.bytes 8 (length xs) ++ concat_map enc xs) (λ xs. (length xs ≤ limit) × Each next Ok st xs)
  counted_codes e num limit fits st =
      restate (λ xs o. (o.1, o.2)) (λ xs o. let l = o.0 in (omega arith, o.0, o.1)) (counted_any e num limit st)

-- the same for items that do not depend on those before them
module _ {A : Type 0} (s : List ℕ) (rd : ℕ → Read A) (enc : A → List ℕ) (Ok : A → Type 0) (one : Codes s rd enc Ok) where
  pub plain_codes : (e : Edition) → NumberCodes e s → (limit : ℕ) → limit < 256 ^ 8
      → Codes s (counted (plain rd) stay e s limit tt) (λ xs. e.bytes 8 (length xs) ++ concat_map enc xs) (λ xs. (length xs ≤ limit) × All Ok xs)
  plain_codes e num limit fits = counted_codes s (plain rd) stay enc (λ u. Ok) (λ u. one) e num limit fits tt

-- What the inverse laws come to for a whole input: each value that some bytes are read as has just one accepted encoding, its own.
module _ {A : Type 0} (rd : List ℕ → ℕ → Read A) (enc : A → List ℕ) (Ok : A → Type 0) (codes : (s : List ℕ) → Codes s (rd s) enc Ok) where
  pub one_encoding : (s : List ℕ) (a : A) (c : ℕ) → Bytes s → whole (rd s) s ≡ value a c → (s ≡ enc a) × Ok a
  unfolding whole
  one_encoding s a c b p =
      let u = bind_value (rd s 0) _ p in
      let v = cond_value (value u.0 u.1) (ltb u.1 (length s)) 2 u.3 in
      let e : u.0 ≡ a = cc in
      let r = (codes s).stands b 0 u.0 u.1 u.2 in
      let l = ltb-false u.1 (length s) v.0 in
      subst (λ (x : A). (s ≡ enc x) × Ok x) e (stands_all s (enc u.0) r.0 (omega (arith, r.1, l)), r.2)

  pub round_trip : (a : A) → Ok a → whole (rd (enc a)) (enc a) ≡ value a (length (enc a))
  unfolding whole
  round_trip a o =
      let r = (codes (enc a)).reads 0 a (stands_self (enc a)) o in
      let z : 0 + length (enc a) ≡ length (enc a) = omega arith in
      rw (r, z, le-ltb (length (enc a)) (length (enc a)) (omega arith))

  -- the values that are written and read back are just those that some bytes are read as
  pub read_values : (a : A) → Ok a ↔ ((s : List ℕ) × Bytes s × (whole (rd s) s ≡ value a (length s)))
  read_values a = (λ o. (enc a, (codes (enc a)).clean a o, round_trip a o), λ r. (one_encoding r.0 a (length r.0) r.1 r.2).1)
