-- Laws of messages listed by small numbers, of the search among them, and of reading them at their places.
-- Assumes nothing.
use Prim.Native.Nat.{ℕ, zero, suc, ◌+◌, ◌-◌, ◌≤◌, ◌<◌}
use mathlib.Core.Path.{◌≡◌, refl, sym, ap, ◌∙◌}
use mathlib.Core.List.{List, [], ◌∷◌, ◌++◌, map, map-append}
use mathlib.Core.Bool.{Bool, true, false, not, cond, ◌&&◌, ◌||◌}
use mathlib.Core.Logic.{⊎_elim}
use Rattle.std.proofs.lemmas.Bool.{cases_lt}
use Rattle.std.specs.List.{list_any}
use native.Mathlib.Omega.{arith}
use lib.Dec.{ltb, eqb}
use lib.ListN.{length, length-append, length-map}
use borrow.Author.Tests.{ltb-true, ltb-false, eqb-false}
use Rattle.lists.specs.Lists.{filter}
use Rattle.array_list.specs.ArrayList.{pushed}
use Rattle.bincode.specs.Read.{value, refuse}
use Rattle.bincode.specs.Sizes.{base}
use Rattle.bincode.proofs.NumberLaws.{read_cut}
use Rattle.filled.proofs.FillLaws.{capped_more, capped_same}
use Rattle.key_gen_message.specs.declared.KeyGenMessage.{KeyGenMessage}
use Rattle.key_gen_message.specs.declared.KeyGenMessage.TheVariants.{Part, Ack}
use Rattle.key_gen_message.specs.declared.SignedKeyGenMsg.{SignedKeyGenMsg}
use Rattle.key_gen_message.specs.KeyGenMessage.{SignedKeyGenMsgOf, read_signed_key_gen_msg, same_signed, message_of, signed_of}
use Rattle.key_gen_message.specs.Head.{body_of}
use Rattle.key_gen_message.proofs.MessageLaws.{signed_true}
use Rattle.message_store.specs.MessageStore.{is_other}
use Rattle.steps.specs.Kept.{is_none}
use Rattle.steps.proofs.KeepLaws.{without_all}
use Rattle.store_filter.specs.declared.MessagePlace.{MessagePlace}
use Rattle.store_filter.specs.Filter.{Entry, entries_from, listed, message_in, without_entries, first_of, place_of, number_in, is_read, stands_at, ReadAt, AllRead, Listed}

-- one message more
all_more : (s : List ℕ) (es : List Entry) (e : Entry) → AllRead s es → ReadAt s e → AllRead s (es ++ (e ∷ []))
all_more s [] e a r = (r, tt)
all_more s (x ∷ es) e a r = (a.0, all_more s es e a.1 r)

pub list_push : (s : List ℕ) (es : List Entry) (ps : List MessagePlace) → Listed s es ps → (e : Entry) → ReadAt s e → (p : MessagePlace) → p ≡ place_of e
    → Listed s (listed es e) (pushed base.items p ps)
unfolding pushed
list_push s es ps h e q p f = rw f (go (ltb (length ps) base.items) refl)
  where
    long : length ps ≡ length es
    long = sym (ap length h.by_place) ∙ length-map es place_of

    go : (b : Bool) → ltb (length ps) base.items ≡ b → Listed s (listed es e) (cond b (ps ++ (place_of e ∷ [])) ps)
    go true b =
        let l : length es < base.items = omega (arith, ltb-true (length ps) base.items b, long) in
        let t : listed es e ≡ es ++ (e ∷ []) = capped_more base.items es (length es) refl e l in
        rw t (record {
          by_place = map-append place_of es (e ∷ []) ∙ ap (λ (xs : List MessagePlace). xs ++ (place_of e ∷ [])) h.by_place;
          by_bytes = all_more s es e h.by_bytes q;
          few = omega (arith, length-append es (e ∷ []), l);
        })
    go false b =
        let t : listed es e ≡ es = capped_same base.items es (length es) refl e h.few (omega (arith, ltb-false (length ps) base.items b, long)) in
        rw t (record { by_place = h.by_place; by_bytes = h.by_bytes; few = h.few })

-- messages with different numbers differ
pub other_by : (f : SignedKeyGenMsgOf → ℕ) (a b : SignedKeyGenMsgOf) → (f a ≡ f b → ⊥) → false ≡ same_signed a b
other_by f a b d = go (same_signed a b) refl
  where
    go : (c : Bool) → same_signed a b ≡ c → false ≡ same_signed a b
    go true e = absurd (d (ap f (signed_true a b e)))
    go false e = sym e

-- a stored message's first number
pub first_in : (m : KeyGenMessage) → (body_of (message_of m)).first ≡ number_in m
first_in (Part p) = refl
first_in (Ack a) = refl

-- by the small numbers, and by what is read
module _ (s : List ℕ) (x : SignedKeyGenMsg) (p : MessagePlace) (n : ℕ) (k : n ≡ number_in x.message) where
  known : eqb n p.first ≡ eqb (first_of (signed_of x)) p.first
  known = ap (λ (m : ℕ). eqb m p.first) (k ∙ sym (first_in x.message))

  by_numbers : (a b : Bool) → eqb x.id p.id ≡ a → eqb (first_of (signed_of x)) p.first ≡ b
      → ((a && b) ≡ true → is_read (signed_of x) (read_signed_key_gen_msg base s p.at) ≡ stands_at s (signed_of x) p)
      × ((a && b) ≡ false → false ≡ stands_at s (signed_of x) p)
  unfolding stands_at
  by_numbers true true e f = (λ h. rw (e, f) refl, λ h. absurd (cc))
  by_numbers true false e f = (λ h. absurd (cc), λ h. rw (e, f) refl)
  by_numbers false b e f = (λ h. absurd (cc), λ h. rw e refl)

  pub at_place : (eqb x.id p.id && eqb n p.first) ≡ true → is_read (signed_of x) (read_signed_key_gen_msg base s p.at) ≡ stands_at s (signed_of x) p
  at_place h = (by_numbers _ _ refl (sym known)).0 h

  pub at_other : (eqb x.id p.id && eqb n p.first) ≡ false → (eqb x.id p.id && eqb n p.first) ≡ stands_at s (signed_of x) p
  at_other h = h ∙ (by_numbers _ _ refl (sym known)).1 h

-- a message is the one at a place if it equals the one that is read there
stands : (s : List ℕ) (x : SignedKeyGenMsgOf) (e : Entry) → ReadAt s e → stands_at s x (place_of e) ≡ same_signed x e.message
unfolding stands_at
stands s x e q = go (eqb x.id e.message.id) refl (eqb (first_of x) (first_of e.message)) refl
  where
    go : (a : Bool) → eqb x.id e.message.id ≡ a → (b : Bool) → eqb (first_of x) (first_of e.message) ≡ b
        → cond a (cond b (is_read x (read_signed_key_gen_msg base s e.at)) false) false ≡ same_signed x e.message
    go true f true g = ap (is_read x) q.1
    go true f false g = other_by first_of x e.message (eqb-false _ _ g)
    go false f b g = other_by (λ (m : SignedKeyGenMsgOf). m.id) x e.message (eqb-false _ _ f)

-- the search among the places says whether a message equals one of those listed
pub none_stands : (s : List ℕ) (x : SignedKeyGenMsgOf) (es : List Entry) → AllRead s es → not (list_any (stands_at s x) (map place_of es)) ≡ is_none (map message_in es) x
none_stands s x [] a = refl
none_stands s x (e ∷ es) a = go (stands_at s x (place_of e)) (stands s x e a.0) (none_stands s x es a.1)
  where
    go : (b : Bool) → b ≡ same_signed x e.message → not (list_any (stands_at s x) (map place_of es)) ≡ is_none (map message_in es) x
        → not (b || list_any (stands_at s x) (map place_of es)) ≡ (is_other e.message x && is_none (map message_in es) x)
    go true f h = rw (sym f) refl
    go false f h = rw (sym f) h

-- turns of the loop that reads messages at their places
module _ (s : List ℕ) (n i at : ℕ) where
  pub entries_more : i < n → (m : SignedKeyGenMsgOf) (c : ℕ) → read_signed_key_gen_msg base s at ≡ value m c → entries_from s (n - i) at ≡ record { message = m; at = at } ∷ entries_from s (n - (i + 1)) c
  unfolding entries_from
  entries_more h m c r = let k : n - i ≡ suc (n - (i + 1)) = omega arith in rw (k, r)

  pub entries_refused : i < n → (k : ℕ) → read_signed_key_gen_msg base s at ≡ refuse k → entries_from s (n - i) at ≡ []
  unfolding entries_from
  entries_refused h k r = let m : n - i ≡ suc (n - (i + 1)) = omega arith in rw (m, r)

  pub entries_end : n ≤ i → entries_from s (n - i) at ≡ []
  unfolding entries_from
  entries_end h = let k : n - i ≡ 0 = omega arith in rw k

-- past the bytes nothing is read
entries_past : (s : List ℕ) (n at : ℕ) → length s < at → entries_from s n at ≡ []
unfolding entries_from read_signed_key_gen_msg
entries_past s zero at h = refl
entries_past s (suc n) at h = rw (read_cut 8 s at (omega arith))

-- so that items whose count stands past the bytes can be looked for at that place as well as behind it
pub entries_start : (s : List ℕ) (n at c : ℕ) → (at ≤ length s → c ≡ at + 8) × (length s < at → c ≡ at) → entries_from s n c ≡ entries_from s n (at + 8)
entries_start s n at c h =
    ⊎_elim (λ p. ap (entries_from s n) (h.1 p) ∙ entries_past s n at p ∙ sym (entries_past s n (at + 8) (omega (arith, p)))) (λ p. ap (entries_from s n) (h.0 p)) (cases_lt (length s) at)

-- where they are listed
pub none_at : (s : List ℕ) (x : SignedKeyGenMsgOf) (es : List Entry) (ps : List MessagePlace) → Listed s es ps → not (list_any (stands_at s x) ps) ≡ is_none (map message_in es) x
none_at s x es ps h = ap (λ (qs : List MessagePlace). not (list_any (stands_at s x) qs)) (sym h.by_place) ∙ none_stands s x es h.by_bytes

pub as_many : (s : List ℕ) (es : List Entry) (ps : List MessagePlace) → Listed s es ps → length es ≡ length ps
as_many s es ps h = sym (length-map es place_of) ∙ ap length h.by_place

-- before the first
pub none_yet : (s : List ℕ) → Listed s [] []
none_yet s = record { by_place = refl; by_bytes = tt; few = omega arith }

-- where nothing is listed, or nothing is stored, the store stays
pub none_listed : (es : List Entry) → length es ≡ 0 → (store : List SignedKeyGenMsgOf) → store ≡ without_entries es store
unfolding without_entries
none_listed [] e store = without_all [] store
none_listed (x ∷ es) e store = absurd (omega arith)

pub none_stored : (es : List Entry) (store : List SignedKeyGenMsgOf) → length store ≡ 0 → store ≡ without_entries es store
unfolding without_entries filter
none_stored es [] e = refl
none_stored es (x ∷ store) e = absurd (omega arith)
