-- Of a batch that was read the listed messages are all its messages, so that those left in the store are what is left after taking out one by one.
-- Assumes nothing.
use Prim.Native.Nat.{ℕ, zero, suc, ◌+◌, ◌-◌, ◌≤◌}
use mathlib.Core.Path.{◌≡◌, refl, sym, ap, ◌∙◌, subst}
use mathlib.Core.List.{List, [], ◌∷◌, ◌++◌, map, map-append, append_assoc, append-nil}
use native.Mathlib.Omega.{arith}
use lib.Dec.{lit<}
use lib.ListN.{length, length-append, length-map}
use Rattle.lists.specs.Lists.{filter}
use Rattle.bincode.specs.Read.{value}
use Rattle.bincode.specs.Items.{foldl, items, plain, stay, many}
use Rattle.bincode.specs.Sizes.{base}
use Rattle.bincode.specs.Stands.{Bytes}
use Rattle.bincode.proofs.ItemLaws.{uncons}
use Rattle.filled.proofs.FillLaws.{capped_more}
use Rattle.key_gen_message.specs.KeyGenMessage.{SignedKeyGenMsgOf, read_signed_key_gen_msg}
use Rattle.internal_contrib.specs.declared.BatchIndex.{BatchIndex}
use Rattle.internal_contrib.specs.declared.Budget.{Budget}
use Rattle.internal_contrib.specs.declared.Contrib.{Contrib}
use Rattle.internal_contrib.specs.InternalContrib.{ContribOf, read_contrib, read_batch, spending, opening}
use Rattle.internal_contrib.specs.Index.{contribs_in, placed_from, EachKept}
use Rattle.internal_contrib.proofs.ContribCodes.{contrib_codes}
use Rattle.internal_contrib.proofs.PartLaws.{batch_count, messages_again}
use Rattle.internal_contrib.proofs.KeptLaws.{batch_kept}
use Rattle.steps.specs.Kept.{is_none, less, messages_in}
use Rattle.steps.proofs.KeepLaws.{without_all}
use Rattle.store_filter.specs.Filter.{Entry, entries_from, listed, contrib_listed, entries_in, message_in, without_entries}

-- while there is room, listing is appending
list_all : (es xs : List Entry) → length es + length xs ≤ base.items → foldl listed es xs ≡ es ++ xs
list_all es [] h = sym (append-nil es)
list_all es (x ∷ xs) h =
    let more : listed es x ≡ es ++ (x ∷ []) = capped_more base.items es (length es) refl x (omega arith) in
    ap (λ (l : List Entry). foldl listed l xs) more ∙ list_all (es ++ (x ∷ [])) xs (omega (arith, length-append es (x ∷ []))) ∙ append_assoc es (x ∷ []) xs

module _ (s : List ℕ) where
  -- messages that are read are the ones listed
  entries_read : (n at : ℕ) (ms : List SignedKeyGenMsgOf) (c : ℕ) → many (read_signed_key_gen_msg base s) n at ≡ value ms c → map message_in (entries_from s n at) ≡ ms
  unfolding entries_from items
  entries_read zero at ms c e = cc
  entries_read (suc n) at ms c e =
      let u = uncons (plain (read_signed_key_gen_msg base s)) stay n tt at ms c e in
      rw u.3 (ap (λ (l : List SignedKeyGenMsgOf). u.0 ∷ l) (entries_read n u.1 u.2 c u.4) ∙ sym u.5)

  -- contributions, and the places where their messages are read
  abbrev pub MessagesAt : List Contrib → List ContribOf → Type 0
  MessagesAt [] [] = Unit {0}
  MessagesAt [] (x ∷ xs) = ⊥
  MessagesAt (k ∷ ks) [] = ⊥
  MessagesAt (k ∷ ks) (x ∷ xs) = ((c : ℕ) × (many (read_signed_key_gen_msg base s) k.messages.count (k.messages.at + 8) ≡ value x.messages c)) × MessagesAt ks xs

  batch_listed : (ks : List Contrib) (xs : List ContribOf) (es : List Entry) → MessagesAt ks xs → length es + length (messages_in xs) ≤ base.items
      → map message_in (foldl (contrib_listed s) es ks) ≡ map message_in es ++ messages_in xs
  batch_listed [] [] es p h = sym (append-nil (map message_in es))
  batch_listed [] (x ∷ xs) es p h = absurd p
  batch_listed (k ∷ ks) [] es p h = absurd p
  batch_listed (k ∷ ks) (x ∷ xs) es p h =
      let new : List Entry = entries_from s k.messages.count (k.messages.at + 8) in
      let e : map message_in (entries_from s k.messages.count (k.messages.at + 8)) ≡ x.messages = entries_read k.messages.count (k.messages.at + 8) x.messages p.0.0 p.0.1 in
      let l : length (entries_from s k.messages.count (k.messages.at + 8)) ≡ length x.messages = sym (length-map new message_in) ∙ ap length e in
      let b : length es + length x.messages + length (messages_in xs) ≤ base.items = omega (arith, length-append x.messages (messages_in xs), h) in
      let all : foldl listed es new ≡ es ++ new = list_all es new (omega (arith, b, l)) in
      ap (λ (y : List Entry). map message_in (foldl (contrib_listed s) y ks)) all
      ∙ batch_listed ks xs (es ++ new) p.1 (omega (arith, length-append es new, b, l))
      ∙ ap (λ (y : List SignedKeyGenMsgOf). y ++ messages_in xs) (map-append message_in es new ∙ ap (λ (y : List SignedKeyGenMsgOf). map message_in es ++ y) e)
      ∙ append_assoc (map message_in es) x.messages (messages_in xs)

  -- and the store is what taking out one by one leaves
  pub batch_without : (ks : List Contrib) (xs : List ContribOf) → MessagesAt ks xs → length (messages_in xs) ≤ base.items → (store : List SignedKeyGenMsgOf)
      → without_entries (entries_in s ks) store ≡ foldl less store (messages_in xs)
  unfolding without_entries entries_in
  batch_without ks xs p h store =
      ap (λ (ms : List SignedKeyGenMsgOf). filter (is_none ms) store) (batch_listed ks xs [] p (omega (arith, h))) ∙ sym (without_all (messages_in xs) store)

-- a batch that was read
module _ (s : List ℕ) (bytes : Bytes s) where
  -- the messages of each contribution are read where its places say
  each_at : (ks : List Contrib) (xs : List ContribOf) → EachKept base s ks xs → MessagesAt s ks xs
  each_at [] [] p = tt
  each_at [] (x ∷ xs) p = absurd p
  each_at (k ∷ ks) [] p = absurd p
  each_at (k ∷ ks) (x ∷ xs) p =
      (messages_again base s p.0.budget p.0.at x p.0.next p.0.read (lit< tt) (lit< tt) bytes k p.0.kept, each_at ks xs p.1)

  -- they are no more than the batch's total leaves
  few_read : (n : ℕ) (b : Budget) (at : ℕ) (cs : List ContribOf) (c : ℕ) → items (read_contrib base s) spending n b at ≡ value cs c → length (messages_in cs) ≤ b.left
  unfolding items spending
  few_read zero b at cs c e =
      let q : [] ≡ cs = cc in
      subst (λ (xs : List ContribOf). length (messages_in xs) ≤ b.left) q (omega arith)
  few_read (suc n) b at cs c e =
      let u = uncons (read_contrib base s) spending n b at cs c e in
      let k : length u.0.messages ≤ b.left = ((contrib_codes base (lit< tt) (lit< tt) (lit< tt) s b).stands bytes at u.0 u.1 u.3).2.few_messages in
      let r : length (messages_in u.2) ≤ b.left - length u.0.messages - length u.0.votes = few_read n (spending b u.0) u.1 u.2 c u.4 in
      subst (λ (xs : List ContribOf). length (messages_in xs) ≤ b.left) (sym u.5) (omega (arith, k, r, length-append u.0.messages (messages_in u.2)))

  pub few_messages : (cs : List ContribOf) (c : ℕ) → read_batch base s ≡ value cs c → length (messages_in cs) ≤ base.items
  few_messages cs c e =
      let p = batch_count base s cs c e in
      few_read p.0 (opening base) p.1 cs c p.3

  -- with its index, the store is what taking out the messages of all contributions, one by one, leaves
  pub batch_filtered : (index : BatchIndex) (cs : List ContribOf) (c : ℕ) → read_batch base s ≡ value cs c → contribs_in index ≡ placed_from 8 cs → (store : List SignedKeyGenMsgOf)
      → without_entries (entries_in s (contribs_in index)) store ≡ foldl less store (messages_in cs)
  batch_filtered index cs c e h store =
      let ks = placed_from 8 cs in
      ap (λ (ks : List Contrib). without_entries (entries_in s ks) store) h
      ∙ batch_without s ks cs (each_at ks cs (batch_kept base (lit< tt) (lit< tt) (lit< tt) s bytes cs c e)) (few_messages cs c e) store
