-- Laws of the message store: row 12, and what is handed out by place.
-- Assumes nothing.
use Prim.Native.Nat.{◌≤◌, ◌<◌}
use mathlib.Core.Path.{◌≡◌, refl}
use mathlib.Core.List.{List, [], ◌∷◌, ◌++◌}
use mathlib.Core.Bool.{true, false}
use lib.ListN.{length}
use borrow.Author.Tests.{le-leb, lt-leb}
use Rattle.std.specs.declared.option.Option.{Option}
use Rattle.std.specs.declared.option.Option.TheVariants.{Some, None}
use Rattle.lists.specs.Lists.{map_found, option_as_found}
use Rattle.bincode.specs.Sizes.{Sizes}
use Rattle.bincode.specs.Outcome.{done, refused}
use Rattle.key_gen_message.specs.KeyGenMessage.{SignedKeyGenMsgOf}
use Rattle.message_store.specs.MessageStore.{row12, pushed}

-- a value found, seen through f
pub found_as : {A B : Type 0} (f : A → B) (o : Option A) → option_as_found f o ≡ map_found f (option_as_found (λ (x : A). x) o)
found_as f (Some a) = refl
found_as f None = refl

module _ (z : Sizes) (ms : List SignedKeyGenMsgOf) where
  -- row 12 does not hold where fewer are held than there are places
  pub row12_not : length ms < z.store → row12 z ms ≡ false
  unfolding row12
  row12_not h = lt-leb z.store (length ms) h

  -- it holds where as many are
  pub row12_holds : z.store ≤ length ms → row12 z ms ≡ true
  unfolding row12
  row12_holds h = le-leb z.store (length ms) h

  -- a message is refused by row 12
  pub push_full : (m : SignedKeyGenMsgOf) → z.store ≤ length ms → pushed z ms m ≡ refused 12
  unfolding pushed
  push_full m h = rw (row12_holds h)

  -- or stands behind the others
  pub push_room : (m : SignedKeyGenMsgOf) → length ms < z.store → pushed z ms m ≡ done (ms ++ (m ∷ []))
  unfolding pushed
  push_room m h = rw (row12_not h)
