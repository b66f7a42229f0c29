-- What the theorems ask of a call's numbers and bytes is what the language knows of the entry's parameters: a u32 is below 2^32, a u64 below 2^64, each element of a
-- `&[u8]` below 2^8. `ps` are the parameters of an entry as it declares them, `GoodsP` is what the check knows of them, `Fit` what it knows of a slice's elements.
-- Assumes nothing.
use Prim.Native.Nat.{ℕ, ◌^◌, ◌<◌}
use mathlib.Core.List.{List, [], ◌∷◌}
use native.Mathlib.Omega.{arith}
use contract.Lifetimes.{Lfts}
use mir.Syntax.{w8}
use borrow.Fn.Kinds.{Dens, GoodsP}
use borrow.Table.Referent.{f_int}
use borrow.Rule.Slice.Know.{Fit}
use Rattle.bincode.specs.Stands.{Bytes, All}
use Rattle.filled.specs.Numbers.{due_places}
use Rattle.batch.proofs.Batch.join_plan.Kinds as planning
use Rattle.dynamic_honey_badger.proofs.DynamicHoneyBadger.new.Kinds as new
use Rattle.dynamic_honey_badger.proofs.DynamicHoneyBadger.new_joining.Kinds as joining
use Rattle.dynamic_honey_badger.proofs.DynamicHoneyBadger.vote_for.Kinds as voting
use Rattle.dynamic_honey_badger.proofs.DynamicHoneyBadger.vote_to_add.Kinds as adding
use Rattle.dynamic_honey_badger.proofs.DynamicHoneyBadger.vote_to_remove.Kinds as removing
use Rattle.dynamic_honey_badger.proofs.DynamicHoneyBadger.handle_message.Kinds as handling
use Rattle.due_item.proofs.handle_due_item.Kinds as returning
use Rattle.process_batch.specs.Lent.{lent_call}
use Rattle.process_batch.proofs.process_batch.Kinds as processing
use Rattle.agreement.specs.Calls.{Call, batch_call, vote_call, add_call, remove_call, message_call, due_call, batch_calls, Start, new_start, join_start}
use Rattle.agreement.specs.Hypotheses.{OfBytes, StartBytes}
use Rattle.agreement.specs.Formed.{CallFits, StartFits}

-- the elements of a `&[u8]` are bytes
bytes_fit : (bs : List ℕ) → Fit (f_int w8) 0 bs → Bytes bs
bytes_fit bs f i = omega (arith, (f i).fits)

-- `new`: own id, own key, era, map, parameters
pub new_fits : (κs : Lfts 2) (a : Dens κs new.ps) → GoodsP κs new.ps a → Fit (f_int w8) 0 a.1.1.1.0.now → Fit (f_int w8) 0 a.1.1.1.1.0.now
    → StartFits (new_start a.0 a.1.0 a.1.1.0 a.1.1.1.0.now a.1.1.1.1.0.now)
new_fits κs a g map params =
    (omega (arith, g.0.1), omega (arith, g.1.0.1), omega (arith, g.1.1.0.1), bytes_fit a.1.1.1.0.now map, bytes_fit a.1.1.1.1.0.now params)

-- joining: own id, own key, plan, lent lists of due items
pub joining_fits : (κs : Lfts 4) (a : Dens κs joining.ps) → GoodsP κs joining.ps a → Fit (f_int w8) 0 a.1.1.0.now
    → StartFits (join_start (due_places a.1.1.1.0.now a.1.1.1.1.0.now a.1.1.1.1.1.0.now) a.0 a.1.0 a.1.1.0.now)
joining_fits κs a g plan = (omega (arith, g.0.1), omega (arith, g.1.0.1), bytes_fit a.1.1.0.now plan)

-- a batch as it was agreed, its era, inner epoch, bytes and verdicts; lent lists of faults and of due items
pub batch_fits : (κs : Lfts 6) (a : Dens κs processing.ps) → GoodsP κs processing.ps a → Fit (f_int w8) 0 a.1.0.batch.now → Fit (f_int w8) 0 a.1.0.verdicts.now
    → CallFits
    (batch_call
    (lent_call
    a.1.0.era
    a.1.0.epoch
    a.1.0.batch.now
    a.1.0.verdicts.now
    (record {
      fault_ids = a.1.1.0.now;
      fault_kinds = a.1.1.1.0.now;
      due_kinds = a.1.1.1.1.0.now;
      due_indices = a.1.1.1.1.1.0.now;
      due_eras = a.1.1.1.1.1.1.0.now;
    })))
batch_fits κs a g batch verdicts =
    let held = g.1.0.1.1 in
    (omega (arith, held.0.1), omega (arith, held.1.0.1), bytes_fit a.1.0.batch.now batch, bytes_fit a.1.0.verdicts.now verdicts)

-- own votes: a change; an id with its key; an id
pub vote_fits : (κs : Lfts 1) (a : Dens κs voting.ps) → Fit (f_int w8) 0 a.1.0.now → CallFits (vote_call a.1.0.now)
vote_fits κs a change = bytes_fit a.1.0.now change

pub add_fits : (a : Dens tt adding.ps) → GoodsP tt adding.ps a → CallFits (add_call a.1.0 a.1.1.0)
add_fits a g = (omega (arith, g.1.0.1), omega (arith, g.1.1.0.1))

pub remove_fits : (a : Dens tt removing.ps) → GoodsP tt removing.ps a → CallFits (remove_call a.1.0)
remove_fits a g = omega (arith, g.1.0.1)

-- a received message: sender, message
pub message_fits : (κs : Lfts 1) (a : Dens κs handling.ps) → GoodsP κs handling.ps a → Fit (f_int w8) 0 a.1.1.0.now → CallFits (message_call a.1.0 a.1.1.0.now)
message_fits κs a g message = (omega (arith, g.1.0.1), bytes_fit a.1.1.0.now message)

-- a due item handed back
pub due_fits : (κs : Lfts 1) (a : Dens κs returning.ps) → Fit (f_int w8) 0 a.1.0.now → CallFits (due_call a.1.0.now)
due_fits κs a message = bytes_fit a.1.0.now message

-- the key set that is lent with a plan
pub set_fits : (κs : Lfts 1) (a : Dens κs planning.ps) → GoodsP κs planning.ps a → a.1.1.0 < 256 ^ 8
set_fits κs a g = omega (arith, g.1.1.0.1)

-- and what is asked of bytes alone follows
pub calls_bytes : (cs : List Call) → All CallFits cs → OfBytes cs
unfolding batch_calls
calls_bytes [] fits = tt
calls_bytes (batch_call b ∷ cs) fits = (fits.0.2, calls_bytes cs fits.1)
calls_bytes (vote_call bytes ∷ cs) fits = calls_bytes cs fits.1
calls_bytes (add_call id key ∷ cs) fits = calls_bytes cs fits.1
calls_bytes (remove_call id ∷ cs) fits = calls_bytes cs fits.1
calls_bytes (message_call sender bytes ∷ cs) fits = calls_bytes cs fits.1
calls_bytes (due_call bytes ∷ cs) fits = calls_bytes cs fits.1

pub start_bytes : (start : Start) → StartFits start → StartBytes start
start_bytes (new_start id key era map params) fits = (fits.3, fits.4)
start_bytes (join_start places id key plan) fits = fits.2
