use Rattle.bincode.specs.Numbers.{bytes_of}
use Rattle.bincode.specs.Writing.{written, written_to}
use Rattle.bincode.proofs.WriteLaws.{Putting}
use Rattle.sync_key_gen.specs.SyncKeyGen.{handles_of, handles_bytes}
use Rattle.sync_key_gen.proofs.HandlesEncodedFixintEncoding.write.Given as goal

abbrev pub invariant-loop-x : goal.invariant-loop-x
invariant-loop-x l =
    let f = l.fn in
    let bs = handles_bytes (handles_of f.self) in
    Putting (bytes_of 8) l.x-items (written f.buf f.at bs) (written_to f.buf f.at bs) l.x-index l.buf l.c
