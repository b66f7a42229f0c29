use Rattle.bincode.specs.Sizes.{base}
use Rattle.bincode.proofs.RereadLaws.{Handling}
use Rattle.key_gen_message.specs.KeyGenMessage.{read_signed_key_gen_msg}
use Rattle.steps.specs.Steps.{WorkOf, committed_message}
use Rattle.commit.specs.Handled.{HeldAt}
use Rattle.commit.proofs.messages.commit_messages.Given as goal

abbrev pub invariant-loop : goal.invariant-loop
invariant-loop l =
    (w : WorkOf) → HeldAt l.terms w l.initial.state l.initial.used l.initial.arisen
    → (u : WorkOf) × HeldAt l.terms u l.state l.used l.arisen
    × Handling (read_signed_key_gen_msg base l.terms.bytes.now) (committed_message base l.c.id) l.c.messages.count l.initial.at w l.counter l.at u
