-- A signed key message without its rows or values.
use Rattle.std.specs.Prelude.{length}
use Rattle.key_gen_message.specs.KeyGenMessage.{KeyGenMessageOf, part, ack, SignedKeyGenMsgOf}
use Rattle.key_gen_message.specs.declared.KeyGenKind.TheVariants.{Part, Ack}
use Rattle.key_gen_message.specs.declared.MessageHead.{MessageHead}
use Rattle.key_gen_message.specs.declared.Body.{Body}

-- a part's first number is its commitment, an ack's its proposer's index
abbrev pub body_of : KeyGenMessageOf → Body
body_of (part p) = record { kind = Part; first = p.commit; count = length p.rows }
body_of (ack a) = record { kind = Ack; first = a.proposer; count = length a.values }

abbrev pub head_with : SignedKeyGenMsgOf → Body → MessageHead
head_with m b = record { era = m.era; id = m.id; kind = b.kind; first = b.first; count = b.count; sig = m.sig }

abbrev pub head_of : SignedKeyGenMsgOf → MessageHead
head_of m = head_with m (body_of m.message)
