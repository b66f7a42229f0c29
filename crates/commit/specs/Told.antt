-- What a key message comes to, as code says it.
use Rattle.fault_log.specs.declared.FaultKind.{FaultKind}
use Rattle.fault_log.specs.declared.FaultKind.TheVariants.{UnexpectedKeyGenPart, UnexpectedKeyGenAck}
use Rattle.steps.specs.Steps.{Told, quiet, owed, blamed_proposer, blamed_signer}
use Rattle.key_gen_message.specs.declared.KeyGenKind.{KeyGenKind}
use Rattle.key_gen_message.specs.declared.KeyGenKind.TheVariants.{Part, Ack}
use Rattle.commit.specs.declared.messages.MessageTold.{MessageTold}
use Rattle.commit.specs.declared.messages.MessageTold.TheVariants as told

abbrev pub said_told : MessageTold → Told
said_told told.Quiet = quiet
said_told (told.Owed i) = owed i
said_told (told.BlamedProposer k) = blamed_proposer k
said_told (told.BlamedSigner k) = blamed_signer k

-- where no key message is expected, by its kind alone
abbrev pub unexpected_by : KeyGenKind → FaultKind
unexpected_by Part = UnexpectedKeyGenPart
unexpected_by Ack = UnexpectedKeyGenAck
