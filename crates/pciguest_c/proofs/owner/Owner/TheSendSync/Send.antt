-- What an owner owns may go to another thread: nothing, or a session with the right to free its block.
use denote.Struct.Struct.{exits_of}
use denote.Struct.Owning.{shape, fields, to}
use denote.Param.Send.{IsSend, AllSend, owning_send, struct_send, sendable}
use Rattle.std_alloc.proofs.SendSync.{quiet}
use Rattle.session.proofs.session.Session.TheSendSync.{the_send as session_send}
use Rattle.pciguest_c.{proofs.Moved.keyless, specs.contracts.owner.Owner.{the_row, the_type}}

pub send : IsSend the_row
send =
    let all : AllSend (fields the_type) = (search sendable, tt) in
    owning_send the_type all (λ d. keyless session_send d.at d.value)
    (λ k. quiet (to the_type) (exits_of k (fields the_type)) ((struct_send (shape the_type) all).leaving k))
