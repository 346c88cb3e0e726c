-- A list that contracts alone see owns nothing, so it may go to another thread.
use denote.Param.Send.{IsSend, owning_send, sendable}
use Rattle.ar_copies.specs.contracts.past.CallList.{the_row, the_type}

pub send : IsSend the_row
send = owning_send the_type (search sendable, tt) (λ d. tt) (λ k x w. tt)
