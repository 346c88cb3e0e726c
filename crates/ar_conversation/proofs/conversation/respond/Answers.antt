use Rattle.ar_conversation.proofs.conversation.respond.Goals as goal

pub returns : goal.returns
returns g c = record { read = c.order_of.result; reads = c.order_of.ensures.reads; responds = c.respond_to.ensures }
