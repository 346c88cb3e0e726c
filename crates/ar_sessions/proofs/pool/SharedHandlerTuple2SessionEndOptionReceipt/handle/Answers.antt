use Rattle.ar_sessions.proofs.pool.SharedHandlerTuple2SessionEndOptionReceipt.handle.Goals as goal

pub returns : goal.returns
returns g c =
    let left = c.serve_logged-receipt.ensures in
    record {
      served = record { source' = _; sink' = _; port = left.port; session = left.session };
      receipt_is = left.receipt_is;
    }
