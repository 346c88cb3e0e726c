use Rattle.std.proofs.Common.{option_map}
use Rattle.std.proofs.lemmas.Result.{on_ok_weaker}
use Rattle.ar_status.proofs.Connecting.{served_by_looks}
use Rattle.ar_status.proofs.serve.serve_named.Goals as goal

pub returns : goal.returns
returns g c =
    on_ok_weaker c.serve.result
    (served_by_looks g.V.Watched.shows (λ s. s.watched.now)
    (λ s. option_map (λ name. name.now) s.name) _ _ c.new-connection.result c.serve.new.connection _ _ _ _
    c.new-connection.ensures.config c.new-connection.ensures.history c.serve.ensures.config c.serve.ensures.calls
    c.serve.ensures.read c.serve.ensures.written)
    c.serve.ensures.done
