use Rattle.std.proofs.Common.{inl}
use Rattle.ar_frames.proofs.Serving.{admitted_at, session_of}
use Rattle.ar_frames.proofs.session.serve_observed.Goals as goal

pub returns-in-Admitted : goal.returns-in-Admitted
returns-in-Admitted g c =
    let entry = admitted_at _ _ _ _ _ _ _ _ _ c.lift_login_limit.ensures c.in-Admitted.ensures.enters in
    record {
      session = session_of _ _ _ _ _ _ _ _ _ _ _ c.serve_frames.result _ entry c.serve_frames.ensures.all;
      observed = inl (record {
        host = c.in-Admitted.host;
        source_mid = _;
        sink_mid = _;
        port_mid = _;
        entry = entry;
        runs = c.serve_frames.ensures.observed;
      });
    }
