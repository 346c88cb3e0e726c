use Rattle.std.proofs.Common.{refl}
use Rattle.ar_frames.proofs.login.admitted.Goals as goal

pub returns : goal.returns
returns c = (c.in-Some.host, refl, c.in-Some.ensures.number)
