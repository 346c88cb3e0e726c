use Rattle.ar_target.proofs.Given.{given-reading}
use Rattle.ar_target.proofs.commands_are_given.Goals as goal

pub returns : goal.returns
returns c = given-reading
