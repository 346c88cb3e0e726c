use Rattle.std.proofs.Common.{◌∙◌, ap, take}
use Rattle.std.proofs.lemmas.List.{take-map}
use Rattle.ar_attached.specs.Names.{shown_byte}
use Rattle.ar_attached.proofs.initiator_name.InitiatorName.shown.Goals as goal

pub returns : goal.returns
returns c = ap (take c.args.self.count) c.show.ensures ∙ take-map shown_byte c.args.self.count c.args.self.bytes
