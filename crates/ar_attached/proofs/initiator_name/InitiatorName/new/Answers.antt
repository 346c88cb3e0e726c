use Rattle.std.proofs.Common.{◌∙◌, ap, take}
use Rattle.std.proofs.lemmas.List.{take_min}
use Rattle.ar_attached.proofs.initiator_name.InitiatorName.new.Goals as goal

pub returns : goal.returns
returns c =
    c.front_of.ensures ∙ ap (λ n. take n c.args.name.now) c.min-count.ensures ∙ take_min 223 c.args.name.now
