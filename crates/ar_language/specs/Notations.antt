-- How the bytes of a reply are printed.
use Rattle.ar_language.specs.declared.order.Action.{Action}
use Rattle.ar_language.specs.declared.order.Action.TheVariants as actions
use Rattle.ar_language.specs.declared.order.Notation.{Notation}
use Rattle.ar_language.specs.declared.order.Notation.TheVariants.{Bytes}

-- those of the reply to an action
abbrev pub notation_in : Action → Notation
notation_in (actions.Make addr sectors) = Bytes
notation_in (actions.Grow addr sectors) = Bytes
notation_in (actions.Remove addr) = Bytes
notation_in (actions.Command addr cdb d notation) = notation
notation_in (actions.Unmap addr lba count) = Bytes
notation_in actions.Flush = Bytes
notation_in actions.Demote = Bytes
notation_in actions.Clean = Bytes
notation_in actions.Balance = Bytes
notation_in actions.AddDisk = Bytes
notation_in (actions.DiskOut disk) = Bytes
notation_in (actions.Replace disk) = Bytes
notation_in actions.Rebuild = Bytes
