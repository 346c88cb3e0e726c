use Rattle.std.proofs.Common.{◌∙◌, ap, is_some}
use Rattle.indexmap.proofs.MapLemmas.{some_index}
use Rattle.ar_disks.specs.Addresses.{same_addr}
use Rattle.ar_book.proofs.directory.Units.contains.Goals as goal

pub returns : goal.returns
returns c = c.is_some.ensures ∙ ap is_some c.place.ensures ∙ some_index (same_addr c.args.addr) c.args.self.now.entries
