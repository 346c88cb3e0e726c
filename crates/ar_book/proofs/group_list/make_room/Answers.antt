use Rattle.std.proofs.Common.{refl}
use Rattle.ar_book.proofs.FillPlaces.{fill_more}
use Rattle.ar_book.proofs.group_list.make_room.Goals as goal

pub returns-in_ok-add_chunk-clause-same : goal.returns-in_ok-add_chunk-clause-same
returns-in_ok-add_chunk-clause-same c =
    λ g. rw c.in_ok-add_chunk.ensures.added (fill_more c.args.fills.now.chunks _ refl g)
