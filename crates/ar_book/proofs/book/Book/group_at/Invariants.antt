use Rattle.std.proofs.Common.{◌≡◌, ℕ, ◌<◌, false}
use Rattle.ar_book.specs.Tables.{group_in}
use Rattle.ar_disks.specs.Members.{stands_on}
use Rattle.ar_book.proofs.book.Book.group_at.Given as goal

abbrev pub invariant-loop-number : goal.invariant-loop-number
invariant-loop-number l =
    (h : ℕ) → h < l.number → stands_on (group_in l.self-inside.groups.items h).members l.place ≡ false
