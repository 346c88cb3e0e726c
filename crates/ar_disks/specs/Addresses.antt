-- Equality of unit addresses, and of extents.
use Rattle.std.specs.Prelude.{Bool, ◌==◌, ◌&&◌}
use Rattle.ar_disks.specs.declared.address.Addr.{Addr}
use Rattle.ar_disks.specs.declared.address.Place.{Place}

-- the addresses are equal: the same host and the same LUN
abbrev pub same_addr : Addr → Addr → Bool
same_addr a b = (a.host.number == b.host.number) && (a.lun == b.lun)

-- the two are the same extent
abbrev pub same_place : Place → Place → Bool
same_place p q = (p.disk == q.disk) && (p.extent == q.extent)
