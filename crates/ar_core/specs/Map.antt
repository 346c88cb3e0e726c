-- Views of groups.
use Rattle.ar_disks.specs.declared.geometry.Geometry.{Geometry}
use Rattle.ar_book.specs.Tables.{GroupState, used, slots_of}
use Rattle.ar_core.specs.declared.map.GroupView.{GroupView}

-- the view of a group on an array of this geometry
abbrev pub view_of : Geometry → GroupState → GroupView
view_of geometry g = record { class = g.class; members = g.members; blocks = used g; slots = slots_of geometry g.class }
