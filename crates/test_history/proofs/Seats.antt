-- Seats in order of their hosts.
use Rattle.std.proofs.Common.{◌≡◌, ℕ, List, get_or, ap}
use Rattle.std.specs.Prelude.{map}
use Rattle.std.proofs.Math.ListN.{set}
use Rattle.std.proofs.Math.Seq.{map-set_same}
use Rattle.ar_disks.specs.declared.address.Host.{Host}
use Rattle.ar_served.specs.Seat.{SeatState}

-- they stay so where one is replaced by another of the same host
pub order_kept : (seats : List SeatState) (i : ℕ) (new old : SeatState) → new.host ≡ (get_or seats i old).host
    → map (λ (s : SeatState). s.host.number) (set seats i new) ≡ map (λ (s : SeatState). s.host.number) seats
order_kept seats i new old same =
    map-set_same (λ (s : SeatState). s.host.number) seats i new old (ap (λ (h : Host). h.number) same)
