use Rattle.std.proofs.Common.{◌%◌, ◌∙◌, sym, refl, arith, mod-eq_of_lt}
use Rattle.ar_disks.specs.declared.address.Addr.{Addr}
use Rattle.ar_disks.proofs.Addresses.{same_host, make_addr}
use Rattle.ar_answers.specs.Pictures.{addr_at}
use Rattle.ar_shown.proofs.lengths.addr_at.Goals as goal

pub returns : goal.returns
returns c =
    let place = c.args.place in
    let addr : Addr = record { host = c.in-Some.host; lun = place % 8 } in
    let number = c.in-Some.ensures.number in
    make_addr addr (addr_at place)
    (same_host c.in-Some.host (addr_at place).host (number ∙ sym (mod-eq_of_lt (omega arith)))) refl
