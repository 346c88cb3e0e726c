use Rattle.std.proofs.Common.{rules, ◌≡◌, ◌∙◌, refl, sym, ap, Some, length}
use Rattle.std.proofs.lemmas.Bool.{ltb-true, ltb-false}
use Rattle.std.proofs.lemmas.Option.{slice_get_read}
use Rattle.ar_served.specs.declared.entry.Exchange.{Exchange}
use Rattle.ar_audit.specs.Audit.{command_of}
use Rattle.ar_audit.proofs.Auditing.{agrees_one, departs, other_there, none_there}
use Rattle.ar_audit.proofs.audit.follow.Goals as goal

pub returns-in-None : goal.returns-in-None
returns-in-None c =
    let command : command_of c.args.host.number c.args.entry.now ≡ Some c.in-Some.command.now = search rules in
    let past = ltb-false c.args.at (length c.args.transcript.now) (sym c.in-None.ensures.lookup.0) in
    departs c.args.host.number c.args.entry.now c.args.transcript.now c.args.at c.in-Some.command.now c.requires command
    (none_there c.args.transcript.now c.args.at c.in-Some.command.now past)

pub returns-then-is_same : goal.returns-then-is_same
returns-then-is_same c =
    let command : command_of c.args.host.number c.args.entry.now ≡ Some c.in-Some.command.now = search rules in
    let below = ltb-true c.args.at (length c.args.transcript.now) (sym c.in-Some-get.ensures.lookup.0) in
    let here = slice_get_read c.args.transcript.now (length c.args.transcript.now) c.args.at c.in-Some-get.line.now refl
    below c.in-Some-get.ensures.lookup.1 in
    agrees_one c.args.host.number c.args.entry.now c.args.transcript.now c.args.at c.in-Some.command.now
    (here ∙ ap (λ (x : Exchange). Some x) (c.is_same.ensures.same c.if-is_same.true)) command

pub returns-else-is_same : goal.returns-else-is_same
returns-else-is_same c =
    let command : command_of c.args.host.number c.args.entry.now ≡ Some c.in-Some.command.now = search rules in
    let below = ltb-true c.args.at (length c.args.transcript.now) (sym c.in-Some-get.ensures.lookup.0) in
    let here = slice_get_read c.args.transcript.now (length c.args.transcript.now) c.args.at c.in-Some-get.line.now refl
    below c.in-Some-get.ensures.lookup.1 in
    departs c.args.host.number c.args.entry.now c.args.transcript.now c.args.at c.in-Some.command.now c.requires command
    (other_there c.args.transcript.now c.args.at c.in-Some-get.line.now c.in-Some.command.now here
    (c.is_same.ensures.others c.if-is_same.false))
