use Rattle.std.proofs.Common.{rules, Result, Ok, Err, OnOk}
use Rattle.ar_picture.specs.Writing.{AddsSome}
use Rattle.ar_picture.proofs.Growing.{grows_then, then_some}
use Rattle.ar_operator.proofs.text.write_counts.Goals as goal

on_ok : {T E : Type 0} (r : Result T E) (P Q : Type 0) → (P → Q) → OnOk r P → OnOk r Q
on_ok (Ok x) P Q f h = f h
on_ok (Err e) P Q f h = tt

pub loop-host-preserved : goal.loop-host-preserved
loop-host-preserved g c =
    let line : AddsSome (g.W.Write.contents c.loop-host.out) (g.W.Write.contents c.write_host.new.out) = search rules in
    grows_then c.loop-host.invariant (record { more = line.more; appends = line.appends })

pub returns : goal.returns
returns g c =
    record {
      adds = on_ok c.write_tasks.result _ _ (λ rest. then_some c.loop-host.invariant rest)
          c.write_tasks.ensures.adds;
    }
