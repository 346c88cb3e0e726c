use Rattle.std.proofs.Common.{ap, subst, ◌∙◌, arith}
use Rattle.ar_record.specs.Record.{data_of}
use Rattle.ar_record.specs.Reading.{ReadsAs, decoded}
use Rattle.ar_record.proofs.Records.{is_found, decoded_again}
use Rattle.ar_record.proofs.decoding.decode.Goals as goal

pub returns-clause-found : goal.returns-clause-found
returns-clause-found c =
    is_found c.args.bytes.now c.whole_record.result (λ i. omega (arith, c.type_inv.bytes i)) c.whole_record.ensures

pub returns-clause-again : goal.returns-clause-again
returns-clause-again c =
    λ entry fits e. subst (λ f. ReadsAs data_of c.whole_record.result f)
    (ap decoded e ∙ decoded_again entry fits) c.whole_record.ensures
