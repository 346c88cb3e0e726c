use Rattle.ar_record.proofs.Records.{all_again}
use Rattle.ar_record.proofs.all_encoded_are_decoded.Goals as goal

pub returns : goal.returns
returns c = λ records fit. all_again records fit
