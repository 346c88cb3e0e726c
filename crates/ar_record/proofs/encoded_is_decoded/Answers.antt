use Rattle.ar_record.proofs.Records.{decoded_again}
use Rattle.ar_record.proofs.encoded_is_decoded.Goals as goal

pub returns : goal.returns
returns c = λ entry fits. decoded_again entry fits
