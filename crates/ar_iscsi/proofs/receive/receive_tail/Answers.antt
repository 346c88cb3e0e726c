use Rattle.std.proofs.Common.{◌∙◌, ◌++◌, Bool, refl, take, ap, arith, length}
use Rattle.ar_iscsi.specs.Pdu.{padding_len}
use Rattle.ar_iscsi.specs.Digest.{EndsWrong, closed}
use Rattle.ar_iscsi.proofs.Receiving.{digested_whole}
use Rattle.std.proofs.Common.{subst}
use Rattle.ar_iscsi.proofs.receive.receive_tail.Goals as goal

pub returns-in-Full : goal.returns-in-Full
returns-in-Full g c = λ buffer ahs is within ahs_is.
    let payload = c.args.payload.now in
    let tail = c.fill.new.into in (
      tail,
      digested_whole c.args.digests c.args.header.now ahs payload tail buffer c.told-header ahs_is c.requires is
          (omega (arith, c.is_right.ensures.size))
          (c.if-is_right.ensures.right refl
          ∙ ap (λ (b : Bool). closed b (payload ++ take (padding_len (length payload)) tail))
          c.closes_data-is_wanted.ensures),
      omega (arith, c.requires, within),
      c.in-Full.ensures.read,
    )

pub returns-in-Full-2 : goal.returns-in-Full-2
returns-in-Full-2 g c = λ buffer ahs is within ahs_is.
    let payload = c.args.payload.now in
    let tail = c.fill.new.into in (
      tail,
      record {
        ahs = ahs;
        payload = payload;
        tail = tail;
        layout = refl;
        header_is = c.told-header;
        ahs_is = ahs_is;
        segment_is = c.requires;
        wrong = subst (λ (b : Bool). EndsWrong b payload tail (padding_len (length payload)))
            c.closes_data-is_wanted.ensures (c.if-is_right.ensures.wrong refl);
      },
      omega (arith, c.requires, within),
      c.in-Full.ensures.read,
    )
