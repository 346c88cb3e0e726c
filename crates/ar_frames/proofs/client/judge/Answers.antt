use Rattle.std.proofs.Common.{refl, sym, ◌∙◌}
use Rattle.byteorder.specs.Endian.{big_number}
use Rattle.ar_frames.proofs.Frames.{reply_read, reply_says}
use Rattle.ar_frames.proofs.client.judge.Goals as goal

pub returns-in-None : goal.returns-in-None
returns-in-None c = λ count len is other reply frame.
    c.in-None.ensures.none reply (reply_says other reply count c.args.head.now c.args.body len c.told-head frame).0

pub returns-then-named-tag : goal.returns-then-named-tag
returns-then-named-tag c = λ count len is.
    reply_read c.args.tag c.in-Some.reply count c.args.head.now c.args.body len is c.told-head
    (sym c.read_u64-named.ensures ∙ c.if-named-tag.true) c.in-Some.ensures.some

pub returns-else-named-tag : goal.returns-else-named-tag
returns-else-named-tag c = λ count len is. record {
  other = big_number 8 c.args.head.now;
  reply = c.in-Some.reply;
  not_this = λ same. c.if-named-tag.false (c.read_u64-named.ensures ∙ same);
  frame = reply_read (big_number 8 c.args.head.now) c.in-Some.reply count c.args.head.now c.args.body len is c.told-head
      refl c.in-Some.ensures.some;
}
