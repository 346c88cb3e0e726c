use Rattle.std.proofs.Common.{rules}
use Rattle.ar_conversation.proofs.Coming.{keeps_fault, keeps_long, keeps_bad, keeps_more}
use Rattle.ar_conversation.proofs.input.Line.take.Goals as goal

pub returns-then-is_some : goal.returns-then-is_some
returns-then-is_some c = keeps_fault c.args.self.now.text.items c.args.self.now.fault c.args.byte (search rules)

pub returns-then-len-eq-LINE_MAX : goal.returns-then-len-eq-LINE_MAX
returns-then-len-eq-LINE_MAX c =
    keeps_long c.args.self.now.text.items c.args.self.now.fault c.args.byte (search rules) c.args.self.now.whole
    (search rules)

pub returns-then-is_printable : goal.returns-then-is_printable
returns-then-is_printable c =
    keeps_more c.args.self.now.text.items c.push_reserved.new.self.items c.args.self.now.fault c.args.byte
    (search rules) c.args.self.now.whole (search rules)
    (search rules) (search rules)

pub returns-else-is_printable : goal.returns-else-is_printable
returns-else-is_printable c =
    keeps_bad c.args.self.now.text.items c.args.self.now.fault c.args.byte (search rules) c.args.self.now.whole
    (search rules) (search rules)
